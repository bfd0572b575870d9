-- Which caches are wrong.
-- Letters: w the walk of an image's survey; d, p directories, n an entry, by their nodes; bs the blocks of a chain; old, new marks; i a number of directories;
-- a, e a range of entries; h how many are in it; o an entry that is named, or none; f what a record names; r a record.
use Rattle.std.specs.Prelude.{◌==◌, ◌&&◌, ◌||◌, ◌/◌, ◌*◌, not, nat_le, nat_lt, Option, Some, None, cond, count_by, is_some, map}
use Rattle.std.specs.{List.list_all, List.range_with_len}
use Rattle.std.proofs.Common.{◌≡◌, ◌<◌, ◌≤◌, ◌∙◌, ◌+◌, ◌-◌, ℕ, zero, suc, Bool, true, false, List, [], ◌∷◌, ◌++◌}
use Rattle.std.proofs.Common.{ap, arith, inl, inr, length, refl, set, subst, sym}
use Rattle.std.proofs.lemmas.Bool.{and_parts, cases_Bool, cases_lt, cond-false, cond-true, eq-eqb, false≢true, eqb-true, Decides.eqb_tells, Decides.nat_tests}
use Rattle.std.proofs.lemmas.Grind.{common_steps}
use Rattle.std.proofs.lemmas.List.{get_or_append_left, get_or_past, length-set, FromFn.get_or-range_with_len, FromFn.length-range_with_len, Folds.list_all_at}
use Rattle.std.proofs.lemmas.List.{Concat.flat_map-cons, Sums.sum_by-append, Sums.sum_by-cons}
use Rattle.std.proofs.Math.Seq.{get_or-append_seam}
use Rattle.adf_base.specs.Words.{block}
use Rattle.adf_blocks.specs.Sizes.{blocks, is_allowed}
use Rattle.adf_blocks.specs.declared.layout.TheConstants.{SECONDARY_TYPE, ST_DIR}
use Rattle.adf_volume.specs.{Image.word_in, Walk.Walk, Walk.heads, Walk.node_block}
use Rattle.adf_findings.specs.Members.{has_mark, parent_node}
use Rattle.adf_caches.specs.Entries.{has_entry, is_entry_at}
use Rattle.adf_caches.proofs.OneMark.{mark_from, mark_kept, mark_set}
use Rattle.adf_caches.specs.declared.chains.CacheMarks.{CacheMarks}
use Rattle.adf_caches.specs.Caches.{agree, cache_chain, do_agree, entries_named, entries_recorded, entry_recorded, first_cache, has_caches}
use Rattle.adf_caches.specs.Caches.{is_cache_block, is_entry_of, is_found_directory, is_wrong_cache, next_cache, records_in}
use Rattle.adf_caches.specs.Judging.{AreFresh, AreJudged, AreLacking, AreUnnamed, IsToldOfCache}
use Rattle.adf_caches.specs.Judging.IsToldOfCache.{no_directory, right, wrong}
use Rattle.adf_caches.specs.Judging.{IsRightChain, IsWrongChain, LacksRecord, MarksNamed}
use Rattle.adf_caches.specs.Marking.{KeepsOthers, mark_each}
use Rattle.adf_caches.specs.Records.{RecordValue}
use Rattle.adf_caches.proofs.ChainWays.{entry_is, no_zero_cache}
use Rattle.adf_caches.proofs.MarkSteps.{marked_each, marks_each}
use Rattle.adf_caches.proofs.PathSteps.{chain_of_path, path_of_chain}
use Rattle.adf_caches.proofs.RecordSteps.{recorded_in}

-- the root of an image of an allowed size is within it
pub root_inside : (image : List ℕ) → is_allowed (blocks image) ≡ true → blocks image / 2 * 512 + 512 ≤ length image
root_inside image h = let few : 4 ≤ blocks image = grind (arith, nat_tests) in omega (arith, few)

-- a test of a range
all_in_range : (p : ℕ → Bool) (a h n : ℕ) → list_all p (range_with_len a h) ≡ true → a ≤ n → n < a + h → p n ≡ true
all_in_range p a h n all from before = elim (cases_Bool (p n)) [
  | inl y ↦ y
  | inr y ↦
      let at = get_or-range_with_len a h (n - a) 0 (omega (arith, from, before)) in
      let same : a + (n - a) ≡ n = omega (arith, from) in
      let no_all = list_all_at p (range_with_len a h) (n - a) 0 (omega (arith, from, before, length-range_with_len a h)) (ap p (at ∙ same) ∙ y) in cc
]

all_of_range : (p : ℕ → Bool) (h a : ℕ) → ((n : ℕ) → a ≤ n → n < a + h → p n ≡ true) → list_all p (range_with_len a h) ≡ true
all_of_range p zero a each = refl
all_of_range p (suc h) a each =
    let here : p a ≡ true = each a (omega arith) (omega arith) in
    ap (λ t. t && list_all p (range_with_len (a + 1) h)) here
    ∙ all_of_range p h (a + 1) (λ n from before. each n (omega (arith, from)) (omega (arith, before)))

-- what is counted among the entries that records name is named by one
count_named : (f : RecordValue → Option ℕ) (n : ℕ) (P : Type 0) → ((r : RecordValue) → f r ≡ Some n → P) → (rs : List RecordValue)
    → 1 ≤ count_by (is_entry_at n) (map f rs) → P
count_named f n P each [] some = absurd (omega (arith, some))
count_named f n P each (r ∷ rs) some =
    let first = sum_by-cons (λ o. cond (is_entry_at n o) 1 0) (f r) (map f rs) in
    elim (cases_Bool (is_entry_at n (f r))) [
      | inl y ↦ each r (entry_is n (f r) y)
      | inr y ↦
          let none = ap (λ t. cond {A = ℕ} t 1 0) y in
          count_named f n P each rs (omega (arith, some, first, none))
    ]

module _ (image : List ℕ) (w : Walk) (d : ℕ) where
  named_in : (n : ℕ) (P : Type 0) → ((r : RecordValue) → entry_recorded image w d r ≡ Some n → P) → (b : ℕ)
      → 1 ≤ count_by (is_entry_at n) (entries_named image w d b) → P
  unfolding entries_named
  named_in n P each b some = count_named (entry_recorded image w d) n P each (records_in (block image b)) some

  -- what is counted is an entry of the directory
  counted_in : (n : ℕ) (bs : List ℕ) → 1 ≤ count_by (is_entry_at n) (entries_recorded image w d bs) → is_entry_of w d n ≡ true
  counted_in n [] some = absurd (omega (arith, some))
  counted_in n (b ∷ bs) some =
      let weight = λ (o : Option ℕ). cond {A = ℕ} (is_entry_at n o) 1 0 in
      let parts = ap (count_by (is_entry_at n)) (flat_map-cons (entries_named image w d) b bs)
      ∙ sum_by-append weight (entries_named image w d b) (entries_recorded image w d bs) in
      elim (cases_lt 0 (count_by (is_entry_at n) (entries_named image w d b))) [
        | inl y ↦ named_in n (is_entry_of w d n ≡ true) (λ r e. is_entry_by n (recorded_in image w d r n e)) b (omega (arith, y))
        | inr y ↦ counted_in n bs (omega (arith, y, parts, some))
      ]
    where
      is_entry_by : (n : ℕ) → (has_entry w n ≡ true) × (parent_node w n ≡ d) → is_entry_of w d n ≡ true
      is_entry_by n h = let same = eq-eqb (parent_node w n) d h.1 in ap (λ t. t && (parent_node w n == d)) h.0 ∙ same

  -- the entries of a directory are within the walk, and in it
  entry_parts : (n : ℕ) → is_entry_of w d n ≡ true → (1 ≤ n) × (n ≤ heads w) × (parent_node w n ≡ d)
  entry_parts n h =
      let both : (has_entry w n ≡ true) × ((parent_node w n == d) ≡ true) = and_parts _ _ h in
      let inside : (nat_le 1 n ≡ true) × (nat_le n (heads w) ≡ true) = and_parts _ _ both.0 in
      (grind (arith, nat_tests), grind (arith, nat_tests), eqb-true (parent_node w n) d both.1)

  unnamed_entry : (marks : List Bool) → AreUnnamed w d marks → (n : ℕ) → is_entry_of w d n ≡ true → has_mark marks n ≡ false
  unnamed_entry marks h n is = elim (cases_Bool (has_mark marks n)) [
    | inl y ↦ absurd (h.unnamed n y (entry_parts n is).2)
    | inr y ↦ y
  ]

  pub judged_right : (old new : CacheMarks) → is_found_directory image w d ≡ true → AreUnnamed w d old.entries.items
      → IsRightChain image w d (first_cache image w d) old new → IsToldOfCache image w d new.entries.items false
  judged_right old new found fresh h =
      let marks = marked_each (entries_recorded image w d h.chain) old.entries.items new.entries.items h.entries in
      right h.chain found (chain_of_path (is_cache_block image w d) (next_cache image) (no_zero_cache image w d) h.way refl (blocks image) h.few) marks.each
      (λ n is. marks.one n (unnamed_entry old.entries.items fresh n is))

  -- records that agree can be marked
  agreed_marks : (marks : List Bool) (bs : List ℕ) → AreUnnamed w d marks → do_agree w d (entries_recorded image w d bs) ≡ true
      → (new : List Bool) × (mark_each (entries_recorded image w d bs) marks ≡ Some new)
  agreed_marks marks bs fresh h =
      let named = entries_recorded image w d bs in
      let count = λ (n : ℕ). count_by (is_entry_at n) named in
      let test = λ (n : ℕ). not (is_entry_of w d n) || (count n == 1) in
      let both : (list_all is_some named ≡ true) × (list_all test (range_with_len 1 (heads w)) ≡ true) = and_parts _ _ h in
      let one : (n : ℕ) → is_entry_of w d n ≡ true → count n ≡ 1 =
      λ n is.
      let parts = entry_parts n is in
      let passes = all_in_range test 1 (heads w) n both.1 parts.0 (omega (arith, parts.1)) in
      eqb-true (count n) 1 (sym (ap (λ t. not t || (count n == 1)) is) ∙ passes) in
      marks_each named marks both.0
      (λ n. elim (cases_Bool (is_entry_of w d n)) [
        | inl y ↦
            let free = ap (λ t. cond {A = ℕ} t 1 0) (unnamed_entry marks fresh n y) in
            omega (arith, one n y, free)
        | inr y ↦
            let none : count n ≡ 0 = elim (cases_lt 0 (count n)) [
              | inl z ↦ let is = counted_in n bs (omega (arith, z)) in cc
              | inr z ↦ omega (arith, z)
            ] in
            omega (arith, none, at_most_one (has_mark marks n))
      ])
      (λ n some. let parts = entry_parts n (counted_in n bs some) in omega (arith, parts.1, fresh.size))
    where
      at_most_one : (t : Bool) → cond {A = ℕ} t 1 0 ≤ 1
      at_most_one true = omega arith
      at_most_one false = omega arith

  pub judged_wrong : (old : CacheMarks) (marks : List Bool) → is_found_directory image w d ≡ true → AreUnnamed w d old.entries.items
      → IsWrongChain image w d (first_cache image w d) old → IsToldOfCache image w d marks true
  judged_wrong old marks found fresh h = wrong found (go (cache_chain image w d) refl)
    where
      none_agree : (bs : List ℕ) → mark_each (entries_recorded image w d bs) old.entries.items ≡ None
          → (t : Bool) → do_agree w d (entries_recorded image w d bs) ≡ t → do_agree w d (entries_recorded image w d bs) ≡ false
      none_agree bs none false e = e
      none_agree bs none true e = let some = agreed_marks old.entries.items bs fresh e in let clash = sym none ∙ some.1 in cc

      go : (o : Option (List ℕ)) → cache_chain image w d ≡ o → agree image w d (cache_chain image w d) ≡ false
      go None e = ap (agree image w d) e
      go (Some bs) e =
          ap (agree image w d) e
          ∙ none_agree bs
          (h bs (path_of_chain (is_cache_block image w d) (next_cache image) (no_zero_cache image w d) (blocks image) (first_cache image w d) bs e))
          (do_agree w d (entries_recorded image w d bs)) refl

  -- by whether a chain is right
  pub judged_by : (t : Bool) (first : ℕ) (old new : CacheMarks) → is_found_directory image w d ≡ true → first ≡ first_cache image w d
      → AreUnnamed w d old.entries.items → (t ≡ true → IsRightChain image w d first old new) → (t ≡ false → IsWrongChain image w d first old)
      → IsToldOfCache image w d new.entries.items (not t)
  judged_by true first old new found at fresh h k =
      judged_right old new found fresh (subst (λ b. IsRightChain image w d b old new) at (h refl))
  judged_by false first old new found at fresh h k =
      judged_wrong old new.entries.items found fresh (subst (λ b. IsWrongChain image w d b old) at (k refl))

  pub judged_none : (marks : List Bool) → is_found_directory image w d ≡ false → IsToldOfCache image w d marks false
  judged_none marks none = no_directory none

  -- marks of entries elsewhere change nothing
  pub still_judged : (old new : List Bool) (t : Bool) → ((n : ℕ) → parent_node w n ≡ d → has_mark new n ≡ has_mark old n)
      → IsToldOfCache image w d old t → IsToldOfCache image w d new t
  still_judged old new false same (no_directory none) = no_directory none
  still_judged old new false same (right bs found chain each one) =
      right bs found chain each (λ n is. one n is ∙ ap (λ t. cond t 1 0) (sym (same n (entry_parts n is).2)))
  still_judged old new true same (wrong found not_agree) = wrong found not_agree

pub entry_from : (image : List ℕ) (w : Walk) (d n : ℕ) → 1 ≤ n → n ≤ heads w → parent_node w n ≡ d → is_entry_of w d n ≡ true
entry_from image w d n from last within =
    let here : has_entry w n ≡ true = grind (arith, nat_tests) in
    ap (λ t. t && (parent_node w n == d)) here ∙ eq-eqb (parent_node w n) d within

module _ (image : List ℕ) (w : Walk) (i : ℕ) (old new : CacheMarks) (told : List Bool) where
  pub none_judged : length old.blocks.items ≡ blocks image → length old.entries.items ≡ heads w + 1
      → ((c : ℕ) → has_mark old.blocks.items c ≡ false) → ((n : ℕ) → has_mark old.entries.items n ≡ false) → AreJudged image w 0 old []
  none_judged size entries free unnamed = record {
    size = refl;
    block_size = size;
    entry_size = entries;
    blocks = λ c m. absurd (false≢true (sym (free c) ∙ m));
    entries = λ n m. absurd (false≢true (sym (unnamed n) ∙ m));
    judged = λ p lt. absurd (omega (arith, lt));
  }

  pub fresh_blocks : AreJudged image w i old told → AreFresh image w i old.blocks.items
  fresh_blocks h = record {
    size = h.block_size;
    fresh = λ c m named.
        let before = h.blocks c m in
        let same : Some i ≡ Some before.0 = sym named ∙ before.2 in
        let clash : i ≡ before.0 = cc in
        omega (arith, clash, before.1);
  }

  pub fresh_entries : AreJudged image w i old told → AreUnnamed w i old.entries.items
  fresh_entries h = record { size = h.entry_size; unnamed = λ n m is. omega (arith, h.entries n m, is) }

  pub one_more_judged : (t : Bool) (more : List Bool) → AreJudged image w i old told → IsToldOfCache image w i new.entries.items t
      → MarksNamed image w i old.blocks.items new.blocks.items → KeepsOthers w i old.entries.items new.entries.items
      → more ≡ told ++ t ∷ [] → AreJudged image w (i + 1) new more
  one_more_judged t more h judged named others is = record {
    size = let size = h.size in grind (arith, common_steps);
    block_size = named.size ∙ h.block_size;
    entry_size = others.size ∙ h.entry_size;
    blocks = λ c m. elim (named.named c m) [
      | inl y ↦ let before = h.blocks c y in (before.0, omega (arith, before.1), before.2)
      | inr y ↦ (i, omega arith, y)
    ];
    entries = λ n m. elim (eqb_tells (parent_node w n) i) [
      | inl y ↦ omega (arith, y.1)
      | inr y ↦ omega (arith, h.entries n (sym (others.others n y.1) ∙ m))
    ];
    judged = λ p lt. elim (cases_lt p i) [
      | inl y ↦
          let at : has_mark more p ≡ has_mark told p =
          ap (λ l. has_mark l p) is ∙ get_or_append_left told (t ∷ []) false p (omega (arith, y, h.size)) in
          subst (IsToldOfCache image w p new.entries.items) (sym at)
          (still_judged image w p old.entries.items new.entries.items (has_mark told p)
          (λ n parent. others.others n (λ e. omega (arith, parent, e, y))) (h.judged p y))
      | inr y ↦
          let last : i ≡ p = omega (arith, lt, y) in
          let at : has_mark more i ≡ t =
          ap (λ l. has_mark l i) is ∙ (ap (λ k. has_mark (told ++ t ∷ []) k) (sym h.size) ∙ get_or-append_seam told t [] false) in
          subst (λ k. IsToldOfCache image w k new.entries.items (has_mark more k)) last (subst (IsToldOfCache image w i new.entries.items) (sym at) judged)
    ];
  }

module _ (image : List ℕ) (w : Walk) (named : List Bool) where
  pub lacks_none : (a : ℕ) (old : List Bool) → AreLacking image w named a a old old
  lacks_none a old = record {
    size = refl;
    kept = λ d m. m;
    marked = λ d m. inl m;
    all = λ d l lt. absurd (omega (arith, l.from, l.before));
  }

  pub lacks_more : (a e : ℕ) (old now new : List Bool) → a ≤ e → AreLacking image w named a e old now → AreLacking image w named e (e + 1) now new
      → AreLacking image w named a (e + 1) old new
  lacks_more a e old now new low h k = record {
    size = k.size ∙ h.size;
    kept = λ d m. k.kept d (h.kept d m);
    marked = λ d m. elim (k.marked d m) [
      | inl y ↦ elim (h.marked d y) [
        | inl z ↦ inl z
        | inr z ↦ inr (record { entry = z.entry; from = z.from; before = omega (arith, z.before); unnamed = z.unnamed; within = z.within; found = z.found })
      ]
      | inr y ↦
          inr (record { entry = y.entry; from = omega (arith, y.from, low); before = y.before; unnamed = y.unnamed; within = y.within; found = y.found })
    ];
    all = λ d l lt. elim (cases_lt l.entry e) [
      | inl y ↦
          k.kept d (h.all d (record { entry = l.entry; from = l.from; before = y; unnamed = l.unnamed; within = l.within; found = l.found }) lt)
      | inr y ↦
          k.all d (record { entry = l.entry; from = y; before = l.before; unnamed = l.unnamed; within = l.within; found = l.found })
          (omega (arith, lt, h.size))
    ];
  }

  -- one directory is marked, where the entry lacks a mark
  pub lacks_one : (n d : ℕ) (t : Bool) (old new : List Bool) → parent_node w n ≡ d → t ≡ (not (has_mark named n) && is_found_directory image w d)
      → new ≡ cond (t && nat_lt d (length old)) (set old d true) old → AreLacking image w named n (n + 1) old new
  lacks_one n d t old new parent told is = elim (cases_Bool (t && nat_lt d (length old))) [
    | inl y ↦
        let both : (t ≡ true) × (nat_lt d (length old) ≡ true) = and_parts _ _ y in
        let lt : d < length old = grind (arith, nat_tests) in
        let parts : (not (has_mark named n) ≡ true) × (is_found_directory image w d ≡ true) = and_parts _ _ (sym told ∙ both.0) in
        let free : has_mark named n ≡ false = grind (arith, nat_tests) in
        subst (AreLacking image w named n (n + 1) old) (sym (is ∙ cond-true _ (set old d true) old y)) (record {
          size = length-set old d true;
          kept = λ m h. mark_kept old d lt m h;
          marked = λ m h. elim (mark_from old d lt m h) [
            | inl z ↦ inr (record {
              entry = n;
              from = omega arith;
              before = omega arith;
              unnamed = free;
              within = parent ∙ sym z;
              found = subst (λ k. is_found_directory image w k ≡ true) (sym z) parts.1;
            })
            | inr z ↦ inl z
          ];
          all = λ m l small.
              let same : n ≡ l.entry = omega (arith, l.from, l.before) in
              let at : d ≡ m = sym parent ∙ (ap (parent_node w) same ∙ l.within) in
              subst (λ k. has_mark (set old d true) k ≡ true) at (mark_set old d lt);
        })
    | inr y ↦ subst (AreLacking image w named n (n + 1) old) (sym (is ∙ cond-false _ (set old d true) old y)) (record {
      size = refl;
      kept = λ m h. h;
      marked = λ m h. inl h;
      all = λ m l small.
          let same : l.entry ≡ n = omega (arith, l.from, l.before) in
          let at : m ≡ d = sym l.within ∙ (ap (parent_node w) same ∙ parent) in
          let free : has_mark named n ≡ false = subst (λ k. has_mark named k ≡ false) same l.unnamed in
          let found : is_found_directory image w d ≡ true = subst (λ k. is_found_directory image w k ≡ true) at l.found in
          let yes : t ≡ true = told ∙ (ap (λ b. not b && is_found_directory image w d) free ∙ found) in
          let lt : d < length old = subst (λ k. k < length old) at small in
          let clash : (t && nat_lt d (length old)) ≡ true = grind (arith, nat_tests) in cc;
    })
  ]

module _ (image : List ℕ) (w : Walk) (marks : CacheMarks) (old new : List Bool) where
  -- a directory that lacks a record
  lacks_record : (d : ℕ) (bs : List ℕ) → ((n : ℕ) → is_entry_of w d n ≡ true
      → count_by (is_entry_at n) (entries_recorded image w d bs) ≡ cond (has_mark marks.entries.items n) 1 0)
      → LacksRecord image w marks.entries.items 1 (heads w + 1) d → do_agree w d (entries_recorded image w d bs) ≡ false
  lacks_record d bs one l =
      let n = l.entry in
      let count = λ (m : ℕ). count_by (is_entry_at m) (entries_recorded image w d bs) in
      let test = λ (m : ℕ). not (is_entry_of w d m) || (count m == 1) in
      let is : is_entry_of w d n ≡ true = entry_from image w d n l.from (omega (arith, l.before)) l.within in
      let none : count n ≡ 0 = one n is ∙ ap (λ t. cond t 1 0) l.unnamed in
      elim (cases_Bool (do_agree w d (entries_recorded image w d bs))) [
        | inl y ↦
            let both : (list_all is_some (entries_recorded image w d bs) ≡ true) × (list_all test (range_with_len 1 (heads w)) ≡ true) = and_parts _ _ y in
            let passes = all_in_range test 1 (heads w) n both.1 l.from (omega (arith, l.before)) in
            let fails : test n ≡ false = ap (λ t. not t || (count n == 1)) is ∙ ap (λ k. k == 1) none in cc
        | inr y ↦ y
      ]

  -- what is told of a directory in the end
  tells : (d : ℕ) (f a t : Bool) → has_caches image ≡ true → is_found_directory image w d ≡ f → agree image w d (cache_chain image w d) ≡ a
      → t ≡ (f && not a) → t ≡ is_wrong_cache image w d
  tells d f a t caches found agreed e =
      e ∙ sym (ap (λ h. h && (is_found_directory image w d && not (agree image w d (cache_chain image w d)))) caches
      ∙ (ap (λ g. g && not (agree image w d (cache_chain image w d))) found ∙ ap (λ g. f && not g) agreed))

  judged_last : AreLacking image w marks.entries.items 1 (heads w + 1) old new → has_caches image ≡ true → (d : ℕ) → d < length old
      → (t : Bool) → has_mark old d ≡ t → IsToldOfCache image w d marks.entries.items t → has_mark new d ≡ is_wrong_cache image w d
  judged_last k caches d lt false e (no_directory none) =
      tells d false (agree image w d (cache_chain image w d)) (has_mark new d) caches none refl (elim (cases_Bool (has_mark new d)) [
        | inl y ↦ elim (k.marked d y) [ inl z ↦ let clash = sym e ∙ z in cc | inr z ↦ let clash = sym none ∙ z.found in cc ]
        | inr y ↦ y
      ])
  judged_last k caches d lt false e (right bs found chain each one) = elim (cases_Bool (has_mark new d)) [
    | inl y ↦
        let lack : LacksRecord image w marks.entries.items 1 (heads w + 1) d =
        elim (k.marked d y) [ inl z ↦ let clash = sym e ∙ z in absurd (false≢true clash) | inr z ↦ z ] in
        tells d true false (has_mark new d) caches found (ap (agree image w d) chain ∙ lacks_record d bs one lack) y
    | inr y ↦
        let count = λ (m : ℕ). count_by (is_entry_at m) (entries_recorded image w d bs) in
        let test = λ (m : ℕ). not (is_entry_of w d m) || (count m == 1) in
        let marked : (n : ℕ) → 1 ≤ n → n < 1 + heads w → is_entry_of w d n ≡ true → has_mark marks.entries.items n ≡ true =
        λ n from before is. elim (cases_Bool (has_mark marks.entries.items n)) [
          | inl z ↦ z
          | inr z ↦
              let there = k.all d (record {
                entry = n;
                from = from;
                before = omega (arith, before);
                unnamed = z;
                within = (entry_parts image w d n is).2;
                found = found;
              }) lt in
              absurd (false≢true (sym y ∙ there))
        ] in
        let passes : list_all test (range_with_len 1 (heads w)) ≡ true =
        all_of_range test (heads w) 1 (λ n from before. elim (cases_Bool (is_entry_of w d n)) [
          | inl is ↦
              let counted : count n ≡ 1 = one n is ∙ ap (λ b. cond {A = ℕ} b 1 0) (marked n from before is) in
              ap (λ b. not b || (count n == 1)) is ∙ eq-eqb (count n) 1 counted
          | inr is ↦ ap (λ b. not b || (count n == 1)) is
        ]) in
        let agreed : do_agree w d (entries_recorded image w d bs) ≡ true = ap (λ b. b && list_all test (range_with_len 1 (heads w))) each ∙ passes in
        tells d true true (has_mark new d) caches found (ap (agree image w d) chain ∙ agreed) y
  ]
  judged_last k caches d lt true e (wrong found not_agree) = tells d true false (has_mark new d) caches found not_agree (k.kept d e)

  pub all_judged : AreJudged image w (heads w + 1) marks old → AreLacking image w marks.entries.items 1 (heads w + 1) old new
      → has_caches image ≡ true → (d : ℕ) → has_mark new d ≡ is_wrong_cache image w d
  all_judged h k caches d = elim (cases_lt d (heads w + 1)) [
    | inl y ↦ judged_last k caches d (omega (arith, y, h.size)) (has_mark old d) refl (h.judged d y)
    | inr y ↦
        let past : has_mark new d ≡ false = get_or_past new d false (omega (arith, y, h.size, k.size)) in
        let zeroth : (d == 0) ≡ false = grind (arith, nat_tests) in
        let no_entry : has_entry w d ≡ false = grind (arith, nat_tests) in
        let none : is_found_directory image w d ≡ false = grind (arith, nat_tests) in
        tells d false (agree image w d (cache_chain image w d)) (has_mark new d) caches none refl past
  ]

-- the header of an entry is that of a directory
abbrev is_dir : List ℕ → ℕ → Bool
is_dir image d = word_in image (node_block [] d) SECONDARY_TYPE == ST_DIR

-- nothing is a directory where nothing is found
none_found : (image : List ℕ) (d : ℕ) → is_found_directory image [] d ≡ false
none_found image d = elim (cases_Bool (d == 0)) [
  | inl y ↦ cond-true (d == 0) false (has_entry [] d && is_dir image d) y
  | inr y ↦
      let no_entry : has_entry [] d ≡ false = grind (arith, nat_tests) in
      cond-false (d == 0) false (has_entry [] d && is_dir image d) y ∙ ap (λ t. t && is_dir image d) no_entry
]

no_part : (t f a : Bool) → f ≡ false → (t && (f && not a)) ≡ false
no_part true f a h = ap (λ b. b && not a) h
no_part false f a h = refl

-- nothing is wrong where nothing is found
pub none_wrong : (image : List ℕ) (w : Walk) (d : ℕ) → w ≡ [] → false ≡ is_wrong_cache image w d
none_wrong image w d e =
    let none = no_part (has_caches image) (is_found_directory image [] d) (agree image [] d (cache_chain image [] d)) (none_found image d) in
    subst (λ v. false ≡ is_wrong_cache image v d) (sym e) (sym none)

-- what has a wrong cache is a directory that is found
pub wrong_found : (image : List ℕ) (w : Walk) (d : ℕ) → is_wrong_cache image w d ≡ true → is_found_directory image w d ≡ true
wrong_found image w d h =
    let more : (has_caches image ≡ true) × ((is_found_directory image w d && not (agree image w d (cache_chain image w d))) ≡ true) = and_parts _ _ h in
    let both : (is_found_directory image w d ≡ true) × (not (agree image w d (cache_chain image w d)) ≡ true) = and_parts _ _ more.1 in
    both.0
