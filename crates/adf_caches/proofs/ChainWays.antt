-- Chains of cache blocks, as they are gone through.
-- Letters: w the walk of an image's survey; d a directory, by its node; b, c blocks, bs, cs those of chains; old, now, new marks.
use Rattle.std.specs.Prelude.{◌==◌, ◌&&◌, ◌||◌, not, nat_lt, Option, Some, None, cond}
use Rattle.std.specs.{List.list_any, Option.option_and_then}
use Rattle.std.proofs.Common.{◌≡◌, ◌<◌, ◌≤◌, ◌∙◌, ◌+◌, ℕ, Bool, true, false, List, [], ◌∷◌, ◌++◌, ap, arith, inl, inr, length, refl, set, subst, sym}
use Rattle.std.proofs.lemmas.Bool.{and_parts, eq-eqb, eqb-true, Decides.nat_tests}
use Rattle.std.proofs.lemmas.{Grind.common_steps, Grind.flat_map-append, Option.cond_some}
use Rattle.std.proofs.lemmas.List.{length-set, Concat.flat_map-cons, Folds.list_any-append, Sums.count_by-le-length}
use Rattle.adf_base.specs.Words.{block}
use Rattle.adf_blocks.specs.Sizes.{blocks, in_range}
use Rattle.adf_volume.specs.Walk.{Walk}
use Rattle.adf_findings.specs.Members.{has_mark, owns}
use Rattle.adf_caches.specs.Entries.{is_entry_at}
use Rattle.adf_caches.proofs.OneMark.{fewer_unmarked, mark_from, unmarked}
use Rattle.adf_caches.specs.declared.chains.CacheMarks.{CacheMarks}
use Rattle.adf_caches.specs.Caches.{directory_named, entries_named, entries_recorded, is_cache_block, next_cache, says_cache}
use Rattle.adf_caches.specs.Judging.{AreFresh, IsRightChain, IsWrongChain, Leads, MarksNamed, Passes, StopsChain}
use Rattle.adf_caches.specs.Judging.StopsChain.{known, no_cache, unlike}
use Rattle.adf_caches.specs.Marking.{mark_each, mark_one}
use Rattle.adf_caches.specs.Paths.{IsPath.ends, IsPath.goes}
use Rattle.adf_caches.proofs.MarkSteps.{mark_append}
use Rattle.adf_caches.proofs.PathSteps.{longer_path, no_way_round, rest_of_path}
use Rattle.adf_caches.proofs.RecordSteps.{keeps_both}

-- one more mark
pub record IsMarkedAt (b : ℕ) (old new : List Bool) : Type 0 where
  pub inside : b < length old
  pub free : has_mark old b ≡ false
  pub is : new ≡ set old b true

pub marked_at : (b : ℕ) (old new : List Bool) → mark_one (Some b) old ≡ Some new → IsMarkedAt b old new
marked_at b old new e =
    let pass = cond_some (nat_lt b (length old) && not (has_mark old b)) (set old b true) new e in record {
      inside = grind (arith, nat_tests);
      free = grind (arith, nat_tests);
      is = sym pass.1;
    }

-- fewer have none
pub fewer_left : (b : ℕ) (old new : List Bool) → mark_one (Some b) old ≡ Some new → unmarked new < unmarked old
fewer_left b old new e =
    let at = marked_at b old new e in
    subst (λ m. unmarked m < unmarked old) (sym at.is) (fewer_unmarked old b at.inside at.free)

no_mark : (t : Bool) (m : List Bool) → cond t (Some m) None ≡ None → t ≡ false
no_mark true m e = cc
no_mark false m e = refl

pub was_marked : (b : ℕ) (old : List Bool) → mark_one (Some b) old ≡ None → b < length old → has_mark old b ≡ true
was_marked b old e lt =
    let none = no_mark (nat_lt b (length old) && not (has_mark old b)) (set old b true) e in
    grind (arith, nat_tests)

pub entry_is : (d : ℕ) (o : Option ℕ) → is_entry_at d o ≡ true → o ≡ Some d
entry_is d (Some m) h = ap (λ k. Some k) (eqb-true m d h)
entry_is d None h = cc

module _ (image : List ℕ) (w : Walk) (d : ℕ) where
  -- what a cache block is
  pub cache_parts : (b : ℕ) → is_cache_block image w d b ≡ true → (in_range image b ≡ true) × (directory_named image w b ≡ Some d)
  unfolding is_cache_block
  cache_parts b h =
      let one : (in_range image b ≡ true) × ((not (owns w b) && (says_cache (block image b) b && is_entry_at d (directory_named image w b))) ≡ true)
      = and_parts _ _ h in
      let two : (not (owns w b) ≡ true) × ((says_cache (block image b) b && is_entry_at d (directory_named image w b)) ≡ true) = and_parts _ _ one.1 in
      let three : (says_cache (block image b) b ≡ true) × (is_entry_at d (directory_named image w b) ≡ true) = and_parts _ _ two.1 in
      (one.0, entry_is d (directory_named image w b) three.1)

  pub no_zero_cache : is_cache_block image w d 0 ≡ false
  unfolding is_cache_block
  no_zero_cache = refl

  none_named : (old : List Bool) → MarksNamed image w d old old
  none_named old = record { size = refl; named = λ c h. inl h }

  -- what is marked at a cache block of the directory
  pub named_at : (b : ℕ) (old new : List Bool) → is_cache_block image w d b ≡ true → mark_one (Some b) old ≡ Some new → MarksNamed image w d old new
  named_at b old new is e =
      let at = marked_at b old new e in
      subst (MarksNamed image w d old) (sym at.is) (record {
        size = length-set old b true;
        named = λ c h. elim (mark_from old b at.inside c h) [
          | inl y ↦ inr (subst (λ i. directory_named image w i ≡ Some d) (sym y) (cache_parts b is).1)
          | inr y ↦ inl y
        ];
      })

  pub named_same : (old new : List Bool) → new ≡ old → MarksNamed image w d old new
  named_same old new e = subst (MarksNamed image w d old) (sym e) (none_named old)

  pub named_both : (old now new : List Bool) → MarksNamed image w d old now → MarksNamed image w d now new → MarksNamed image w d old new
  named_both old now new h k = record {
    size = k.size ∙ h.size;
    named = λ c m. elim (k.named c m) [ inl y ↦ h.named c y | inr y ↦ inr y ];
  }

-- the chain from block a on is gone through as far as block b
pub record IsOnChain (image : List ℕ) (w : Walk) (d a : ℕ) (old now : CacheMarks) (b : ℕ) : Type 0 where
  pub passed : List ℕ
  pub way : Leads image w d a passed b
  pub few : length passed + unmarked now.blocks.items ≤ length now.blocks.items
  pub size : length now.blocks.items ≡ blocks image
  pub entries : mark_each (entries_recorded image w d passed) old.entries.items ≡ Some now.entries.items
  pub seen : (c : ℕ) → has_mark now.blocks.items c ≡ true → directory_named image w c ≡ Some d → list_any (λ x. x == c) passed ≡ true

module _ (image : List ℕ) (w : Walk) (d a : ℕ) (old : CacheMarks) where
  pub chain_begins : AreFresh image w d old.blocks.items → IsOnChain image w d a old old a
  chain_begins h = record {
    passed = [];
    way = ends;
    few = omega (arith, count_by-le-length not old.blocks.items);
    size = h.size;
    entries = refl;
    seen = λ c m e. absurd (h.fresh c m e);
  }

  more_entries : (passed : List ℕ) (b : ℕ)
      → entries_recorded image w d (passed ++ b ∷ []) ≡ entries_recorded image w d passed ++ (entries_named image w d b ++ [])
  more_entries passed b =
      flat_map-append (entries_named image w d) passed (b ∷ [])
      ∙ ap (λ l. entries_recorded image w d passed ++ l) (flat_map-cons (entries_named image w d) b [])

  then_marks : (xs ys : List (Option ℕ)) (marks now : List Bool) (end : Option (List Bool)) → mark_each xs marks ≡ Some now → mark_each ys now ≡ end
      → mark_each (xs ++ ys) marks ≡ end
  then_marks xs ys marks now end h k = mark_append xs ys marks ∙ (ap (option_and_then (mark_each ys)) h ∙ k)

  pub chain_goes : (now new : CacheMarks) (b next : ℕ) → IsOnChain image w d a old now b → Passes image w d b now new → next ≡ next_cache image b
      → IsOnChain image w d a old new next
  chain_goes now new b next h p e =
      let at = marked_at b now.blocks.items new.blocks.items p.block in
      let fewer = fewer_left b now.blocks.items new.blocks.items p.block in
      let size : length new.blocks.items ≡ length now.blocks.items = ap length at.is ∙ length-set now.blocks.items b true in
      let longer : length (h.passed ++ b ∷ []) ≡ length h.passed + 1 = grind (arith, common_steps) in record {
        passed = h.passed ++ b ∷ [];
        way = subst (λ n. Leads image w d a (h.passed ++ b ∷ []) n) (sym e)
            (longer_path (is_cache_block image w d) (next_cache image) h.way p.is);
        few = omega (arith, h.few, fewer, size, longer);
        size = size ∙ h.size;
        entries = ap (λ l. mark_each l old.entries.items) (more_entries h.passed b)
            ∙ then_marks (entries_recorded image w d h.passed) (entries_named image w d b ++ []) old.entries.items now.entries.items _ h.entries
            (then_marks (entries_named image w d b) [] now.entries.items new.entries.items _ p.entries refl);
        seen = λ c m named. elim (mark_from now.blocks.items b at.inside c (subst (λ l. has_mark l c ≡ true) at.is m)) [
          | inl y ↦ list_any-append (λ x. x == c) h.passed (b ∷ []) ∙ any_last c b h.passed (sym y)
          | inr y ↦ list_any-append (λ x. x == c) h.passed (b ∷ []) ∙ any_first c b h.passed (h.seen c y named)
        ];
      }
    where
      any_last : (c b : ℕ) (l : List ℕ) → b ≡ c → (list_any (λ x. x == c) l || list_any (λ x. x == c) (b ∷ [])) ≡ true
      any_last c b l e = let t : (b == c) ≡ true = eq-eqb b c e in grind (arith, common_steps)

      any_first : (c b : ℕ) (l : List ℕ) → list_any (λ x. x == c) l ≡ true → (list_any (λ x. x == c) l || list_any (λ x. x == c) (b ∷ [])) ≡ true
      any_first c b l e = ap (λ t. t || list_any (λ x. x == c) (b ∷ [])) e

  pub chain_ends : (now : CacheMarks) (b : ℕ) → IsOnChain image w d a old now b → b ≡ 0 → IsRightChain image w d a old now
  chain_ends now b h e = record {
    chain = h.passed;
    way = subst (λ n. Leads image w d a h.passed n) e h.way;
    few = omega (arith, h.few, h.size);
    entries = h.entries;
  }

  -- what leads on from a block to 0 begins with a cache block
  first_is : {b : ℕ} {cs : List ℕ} → Leads image w d b cs 0 → (b ≡ 0 → ⊥) → (is_cache_block image w d b ≡ true) × ((ds : List ℕ) × (cs ≡ b ∷ ds))
  first_is ends some = absurd (some refl)
  first_is (goes {bs = ds} r q) some = (r, (ds, refl))

  pub chain_stops : (now : CacheMarks) (b : ℕ) → IsOnChain image w d a old now b → (b ≡ 0 → ⊥) → StopsChain image w d b now → IsWrongChain image w d a old
  chain_stops now b h some stops bs way =
      let rest = rest_of_path (is_cache_block image w d) (next_cache image) (no_zero_cache image w d) way refl h.way in
      let first = first_is rest.1 some in
      elim stops [
        | no_cache out ↦ let both = sym first.0 ∙ out in cc
        | known is none ↦
            let parts = cache_parts image w d b is in
            let lt : b < length now.blocks.items = grind (arith, nat_tests, h.size) in
            let seen = h.seen b (was_marked b now.blocks.items none lt) parts.1 in
            absurd (no_way_round (is_cache_block image w d) (next_cache image) (no_zero_cache image w d) h.way seen bs way)
        | unlike none ↦
            let begins : entries_recorded image w d bs
            ≡ entries_recorded image w d h.passed ++ (entries_named image w d b ++ entries_recorded image w d first.1.0) =
            ap (entries_recorded image w d) (rest.2 ∙ ap (λ l. h.passed ++ l) first.1.1)
            ∙ (flat_map-append (entries_named image w d) h.passed (b ∷ first.1.0)
            ∙ ap (λ l. entries_recorded image w d h.passed ++ l) (flat_map-cons (entries_named image w d) b first.1.0)) in
            ap (λ l. mark_each l old.entries.items) begins
            ∙ then_marks (entries_recorded image w d h.passed) (entries_named image w d b ++ entries_recorded image w d first.1.0) old.entries.items
            now.entries.items None h.entries
            (mark_append (entries_named image w d b) (entries_recorded image w d first.1.0) now.entries.items
            ∙ ap (option_and_then (mark_each (entries_recorded image w d first.1.0))) none)
      ]

-- the steps of a chain that ends
pub ruleset judging = (chain_ends, fewer_left, named_both, keeps_both)
