-- The entries of a volume with links.
-- Letters: d, g, h blocks of headers; s a slot; i the number of a word.
use Rattle.std.specs.Prelude.{◌==◌, ◌||◌}
use Rattle.std.proofs.Common.{◌≡◌, ◌≢◌, ◌<◌, ◌≤◌, ◌+◌, ◌/◌, ◌++◌, ◌∷◌, [], ℕ, Bool, true, false, List, arith, sym, subst, ap, ◌∙◌, ◌⊎◌, inl, inr, length}
use Rattle.std.proofs.lemmas.Bool.{and_parts, cases_Bool, cases_lt, eqb-true, Decides.nat_tests}
use Rattle.std.proofs.lemmas.Grind.{common_steps}
use Rattle.std.proofs.lemmas.List.{get_or_past}
use Rattle.adf_base.specs.Words.{block}
use Rattle.adf_blocks.specs.HeadBlock.{is_link}
use Rattle.adf_blocks.specs.Sizes.{blocks, is_allowed, middle}
use Rattle.adf_blocks.specs.declared.layout.TheConstants.{FIRST_SLOT, NEXT_IN_CHAIN, SECONDARY_TYPE, SLOTS, ST_DIR}
use Rattle.adf_volume.specs.Image.{name_of, root_of, word_in}
use Rattle.adf_keep.specs.declared.links_places.Place.{Place}
use Rattle.adf_keep.specs.declared.links_words.TheConstants.{CHECKSUM}
use Rattle.adf_keep.specs.Links.{AreClosed, HasEntries, HasLinks, IsAtPath, IsAtPath.entry, IsAtPath.root, IsBlockBeside, IsBlockBeside.a_header, IsBlockBeside.a_link}
use Rattle.adf_keep.specs.Links.{IsBlockBeside.a_page, IsBlockBeside.the_same, IsInHashChain, IsInHashChain.first, IsInHashChain.next}
use Rattle.adf_keep.specs.Links.{IsWordBeside, has_link_mark, has_slots, is_known, is_page_of, names_header}

pub known_inside : (volume : List ℕ) (places : List Place) (h : ℕ) → is_known volume places h ≡ true → h < blocks volume
known_inside volume places h known = grind (arith, nat_tests, and_parts)

not_both : {b : Bool} → b ≡ true → b ≡ false → ⊥
not_both is isnt = cc

pub root_known : (volume : List ℕ) (places : List Place) → is_allowed (blocks volume) ≡ true → is_known volume places (root_of volume) ≡ true
root_known volume places allowed =
    let many : 4 ≤ blocks volume = grind (arith, nat_tests, and_parts) in
    let within : root_of volume < blocks volume = omega arith in
    grind (arith, nat_tests, common_steps)

pub marked_inside : (links : List Bool) (b n : ℕ) → length links ≡ n → has_link_mark links b ≡ true → b < n
marked_inside links b n long mark = elim (cases_lt b n) [
  | inl lt ↦ lt
  | inr ge ↦ absurd (not_both mark (get_or_past links b false (omega arith)))
]

module _ (volume image : List ℕ) (links : List Bool) (h : ℕ) where
  word_beside : IsBlockBeside volume image links h → has_link_mark links h ≡ false → is_page_of volume h ≡ false → (i : ℕ) → i < 128
      → IsWordBeside volume image links h i
  word_beside (a_link mark x) none page i lt = absurd (not_both mark none)
  word_beside (a_page mark on x) none page i lt = absurd (not_both on page)
  word_beside (a_header mark on x) none page i lt = x.words i lt
  word_beside (the_same mark on x) none page i lt = inl (ap (λ b. word_in_block b i) x)
    where
      word_in_block : List ℕ → ℕ → ℕ
      word_in_block b i = Rattle.adf_base.specs.Words.word b i

  name_beside : IsBlockBeside volume image links h → has_link_mark links h ≡ false → is_page_of volume h ≡ false → name_of image h ≡ name_of volume h
  unfolding name_of
  name_beside (a_link mark x) none page = absurd (not_both mark none)
  name_beside (a_page mark on x) none page = absurd (not_both on page)
  name_beside (a_header mark on x) none page = x.name
  name_beside (the_same mark on x) none page = ap (λ b. Rattle.adf_blocks.specs.Forms.text_at b Rattle.adf_blocks.specs.declared.layout.TheConstants.NAME) x

  -- what names a header in the volume names it in the image
  same_word : (i : ℕ) → IsWordBeside volume image links h i → i ≢ CHECKSUM → 1 ≤ word_in volume h i → word_in image h i ≡ word_in volume h i
  same_word i (inl e) other low = e
  same_word i (inr (inl n)) other low = let none = n.none in absurd (omega arith)
  same_word i (inr (inr c)) other low = absurd (other c)

  -- what names a header in the image names it in the volume, or names a link
  word_back : (i : ℕ) → IsWordBeside volume image links h i → i ≢ CHECKSUM
      → (word_in image h i ≡ word_in volume h i) ⊎ (has_link_mark links (word_in image h i) ≡ true)
  word_back i (inl e) other = inl e
  word_back i (inr (inl n)) other = inr n.link
  word_back i (inr (inr c)) other = absurd (other c)

  -- the type names no header
  no_name : names_header volume h SECONDARY_TYPE ≡ true → ⊥
  no_name named = elim (cases_Bool (has_slots volume h)) [
    | inl y ↦ elim (cases_Bool (h == root_of volume)) [ inl z ↦ grind (arith, nat_tests, common_steps) | inr z ↦ grind (arith, nat_tests, common_steps) ]
    | inr y ↦ elim (cases_Bool (h == root_of volume)) [ inl z ↦ grind (arith, nat_tests, common_steps) | inr z ↦ grind (arith, nat_tests, common_steps) ]
  ]

  same_type : IsWordBeside volume image links h SECONDARY_TYPE → word_in image h SECONDARY_TYPE ≡ word_in volume h SECONDARY_TYPE
  same_type (inl e) = e
  same_type (inr (inl n)) = absurd (no_name n.word)
  same_type (inr (inr c)) = absurd (omega (arith, c))

module _ (volume image : List ℕ) (places : List Place) (links : List Bool) (beside : HasLinks volume image links)
    (closed : AreClosed volume places links) (known_root : is_known volume places (root_of volume) ≡ true) where
  same_root : root_of image ≡ root_of volume
  same_root = ap (λ n. middle (n / 512)) beside.long

  beside_at : (h : ℕ) → is_known volume places h ≡ true → (i : ℕ) → i < 128 → IsWordBeside volume image links h i
  beside_at h known = word_beside volume image links h (beside.each h (known_inside volume places h known)) (closed h known).none (closed h known).page

  named_at : (h : ℕ) → is_known volume places h ≡ true → name_of image h ≡ name_of volume h
  named_at h known = name_beside volume image links h (beside.each h (known_inside volume places h known)) (closed h known).none (closed h known).page

  same_slots : (h : ℕ) → is_known volume places h ≡ true → has_slots image h ≡ has_slots volume h
  same_slots h known =
      ap (λ r. (h == r) || (word_in image h SECONDARY_TYPE == ST_DIR)) same_root
      ∙ ap (λ t. (h == root_of volume) || (t == ST_DIR)) (same_type volume image links h (beside_at h known SECONDARY_TYPE (omega arith)))

  chain_kept : (d s h : ℕ) → is_known volume places d ≡ true → has_slots volume d ≡ true → s < SLOTS → IsInHashChain volume d s h
      → (is_known volume places h ≡ true) × IsInHashChain image d s h
  chain_kept d s h known slots few (first low e) =
      let low_word : 1 ≤ word_in volume d (FIRST_SLOT + s) = omega (arith, e) in
      let other : FIRST_SLOT + s ≢ CHECKSUM = omega arith in
      let same = same_word volume image links d (FIRST_SLOT + s) (beside_at d known (FIRST_SLOT + s) (omega arith)) other low_word in
      (subst (λ b. is_known volume places b ≡ true) e ((closed d known).slots slots s few low_word), first low (same ∙ e))
  chain_kept d s h known slots few (next {g = g} low c e) =
      let before = chain_kept d s g known slots few c in
      let low_word : 1 ≤ word_in volume g NEXT_IN_CHAIN = omega (arith, e) in
      let other : NEXT_IN_CHAIN ≢ CHECKSUM = omega arith in
      let same = same_word volume image links g NEXT_IN_CHAIN (beside_at g before.0 NEXT_IN_CHAIN (omega arith)) other low_word in
      (subst (λ b. is_known volume places b ≡ true) e ((closed g before.0).next low_word), next low before.1 (same ∙ e))

  at_kept : (h : ℕ) (path : List (List ℕ)) → IsAtPath volume h path → (is_known volume places h ≡ true) × IsAtPath image h path
  at_kept h path root = (known_root, subst (λ r. IsAtPath image r []) same_root root)
  at_kept h path (entry {d = d} {s = s} {path = up} at slots few chain) =
      let above = at_kept d up at in
      let here = chain_kept d s h above.0 slots few chain in
      (here.0, subst (λ n. IsAtPath image h (up ++ n ∷ [])) (named_at h here.0) (entry above.1 (same_slots d above.0 ∙ slots) few here.1))

  -- what a link names next in its chain is a link
  link_next : (g h : ℕ) → 1 ≤ h → has_link_mark links g ≡ true → word_in image g NEXT_IN_CHAIN ≡ h → IsBlockBeside volume image links g
      → has_link_mark links h ≡ true
  link_next g h low mark e (a_link m x) = elim x.next [
    | inl none ↦ absurd (omega (arith, e, none))
    | inr marked ↦ subst (λ b. has_link_mark links b ≡ true) e marked
  ]
  link_next g h low mark e (a_page m on x) = absurd (not_both mark m)
  link_next g h low mark e (a_header m on x) = absurd (not_both mark m)
  link_next g h low mark e (the_same m on x) = absurd (not_both mark m)

  -- a link has no slots
  link_slots : (d : ℕ) → has_link_mark links d ≡ true → has_slots image d ≡ true → IsBlockBeside volume image links d → ⊥
  link_slots d mark slots (a_link m x) = elim (cases_Bool (d == root_of image)) [
    | inl y ↦
        let same : d ≡ root_of image = grind (arith, nat_tests) in
        not_both mark (subst (λ r. has_link_mark links r ≡ false) (sym (same ∙ same_root)) (closed (root_of volume) known_root).none)
    | inr y ↦
        let kind = x.kind in
        let says : (word_in image d SECONDARY_TYPE == ST_DIR) ≡ true = sym (ap (λ t. t || (word_in image d SECONDARY_TYPE == ST_DIR)) y) ∙ slots in
        let type : word_in image d SECONDARY_TYPE ≡ ST_DIR = eqb-true _ _ says in
        let no : is_link (word_in image d SECONDARY_TYPE) ≡ false = ap is_link type in
        not_both kind no
  ]
  link_slots d mark slots (a_page m on x) = not_both mark m
  link_slots d mark slots (a_header m on x) = not_both mark m
  link_slots d mark slots (the_same m on x) = not_both mark m

  chain_back : (d s h : ℕ) → is_known volume places d ≡ true → has_slots volume d ≡ true → s < SLOTS → IsInHashChain image d s h
      → ((is_known volume places h ≡ true) × IsInHashChain volume d s h) ⊎ (has_link_mark links h ≡ true)
  chain_back d s h known slots few (first low e) =
      let other : FIRST_SLOT + s ≢ CHECKSUM = omega arith in
      elim (word_back volume image links d (FIRST_SLOT + s) (beside_at d known (FIRST_SLOT + s) (omega arith)) other) [
        | inl same ↦
            let named : word_in volume d (FIRST_SLOT + s) ≡ h = sym same ∙ e in
            let low_word : 1 ≤ word_in volume d (FIRST_SLOT + s) = omega (arith, named) in
            inl (subst (λ b. is_known volume places b ≡ true) named ((closed d known).slots slots s few low_word), first low named)
        | inr mark ↦ inr (subst (λ b. has_link_mark links b ≡ true) e mark)
      ]
  chain_back d s h known slots few (next {g = g} low c e) = elim (chain_back d s g known slots few c) [
    | inl before ↦
        let other : NEXT_IN_CHAIN ≢ CHECKSUM = omega arith in
        elim (word_back volume image links g NEXT_IN_CHAIN (beside_at g before.0 NEXT_IN_CHAIN (omega arith)) other) [
          | inl same ↦
              let named : word_in volume g NEXT_IN_CHAIN ≡ h = sym same ∙ e in
              let low_word : 1 ≤ word_in volume g NEXT_IN_CHAIN = omega (arith, named) in
              inl (subst (λ b. is_known volume places b ≡ true) named ((closed g before.0).next low_word), next low before.1 named)
          | inr mark ↦ inr (subst (λ b. has_link_mark links b ≡ true) e mark)
        ]
    | inr mark ↦ inr (link_next g h low mark e (beside.each g (beside.inside g mark)))
  ]

  at_back : (h : ℕ) (path : List (List ℕ)) → IsAtPath image h path
      → ((is_known volume places h ≡ true) × IsAtPath volume h path) ⊎ (has_link_mark links h ≡ true)
  at_back h path root =
      inl (subst (λ r. is_known volume places r ≡ true) (sym same_root) known_root, subst (λ r. IsAtPath volume r []) (sym same_root) root)
  at_back h path (entry {d = d} {s = s} {path = up} at slots few chain) = elim (at_back d up at) [
    | inl above ↦
        let slots_before = sym (same_slots d above.0) ∙ slots in
        elim (chain_back d s h above.0 slots_before few chain) [
          | inl here ↦
              inl (here.0, subst (λ n. IsAtPath volume h (up ++ n ∷ [])) (sym (named_at h here.0)) (entry above.1 slots_before few here.1))
          | inr mark ↦ inr mark
        ]
    | inr mark ↦ absurd (link_slots d mark slots (beside.each d (beside.inside d mark)))
  ]

  pub has_entries : HasEntries volume image links
  has_entries = record {
    all = λ h path at. (at_kept h path at).1;
    others = λ h path at. elim (at_back h path at) [ inl y ↦ inl y.1 | inr y ↦ inr y ];
  }
