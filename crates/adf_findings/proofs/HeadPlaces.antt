-- The positions of the headers of a walk, by number.
use Rattle.std.specs.Prelude.{true, false, not, ◌==◌, ◌&&◌, Option, Some, None, slice_get, slice_index}
use Rattle.std.proofs.Common.{◌≡◌, ℕ, zero, suc, List, [], ◌∷◌, ◌++◌, length, ◌⊎◌, inl, inr, ◌-◌, ◌<◌, ◌≤◌, refl, sym, ap, subst, ◌∙◌, arith}
use Rattle.std.proofs.lemmas.Bool.{and_parts, eqb-true, eq-eqb, Decides.eqb_tells, Decides.nat_tests}
use Rattle.std.proofs.lemmas.Grind.{common_steps}
use Rattle.adf_volume.specs.Walk.{Role, Has, Asks, heads, Walk, Role.Root, Role.Head}
use Rattle.adf_volume.proofs.Gathered.{IsGathered, number_of, IsGathered.start, IsGathered.step}
use Rattle.adf_volume.proofs.{Lists.get_before, Lists.snoc_length, Roles.asks_number, Roles.head_at}
use Rattle.adf_findings.specs.{declared.found.ChainPlace.ChainPlace, declared.found.Found.Found, Survey.Course, Found.Stands, Found.places_of, Found.with_place}
use Rattle.adf_findings.specs.{Members.parent_by, Members.parent_node, Marks.is_header, Marks.is_place}
use Rattle.adf_tree.proofs.Lists.{get_last}

-- the parent of what comes later is that of no earlier node
other_parent : (image : List ℕ) (w : Walk) (n : ℕ) (r : Role) (a i c : ℕ) → Asks image w r a i → n ≤ heads w → parent_by n r c ≡ c
other_parent image w n (Head m p s j) a i c d u = grind (arith, common_steps, asks_number, eqb_tells)
other_parent image w n _ a i c d u = refl

pub head_parent : (image : List ℕ) {w : Walk} → IsGathered image w → (n p s j b : ℕ) → Has w (Head n p s j) b → parent_node w n ≡ p
head_parent image start n p s j b (inl e) = let root = e.0 in cc
head_parent image start n p s j b (inr f) = absurd f
head_parent image (step {w = w} {r = r} a i c v d l) n p s j b (inl e) = grind (arith, common_steps, step, eq-eqb)
head_parent image (step {w = w} {r = r} a i c v d l) n p s j b (inr h) =
    grind (arith, common_steps, number_of, head_at, other_parent, head_parent image v n p s j b h)

get_cases : {A : Type 0} (xs : List A) (x y : A) (k : ℕ) → slice_get (xs ++ x ∷ []) k ≡ Some y
    → (slice_get xs k ≡ Some y) ⊎ ((k ≡ length xs) × (x ≡ y))
get_cases [] x y zero e = inr (refl, cc)
get_cases [] x y (suc k) e = cc
get_cases (z ∷ xs) x y zero e = inl e
get_cases (z ∷ xs) x y (suc k) e = elim (get_cases xs x y k e) [ inl h ↦ inl h | inr h ↦ inr (ap suc h.0, h.1) ]

places_long : (w : Walk) → length (places_of w) ≡ heads w
places_long [] = refl
places_long ((Head n p s j, b) ∷ w) = snoc_length (places_of w) (record { slot = s; place = j }) ∙ ap suc (places_long w)
places_long (_ ∷ w) = places_long w

module _ (image : List ℕ) where
  -- the place of an earlier header stays
  place_stays : (w : Walk) (r : Role) (a i k : ℕ) (c : ChainPlace) → Asks image w r a i → k < heads w → slice_get (places_of w) k ≡ Some c
      → slice_get (with_place r (places_of w)) k ≡ Some c
  place_stays w r a i k c h l m = grind (arith, common_steps, get_before, places_long)

  -- each header has its place
  place_kept : {w : Walk} → IsGathered image w → (n p s j b : ℕ) → Has w (Head n p s j) b
      → slice_get (places_of w) (n - 1) ≡ Some (record { slot = s; place = j })
  place_kept start n p s j b (inl e) = let root = e.0 in cc
  place_kept start n p s j b (inr f) = absurd f
  place_kept (step {w = w} {r = r} a i c v d l) n p s j b (inl e) =
      let k : n ≡ suc (heads w) = asks_number image w n p s j a i (subst (λ r. Asks image w r a i) e.0 d) in
      let at : n - 1 ≡ length (places_of w) = (let g = places_long w in omega arith) in
      subst (λ r. slice_get (with_place r (places_of w)) (n - 1) ≡ Some (record { slot = s; place = j })) (sym e.0)
      (ap (slice_get (places_of w ++ record { slot = s; place = j } ∷ [])) at ∙ get_last (places_of w) (record { slot = s; place = j }))
  place_kept (step {w = w} {r = r} a i c v d l) n p s j b (inr h) =
      let u : (1 ≤ n) × (n ≤ heads w) = number_of image v (head_at n p s j b h) in
      place_stays w r a i (n - 1) (record { slot = s; place = j }) d (omega arith) (place_kept v n p s j b h)

  -- each place is a header's
  place_has : {w : Walk} → IsGathered image w → (n : ℕ) (c : ChainPlace) → 1 ≤ n → slice_get (places_of w) (n - 1) ≡ Some c
      → (p b : ℕ) × Has w (Head n p c.slot c.place) b
  place_has start n c lo e = cc
  place_has (step {w = w} {r = r} a i b v d l) n c lo e = go r refl d e (λ e. place_has v n c lo e)
    where
      older : ((p b : ℕ) × Has w (Head n p c.slot c.place) b) → (p x : ℕ) × Has ((r, b) ∷ w) (Head n p c.slot c.place) x
      older h = (h.0, h.1, inr h.2)

      go : (q : Role) → r ≡ q → Asks image w q a i → slice_get (with_place q (places_of w)) (n - 1) ≡ Some c
          → (slice_get (places_of w) (n - 1) ≡ Some c → (p b : ℕ) × Has w (Head n p c.slot c.place) b)
          → (p x : ℕ) × Has ((r, b) ∷ w) (Head n p c.slot c.place) x
      go (Head m p s j) is d e again = elim (get_cases (places_of w) (record { slot = s; place = j }) c (n - 1) e) [
        | inl h ↦ older (again h)
        | inr h ↦
            let k : m ≡ suc (heads w) = asks_number image w m p s j a i d in
            let g = places_long w in
            let one : m ≡ n = (let at : n - 1 ≡ length (places_of w) = h.0 in omega arith) in
            (p, b, inl (is ∙ (λ y. Head (one y) p (h.1 y).slot (h.1 y).place), refl))
      ]
      go Root is d e again = absurd d
      go _ is d e again = older (again e)

  place_is : (o : Option ChainPlace) (s j : ℕ) → is_place o s j ≡ true → (c : ChainPlace) × (o ≡ Some c) × (c.slot ≡ s) × (c.place ≡ j)
  place_is None s j e = cc
  place_is (Some c) s j e = let x = and_parts (c.slot == s) (c.place == j) e in (c, refl, eqb-true c.slot s x.0, eqb-true c.place j x.1)

  module _ (f : Found) (s : Course) (v : IsGathered image s.walk) (st : Stands image f s) where
    -- a header that is taken is found by its number
    pub header_found : (n p t j b : ℕ) → Has s.walk (Head n p t j) b → is_header f n p t j ≡ true
    header_found n p t j b has =
        let u : (1 ≤ n) × (n ≤ heads s.walk) = number_of image v (head_at n p t j b has) in
        let zero_not : (n == 0) ≡ false = grind (arith, nat_tests) in
        let parent : slice_index f.parents.items n ≡ p = st.parent n ∙ head_parent image v n p t j b has in
        let place : slice_get f.places.items (n - 1) ≡ Some (record { slot = t; place = j }) =
        ap (λ xs. slice_get xs (n - 1)) st.places ∙ place_kept v n p t j b has in
        rw (zero_not, parent, place, eq-eqb p p refl, eq-eqb t t refl, eq-eqb j j refl) refl

    -- what is found by its number is a header that is taken
    pub found_header : (n p t j : ℕ) → is_header f n p t j ≡ true → (b : ℕ) × Has s.walk (Head n p t j) b
    found_header n p t j e =
        let x = and_parts (not (n == 0)) ((slice_index f.parents.items n == p) && is_place (slice_get f.places.items (n - 1)) t j) e in
        let y = and_parts (slice_index f.parents.items n == p) (is_place (slice_get f.places.items (n - 1)) t j) x.1 in
        let (c, kept, slot, place) = place_is (slice_get f.places.items (n - 1)) t j y.1 in
        let lo : 1 ≤ n = (let q = x.0 in grind (arith, nat_tests)) in
        let (up, b, has) = place_has v n c lo (ap (λ xs. slice_get xs (n - 1)) (sym st.places) ∙ kept) in
        let parent : up ≡ p =
        sym (head_parent image v n up c.slot c.place b has) ∙ (sym (st.parent n) ∙ eqb-true (slice_index f.parents.items n) p y.0) in
        (b, subst (λ q. Has s.walk q b) (λ i. Head n (parent i) (slot i) (place i)) has)
