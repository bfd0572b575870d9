-- The places of headers, with one more.
-- Letters: d, h blocks of headers; s a slot; p a place.
use Rattle.std.proofs.Common.{◌≡◌, ◌<◌, ◌≤◌, ◌++◌, ◌∷◌, [], ℕ, List, true, arith, get_or, length, set, subst, sym, ◌∙◌, inl, inr, ap}
use Rattle.std.specs.List.{All}
use Rattle.std.proofs.lemmas.Bool.{cases_lt}
use Rattle.std.proofs.Math.ListN.{replicate}
use Rattle.std.proofs.lemmas.List.{get_or_past, get_or-replicate, get_or-set_same, get_or-set_other, length-replicate}
use Rattle.std.proofs.lemmas.List.Elements.{All-get_or, All-push}
use Rattle.std.proofs.lemmas.Bool.Decides.{nat_tests}
use Rattle.adf_volume.specs.Image.{name_of, root_of}
use Rattle.adf_keep.specs.declared.links_places.Place.{Place}
use Rattle.adf_keep.specs.Links.{ArePlaces, IsAtPath, IsAtPath.entry, IsAtPath.root, IsDirectory, IsPlace, has_slots, no_place}
use Rattle.adf_keep.proofs.ClaimMarks.{same_or_not}

pub places_more : (image : List ℕ) (places : List Place) (p : Place) (h : ℕ) → h < length places → ArePlaces image places
    → IsPlace image p.directory p.slot h → ArePlaces image (set places h p)
places_more image places p h within are new = λ n some. elim (same_or_not n h) [
  | inl same ↦
      let is : get_or (set places h p) n no_place ≡ p = ap (λ m. get_or (set places h p) m no_place) same ∙ get_or-set_same places h p no_place within in
      subst (λ q. IsPlace image q.directory q.slot n) (sym is) (subst (λ m. IsPlace image p.directory p.slot m) (sym same) new)
  | inr other ↦
      let is : get_or (set places h p) n no_place ≡ get_or places n no_place = get_or-set_other places h n p no_place other in
      subst (λ q. IsPlace image q.directory q.slot n) (sym is) (are n (subst (λ q. 1 ≤ q.directory) is some))
]

pub place_directory : (image : List ℕ) (d s h : ℕ) → IsPlace image d s h → has_slots image h ≡ true → IsDirectory image h
place_directory image d s h place slots = record {
  path = place.directory.path ++ name_of image h ∷ [];
  at = entry place.directory.at place.directory.slots place.few place.chain;
  slots = slots;
}

pub directories_more : (image : List ℕ) (xs ys : List ℕ) (d : ℕ) → ys ≡ xs ++ d ∷ [] → All (IsDirectory image) xs → IsDirectory image d
    → All (IsDirectory image) ys
directories_more image xs ys d is all new = subst (λ l. All (IsDirectory image) l) (sym is) (All-push (IsDirectory image) xs d all new)

pub none_placed : (image : List ℕ) (n : ℕ) → ArePlaces image (replicate n no_place)
none_placed image n = λ h low. elim (cases_lt h n) [
  | inl lt ↦ absurd (no_low (ap (λ p. p.directory) (get_or-replicate n h no_place no_place lt)) low)
  | inr ge ↦ absurd (no_low (ap (λ p. p.directory) (get_or_past (replicate n no_place) h no_place (omega (arith, length-replicate n no_place)))) low)
]
  where
    no_low : {d : ℕ} → d ≡ 0 → 1 ≤ d → ⊥
    no_low e low = omega arith

pub root_alone : (image : List ℕ) (xs : List ℕ) (d : ℕ) → xs ≡ d ∷ [] → d ≡ root_of image → All (IsDirectory image) xs
root_alone image xs d is same = subst (λ l. All (IsDirectory image) l) (sym is) (All-push (IsDirectory image) [] d (λ k x lt. absurd (omega arith)) directory)
  where
    directory : IsDirectory image d
    directory = record { path = []; at = subst (λ b. IsAtPath image b []) (sym same) root; slots = grind (arith, nat_tests) }

pub directory_in : (image : List ℕ) (xs : List ℕ) (k b d : ℕ) → All (IsDirectory image) xs → k < length xs → b ≡ get_or xs k d → IsDirectory image b
directory_in image xs k b d all within is = subst (λ x. IsDirectory image x) (sym is) (All-get_or (IsDirectory image) xs k d within all)
