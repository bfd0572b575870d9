-- Paths of headers, one name more, and wanted links.
-- Letters: h the block of a header; p its place; k, n numbers of names.
use Rattle.std.specs.Prelude.{Some, slice_get}
use Rattle.std.proofs.Common.{◌≡◌, ◌<◌, ◌≤◌, ◌-◌, ◌+◌, ◌++◌, ◌∷◌, [], ℕ, List, arith, sym, subst, ap, ◌∙◌, get_or, length, take, suc}
use Rattle.std.proofs.Math.Seq.{take-suc}
use Rattle.std.proofs.lemmas.List.{length-take, take_all}
use Rattle.std.proofs.lemmas.Option.{get_or_from_slice_get}
use Rattle.adf_volume.specs.Image.{name_of, root_of}
use Rattle.adf_keep.specs.declared.links_places.Place.{Place}
use Rattle.adf_keep.specs.Links.{ArePlaces, IsAtPath, IsAtPath.entry, IsAtPath.root, place_of_header}

-- a header with a place is at the path of its directory and its name
pub at_next : (image : List ℕ) (places : List Place) (h : ℕ) (p : Place) (path : List (List ℕ)) (item : List ℕ) (k : ℕ) → ArePlaces image places
    → p ≡ place_of_header places h → 1 ≤ p.directory → k < length path → name_of image h ≡ item → item ≡ get_or path (length path - 1 - k) item
    → IsAtPath image p.directory (take (length path - (k + 1)) path) → IsAtPath image h (take (length path - k) path)
at_next image places h p path item k are is low within name read at =
    let n = length path - (k + 1) in
    let q = place_of_header places h in
    let place = are h (subst (λ x. 1 ≤ x.directory) is low) in
    let above : IsAtPath image q.directory (take n path) = subst (λ x. IsAtPath image x.directory (take n path)) is at in
    let more : length path - k ≡ suc n = omega arith in
    let same : length path - 1 - k ≡ n = omega arith in
    let last : take (suc n) path ≡ take n path ++ get_or path n item ∷ [] = take-suc _ _ _ (omega arith) in
    let named : get_or path n item ≡ name_of image h = sym (name ∙ (read ∙ ap (λ i. get_or path i item) same)) in
    subst (λ x. IsAtPath image h x) (sym (ap (λ m. take m path) more ∙ (last ∙ ap (λ x. take n path ++ x ∷ []) named)))
    (entry above place.directory.slots place.few place.chain)

-- the root is at the path before its first name
pub at_root : (image : List ℕ) (h r : ℕ) (path : List (List ℕ)) (k : ℕ) → length path ≤ k → h ≡ r → r ≡ root_of image
    → IsAtPath image h (take (length path - k) path)
at_root image h r path k past is root_is =
    let none : length path - k ≡ 0 = omega arith in
    subst (λ x. IsAtPath image h x) (sym (ap (λ m. take m path) none)) (subst (λ x. IsAtPath image x []) (sym (is ∙ root_is)) root)

-- the item that was read is the one that is there
pub read_item : {T : Type 0} (xs : List T) (k : ℕ) (x y : T) → x ≡ get_or xs k x → slice_get xs k ≡ Some y → x ≡ y
read_item xs k x y read is = read ∙ get_or_from_slice_get xs k y x is

-- as many as there are, are all
pub whole_front : (n : ℕ) (xs ys : List ℕ) → ys ≡ take n xs → length ys ≡ length xs → ys ≡ xs
whole_front n xs ys is long =
    let short : length xs ≤ n = omega (arith, length-take n xs, ap length is) in
    is ∙ take_all n xs short
