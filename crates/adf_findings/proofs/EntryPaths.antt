-- The path of an entry is the path of its directory and its name.
use Rattle.std.specs.Prelude.{Bool, true, false, ◌&&◌, cond, map, nat_le, reverse}
use Rattle.std.proofs.Common.{◌≡◌, ℕ, zero, suc, List, [], ◌∷◌, ◌++◌, ◌<◌, ◌≤◌, refl, ap, arith, append_assoc, length, length-append, ◌+◌}
use Rattle.std.proofs.{lemmas.Grind.reverse_onto, lemmas.Grind.common_steps, lemmas.List.map-append, lemmas.List.reverse-append}
use Rattle.std.proofs.lemmas.Bool.{and_parts, Decides.nat_tests}
use Rattle.adf_volume.specs.{Image.name_of, Walk.heads, Walk.node_block, Walk.Walk}
use Rattle.adf_findings.specs.{Members.parent_node, Lookup.IsNamedChild, Lookup.path_to, Lookup.path_up, Survey.FindingValue, Survey.IsSurvey}
use Rattle.adf_findings.proofs.{Keeping.parent_is, Lookups.child_between, Lookups.header_at}

-- whether it is the number of an entry
abbrev is_entry : Walk → ℕ → Bool
is_entry w n = nat_le 1 n && nat_le n (heads w)

module _ (image : List ℕ) (w : Walk) (fs : List FindingValue) (h : IsSurvey image w fs) where
  -- the directory of an entry has a smaller number
  pub directory_smaller : (n : ℕ) → 1 ≤ n → n ≤ heads w → parent_node w n < n
  directory_smaller n lo hi =
      let x = header_at image w fs h n lo hi in
      let e : parent_node w n ≡ x.parent = parent_is image w fs h n x.parent x.slot x.place (node_block w n) x.has in
      let child : IsNamedChild image w x.parent (name_of image (node_block w n)) n = (x.slot, x.place, node_block w n, x.has, refl) in
      let lt : x.parent < n = (child_between image w fs h x.parent n (name_of image (node_block w n)) child).0 in
      omega arith

  entry_range : (n : ℕ) → is_entry w n ≡ true → (1 ≤ n) × (n ≤ heads w)
  entry_range n e = grind (arith, common_steps, and_parts, nat_tests)

  in_range : (n : ℕ) → 1 ≤ n → n ≤ heads w → is_entry w n ≡ true
  in_range n lo hi = grind (arith, common_steps, nat_tests)

  -- as many steps as the number are enough
  path_enough : (f g n : ℕ) → n ≤ f → n ≤ g → path_up image w f n ≡ path_up image w g n
  path_enough zero zero n a b = refl
  path_enough zero (suc g) zero a b = refl
  path_enough zero (suc g) (suc n) a b = absurd (omega arith)
  path_enough (suc f) zero zero a b = refl
  path_enough (suc f) zero (suc n) a b = absurd (omega arith)
  path_enough (suc f) (suc g) n a b =
      go (is_entry w n) refl (λ lt. path_enough f g (parent_node w n) (omega arith) (omega arith))
    where
      go : (t : Bool) → is_entry w n ≡ t
          → (parent_node w n < n → path_up image w f (parent_node w n) ≡ path_up image w g (parent_node w n))
          → cond t (path_up image w f (parent_node w n) ++ name_of image (node_block w n) ∷ []) []
          ≡ cond t (path_up image w g (parent_node w n) ++ name_of image (node_block w n) ∷ []) []
      go false e again = refl
      go true e again = grind (arith, common_steps, entry_range, directory_smaller)

  -- one step up
  pub path_next : (n : ℕ) → 1 ≤ n → n ≤ heads w → path_to image w n ≡ path_to image w (parent_node w n) ++ name_of image (node_block w n) ∷ []
  path_next zero lo hi = absurd (omega arith)
  path_next (suc m) lo hi = grind (arith, common_steps, directory_smaller, in_range, path_enough)

  -- no step up
  pub path_none : (n : ℕ) → ((1 ≤ n) × (n ≤ heads w) → ⊥) → path_to image w n ≡ []
  path_none zero none = refl
  path_none (suc m) none = grind (arith, common_steps, is_entry, entry_range)

  -- the names gathered so far, and one more
  pub gathered_more : (path names : List (List ℕ)) (n m : ℕ) (name : List ℕ) → (1 ≤ n) × (n ≤ heads w) → m ≡ parent_node w n
      → name ≡ name_of image (node_block w n) → path ≡ path_to image w n ++ reverse names
      → path ≡ path_to image w m ++ reverse (names ++ name ∷ [])
  gathered_more path names n m name r up is e = rw (e, path_next n r.0 r.1, up, is, append_assoc, reverse-append) refl

  -- where a name is to be gathered, there is one
  pub gathered_some : (path names : List (List ℕ)) (n : ℕ) → (1 ≤ n) × (n ≤ heads w) → path ≡ path_to image w n ++ reverse names → path ≡ [] → ⊥
  gathered_some path names n r e nil =
      let up : List (List ℕ) = path_to image w (parent_node w n) in
      let name : List ℕ = name_of image (node_block w n) in
      let long : length path ≡ length up + 1 + length (reverse names) = rw (e, path_next n r.0 r.1, length-append, length-append) refl in
      let none : length path ≡ 0 = ap length nil in
      omega arith

  -- all names are gathered
  pub gathered_all : (path names : List (List ℕ)) (n : ℕ) → ((1 ≤ n) × (n ≤ heads w) → ⊥) → path ≡ path_to image w n ++ reverse names
      → reverse names ≡ path
  gathered_all path names n none e = rw (e, path_none n none) refl

-- a list told backwards
pub map_reverse : {A B : Type 0} (f : A → B) (xs : List A) → map f (reverse xs) ≡ reverse (map f xs)
map_reverse f [] = refl
map_reverse f (x ∷ xs) = grind (arith, common_steps, reverse_onto, map-append, map_reverse f xs)
