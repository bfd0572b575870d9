-- Places in the flat lists of a walk.
-- Letters: f a test of roles; w a walk; b a block; i, j places; n, m nodes.
use Rattle.std.proofs.Common.{◌≡◌, ℕ, zero, suc, List, [], ◌∷◌, ◌++◌, ◌+◌, ◌<◌, ◌≤◌, inl, inr, length, take, drop, cond, Bool, true, false, arith}
use Rattle.std.proofs.{lemmas.List.get_or-take, lemmas.List.get_or-drop, lemmas.List.length-take, lemmas.List.length-drop, lemmas.Grind.common_steps}
use Rattle.adf_volume.specs.{Layout.Layout, Layout.exts_of, Layout.datas_of, Lists.At, Lists.In, Lists.NoBlockTwice, Made.picked, Walk.Role, Walk.Walk}
use Rattle.adf_volume.proofs.{Lists.at_below, Lists.at_index_or, Lists.at_snoc, Places.datas_below, Places.exts_below}
use Rattle.adf_volume.specs.{declared.node_start.NodeStart.NodeStart, Places.start_of}
use Rattle.adf_check.proofs.NodeSteps.{at_or}

-- a member of a part of a list, in the whole list
pub at_whole : (xs ys : List ℕ) (s k b : ℕ) → take (length ys) (drop s xs) ≡ ys → At ys k b → At xs (s + k) b
at_whole xs ys s k b part h =
    grind (arith, get_or-take, at_or, at_below ys k b h, length-take (length ys) (drop s xs), length-drop s xs, get_or-drop s xs k 0, at_index_or ys k b 0 h)

-- a block that is picked is in the walk
picked_in : (f : Role → Bool) (w : Walk) (i b : ℕ) → At (picked f w) i b → (r : Role) × In w (r, b)
picked_in f [] i b h = absurd h
picked_in f (x ∷ w) i b h = go (f x.0) (picked_in f w) h
  where
    go : (t : Bool) → ((i b : ℕ) → At (picked f w) i b → (r : Role) × In w (r, b)) → At (cond t (picked f w ++ x.1 ∷ []) (picked f w)) i b
        → (r : Role) × In (x ∷ w) (r, b)
    go true ih k = elim (at_snoc (picked f w) x.1 i b k) [
      | inl y ↦ let z = ih i b y in (z.0, inr z.1)
      | inr y ↦ (x.0, inl (λ i. (x.0, y.1 i)))
    ]
    go false ih k = let z = ih i b k in (z.0, inr z.1)

-- no block stands at two places
pub one_place : (f : Role → Bool) (w : Walk) → NoBlockTwice w → (i j b : ℕ) → At (picked f w) i b → At (picked f w) j b → i ≡ j
one_place f [] once i j b h k = absurd h
one_place f (x ∷ w) once i j b h k = grind (arith, common_steps, picked_in, at_snoc, one_place f w once.1)

-- the node of a part of a file is an entry
pub ext_node : (l : Layout) (n k b : ℕ) → At (exts_of l n) k b → n ≤ length l.places
ext_node l zero k b h = absurd h
ext_node l (suc i) k b h = omega (arith, exts_below l.places i k b h)

pub data_node : (l : Layout) (n k b : ℕ) → At (datas_of l n) k b → n ≤ length l.places
data_node l zero k b h = absurd h
data_node l (suc i) k b h = omega (arith, datas_below l.places i k b h)

-- the start of a node
pub start_at : (starts : List NodeStart) (n : ℕ) → n < length starts → At starts n (start_of starts n)
start_at starts n lt = at_or starts n (record { exts = 0; datas = 0 }) lt
