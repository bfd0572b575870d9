-- Look-up of paths among the entries found, and the paths of entries.
-- Letters: w the walk of a survey; p, n, m nodes; s, j the slot and the position of a header in its chain;
-- b its block; f a number of steps.
use Rattle.std.specs.Prelude.{◌≡◌, ◌<◌, ◌&&◌, ℕ, List, [], ◌∷◌, ◌++◌, cond, nat_le}
use Rattle.std.proofs.Common.{zero, suc}
use Rattle.adf_volume.specs.{Image.name_of, Walk.Has, Walk.heads, Walk.node_block, Walk.Walk, Walk.Role.Head}
use Rattle.adf_findings.specs.{Demands.uppers_in, Members.parent_node}

-- entry n is found in directory p, and its header has this name, ignoring case
abbrev pub IsNamedChild : List ℕ → Walk → ℕ → List ℕ → ℕ → Type 0
IsNamedChild image w p name n = (s j b : ℕ) × Has w (Head n p s j) b × (uppers_in image (name_of image b) ≡ uppers_in image name)

-- it is the first of these by number
abbrev pub IsFirstChild : List ℕ → Walk → ℕ → List ℕ → ℕ → Type 0
IsFirstChild image w p name n = IsNamedChild image w p name n × ((m : ℕ) → m < n → IsNamedChild image w p name m → ⊥)

-- the names lead from node p to node n: from each node to the first child with the next name
abbrev pub LeadsTo : List ℕ → Walk → ℕ → List (List ℕ) → ℕ → Type 0
LeadsTo image w p [] n = p ≡ n
LeadsTo image w p (name ∷ names) n = (m : ℕ) × IsFirstChild image w p name m × LeadsTo image w m names n

-- the names from the root to entry n, at most f steps up
abbrev pub path_up : List ℕ → Walk → ℕ → ℕ → List (List ℕ)
path_up image w zero n = []
path_up image w (suc f) n =
    cond (nat_le 1 n && nat_le n (heads w)) (path_up image w f (parent_node w n) ++ name_of image (node_block w n) ∷ []) []

-- the names from the root to entry n; none for the root and past the last entry
abbrev pub path_to : List ℕ → Walk → ℕ → List (List ℕ)
path_to image w n = path_up image w n n
