-- What the members of a walk say of blocks and of entries, and the marks of entries.
-- Letters: w a walk; q, r roles; b, c blocks; n, m, p nodes.
use Rattle.std.specs.Prelude.{◌==◌, ◌&&◌, ◌||◌, ℕ, Bool, false, cond, List, [], ◌∷◌, slice_index_or, Option, Some, None}
use Rattle.adf_volume.specs.Walk.{Role, first, second, third, Walk, Role.Head, Role.Ext, Role.Data}

-- whether two roles have the same place in the order of roles
abbrev pub is_same : Role → Role → Bool
is_same r q = (first r == first q) && ((second r == second q) && (third r == third q))

-- the block of the member of the walk at the place of role q
abbrev pub at_role : Walk → Role → Option ℕ
at_role [] q = None
at_role (x ∷ w) q = cond (is_same x.0 q) (Some x.1) (at_role w q)

-- whether a member of the walk has this block
abbrev pub owns : Walk → ℕ → Bool
owns [] b = false
owns (x ∷ w) b = (x.1 == b) || owns w b

-- the entry that a role is a part of; none of the root and the bitmap
abbrev pub role_entry : Role → Option ℕ
role_entry (Head n p s j) = Some n
role_entry (Ext n k) = Some n
role_entry (Data n k) = Some n
role_entry _ = None

-- the entry that has the block
abbrev pub owning_entry : Walk → ℕ → Option ℕ
owning_entry [] b = None
owning_entry (x ∷ w) b = cond (x.1 == b) (role_entry x.0) (owning_entry w b)

-- p if the role is the header of node n in directory p, otherwise c
abbrev pub parent_by : ℕ → Role → ℕ → ℕ
parent_by n (Head m p s j) c = cond (n == m) p c
parent_by n _ c = c

-- the parent of node n; 0 if the walk has no such header
abbrev pub parent_node : Walk → ℕ → ℕ
parent_node [] n = 0
parent_node (x ∷ w) n = parent_by n x.0 (parent_node w n)

-- the number of the data block that a role is, from 1; 0 of other roles
abbrev pub data_number : Role → ℕ
data_number (Data n k) = k
data_number _ = 0

-- the number of the data block that a block is, from 1; 0 if it is none
abbrev pub number_at : Walk → ℕ → ℕ
number_at [] b = 0
number_at (x ∷ w) b = cond (x.1 == b) (data_number x.0) (number_at w b)

-- whether the node has a mark
abbrev pub has_mark : List Bool → ℕ → Bool
has_mark marks m = slice_index_or marks m false
