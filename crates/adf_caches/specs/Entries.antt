-- The entries of a walk and the blocks of their headers.
-- Letters: w the walk of an image's survey; n, m entries; b a block.
use Rattle.std.specs.Prelude.{◌==◌, ◌&&◌, ℕ, Bool, false, nat_le, cond, Option, Some, None}
use Rattle.std.specs.Option.{option_and_then}
use Rattle.adf_volume.specs.Walk.{Walk, heads, node_block}
use Rattle.adf_findings.specs.Members.{owning_entry}

-- the walk has an entry n
abbrev pub has_entry : Walk → ℕ → Bool
has_entry w n = nat_le 1 n && nat_le n (heads w)

-- entry n, if its header is in block b
abbrev pub if_headed : Walk → (b n : ℕ) → Option ℕ
if_headed w b n = cond (has_entry w n && (node_block w n == b)) (Some n) None

-- the entry with its header in block b
abbrev pub headed_at : Walk → (b : ℕ) → Option ℕ
headed_at w b = option_and_then (if_headed w b) (owning_entry w b)

-- whether an entry is n
abbrev pub is_entry_at : ℕ → Option ℕ → Bool
is_entry_at n None = false
is_entry_at n (Some m) = m == n
