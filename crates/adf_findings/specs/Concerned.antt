-- What findings concern, and the entries that hold their blocks.
-- Letters: w the walk of a survey, fs its findings, f one of them, at index k; r a role; n, p nodes; b a block;
-- s, j the slot and the position of a header in its chain.
use Rattle.std.specs.Prelude.{◌==◌, ◌&&◌, ◌||◌, ℕ, Bool, true, false, cond, List, [], ◌∷◌, Option, Some, None, is_some, slice_get}
use Rattle.std.specs.Option.{option_and_then}
use Rattle.adf_blocks.specs.declared.cause.Cause.{Cause, TheVariants.Taken}
use Rattle.adf_volume.specs.Walk.{Role, Walk, Role.Head, Role.Ext, Role.Data}
use Rattle.adf_findings.specs.declared.concern.Concern.{Concern, TheVariants.Entry, TheVariants.Within}
use Rattle.adf_findings.specs.{Members.at_role, Members.number_at, Members.owning_entry, Survey.FindingValue}

-- the entry or the directory that is concerned
abbrev pub node_of : Concern → ℕ
node_of (Entry n) = n
node_of (Within p) = p

-- of a header in the walk the entry, of one that was skipped its directory; of an extension or data block the file
abbrev pub concern_with : Walk → Role → Option Concern
concern_with w (Head n p s j) = Some (cond (is_some (at_role w (Head n p s j))) (Entry n) (Within p))
concern_with w (Ext n k) = Some (Entry n)
concern_with w (Data n k) = Some (Entry n)
concern_with w _ = None

-- what the finding concerns
abbrev pub concern_of : Walk → FindingValue → Option Concern
concern_of w f = option_and_then (concern_with w) f.part

-- what the finding at an index concerns, nothing past the last
abbrev pub concern_of_nth : Walk → List FindingValue → ℕ → Option Concern
concern_of_nth w fs k = option_and_then (concern_of w) (slice_get fs k)

-- whether the cause is that another part has the block
abbrev pub is_taken : Cause → Bool
is_taken Taken = true
is_taken _ = false

-- the entry that holds the block of a finding that it is taken
abbrev pub taker_of : Walk → FindingValue → Option ℕ
taker_of w f = cond (is_taken f.cause) (owning_entry w f.block) None

-- the entry that holds the block of the finding at an index, nothing past the last
abbrev pub taker_of_nth : Walk → List FindingValue → ℕ → Option ℕ
taker_of_nth w fs k = option_and_then (taker_of w) (slice_get fs k)

-- whether a finding is that block b is taken: a part of the walk has it, and another one asks for it
abbrev pub is_contested : List FindingValue → ℕ → Bool
is_contested [] b = false
is_contested (f ∷ fs) b = (is_taken f.cause && (f.block == b)) || is_contested fs b

-- the number of the data block that a block is, from 1, where no other part asks for it; otherwise 0
abbrev pub number_alone : Walk → List FindingValue → ℕ → ℕ
number_alone w fs b = cond (is_contested fs b) 0 (number_at w b)
