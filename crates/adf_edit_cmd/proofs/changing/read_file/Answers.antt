use Rattle.std.proofs.Common.{◌≡◌, ◌+◌, ℕ, List, Option, None, Some, IfSome, subst}
use Rattle.adf_runs.specs.Streams.{AreFirst}
use Rattle.adf_edit_cmd.specs.declared.program.TheConstants.{MOST_INPUT_BYTES}
use Rattle.adf_edit_cmd.proofs.changing.read_file.Goals as goal

-- what is read of a source is what is known of it
known_read : (known left : Option (List ℕ)) (n : ℕ) (bytes : List ℕ) → IfSome known (λ all. left ≡ Some all) → AreFirst n left bytes
    → AreFirst n known bytes
known_read None left n bytes same h = tt
known_read (Some all) left n bytes same h = subst (λ (o : Option (List ℕ)). AreFirst n o bytes) same h

pub returns-in-Ok-read_all : goal.returns-in-Ok-read_all
returns-in-Ok-read_all g c =
    known_read _ _ (MOST_INPUT_BYTES + 1) _ (rw c.as_bytes.ensures.value at c.in-Ok.ensures.bytes) c.in-Ok-read_all.ensures.all
