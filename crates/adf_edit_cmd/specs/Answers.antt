-- What the program answers.
use Rattle.std.specs.Prelude.{◌≡◌, ◌<◌, ◌≤◌, ◌⊎◌, ℕ, List, [], length, take}
use Rattle.adf_runs.specs.Commands.{Command, Reply, on_output}
use Rattle.adf_edit_cmd.specs.{Edited.IsEdited, declared.program.TheConstants.MOST_INPUT_BYTES, declared.program.TheConstants.USAGE}

-- at status 0 the new image is written, at status 1 nothing
abbrev pub Edits : List ℕ → Reply → Type 0
Edits input reply =
    ((new : List ℕ) × IsEdited input new × (reply ≡ on_output 0 new)) ⊎ ((reply.status ≡ 1) × (reply.output ≡ []))

-- the answer to an input: what is past the most bytes of one does not count
abbrev pub EditAnswer : List ℕ → Reply → Type 0
EditAnswer input reply = Edits (take MOST_INPUT_BYTES input) reply

-- the command `adf-edit` over an input, whose only word is its name
abbrev pub edit_command : Command (List (List ℕ))
edit_command = record {
  Request = Unit {0};
  asks = λ words r. length words ≤ 1;
  refuses = λ words. 1 < length words;
  asks_bad_path = λ words. ⊥;
  answer = λ r. EditAnswer;
  limit = λ r. MOST_INPUT_BYTES;
  usage = USAGE.now;
}
