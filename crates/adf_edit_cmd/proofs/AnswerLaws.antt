-- From outcomes to answers. `part` are the first bytes of an input, as many as count.
use Rattle.std.proofs.Common.{◌≡◌, ◌+◌, ◌∙◌, inl, ℕ, List, Option, ap, arith, length, min, subst, take}
use Rattle.std.proofs.lemmas.List.{take-take, take_min}
use Rattle.adf_edit_cmd.specs.{Answers.EditAnswer, Answers.Edits, Edited.IsEdited, declared.program.TheConstants.MOST_INPUT_BYTES}
use Rattle.adf_runs.proofs.Endings.{does_weaker, ends_weaker}
use Rattle.adf_runs.specs.Commands.{Reply, on_output}
use Rattle.adf_runs.specs.{Outcomes.Does, Outcomes.EndsBy, Streams.Seen, declared.outcome.Outcome.Outcome}

-- a new image that is written is an answer
pub written : {w : Outcome} {output : Seen} (input new : List ℕ) → IsEdited input new → Does (λ reply. reply ≡ on_output 0 new) w output
    → Does (Edits input) w output
written input new is h = does_weaker (λ reply. reply ≡ on_output 0 new) (Edits input) (λ reply e. inl (new, is, e)) h

-- what is answered to as many bytes as count is the answer to an input
pub part_ends : (bytes part : List ℕ) (w : Outcome) (o o' : Option (List ℕ)) → part ≡ take MOST_INPUT_BYTES bytes → EndsBy (Edits part) w o o'
    → EndsBy (EditAnswer bytes) w o o'
part_ends bytes part w o o' e h =
    ends_weaker (Edits part) (EditAnswer bytes) w o o' (λ reply tells. subst (λ (l : List ℕ). Edits l reply) e tells) h

pub counted : (bytes : List ℕ) (n : ℕ) → n ≡ min (length bytes) MOST_INPUT_BYTES → take n bytes ≡ take MOST_INPUT_BYTES bytes
counted bytes n e =
    let swapped : n ≡ min MOST_INPUT_BYTES (length bytes) = omega (arith, e) in
    ap (λ (k : ℕ). take k bytes) swapped ∙ take_min MOST_INPUT_BYTES bytes

-- what is answered to the front of a long input is answered to the whole of it
pub long_answers : (front bytes : List ℕ) → front ≡ take (MOST_INPUT_BYTES + 1) bytes → (reply : Reply)
    → EditAnswer front reply → EditAnswer bytes reply
long_answers front bytes e reply h =
    let same : take MOST_INPUT_BYTES front ≡ take MOST_INPUT_BYTES bytes =
    ap (take MOST_INPUT_BYTES) e ∙ take-take MOST_INPUT_BYTES (MOST_INPUT_BYTES + 1) bytes (omega arith) in
    subst (λ (l : List ℕ). Edits l reply) same h
