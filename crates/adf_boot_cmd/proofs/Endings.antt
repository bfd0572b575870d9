-- How runs end in which a work is done, over an input or a file.
-- Letters: c a command, r what is asked, w the outcome of its work; n the status.
use Rattle.std.proofs.Common.{◌≡◌, ◌∙◌, ℕ, List, Option, None, Some, IfSome, take, sym, arith}
use Rattle.std.proofs.lemmas.Grind.{common_steps}
use Rattle.adf_words.specs.CommandLine.{ExplainsArgs}
use Rattle.adf_boot_cmd.specs.CommandLine.{AreRefusedByBoot}
use Rattle.adf_words.specs.declared.command_line.ArgsError.{ArgsError, TheVariants.Usage, TheVariants.NoMemory as ArgsNoMemory}
use Rattle.adf_runs.specs.Commands.{Command, IsUnanswered, RunEnds}
use Rattle.adf_runs.specs.Outcomes.{DoesOn, outcome_text, status_of}
use Rattle.adf_runs.specs.{Streams.AreFirst, Streams.IsTold, Streams.Seen, WorkFaults.IsNoWork, WorkFaults.args_refused, declared.outcome.Outcome.Outcome}
use Rattle.adf_file_runs.specs.FileRuns.{KnownFiles, RunEndsOnFiles}
use Rattle.adf_boot_blocks.specs.declared.boot.TheConstants.{BOOT_LEN}

-- a work was done, and errors were told its line
pub work_ends : {Words : Type 0} (c : Command Words) (words : Words) (r : c.Request) (w : Outcome) (input output errors : Seen) (n : ℕ)
    → ¬ IsUnanswered c words → c.asks words r → n ≡ status_of w → IsTold errors (outcome_text w) → DoesOn (c.answer r) w input output
    → RunEnds c words input n output errors
work_ends c words r w input output errors n answered asked status told does = grind (arith, common_steps)

-- a run over the input, where words name no file
pub input_ends : {Words : Type 0} (c : Command Words) (file_of : Words → Option (List ℕ)) (words : Words) (files : KnownFiles) (input : Seen) (n : ℕ)
    (output errors : Seen) → file_of words ≡ None → RunEnds c words input n output errors → RunEndsOnFiles c file_of words files input n output errors
input_ends c file_of words files input n output errors none ends = record {
  on_input = λ is. ends;
  on_file = λ name is. let clash : Some name ≡ None = sym is ∙ none in absurd cc;
  opened = λ name is two three. let clash : Some name ≡ None = sym is ∙ none in absurd cc;
}

-- words that are refused
pub no_words : (fault : ArgsError) (words : List (List ℕ)) → ExplainsArgs fault (AreRefusedByBoot words)
    → IsNoWork (args_refused fault) (AreRefusedByBoot words) ⊥
no_words Usage words h = h
no_words ArgsNoMemory words h = tt

-- the first bytes of a file, where they are known
pub file_front : (known left : Option (List ℕ)) (bytes : List ℕ) → IfSome known (λ all. left ≡ Some all) → AreFirst BOOT_LEN left bytes
    → IfSome known (λ all. bytes ≡ take BOOT_LEN all)
file_front None left bytes same first = tt
file_front (Some all) left bytes same first = rw same at first
