-- Runs whose words may name a file.
-- Letters: c a command, file_of the file that its words name; n the status; o what output held.
use Rattle.std.proofs.Common.{◌≡◌, ◌⊎◌, ◌∙◌, rules, inl, inr, Bool, List, Option, ℕ, Some, None, IfSome, refl, false, true}
use Rattle.adf_runs.specs.{Commands.Command, Commands.IsConsistent, Commands.RunEnds, Streams.IsTold, Streams.Seen, Streams.still}
use Rattle.adf_file_runs.specs.{FileRuns.KnownFiles, FileRuns.RunEndsOnFiles, declared.files.Unopened.Unopened}
use Rattle.adf_runs.specs.WorkFaults.{IsNoWork, refusal_line, refusal_status}
use Rattle.adf_runs.specs.declared.work_fault.WorkFault.{WorkFault, TheVariants.BadPath, TheVariants.NoMemory, TheVariants.Usage}
use Rattle.adf_runs.proofs.{CommandRuns.no_work_ends, PendingText.appends_nil}

-- no work ends in an answer
no_answer : (f : WorkFault) (n : ℕ) → n ≡ refusal_status f → ¬ (n ≡ 2) → ¬ (n ≡ 3) → ⊥
no_answer Usage n s two three = two s
no_answer BadPath n s two three = two s
no_answer NoMemory n s two three = three s

module _ {Words : Type 0} (c : Command Words) (file_of : Words → Option (List ℕ)) (words : Words) (files : KnownFiles) (input : Seen) (n : ℕ)
    (errors : Seen) where
  -- no file is opened where no work is begun
  pub no_work_on_files : (o : Option (List ℕ)) (no_output : Bool) (f : WorkFault) → IsConsistent c
      → IsNoWork f (c.refuses words) (c.asks_bad_path words) → n ≡ refusal_status f → input.failed ≡ false → no_output ≡ false
      → IsTold errors (refusal_line c.usage f) → RunEndsOnFiles c file_of words files input n (still o no_output) errors
  no_work_on_files o no_output f laws why s u v said = record {
    on_input = λ none. no_work_ends c words f input o no_output errors n laws why s u v said;
    on_file = λ name named. inl (false, no_work_ends c words f (still (files.bytes_of name) false) o no_output errors n laws why s refl v said);
    opened = λ name named two three. absurd (no_answer f n s two three);
  }

  -- a run over an input is one over what is known of it
  over_known : (output given : Seen) (known : Option (List ℕ)) → IfSome known (λ bytes. given.before ≡ Some bytes)
      → RunEnds c words given n output errors → RunEnds c words (still known given.failed) n output errors
  over_known output given None same h = search rules
  over_known output given (Some bytes) same h = search rules

  -- a run over what a file gives
  pub on_file_ends : (output given : Seen) (name : List ℕ) → Some name ≡ file_of words → files.may_open name None
      → IfSome (files.bytes_of name) (λ bytes. given.before ≡ Some bytes) → RunEnds c words given n output errors
      → RunEndsOnFiles c file_of words files input n output errors
  on_file_ends output given name named may same h = record {
    on_input = λ none. let clash : Some name ≡ None = named ∙ none in absurd cc;
    on_file = λ other is. let one : name ≡ other = cc in inl (given.failed, over_known output given (files.bytes_of other) (rw one at same) h);
    opened = λ other is two three. let one : name ≡ other = cc in rw one at may;
  }

  -- a file that is not opened
  pub unopened_ends : (o : Option (List ℕ)) (no_output : Bool) (name : List ℕ) (why : Unopened) → Some name ≡ file_of words
      → n ≡ 3 → files.may_fail name ≡ true → files.may_open name (Some why)
      → RunEndsOnFiles c file_of words files input n (still o no_output) errors
  unopened_ends o no_output name why named three fails reason = record {
    on_input = λ none. let clash : Some name ≡ None = named ∙ none in absurd cc;
    on_file = λ other is. let one : name ≡ other = cc in rw (← one) (inr (three, fails, appends_nil o, (why, reason)));
    opened = λ other is two no_three. absurd (no_three three);
  }
