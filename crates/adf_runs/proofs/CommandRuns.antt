-- How runs end in which no work is begun.
use Rattle.std.proofs.Common.{◌≡◌, rules, inl, Bool, false, ℕ, List, Option, None, Some, IfSome, sym}
use Rattle.adf_runs.specs.Commands.{Command, GetsAnswer, GetsFront, IsConsistent, RunEnds, bad_path}
use Rattle.adf_runs.specs.{Streams.IsTold, Streams.Seen, Streams.still, WorkFaults.IsNoWork, WorkFaults.refusal_line, WorkFaults.refusal_status}
use Rattle.adf_runs.specs.declared.work_fault.WorkFault.{WorkFault, TheVariants.BadPath, TheVariants.NoMemory, TheVariants.Usage}
use Rattle.adf_runs.proofs.PendingText.{appends_nil}

-- what holds of every input holds of a known one
of_any : (left : Option (List ℕ)) (P : List ℕ → Type 0) → ((input : List ℕ) → P input) → IfSome left P
of_any None P h = tt
of_any (Some input) P h = h input

-- the words of a command are refused, or their path is not read, or memory was refused, and errors tell which
pub no_work_ends : {Words : Type 0} (c : Command Words) (words : Words) (f : WorkFault) (input : Seen) (o : Option (List ℕ)) (no_output : Bool)
    (errors : Seen) (n : ℕ) → IsConsistent c → IsNoWork f (c.refuses words) (c.asks_bad_path words) → n ≡ refusal_status f → input.failed ≡ false
    → no_output ≡ false → IsTold errors (refusal_line c.usage f) → RunEnds c words input n (still o no_output) errors
no_work_ends c words Usage input o no_output errors n laws why s u v said =
    let read : ¬ c.asks_bad_path words = λ bad. let (r, asked, answers) = laws.unread words bad in laws.taken words r asked why in
    search rules
no_work_ends c words BadPath input o no_output errors n laws why s u v said =
    let (r, asked, answers) = laws.unread words why in
    let taken = laws.taken words r asked in
    let answered = of_any input.before (λ bytes. GetsAnswer c words bytes n (still o no_output) errors)
    (λ bytes. (r, asked, bad_path, sym s, answers bytes, appends_nil o, said)) in
    search rules
no_work_ends c words NoMemory input o no_output errors n laws why s u v said =
    let front = of_any input.before (λ bytes. GetsFront false false c words bytes (still o no_output)) (λ bytes. inl (appends_nil o)) in
    search rules
