-- Runs over the files of plans. n is the status, o what output held, `known` the known bytes of a file, `text` its first bytes.
use Rattle.std.proofs.Common.{rules, ◌≡◌, ◌+◌, ◌∙◌, ℕ, Bool, true, false, List, Option, None, Some, IfSome, ap, codes, inl, inr, refl, subst, sym, take}
use Rattle.adf_disk_cmd.proofs.Endings.{long_answers}
use Rattle.adf_disk_cmd.specs.Answers.{disk_command}
use Rattle.adf_disk_cmd.specs.CommandLine.{AsksDiskOf, build, disk_file}
use Rattle.adf_disk_cmd.specs.{CommandLine.AreRefusedByDisk, HostPlans.NamesNoHosts}
use Rattle.adf_disk_cmd.specs.declared.work.TheConstants.{MOST_DISK_BYTES}
use Rattle.adf_file_runs.proofs.FileRuns.{on_file_ends}
use Rattle.adf_file_runs.specs.FileRuns.{KnownFiles, RunEndsOnFiles}
use Rattle.adf_plans.specs.HostFiles.{NamesHosts}
use Rattle.adf_runs.proofs.{CommandRuns.no_work_ends, PendingText.appends_nil}
use Rattle.adf_runs.specs.Commands.{GetsFront, IsConsistent, RunEnds}
use Rattle.adf_runs.specs.{Outcomes.after_reading, Outcomes.outcome_text, Outcomes.status_of, declared.work_fault.WorkFault.TheVariants.NoMemory as NoRoom}
use Rattle.adf_runs.specs.WorkFaults.{IsNoWork, args_refused, refusal_status}
use Rattle.adf_words.specs.{CommandLine.ExplainsArgs, declared.command_line.ArgsError.ArgsError}
use Rattle.adf_words.specs.declared.command_line.ArgsError.TheVariants.{Usage, NoMemory as ArgsNoMemory}
use Rattle.adf_runs.specs.Streams.{AreFirst, IsTold, Seen, at_hand, still}
use Rattle.adf_runs.specs.declared.streams.StreamFault.{StreamFault, TheVariants.Device, TheVariants.NoMemory}

pub disk_consistent : IsConsistent disk_command
disk_consistent = record { taken = search rules; unread = λ words none. absurd none }

-- what is read of a longer file is its front
front_part : (b : Bool) (words : List (List ℕ)) (front bytes : List ℕ) (output : Seen) → front ≡ take (MOST_DISK_BYTES + 1) bytes
    → GetsFront false b disk_command words front output → GetsFront false b disk_command words bytes output
front_part true words front bytes output e (r, asked, (reply, answers, part)) = (r, asked, (reply, long_answers r front bytes e reply answers, part))
front_part false words front bytes output e (inl h) = inl h
front_part false words front bytes output e (inr (r, asked, (reply, answers, part))) =
    inr (r, asked, (reply, long_answers r front bytes e reply answers, part))

over_front : (words : List (List ℕ)) (known : Option (List ℕ)) (text : List ℕ) (n : ℕ) (output errors : Seen)
    → AreFirst (MOST_DISK_BYTES + 1) known text → RunEnds disk_command words (at_hand text) n output errors
    → RunEnds disk_command words (still known false) n output errors
over_front words None text n output errors e h = search rules
over_front words (Some bytes) text n output errors e h = record {
  status = h.status;
  answer = λ taken few.
      let (r, asked, reply, status, answer, wrote, told) = h.answer taken few in
      (r, asked, reply, status, long_answers r text bytes e reply answer, wrote, told);
  answered = h.answered;
  usage = h.usage;
  bad_path = h.bad_path;
  refused = h.refused;
  read_failed = h.read_failed;
  write_failed = h.write_failed;
  failure = h.failure;
  part = λ three. front_part output.failed words text bytes output e (h.part three);
}

known_self : (known : Option (List ℕ)) → IfSome known (λ bytes. known ≡ Some bytes)
known_self None = tt
known_self (Some bytes) = refl

module _ (words : List (List ℕ)) (files : KnownFiles) (input : Seen) (n : ℕ) (errors : Seen) (name : List ℕ) (named : disk_file words ≡ Some name)
    (may : files.may_open name None) where
  -- a run over the text of a plan that is a file
  pub text_ends : (output : Seen) (text : List ℕ) → AreFirst (MOST_DISK_BYTES + 1) (files.bytes_of name) text
      → RunEnds disk_command words (at_hand text) n output errors → RunEndsOnFiles disk_command disk_file words files input n output errors
  text_ends output text first h =
      on_file_ends disk_command disk_file words files input n errors output (still (files.bytes_of name) false) name (sym named) may
      (known_self (files.bytes_of name)) (over_front words (files.bytes_of name) text n output errors first h)

  -- a file that is not read
  pub unread_ends : (o : Option (List ℕ)) (no_output : Bool) (fault : StreamFault) → no_output ≡ false → n ≡ status_of (after_reading fault)
      → IsTold errors (outcome_text (after_reading fault)) → RunEndsOnFiles disk_command disk_file words files input n (still o no_output) errors
  unread_ends o no_output fault sound status said =
      on_file_ends disk_command disk_file words files input n errors (still o no_output) (still (files.bytes_of name) (failed fault)) name (sym named) may
      (known_self (files.bytes_of name)) (ends fault status said)
    where
      failed : StreamFault → Bool
      failed Device = true
      failed NoMemory = false

      ends : (f : StreamFault) → n ≡ status_of (after_reading f) → IsTold errors (outcome_text (after_reading f))
          → RunEnds disk_command words (still (files.bytes_of name) (failed f)) n (still o no_output) errors
      ends Device s told = read_ends (files.bytes_of name) s told
        where
          nothing : (known : Option (List ℕ)) → IfSome known (λ bytes. GetsFront true no_output disk_command words bytes (still o no_output))
          nothing None = tt
          nothing (Some bytes) = appends_nil o

          read_ends : (known : Option (List ℕ)) → n ≡ 3 → IsTold errors (codes "read fault\n")
              → RunEnds disk_command words (still known true) n (still o no_output) errors
          read_ends known three told = let front = nothing known in search rules
      ends NoMemory s told = no_work_ends disk_command words NoRoom (still (files.bytes_of name) false) o no_output errors n disk_consistent tt s refl sound told

-- the plan that is asked for names no host files
pub no_hosts_named : (words : List (List ℕ)) (files : KnownFiles) (name text : List ℕ) → AsksDiskOf words build (Some name)
    → AreFirst (MOST_DISK_BYTES + 1) (files.bytes_of name) text → ¬ NamesHosts text → NamesNoHosts words files
no_hosts_named words files name text asks first none other all other_asks known =
    let one : Some name ≡ Some other = sym asks.1 ∙ other_asks.1 in
    let same : name ≡ other = cc in
    let here : files.bytes_of name ≡ Some all = ap files.bytes_of same ∙ known in
    let front : text ≡ take (MOST_DISK_BYTES + 1) all = subst (λ o. AreFirst (MOST_DISK_BYTES + 1) o text) here first in
    subst (λ l. ¬ NamesHosts l) front none

pub read_status : (f : StreamFault) → status_of (after_reading f) ≡ 3
read_status Device = refl
read_status NoMemory = refl

-- words that are refused ask for no plan
pub explained : (f : ArgsError) (refused bad_path : Type 0) → ExplainsArgs f refused → IsNoWork (args_refused f) refused bad_path
explained Usage refused bad_path why = why
explained ArgsNoMemory refused bad_path why = tt

pub refused_names_none : (f : ArgsError) (words : List (List ℕ)) (files : KnownFiles) (n : ℕ) → ExplainsArgs f (AreRefusedByDisk words)
    → n ≡ refusal_status (args_refused f) → ¬ (n ≡ 3) → NamesNoHosts words files
refused_names_none Usage words files n why status some = λ name text asks known. absurd (disk_consistent.taken words build asks.0 why)
refused_names_none ArgsNoMemory words files n why status some = absurd (some status)
