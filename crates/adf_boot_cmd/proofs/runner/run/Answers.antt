use Rattle.std.proofs.Common.{◌≡◌, ◌∙◌, ℕ, List, Some, None, ap, inl, inr, option_map, subst, sym, rules}
use Rattle.adf_boot_cmd.specs.CommandLine.{AreRefusedByBoot, AsksBoot, boot_file, boot_request_value}
use Rattle.adf_words.specs.CommandLine.{texts_of}
use Rattle.adf_runs.specs.{Streams.seen, WorkFaults.IsNoWork}
use Rattle.adf_runs.proofs.PendingText.{appends_nil}
use Rattle.adf_file_runs.proofs.FileRuns.{no_work_on_files, on_file_ends, unopened_ends}
use Rattle.adf_boot_cmd.specs.{Answers.boot_command, Work.order_of}
use Rattle.adf_boot_cmd.proofs.{Endings.input_ends, Endings.no_words, Endings.work_ends, Commands.consistent, Commands.taken}
use Rattle.adf_boot_cmd.proofs.runner.run.Goals as goal

pub returns-in-Err-clause-ends : goal.returns-in-Err-clause-ends
returns-in-Err-clause-ends g c =
    let words : List (List ℕ) = texts_of c.args.words.now in
    inl (no_work_on_files (boot_command (g.F.Files.bytes_of c.args.files.now)) boot_file words _ _ _ _ _ _ c.from.result
    (consistent (g.F.Files.bytes_of c.args.files.now))
    (subst (λ f. IsNoWork f (AreRefusedByBoot words) ⊥) (sym c.from.ensures) (no_words c.in-Err.fault words c.in-Err.ensures.refused))
    c.refuse.ensures.status c.requires.reads c.requires.writes c.refuse.ensures.said)

pub returns-in-Err-work_for-clause-ends : goal.returns-in-Err-work_for-clause-ends
returns-in-Err-work_for-clause-ends g c =
    let why = c.in-Err-work_for.ensures.fault in
    inr (
      why.0,
      subst (λ r. AsksBoot (texts_of c.args.words.now) r) why.1 c.in-Ok.ensures.ok,
      c.refuse-in-Err-work_for.ensures,
      appends_nil (g.W.Sink.held c.args.output.now),
    )

pub returns-in-None-clause-ends : goal.returns-in-None-clause-ends
returns-in-None-clause-ends g c =
    let words : List (List ℕ) = texts_of c.args.words.now in
    let bytes_of = λ (name : List ℕ). g.F.Files.bytes_of c.args.files.now name in
    let none : boot_file words ≡ None = sym c.in-Ok.ensures.file ∙ ap (option_map (λ s. s.now)) c.in-None.is in
    inl (input_ends (boot_command bytes_of) boot_file words _ _ _ _ _ none
    (work_ends (boot_command bytes_of) words (order_of c.in-Ok-work_for.work) c.on_input.result _ _ _ _
    (taken bytes_of words (boot_request_value c.in-Ok.asked.request) c.in-Ok.ensures.ok)
    (boot_request_value c.in-Ok.asked.request, c.in-Ok.ensures.ok, c.in-Ok-work_for.ensures.ok)
    c.finish.ensures.status c.finish.ensures.said c.on_input.ensures.ends))

pub returns-in-Ok-open-clause-ends : goal.returns-in-Ok-open-clause-ends
returns-in-Ok-open-clause-ends g c =
    let words : List (List ℕ) = texts_of c.args.words.now in
    let bytes_of = λ (name : List ℕ). g.F.Files.bytes_of c.args.files.now name in
    let named : Some c.as_bytes.result.now ≡ boot_file words =
    ap Some c.as_bytes.ensures.value ∙ ap (option_map (λ s. s.now)) (sym c.in-Some.is) ∙ c.in-Ok.ensures.file in
    inl (on_file_ends (boot_command bytes_of) boot_file words _ _ _ _ _
    (seen g.F.Opened.Source.left g.F.Opened.Source.has_failed c.in-Ok-open.source c.on_input-in-Ok-open.new.input) c.as_bytes.result.now
    named (search rules) c.in-Ok-open.ensures.bytes
    (work_ends (boot_command bytes_of) words (order_of c.in-Ok-work_for.work) c.on_input-in-Ok-open.result _ _ _ _
    (taken bytes_of words (boot_request_value c.in-Ok.asked.request) c.in-Ok.ensures.ok)
    (boot_request_value c.in-Ok.asked.request, c.in-Ok.ensures.ok, c.in-Ok-work_for.ensures.ok)
    c.finish-in-Ok-open.ensures.status c.finish-in-Ok-open.ensures.said c.on_input-in-Ok-open.ensures.ends))

pub returns-clause-ends : goal.returns-clause-ends
returns-clause-ends g c =
    let words : List (List ℕ) = texts_of c.args.words.now in
    let named : Some c.as_bytes.result.now ≡ boot_file words =
    ap Some c.as_bytes.ensures.value ∙ ap (option_map (λ s. s.now)) (sym c.in-Some.is) ∙ c.in-Ok.ensures.file in
    inl (unopened_ends (boot_command (g.F.Files.bytes_of c.args.files.now)) boot_file words _ _ _ _ _ _ c.as_bytes.result.now
    c.in-Err-open.why named c.refuse_file.ensures (search rules) (search rules))
