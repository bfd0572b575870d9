use Rattle.std.proofs.Common.{rules}
use Rattle.adf_words.specs.CommandLine.{texts_of}
use Rattle.adf_runs.specs.Streams.{seen}
use Rattle.adf_file_runs.proofs.FileRuns.{no_work_on_files, on_file_ends, unopened_ends}
use Rattle.adf_file_runs.proofs.file_programs.run_program_on_files.Goals as goal

pub returns-in-Err-clause-ends : goal.returns-in-Err-clause-ends
returns-in-Err-clause-ends g c =
    no_work_on_files g.P.Program.command g.P.FileProgram.file_of (texts_of c.args.asked.now.words.now) _ _ _ _ _ _ c.in-Err.fault
    g.met.P.Program.consistent c.in-Err.ensures.fault c.refuse.ensures.status c.requires.reads c.requires.writes
    (rw c.usage.ensures at c.refuse.ensures.said)

pub returns-in-Ok-open-clause-ends : goal.returns-in-Ok-open-clause-ends
returns-in-Ok-open-clause-ends g c =
    on_file_ends g.P.Program.command g.P.FileProgram.file_of (texts_of c.args.asked.now.words.now) _ _ _ _ _
    (seen g.F.Opened.Source.left g.F.Opened.Source.has_failed c.in-Ok-open.source c.on_input-in-Ok-open.new.input) c.as_bytes.result.now
    (search rules) (search rules) c.in-Ok-open.ensures.bytes (search rules)

pub returns-in-Ok-Some-clause-ends : goal.returns-in-Ok-Some-clause-ends
returns-in-Ok-Some-clause-ends g c =
    unopened_ends g.P.Program.command g.P.FileProgram.file_of (texts_of c.args.asked.now.words.now) _ _ _ _ _ _ c.as_bytes.result.now
    c.in-Err-open.why (search rules) c.refuse_file.ensures (search rules) (search rules)
