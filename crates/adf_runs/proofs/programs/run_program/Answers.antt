use Rattle.adf_words.specs.CommandLine.{texts_of}
use Rattle.adf_runs.proofs.CommandRuns.{no_work_ends}
use Rattle.adf_runs.proofs.programs.run_program.Goals as goal

pub returns-in-Err-clause-ends : goal.returns-in-Err-clause-ends
returns-in-Err-clause-ends g c =
    no_work_ends g.P.Program.command (texts_of c.args.words.now) c.in-Err.fault _ _ _ _ _ g.met.P.Program.consistent c.in-Err.ensures.fault
    c.refuse.ensures.status c.requires.reads c.requires.writes (rw c.usage.ensures at c.refuse.ensures.said)
