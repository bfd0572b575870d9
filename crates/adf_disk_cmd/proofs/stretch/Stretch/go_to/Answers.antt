use Rattle.adf_disk_cmd.proofs.Stretches.{stretch_cut}
use Rattle.adf_disk_cmd.proofs.stretch.Stretch.go_to.Goals as goal
use Rattle.std.proofs.Common.{arith}

pub returns-then-first-self-ge-MOST_BEFORE-clause-stretch : goal.returns-then-first-self-ge-MOST_BEFORE-clause-stretch
returns-then-first-self-ge-MOST_BEFORE-clause-stretch g c = λ start s.
    stretch_cut start _ c.args.self.now.begin c.args.first _ c.args.self.now.bytes.items _ c.let_go.ensures.begun c.let_go.ensures.rest
    c.requires.begun (omega (arith, c.end.ensures, c.if-end-first.false)) s
