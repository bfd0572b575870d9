use Rattle.std.proofs.Common.{arith, ℕ, List, [], append_assoc}
use Rattle.std.specs.Borrow.{Bor}
use Rattle.adf_names.proofs.PathSteps.{names_step}
use Rattle.adf_names.proofs.written.push_names.Goals as goal

pub loop-i-preserved : goal.loop-i-preserved
loop-i-preserved c =
    let i = c.loop-i.i in
    let path = c.args.path.now in
    let none : Bor (List ℕ) = record { ref_ptr = (0, 0); now = [] } in
    rw (c.in_ok-push_next.ensures, c.loop-i.invariant, names_step path i none (omega arith), append_assoc)
