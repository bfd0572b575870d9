use Rattle.std.proofs.Common.{arith, ℕ, List, [], refl}
use Rattle.std.specs.Borrow.{Bor}
use Rattle.adf_json.proofs.JoinSteps.{joined_step}
use Rattle.adf_json.proofs.paths.joined.Goals as goal

pub loop-i-preserved : goal.loop-i-preserved
loop-i-preserved c =
    let none : Bor (List ℕ) = record { ref_ptr = (0, 0); now = [] } in
    rw (c.in_ok-push_name.ensures, c.loop-i.invariant, joined_step 47 (λ (name : Bor (List ℕ)). name.now) c.args.path.now c.loop-i.i none (omega arith)) refl
