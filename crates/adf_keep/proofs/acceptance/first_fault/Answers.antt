use Rattle.std.proofs.Common.{subst}
use Rattle.adf_volume.specs.{Walk.FirstFaultBy, declared.fault.Fault.Fault}
use Rattle.adf_keep.proofs.WholeRescue.{fault_told}
use Rattle.adf_keep.proofs.acceptance.first_fault.Goals as goal

pub returns-clause-fault : goal.returns-clause-fault
returns-clause-fault c =
    let f : Fault = c.in-Err.fault in
    fault_told c.known.result f _ c.known.ensures.fault c.known.ensures.known
    (λ known. subst (λ ls. FirstFaultBy ls c.args.image.now f.block f.cause) c.letters_for.ensures (c.in-Err.ensures.first known))
