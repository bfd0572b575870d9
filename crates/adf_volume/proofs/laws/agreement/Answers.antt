use Rattle.adf_volume.proofs.WalkAgreement as laws
use Rattle.adf_volume.proofs.laws.agreement.Goals as goal

pub returns-clause-part : goal.returns-clause-part
returns-clause-part c = λ letters image t l w fit v r b h. laws.agreement image t l fit w r b v h

pub returns-clause-due : goal.returns-clause-due
returns-clause-due c = λ letters image t l w fit v r a i d. laws.due_is_part image t l fit w r a i v d
