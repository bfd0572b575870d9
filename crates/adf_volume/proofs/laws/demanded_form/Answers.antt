use Rattle.std.proofs.Common.{rules}
use Rattle.adf_volume.proofs.FormDemands.{all_demanded, none_demanded, first_demanded, demanded_first}
use Rattle.adf_volume.proofs.laws.demanded_form.Goals as goal

pub returns-clause-all : goal.returns-clause-all
returns-clause-all c = λ b form. (none_demanded b form, all_demanded b form)

pub returns-clause-first : goal.returns-clause-first
returns-clause-first c = search (rules, demanded_first, first_demanded)
