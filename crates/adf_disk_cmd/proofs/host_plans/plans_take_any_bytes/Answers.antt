use Rattle.adf_disk_cmd.proofs.OtherBytes as laws
use Rattle.adf_disk_cmd.proofs.host_plans.plans_take_any_bytes.Goals as goal

pub returns : goal.returns
returns c = laws.plans_take_any_bytes
