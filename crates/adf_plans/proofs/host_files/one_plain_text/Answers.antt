use Rattle.adf_plans.proofs.PlainTexts as laws
use Rattle.adf_plans.proofs.host_files.one_plain_text.Goals as goal

pub returns : goal.returns
returns c = laws.one_plain_text
