use Rattle.std.proofs.Common.{arith, rules}
use Rattle.std.proofs.lemmas.Grind.{common_steps}
use Rattle.adf_runs.proofs.Endings.{does_weaker}
use Rattle.adf_merge_cmd.specs.Answers.{IsMergeReply}
use Rattle.adf_merge_cmd.proofs.Readings.{merged_answer}
use Rattle.adf_merge_cmd.proofs.merging.write_merged.Goals as goal

pub returns-in-Ok-doubt_lines : goal.returns-in-Ok-doubt_lines
returns-in-Ok-doubt_lines g c = does_weaker _ (IsMergeReply c.args.blocks c.args.readings.now)
    (λ reply h. merged_answer c.args.blocks c.args.readings.now c.in-Ok.merged.doubts.items _ _ _ (search rules) c.in-Ok.ensures.told (λ e. grind (arith, common_steps))
    (λ e. grind (arith, common_steps)) (λ some. grind (arith, common_steps)) reply h) c.write_image.ensures
