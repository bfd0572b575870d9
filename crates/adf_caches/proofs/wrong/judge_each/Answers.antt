use Rattle.adf_caches.proofs.Wrongness.{fresh_blocks, fresh_entries, one_more_judged}
use Rattle.adf_caches.proofs.wrong.judge_each.Goals as goal

pub loop-i-preserved : goal.loop-i-preserved
loop-i-preserved c = λ w fs survey start.
    let image = c.args.survey.now.image in
    let i = c.loop-i.i in
    let old = c.loop-i.marks in
    let new = c.is_unlike.new.marks in
    let told = c.loop-i.wrong.items in
    let before = c.loop-i.invariant w fs survey start in
    one_more_judged image w i old new told c.is_unlike.result c.push.new.self.items before
    (c.is_unlike.ensures.told w fs survey (fresh_blocks image w i old new told before) (fresh_entries image w i old new told before))
    (c.is_unlike.ensures.blocks w fs survey) (c.is_unlike.ensures.others w fs survey) c.in_ok-push.ensures.items
