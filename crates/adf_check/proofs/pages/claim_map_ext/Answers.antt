use Rattle.std.proofs.Common.{refl, rules}
use Rattle.adf_check.proofs.{ClaimSteps.claim_refused, PageSteps.map_ext_done, PageSteps.map_ext_named}
use Rattle.adf_check.proofs.pages.claim_map_ext.Goals as goal

pub returns-in_err-claim_named-clause-fault : goal.returns-in_err-claim_named-clause-fault
returns-in_err-claim_named-clause-fault c =
    let q = c.requires in
    claim_refused (map_ext_named q.needed q.past q.first q.state c.map_ext_named-b.ensures.exact) tt c.from_residual.result
    (search rules)

pub returns-clause-state : goal.returns-clause-state
returns-clause-state c =
    let q = c.requires in
    let claimed = c.in_ok-claim_named.ensures in
    map_ext_done q.needed q.past q.first q.state c.map_ext_named-b.ensures.exact claimed.range claimed.free
    (record { owners = claimed.ok; headers = refl; dirs = q.state.read.tells.dirs; starts = refl; exts = refl; datas = refl; used = claimed.count })
