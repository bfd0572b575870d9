use Rattle.std.proofs.Common.{refl, rules}
use Rattle.adf_check.proofs.{ClaimSteps.claim_refused, PageSteps.page_by_number, PageSteps.page_done, PageSteps.page_fault, PageSteps.page_named}
use Rattle.adf_check.proofs.pages.read_page_at.Goals as goal

pub returns-in_err-claim_named-clause-fault : goal.returns-in_err-claim_named-clause-fault
returns-in_err-claim_named-clause-fault c =
    claim_refused (page_named c.requires.needed c.requires.state c.page_named-b.ensures.exact) tt c.from_residual.result
    (search rules)

pub returns-in-Ok-clause-state : goal.returns-in-Ok-clause-state
returns-in-Ok-clause-state c =
    let claimed = c.in_ok-claim_named.ensures in
    page_done c.requires.needed c.requires.state c.page_named-b.ensures.exact claimed.range claimed.free
    c.block.ensures.block c.in-Ok.ensures.0
    (record {
      owners = claimed.ok;
      headers = refl;
      dirs = c.requires.state.read.tells.dirs;
      starts = refl;
      exts = refl;
      datas = refl;
      used = claimed.count;
    })

pub returns-in-Ok-clause-page : goal.returns-in-Ok-clause-page
returns-in-Ok-clause-page c = page_by_number c.requires.needed c.requires.state c.page_named-b.ensures.exact

pub returns-in-Err-clause-fault : goal.returns-in-Err-clause-fault
returns-in-Err-clause-fault c =
    let claimed = c.in_ok-claim_named.ensures in
    rw c.fault_at.ensures (page_fault c.requires.needed c.requires.state c.page_named-b.ensures.exact claimed.range claimed.free
    c.block.ensures.block c.in-Err.cause c.in-Err.ensures)
