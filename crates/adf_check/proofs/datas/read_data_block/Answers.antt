use Rattle.std.proofs.Common.{◌≡◌, ◌++◌, ◌∷◌, [], length, set, ap, refl, ◌∙◌, rules, arith}
use Rattle.adf_volume.specs.declared.owner_class.OwnerClass.TheVariants as class
use Rattle.adf_check.specs.Store.{store_value}
use Rattle.adf_check.proofs.{ClaimSteps.claim_refused, NumberBounds.lists_short}
use Rattle.adf_check.proofs.DataSteps.{data_done, data_enough, data_fault, data_named, table_inside}
use Rattle.adf_check.proofs.datas.read_data_block.Goals as goal

pub check_data-requires-clause-blocks : goal.check_data-requires-clause-blocks
check_data-requires-clause-blocks c = table_inside c.requires.state

pub overflow_cast-place : goal.overflow_cast-place
overflow_cast-place c = omega (arith, (lists_short refl c.requires.state.read).1, c.len-place.ensures)

pub claim_named-requires-clause-place : goal.claim_named-requires-clause-place
claim_named-requires-clause-place c = omega (arith, (lists_short refl c.requires.state.read).1, c.len-place.ensures)

pub returns-in_err-claim_named-clause-fault : goal.returns-in_err-claim_named-clause-fault
returns-in_err-claim_named-clause-fault c =
    let q = c.requires in
    claim_refused (data_named q.state q.datas q.inside q.link)
    (data_enough q.state q.datas q.inside q.link) c.from_residual.result (search rules)

pub returns-in-Err-clause-fault : goal.returns-in-Err-clause-fault
returns-in-Err-clause-fault c =
    let q = c.requires in
    let claimed = c.in_ok-claim_named.ensures in
    rw c.fault_at.ensures (data_fault q.state q.datas q.inside q.link claimed.range claimed.free
    c.in-Err.cause c.in-Err.ensures.fault)

pub returns-clause-state : goal.returns-clause-state
returns-clause-state c =
    let q = c.requires in
    let store = store_value c.args.store.now in
    let b = c.args.link.block in
    let claimed = c.in_ok-claim_named.ensures in
    let count : c.len-place.result ≡ length store.datas = search rules in
    let longer : c.push.new.self.items ≡ store.datas ++ b ∷ [] = search rules in
    data_done q.state q.datas q.inside q.link claimed.range claimed.free (search rules) (record {
      owners = claimed.ok ∙ ap (λ i. set store.owners b (record { class = class.Data; place = i })) count;
      headers = refl;
      dirs = q.state.read.tells.dirs;
      starts = refl;
      exts = refl;
      datas = longer;
      used = claimed.count;
    })
