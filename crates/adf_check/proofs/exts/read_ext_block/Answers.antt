use Rattle.std.proofs.Common.{◌≡◌, ◌++◌, ◌∷◌, [], length, set, ap, refl, ◌∙◌, rules, arith}
use Rattle.adf_volume.specs.declared.owner_class.OwnerClass.TheVariants as class
use Rattle.adf_check.specs.Store.{store_value}
use Rattle.adf_check.proofs.{NumberBounds.lists_short, ClaimSteps.claim_refused, ExtSteps.ext_named, ExtSteps.ext_fault, ExtSteps.ext_done}
use Rattle.adf_check.proofs.exts.read_ext_block.Goals as goal

pub returns-in_err-claim_named-clause-fault : goal.returns-in_err-claim_named-clause-fault
returns-in_err-claim_named-clause-fault c =
    claim_refused (ext_named c.requires.state c.requires.some) tt c.from_residual.result (search rules)

pub returns-in-Err-clause-fault : goal.returns-in-Err-clause-fault
returns-in-Err-clause-fault c =
    let claimed = c.in_ok-claim_named.ensures in
    rw c.fault_at.ensures (ext_fault c.requires.state c.requires.some claimed.range claimed.free c.block.ensures.block
    c.in-Err.cause c.in-Err.ensures)

pub returns-clause-state : goal.returns-clause-state
returns-clause-state c =
    let store = store_value c.args.store.now in
    let b = c.args.link.block in
    let claimed = c.in_ok-claim_named.ensures in
    let count : c.len-place.result ≡ length store.exts = search rules in
    let pushed : c.push.new.self.items ≡ c.args.table.now.items ++ b ∷ [] = search rules in
    let longer : c.push-2.new.self.items ≡ store.exts ++ b ∷ [] = search rules in
    ext_done c.requires.state c.requires.some claimed.range claimed.free c.block.ensures.block c.in-Ok.ensures.0
    c.in-Ok.ensures.1 c.next.ensures pushed (record {
      owners = claimed.ok ∙ ap (λ i. set store.owners b (record { class = class.Ext; place = i })) count;
      headers = refl;
      dirs = c.requires.state.read.tells.dirs;
      starts = refl;
      exts = longer;
      datas = refl;
      used = claimed.count;
    })

pub overflow_cast-place : goal.overflow_cast-place
overflow_cast-place c = omega (arith, (lists_short refl c.requires.state.read).0, c.len-place.ensures)

pub claim_named-requires-clause-place : goal.claim_named-requires-clause-place
claim_named-requires-clause-place c = omega (arith, (lists_short refl c.requires.state.read).0, c.len-place.ensures)
