use Rattle.std.proofs.Common.{◌≡◌, ◌+◌, ◌*◌, ◌<◌, ℕ, suc, length, min, refl, subst, arith}
use Rattle.adf_volume.specs.Walk.{data_count}
use Rattle.adf_check.specs.{Reading.IsAtNode, Store.store_value}
use Rattle.adf_check.proofs.DataSteps.{datas_end, too_short}
use Rattle.adf_check.proofs.datas.read_datas.Goals as goal

pub returns-then-tables-table-clause-fault : goal.returns-then-tables-table-clause-fault
returns-then-tables-table-clause-fault c =
    let image = c.args.image.now in
    let head = c.args.file.now.head in
    let e : c.count_of-count.result ≡ data_count image head = cc (c.count_of-count.ensures, c.kind.ensures.kind, c.requires.state.holds.size) in
    let short : 72 * length c.args.table.now < data_count image head = omega arith in
    rw c.fault_at.ensures (too_short c.requires.state refl short)

pub returns-clause-state : goal.returns-clause-state
returns-clause-state c =
    let image = c.args.image.now in
    let file = c.args.file.now in
    let store = store_value c.loop-m.store in
    let e : c.count_of-count.result ≡ data_count image file.head = cc (c.count_of-count.ensures, c.kind.ensures.kind, c.requires.state.holds.size) in
    let one : suc file.node ≡ file.node + 1 = omega arith in
    let last : ℕ = min (72 * c.loop-m.m) c.count_of-count.result in
    subst (IsAtNode image store) one (datas_end image store file c.args.table.now last c.loop-m.invariant.state (omega arith))
