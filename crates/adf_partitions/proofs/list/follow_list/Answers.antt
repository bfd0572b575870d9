use Rattle.std.proofs.{Common.sym, Common.subst, Common.arith, lemmas.List.length_push, lemmas.Grind.common_steps}
use Rattle.adf_base.proofs.Results.{on_err}
use Rattle.adf_partitions.specs.Disks.{IsFound, IsFound.start}
use Rattle.adf_partitions.proofs.{FoundSteps.one_more, NamedPartitions.names_one}
use Rattle.adf_partitions.proofs.list.follow_list.Goals as goal

pub loop-next-init : goal.loop-next-init
loop-next-init c =
    let t = c.args.tables in
    subst (λ ps. IsFound c.args.bytes.now c.args.blocks t ps t.rdsk t.first) (sym c.new-found.ensures.items) start

pub loop-next-smaller : goal.loop-next-smaller
loop-next-smaller c = grind (arith, common_steps, length_push)

pub loop-next-preserved : goal.loop-next-preserved
loop-next-preserved c = grind (arith, common_steps, one_more)

pub returns-in_err-push-clause-begun : goal.returns-in_err-push-clause-begun
returns-in_err-push-clause-begun c = grind (arith, common_steps, on_err, names_one)
