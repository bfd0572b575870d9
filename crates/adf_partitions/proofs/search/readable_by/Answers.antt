use Rattle.std.proofs.{Common.subst, Common.sym, lemmas.Result.IfOk-weaker, lemmas.Result.on_err_weaker}
use Rattle.adf_base.proofs.Results.{on_err}
use Rattle.adf_partitions.specs.{Disks.IsFollowed, declared.layout.TheConstants.MOST_TABLES}
use Rattle.adf_partitions.specs.Searches.{AreReadable, with_all_lost, AreReadable.cut, AreReadable.whole}
use Rattle.adf_partitions.proofs.NamedPartitions.{has_readable}
use Rattle.adf_partitions.proofs.search.readable_by.Goals as goal

pub returns-in-None-clause-readable : goal.returns-in-None-clause-readable
returns-in-None-clause-readable c =
    let follows = IsFollowed c.args.bytes.now c.args.blocks c.args.tables c.in_ok-list.list.partitions.items in
    whole (record { tables = c.requires; whole = subst follows c.in-None.is c.in_ok-list.ensures.followed })

pub returns-in-Some-clause-readable : goal.returns-in-Some-clause-readable
returns-in-Some-clause-readable c =
    let follows = IsFollowed c.args.bytes.now c.args.blocks c.args.tables c.in_ok-list.list.partitions.items in
    let stands = cut c.requires (subst follows c.in-Some.is c.in_ok-list.ensures.followed) in
    IfOk-weaker c.with_all_lost.result _ _ (λ v e. subst (AreReadable c.args.bytes.now c.args.blocks) (sym e) stands) c.with_all_lost.ensures.all

pub returns-in_err-list-clause-begun : goal.returns-in_err-list-clause-begun
returns-in_err-list-clause-begun c =
    on_err c.from_residual.result (has_readable c.args.bytes.now c.args.blocks c.args.tables c.requires c.in_err-list.ensures.begun)

pub returns-in-Some-clause-begun : goal.returns-in-Some-clause-begun
returns-in-Some-clause-begun c =
    let t = c.args.tables in
    let ps = c.in_ok-list.list.partitions.items in
    let follows = IsFollowed c.args.bytes.now c.args.blocks t ps in
    let stands = cut c.requires (subst follows c.in-Some.is c.in_ok-list.ensures.followed) in
    let all = with_all_lost c.args.bytes.now c.args.blocks t ps MOST_TABLES in
    on_err_weaker c.with_all_lost.result (λ some. (all, stands, some)) c.with_all_lost.ensures.begun
