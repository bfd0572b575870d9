use Rattle.std.proofs.Common.{◌++◌, arith, subst, sym}
use Rattle.adf_keep.specs.{Marks.AreClaimed, File.named_at}
use Rattle.adf_keep.proofs.TableNames.{claims_more, data_refused, firsts_more, named_is, table_next}
use Rattle.adf_keep.proofs.tables.claim_named.Goals as goal

pub returns-in-Err-clause-claims : goal.returns-in-Err-clause-claims
returns-in-Err-clause-claims c = λ n bs are.
    subst (λ v. AreClaimed n v.items (bs ++ c.loop-k.datas.items)) (sym c.in-Err.ensures.same) (c.loop-k.invariant.claims n bs are)

pub loop-k-preserved : goal.loop-k-preserved
loop-k-preserved c =
    let more = c.in_ok-push-in-Ok.ensures.items in
    let table = c.table_of-table.ensures c.args.head c.loop-k.invariant.table in
    record {
      named = firsts_more (named_at c.args.image.now c.args.head) c.loop-k.k c.word-b.result c.loop-k.datas.items c.push.new.self.items
          c.loop-k.invariant.named more (named_is c.args.image.now c.args.head c.loop-k.k c.word-b.result _ table c.word-b.ensures);
      table = table_next c.args.image.now c.args.head c.loop-k.k c.table_of-table.result table;
      claims = λ n bs are.
          claims_more n c.claim.new.marks.items bs c.loop-k.datas.items c.push.new.self.items c.word-b.result more
          (c.in-Ok.ensures.claimed n (bs ++ c.loop-k.datas.items) (c.loop-k.invariant.claims n bs are));
    }

pub returns-in-Err-clause-fault : goal.returns-in-Err-clause-fault
returns-in-Err-clause-fault c = λ bs are.
    let table = c.table_of-table.ensures c.args.head c.loop-k.invariant.table in
    data_refused c.args.image.now bs c.args.head c.args.count c.loop-k.k c.word-b.result c.loop-k.datas.items c.in-Err.why
    (omega arith) c.loop-k.invariant.named (named_is c.args.image.now c.args.head c.loop-k.k c.word-b.result _ table c.word-b.ensures)
    (c.in-Err.ensures.refused _ (bs ++ c.loop-k.datas.items) (c.loop-k.invariant.claims _ bs are))
