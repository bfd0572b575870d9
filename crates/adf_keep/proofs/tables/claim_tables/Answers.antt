use Rattle.std.proofs.Common.{◌≡◌, ◌++◌, false, true, arith, refl, subst, sym}
use Rattle.adf_keep.specs.{Marks.AreClaimed, File.table_at}
use Rattle.adf_keep.proofs.TableNames.{claims_more, exts_more, exts_not, firsts_more, table_after, table_held, table_refused}
use Rattle.adf_keep.proofs.tables.claim_tables.Goals as goal

pub returns-then-not-may_be_table-clause-fault : goal.returns-then-not-may_be_table-clause-fault
returns-then-not-may_be_table-clause-fault c = λ bs are.
    exts_not c.args.image.now c.args.head c.args.count c.loop-m.m c.loop-m.own (omega arith) c.loop-m.invariant.own
    (λ may. let yes : false ≡ true = c.if-not-may_be_table.ensures.1 may in cc)

pub returns-in-Err-clause-claims : goal.returns-in-Err-clause-claims
returns-in-Err-clause-claims c = λ n bs are.
    subst (λ v. AreClaimed n v.items (bs ++ c.loop-m.tables.items)) (sym c.in-Err.ensures.same) (c.loop-m.invariant.claims n bs are)

pub returns-in-Err-clause-fault : goal.returns-in-Err-clause-fault
returns-in-Err-clause-fault c = λ bs are.
    table_refused c.args.image.now bs c.args.head c.args.count c.loop-m.m c.loop-m.own c.loop-m.tables.items c.in-Err.why
    (omega arith) c.loop-m.invariant.all c.loop-m.invariant.own
    (table_held c.args.image.now c.args.head c.loop-m.m c.loop-m.own c.requires.held c.loop-m.invariant.own (c.if-not-may_be_table.ensures.0 refl))
    (c.in-Err.ensures.refused _ (bs ++ c.loop-m.tables.items) (c.loop-m.invariant.claims _ bs are))

pub loop-m-preserved : goal.loop-m-preserved
loop-m-preserved c =
    let more = c.in_ok-push-in-Ok.ensures.items in
    record {
      all = firsts_more (table_at c.args.image.now c.args.head) c.loop-m.m c.loop-m.own c.loop-m.tables.items c.push.new.self.items
          c.loop-m.invariant.all more c.loop-m.invariant.own;
      own = table_after c.args.image.now c.args.head c.loop-m.m c.loop-m.own c.word-own.result c.loop-m.invariant.own c.word-own.ensures;
      exts = exts_more c.args.image.now c.args.head c.loop-m.m c.loop-m.own c.loop-m.invariant.exts c.loop-m.invariant.own
          (c.if-not-may_be_table.ensures.0 refl);
      claims = λ n bs are.
          claims_more n c.claim.new.marks.items bs c.loop-m.tables.items c.push.new.self.items c.loop-m.own more
          (c.in-Ok.ensures.claimed n (bs ++ c.loop-m.tables.items) (c.loop-m.invariant.claims n bs are));
    }
