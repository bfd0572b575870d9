use Rattle.std.proofs.Common.{◌≡◌, ◌∙◌, ◌<◌, ◌+◌, ◌^◌, ◌++◌, ap, arith, length, subst, sym}
use Rattle.std.proofs.lemmas.List.{append-nil}
use Rattle.adf_build.specs.Plan.{exts_needed}
use Rattle.adf_blocks.specs.Sizes.{count}
use Rattle.adf_keep.specs.{Marks.AreClaimed, File.firsts, File.named_at, File.table_at}
use Rattle.adf_keep.proofs.{FaultSteps.data_fault, FaultSteps.table_fault, FileForms.at_none, TableNames.exts_few, TableNames.firsts_length}
use Rattle.adf_keep.proofs.files.claim_file.Goals as goal

pub overflow_add-ext_count : goal.overflow_add-ext_count
overflow_add-ext_count c =
    let small : c.count_of-needed.result < 2 ^ 32 = omega arith in
    let few = exts_few c.count_of-needed.result in
    omega (arith, c.ext_count.ensures)

pub returns-then-is_some-clause-claims : goal.returns-then-is_some-clause-claims
returns-then-is_some-clause-claims c = λ n bs are.
    let all = bs ++ c.claim_tables.new.tables.items in
    subst (λ xs. AreClaimed n c.claim_tables.new.marks.items xs) (sym (append-nil all) ∙ ap (λ ds. all ++ ds) (sym c.requires.none))
    (c.in_ok-refused_table.ensures.claims n bs are)

pub returns-then-is_some-clause-fault : goal.returns-then-is_some-clause-fault
returns-then-is_some-clause-fault c = λ bs are.
    table_fault c.args.kind c.args.image.now bs c.args.head _ c.in_ok-refused_table.refused_table
    (ap (λ k. 1 + k) (c.ext_count.ensures ∙ ap exts_needed (c.count_of-needed.ensures ∙ ap (count c.args.kind) c.word-size.ensures)))
    (c.in_ok-refused_table.ensures.fault bs are)

pub returns-then-is_some-2-clause-claims : goal.returns-then-is_some-2-clause-claims
returns-then-is_some-2-clause-claims c = λ n bs are.
    c.in_ok-refused.ensures.claims n (bs ++ c.claim_tables.new.tables.items) (c.in_ok-refused_table.ensures.claims n bs are)

pub returns-then-is_some-2-clause-fault : goal.returns-then-is_some-2-clause-fault
returns-then-is_some-2-clause-fault c = λ bs are.
    let size = c.count_of-needed.ensures ∙ ap (count c.args.kind) c.word-size.ensures in
    let needed = ap (λ k. 1 + k) (c.ext_count.ensures ∙ ap exts_needed size) in
    let all = at_none c.in_ok-refused_table.refused_table _ (sym c.is_some.ensures ∙ c.if-is_some.false) c.in_ok-refused_table.ensures.named in
    data_fault c.args.kind c.args.image.now bs c.claim_tables.new.tables.items c.args.head c.count_of-needed.result c.in_ok-refused.refused size
    (all ∙ ap (firsts (table_at c.args.image.now c.args.head)) needed)
    (c.in_ok-refused.ensures.fault (bs ++ c.claim_tables.new.tables.items) (c.in_ok-refused_table.ensures.claims _ bs are))

pub have_forms-requires : goal.have_forms-requires
have_forms-requires c =
    let named : c.claim_named.new.datas.items ≡ firsts (named_at c.args.image.now c.args.head) c.count_of-needed.result =
    at_none c.in_ok-refused.refused _ (sym c.is_some-2.ensures ∙ c.if-is_some-2.false) c.in_ok-refused.ensures.named in
    let long : length c.deref.result.now ≡ c.count_of-needed.result =
    ap length (c.deref.ensures.value ∙ named) ∙ firsts_length (named_at c.args.image.now c.args.head) c.count_of-needed.result in
    let small : c.count_of-needed.result < 2 ^ 32 = omega arith in
    omega arith

pub returns-then-have_forms-clause-claims : goal.returns-then-have_forms-clause-claims
returns-then-have_forms-clause-claims c = λ n bs are.
    c.in_ok-refused.ensures.claims n (bs ++ c.claim_tables.new.tables.items) (c.in_ok-refused_table.ensures.claims n bs are)

pub returns-else-have_forms-clause-claims : goal.returns-else-have_forms-clause-claims
returns-else-have_forms-clause-claims c = λ n bs are.
    c.in_ok-refused.ensures.claims n (bs ++ c.claim_tables.new.tables.items) (c.in_ok-refused_table.ensures.claims n bs are)
