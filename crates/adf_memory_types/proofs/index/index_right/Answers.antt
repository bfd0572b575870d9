use Rattle.std.proofs.Common.{ℕ, List, arith, subst}
use Rattle.adf_volume.specs.declared.types.Types.TheVariants.{WithInternational}
use Rattle.adf_memory.specs.CheckCalls.{FillsTables}
use Rattle.adf_memory_types.proofs.KeptTables.{right_told, small_told, wrong_told}
use Rattle.adf_memory_types.proofs.index.index_right.Goals as goal

pub add_caches-requires-clause-kind : goal.add_caches-requires-clause-kind
add_caches-requires-clause-kind c =
    let p = c.put_index-number in
    (small_told c.deref.result.now c.args.entries.now p.new.entries c.args.blocks.now p.new.blocks p.new.contents p.result p.ensures
    (omega (arith, c.if-number-eq0.true))).0

pub add_caches-requires-clause-few : goal.add_caches-requires-clause-few
add_caches-requires-clause-few c =
    let p = c.put_index-number in
    (small_told c.deref.result.now c.args.entries.now p.new.entries c.args.blocks.now p.new.blocks p.new.contents p.result p.ensures
    (omega (arith, c.if-number-eq0.true))).1

pub returns-then-number-eq0 : goal.returns-then-number-eq0
returns-then-number-eq0 c = λ image read.
    let p = c.put_index-number in
    let fills = subst (λ (v : List ℕ). FillsTables WithInternational v c.args.entries.now p.new.entries c.args.blocks.now p.new.blocks
    p.new.contents p.result) c.deref.ensures.value p.ensures in
    right_told image c.args.uncached.now read c.args.entries.now p.new.entries c.args.blocks.now p.new.blocks p.new.contents p.result fills
    c.add_caches.new.contents (omega (arith, c.if-number-eq0.true)) c.add_caches.ensures

pub returns-else-number-eq0 : goal.returns-else-number-eq0
returns-else-number-eq0 c = λ image read.
    let p = c.put_index-number in
    let fills = subst (λ (v : List ℕ). FillsTables WithInternational v c.args.entries.now p.new.entries c.args.blocks.now p.new.blocks
    p.new.contents p.result) c.deref.ensures.value p.ensures in
    wrong_told image c.args.uncached.now read c.args.entries.now p.new.entries c.args.blocks.now p.new.blocks p.new.contents p.result fills
    (λ zero. absurd (omega (arith, c.if-number-eq0.false, zero)))
