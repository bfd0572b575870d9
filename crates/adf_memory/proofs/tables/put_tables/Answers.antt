use Rattle.std.proofs.Common.{◌≡◌, ◌+◌, ◌<◌, ◌≤◌, ◌∙◌, ℕ, suc, ap, arith, length, take}
use Rattle.adf_volume.specs.{Image.letters_of, Layout.at_node, Layout.datas_of}
use Rattle.adf_memory.specs.{Rooms.filled, Tables.all_datas, Tables.entry_table, Tables.table_entry}
use Rattle.adf_memory.proofs.TableLaws.{blocks_small, count_more, entries_more, next_blocks, next_entry, next_small, whole_blocks, whole_entries}
use Rattle.adf_memory.proofs.tables.put_tables.Goals as goal

pub overflow_cast-first : goal.overflow_cast-first
overflow_cast-first c =
    let s = c.len-i-end.ensures.fits in
    let own = letters_of c.args.volume.now in
    let image = c.args.volume.now in
    let lt : c.loop-i.i < length (s.0).entries = omega (arith, c.len-i-end.ensures.count own s.0 s.1 s.2) in
    omega (
      arith,
      blocks_small image s.0 s.1 c.loop-i.i c.loop-i.first s.2 (c.requires.few own s.0 s.1 s.2) lt
          (c.loop-i.invariant.first own s.0 s.1 s.2),
    )

pub put_blocks-requires : goal.put_blocks-requires
put_blocks-requires c =
    let s = c.len-i-end.ensures.fits in
    let own = letters_of c.args.volume.now in
    let lt : c.loop-i.i < length (s.0).entries = omega (arith, c.len-i-end.ensures.count own s.0 s.1 s.2) in
    omega (
      arith,
      next_small c.args.volume.now s.0 s.1 c.loop-i.i c.loop-i.first c.blocks_of-datas.result.now s.2 (c.requires.few own s.0 s.1 s.2) lt
          (c.loop-i.invariant.first own s.0 s.1 s.2) (c.blocks_of-datas.ensures own s.0 s.1 s.2),
    )

pub overflow_add-first : goal.overflow_add-first
overflow_add-first c =
    let s = c.len-i-end.ensures.fits in
    let own = letters_of c.args.volume.now in
    let lt : c.loop-i.i < length (s.0).entries = omega (arith, c.len-i-end.ensures.count own s.0 s.1 s.2) in
    omega (
      arith,
      next_small c.args.volume.now s.0 s.1 c.loop-i.i c.loop-i.first c.blocks_of-datas.result.now s.2 (c.requires.few own s.0 s.1 s.2) lt
          (c.loop-i.invariant.first own s.0 s.1 s.2) (c.blocks_of-datas.ensures own s.0 s.1 s.2),
    )

pub loop-i-preserved : goal.loop-i-preserved
loop-i-preserved c =
    let i : ℕ = c.loop-i.i in
    let one : i + 1 ≡ suc i = omega arith in
    record {
      first = (λ ls t l st.
          let lt : i < length l.places = omega (arith, c.len-i-end.ensures.count ls t l st, st.places) in
          count_more l i c.loop-i.first (length c.blocks_of-datas.result.now) lt (c.loop-i.invariant.first ls t l st)
          (ap length (c.blocks_of-datas.ensures ls t l st ∙ ap (datas_of l) one)));
      entries = (λ ls t l st.
          let lt : i < length t.entries = omega (arith, c.len-i-end.ensures.count ls t l st) in
          entries_more (entry_table t l) c.args.entries.now c.loop-i.entries c.put.new.table i c.table_entry.result
          (next_entry t l i c.loop-i.first c.table_entry.result st.places lt (c.loop-i.invariant.first ls t l st) (λ e at.
          c.table_entry.ensures ls t l st e at ∙ ap (λ n. table_entry (at_node c.args.volume.now l n) c.loop-i.first e) one))
          c.put.ensures (c.loop-i.invariant.entries ls t l st));
      blocks = (λ ls t l st.
          let lt : i < length l.places = omega (arith, c.len-i-end.ensures.count ls t l st, st.places) in
          next_blocks l i c.blocks_of-datas.result.now c.args.blocks.now c.put_blocks.new.table lt
          (c.blocks_of-datas.ensures ls t l st ∙ ap (datas_of l) one)
          (c.put_blocks.ensures (all_datas (take i l.places)) c.args.blocks.now (c.loop-i.invariant.first ls t l st)
          (c.loop-i.invariant.blocks ls t l st)));
    }

pub returns-clause-count : goal.returns-clause-count
returns-clause-count c = λ ls t l st.
    let le : length l.places ≤ c.loop-i.i = omega (arith, c.len-i-end.ensures.count ls t l st, st.places) in
    c.loop-i.invariant.first ls t l st ∙ ap length (whole_blocks l c.loop-i.i le)

pub returns-clause-entries : goal.returns-clause-entries
returns-clause-entries c = λ ls t l st.
    let le : length t.entries ≤ c.loop-i.i = omega (arith, c.len-i-end.ensures.count ls t l st) in
    c.loop-i.invariant.entries ls t l st ∙ ap (λ xs. filled xs c.args.entries.now) (whole_entries t l c.loop-i.i st.places le)

pub returns-clause-blocks : goal.returns-clause-blocks
returns-clause-blocks c = λ ls t l st.
    let le : length l.places ≤ c.loop-i.i = omega (arith, c.len-i-end.ensures.count ls t l st, st.places) in
    c.loop-i.invariant.blocks ls t l st ∙ ap (λ xs. filled xs c.args.blocks.now) (whole_blocks l c.loop-i.i le)
