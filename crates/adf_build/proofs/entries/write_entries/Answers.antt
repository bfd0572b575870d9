use Rattle.std.proofs.Common.{◌≡◌, ◌∷◌, ◌+◌, ◌∙◌, ℕ, List, drop, ap, refl, sym, arith, rules, slice_index}
use Rattle.adf_tree.specs.declared.entry.Entry.{Entry}
use Rattle.adf_build.specs.{Laid.first_block, Plan.entry_blocks}
use Rattle.adf_build.proofs.{Order.slots_are, WriteSteps.entry_step, WriteSteps.room_step, WriteSteps.nodes_length}
use Rattle.std.proofs.lemmas.Grind.{common_steps}
use Rattle.adf_build.proofs.entries.write_entries.Goals as goal

pub loop-i-preserved : goal.loop-i-preserved
loop-i-preserved c =
    let kind = c.args.tree.now.kind in
    let es : List Entry = c.args.tree.now.entries in
    let nodes : List ℕ = c.args.nodes.now in
    let i : ℕ = c.loop-i.i in
    let k : ℕ = c.loop-i.k in
    let e : Entry = c.entry_at-entry.result.now in
    let split : drop i es ≡ e ∷ drop (i + 1) es = c.entry_at-entry.ensures in
    let skip : c.next_free-k.result ≡ k + entry_blocks kind e = rw c.kind-in-loop-i.ensures at c.next_free-k.ensures in
    let slots = slots_are c.args.tree.now.letters c.slots_between-slots.result nodes es (i + 1) (search rules)
    (λ s h. c.slots_between-slots.ensures s h
    ∙ ap (first_block (slice_index nodes)) (sym (c.loop-i.invariant.chains (i + 1) s (omega arith)))) in
    record {
      work = entry_step c.write_entry.new.image c.loop-i.image _ nodes c.slots_between-slots.result c.args.plan.blocks c.args.tree.now c.kind.result
          (drop i es) (drop (i + 1) es) (i + 1) k c.next_free-k.result (i + 2) e
          (record { k = k; parent = c.parent_block.result; next = c.next_of.result })
          split c.kind.ensures (omega arith) skip c.requires.nodes refl c.parent_block.ensures c.next_of.ensures slots c.loop-i.invariant.work
          c.write_entry.ensures;
      room = room_step kind k c.next_free-k.result _ (drop i es) (drop (i + 1) es) e split skip c.loop-i.invariant.room;
      within = c.children_end-end.ensures.within;
      low = c.children_end-end.ensures.past;
      chains = λ q s h. c.loop-i.invariant.chains q s (omega arith) ∙ c.children_end-end.ensures.others q s (λ z. omega arith);
    }

pub slots_between-slots-requires-clause-nodes : goal.slots_between-slots-requires-clause-nodes
slots_between-slots-requires-clause-nodes c = grind (arith, nodes_length)

pub parent_block-requires-clause-nodes : goal.parent_block-requires-clause-nodes
parent_block-requires-clause-nodes c = grind (arith, nodes_length)

pub next_of-requires-clause-nodes : goal.next_of-requires-clause-nodes
next_of-requires-clause-nodes c = grind (arith, nodes_length)

pub returns : goal.returns
returns c = grind (arith, common_steps)
