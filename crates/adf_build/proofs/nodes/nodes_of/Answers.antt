use Rattle.std.proofs.Common.{◌≡◌, ◌+◌, ◌∷◌, ◌++◌, ◌≤◌, [], ℕ, List, append_assoc, append-nil, arith, drop, length}
use Rattle.std.proofs.{lemmas.List.drop_all, lemmas.Grind.common_steps}
use Rattle.adf_names.specs.declared.kind.Kind.{Kind}
use Rattle.adf_tree.specs.declared.entry.Entry.{Entry}
use Rattle.adf_volume.proofs.Sizes.{size_high}
use Rattle.adf_build.specs.{Laid.heads_from, Plan.entry_blocks, Plan.nth_free}
use Rattle.adf_build.proofs.WriteSteps.{room_step}
use Rattle.adf_build.proofs.nodes.nodes_of.Goals as goal

-- the root is the first node
root_first : (none nodes rest : List ℕ) (root first : ℕ) → none ≡ [] → nodes ≡ none ++ root ∷ [] → root ≡ first → nodes ++ rest ≡ first ∷ rest
root_first none nodes rest root first e f g = grind (arith, common_steps)

-- the header of one entry more
head_step : (n : ℕ) (kind : Kind) (k next block : ℕ) (left rest : List Entry) (e : Entry) (old new all : List ℕ) → left ≡ e ∷ rest
    → new ≡ old ++ block ∷ [] → block ≡ nth_free n k → next ≡ k + entry_blocks kind e
    → old ++ heads_from n kind k left ≡ all → new ++ heads_from n kind next rest ≡ all
head_step n kind k next block left rest e old new all split more at skip inv = grind (arith, common_steps, append_assoc)

-- no entry is left
all_heads : (n : ℕ) (kind : Kind) (k i : ℕ) (es : List Entry) (nodes all : List ℕ) → length es ≤ i
    → nodes ++ heads_from n kind k (drop i es) ≡ all → nodes ≡ all
all_heads n kind k i es nodes all past inv = grind (arith, common_steps, append-nil, drop_all)

pub loop-i-init : goal.loop-i-init
loop-i-init c = grind (arith, common_steps, root_first)

pub nth_free-requires : goal.nth_free-requires
nth_free-requires c = let high = size_high c.args.plan.blocks c.args.plan.allowed in omega arith

pub next_free-k-requires : goal.next_free-k-requires
next_free-k-requires c = grind (arith, common_steps, size_high)

pub loop-i-preserved : goal.loop-i-preserved
loop-i-preserved c = grind (arith, common_steps, head_step, room_step)

pub returns : goal.returns
returns c = grind (arith, common_steps, all_heads)
