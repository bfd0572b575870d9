-- What is kept of a proposal.
-- Letters: g what is given; ps the entries of the proposal; vs the verdicts on them; k what is kept.
use Rattle.std.specs.Prelude.{◌≡◌, ◌≤◌, ◌+◌, ◌-◌, ℕ, List, [], ◌∷◌}
use Rattle.adf_keep.specs.Verdicts.EntryVerdict.{keeps, leaves}
use Rattle.adf_build.specs.Plan.{blocks_needed, entries_blocks}
use Rattle.adf_tree.specs.declared.entry.Entry.{Entry}
use Rattle.adf_volume.specs.Lists.{In}
use Rattle.adf_keep.specs.{Marks.IsOnce, Entry.IsEntryOf, File.held_part, State.blocks_for_entries}
use Rattle.adf_keep.specs.declared.keeping.{Kept.Kept, Terms.Terms}
use Rattle.adf_keep.specs.declared.proposal.Proposed.{Proposed}
use Rattle.adf_keep.specs.Verdicts.{AreVerdicts, Setting, EntryVerdict, kept_blocks, kept_tree, all_left_out}

-- what is given by an image, of which the input holds so many blocks, and a new volume
abbrev pub setting_of : List ℕ → ℕ → Terms → Setting
setting_of image held terms = record {
  image = held_part image held;
  tree = record { kind = terms.kind; letters = terms.letters; label = terms.label; stamps = terms.stamps; entries = [] };
  blocks = terms.blocks;
}

-- each entry has its verdict; the tree has what is kept by them and nothing else; no block is one of two entries, nor twice of one; and
-- what is left out is listed with its reasons
pub record IsOutcomeOf (g : Setting) (ps : List Proposed) (vs : List EntryVerdict) (k : Kept) : Type 0 where
  pub verdicts : AreVerdicts g ps vs
  pub tree : k.draft.tree ≡ kept_tree g vs
  pub once : IsOnce (kept_blocks vs)
  pub left_out : k.left_out.items ≡ all_left_out 0 vs
  pub left : k.left + entries_blocks k.draft.tree.kind k.draft.tree.entries ≡ blocks_for_entries g.blocks

-- an entry of the tree is that of a proposed one: it has the name that is proposed, and is what the header states
pub record IsOfProposal (g : Setting) (ps : List Proposed) (e : Entry) : Type 0 where
  pub from : Proposed
  pub proposed : In ps from
  pub name : e.name ≡ from.name
  pub claimed : List ℕ
  pub entry : IsEntryOf g.tree.kind g.image from.head e.meta e.body claimed

-- verdicts that agree: they keep the same entries, with the same blocks, and leave out the others
abbrev pub Agree : List EntryVerdict → List EntryVerdict → Type 0
Agree [] [] = Unit {0}
Agree (keeps x d ∷ vs) (keeps y e ∷ ws) = (x ≡ y) × (d ≡ e) × Agree vs ws
Agree (leaves why ∷ vs) (leaves other ∷ ws) = Agree vs ws
Agree _ _ = ⊥

-- the new volume has room for what is kept
abbrev pub HasRoomFor : Setting → List EntryVerdict → Type 0
HasRoomFor g vs = blocks_needed (kept_tree g vs) g.blocks ≤ g.blocks - 2
