-- The state of a keeper.
-- Letters: d a draft; k a keeper; g what is given; vs the verdicts so far.
use Rattle.std.specs.Prelude.{◌≡◌, ◌+◌, ◌-◌, ◌∷◌, ◌++◌, ℕ, List, [], Option, Some, None, length, slice_index_or}
use Rattle.adf_names.specs.declared.kind.Kind.{Kind}
use Rattle.adf_tree.specs.declared.entry.Body.{Body}
use Rattle.adf_blocks.specs.Sizes.{blocks}
use Rattle.adf_drafts.specs.Draft.{DraftValue, IsDirectoryOf}
use Rattle.adf_build.specs.Plan.{data_blocks, entries_blocks, exts_needed, reserved}
use Rattle.adf_keep.specs.{Marks.AreClaimed, declared.keeper.Keeper.Keeper}
use Rattle.adf_keep.specs.Verdicts.{Setting, IsVerdictFor, EntryVerdict, kept_blocks, kept_tree, all_left_out, dir_path}
use Rattle.adf_keep.specs.declared.proposal.Proposed.{Proposed}

-- a directory is that of a path; there is none without a path
abbrev pub IsPlaceOf : DraftValue → Option (List (List ℕ)) → Option ℕ → Type 0
IsPlaceOf d (Some path) (Some m) = IsDirectoryOf d path m
IsPlaceOf d None None = Unit {0}
IsPlaceOf d _ _ = ⊥

-- the blocks that a volume of n blocks has for entries
abbrev pub blocks_for_entries : ℕ → ℕ
blocks_for_entries n = n - 2 - (1 + reserved n)

-- the number of blocks of an entry with this body
abbrev pub body_cost : Kind → Body → ℕ
body_cost kind body = 1 + exts_needed (data_blocks kind body) + data_blocks kind body

-- all but the claims after these verdicts
pub record IsKeeper (g : Setting) (vs : List EntryVerdict) (k : Keeper) : Type 0 where
  pub image : k.image ≡ g.image
  pub kind : k.kind ≡ g.tree.kind
  pub tree : k.draft.tree ≡ kept_tree g vs
  pub count : length k.places.items ≡ length vs + 1
  pub places : (p : ℕ) → IsPlaceOf k.draft (dir_path vs p) (slice_index_or k.places.items p None)
  pub left : k.left + entries_blocks g.tree.kind k.draft.tree.entries ≡ blocks_for_entries g.blocks
  pub left_out : k.left_out.items ≡ all_left_out 0 vs

-- the state after these verdicts
pub record IsState (g : Setting) (vs : List EntryVerdict) (k : Keeper) : Type 0 where
  pub keeper : IsKeeper g vs k
  pub claims : AreClaimed (blocks g.image) k.marks.items (kept_blocks vs)

-- the state after one more verdict, on this entry
abbrev pub TakesOne : Setting → List EntryVerdict → Proposed → Keeper → Type 0
TakesOne g vs p k = (v : EntryVerdict) × IsVerdictFor g vs p v × IsState g (vs ++ v ∷ []) k
