-- What becomes of the entries of a proposal, in order.
-- Letters: g what is given; ps proposed entries, p one; vs the verdicts on the entries before, v one; x an addition, claimed its blocks;
-- dir the path of a directory in the new tree; k what is kept.
use Rattle.std.specs.Prelude.{◌≡◌, ◌-◌, ◌<◌, ℕ, cond, IsOk, Err, List, [], ◌∷◌, ◌++◌, Option, Some, None, slice_get}
use Rattle.std.specs.{List.flat_map, Option.option_and_then}
use Rattle.std.proofs.Common.{zero, suc}
use Rattle.adf_tree.specs.{Additions.Addition, Additions.entries_of_additions_by, Tree.Tree, Tree.is_dir_body, Tree.room_for_by, Tree.with_entry_by}
use Rattle.adf_tree.specs.declared.tree.RoomFault.TheVariants.{Exists}
use Rattle.adf_build.specs.Plan.{blocks_needed}
use Rattle.adf_keep.specs.declared.proposal.LeftOut.{LeftOut}
use Rattle.adf_keep.specs.declared.proposal.Proposed.{Proposed}
use Rattle.adf_keep.specs.declared.proposal.Why.{Why, TheVariants.NameTaken, TheVariants.NoDirectory, TheVariants.NoRoom}
use Rattle.adf_keep.specs.{Entry.IsEntryOf, Reasons.IsEntryFault}

-- what is given: the blocks of the image that the input holds; the new tree before its first entry; and the number of blocks of the new volume
pub record Setting : Type 0 where
  pub image : List ℕ
  pub tree : Tree
  pub blocks : ℕ

-- a proposed entry is kept, as an addition that claims these blocks of the image, or left out
pub data EntryVerdict : Type 0 where
  keeps : (x : Addition) (claimed : List ℕ) → EntryVerdict
  leaves : (why : Why) → EntryVerdict

-- the addition of a verdict
abbrev pub kept_addition : EntryVerdict → List Addition
kept_addition (keeps x claimed) = x ∷ []
kept_addition (leaves why) = []

-- the blocks of a verdict
abbrev pub verdict_blocks : EntryVerdict → List ℕ
verdict_blocks (keeps x claimed) = claimed
verdict_blocks (leaves why) = []

-- the blocks of all entries that are kept: their headers, extension blocks and data blocks
abbrev pub kept_blocks : List EntryVerdict → List ℕ
kept_blocks vs = flat_map verdict_blocks vs

-- the tree of what is kept
abbrev pub kept_tree : Setting → List EntryVerdict → Tree
kept_tree g vs = record g.tree { entries = entries_of_additions_by g.tree.letters (flat_map kept_addition vs) }

-- the path of a directory that is kept
abbrev pub kept_directory : EntryVerdict → Option (List (List ℕ))
kept_directory (keeps x claimed) = cond (is_dir_body x.body) (Some x.path) None
kept_directory (leaves why) = None

-- the path of the directory of an entry: 0 is the root, else one more than the index of an entry before
abbrev pub dir_path : List EntryVerdict → ℕ → Option (List (List ℕ))
dir_path vs zero = Some []
dir_path vs (suc i) = option_and_then kept_directory (slice_get vs i)

-- an addition of an entry, after the verdicts on the entries before: it is in the directory and has the name that are proposed, the tree has
-- room for it, and it is what its header states
pub record StandsAs (g : Setting) (vs : List EntryVerdict) (p : Proposed) (x : Addition) (claimed : List ℕ) : Type 0 where
  pub dir : List (List ℕ)
  pub directory : dir_path vs p.directory ≡ Some dir
  pub path : x.path ≡ dir ++ p.name ∷ []
  pub room : IsOk (room_for_by g.tree.letters (kept_tree g vs).entries x.path)
  pub entry : IsEntryOf g.tree.kind g.image p.head x.meta x.body claimed

-- the blocks do not suffice for one more entry
abbrev pub LacksRoom : Setting → List EntryVerdict → Addition → Type 0
LacksRoom g vs x = g.blocks - 2 < blocks_needed (with_entry_by g.tree.letters (kept_tree g vs) x.path x.meta x.body) g.blocks

-- why an entry is left out: its directory is not kept; there is an entry of its name; the blocks do not suffice; or it is not read
abbrev pub IsReason : Setting → List EntryVerdict → Proposed → Why → Type 0
IsReason g vs p NoDirectory = dir_path vs p.directory ≡ None
IsReason g vs p NameTaken =
    (dir : List (List ℕ)) × (dir_path vs p.directory ≡ Some dir)
    × (room_for_by g.tree.letters (kept_tree g vs).entries (dir ++ p.name ∷ []) ≡ Err Exists)
IsReason g vs p NoRoom = (x : Addition) × (claimed : List ℕ) × StandsAs g vs p x claimed × LacksRoom g vs x
IsReason g vs p why = IsEntryFault g.tree.kind g.image (kept_blocks vs) p.head why

-- the verdict on an entry, after those on the entries before
pub data IsVerdictFor (g : Setting) (vs : List EntryVerdict) (p : Proposed) : EntryVerdict → Type 0 where
  is_kept : (x : Addition) (claimed : List ℕ) → StandsAs g vs p x claimed → IsVerdictFor g vs p (keeps x claimed)
  is_left_out : (why : Why) → IsReason g vs p why → IsVerdictFor g vs p (leaves why)

-- the verdicts on the entries of a proposal
pub data AreVerdicts (g : Setting) : List Proposed → List EntryVerdict → Type 0 where
  none : AreVerdicts g [] []
  more : (ps : List Proposed) (vs : List EntryVerdict) (p : Proposed) (v : EntryVerdict) → AreVerdicts g ps vs → IsVerdictFor g vs p v
      → AreVerdicts g (ps ++ p ∷ []) (vs ++ v ∷ [])

-- entry n, if the verdict leaves it out
abbrev pub left_out_at : ℕ → EntryVerdict → List LeftOut
left_out_at n (keeps x claimed) = []
left_out_at n (leaves why) = record { index = n; why = why } ∷ []

-- the entries that are left out, of those from index n on
abbrev pub all_left_out : ℕ → List EntryVerdict → List LeftOut
all_left_out n [] = []
all_left_out n (v ∷ vs) = left_out_at n v ++ all_left_out (suc n) vs
