-- What a rescue keeps.
-- Letters: t a tree and l its layout; n a node; k the number of a data block, from 0; b a block; h the block of a header; p a prepared rescue; cs the
-- claims and c one; ds the deleted headers and d one; i the index of a claim; ps what is proposed and q one entry of it; vs the verdicts; x an addition.
use Rattle.std.specs.Prelude.{◌≡◌, ◌≤◌, ◌+◌, ◌++◌, ◌⊎◌, ℕ, true, false, List, [], Some, length, slice_get}
use Rattle.std.proofs.Common.{suc}
use Rattle.adf_base.specs.declared.hash.Letters.{Letters, TheVariants.Ascii}
use Rattle.adf_names.specs.declared.kind.Kind.{TheVariants.Ffs}
use Rattle.adf_tree.specs.{Additions.Addition, Tree.Tree}
use Rattle.adf_blocks.specs.Sizes.{blocks}
use Rattle.adf_volume.specs.{Fits.FitsBy, Layout.Layout, Layout.at_node, Layout.datas_of, Lists.At, Lists.In}
use Rattle.adf_volume.specs.{Types.letters_for, declared.types.Types.Types, declared.types.Types.TheVariants.Plain, declared.types.Types.TheVariants.WithInternational}
use Rattle.adf_build.specs.Building.{IsBuildable}
use Rattle.adf_judge.specs.{declared.judgement.Claim.Claim, declared.judgement.DeletedHeader.DeletedHeader, declared.judgement.Reading.Reading}
use Rattle.adf_keep.specs.{File.held_part, File.says_ofs_data, Marks.IsOnce, Proposing.IsProposalOf, Proposing.is_proposed, Proposing.is_whole}
use Rattle.adf_keep.specs.{declared.prepared.Prepared.Prepared, declared.prepared.RescueTerms.RescueTerms}
use Rattle.adf_keep.specs.{declared.proposal.LeftOut.LeftOut, declared.proposal.Proposed.Proposed}
use Rattle.adf_keep.specs.declared.proposal.Why.{Why}
use Rattle.adf_keep.specs.Verdicts.{AreVerdicts, EntryVerdict, EntryVerdict.keeps, Setting, kept_blocks, kept_tree}

-- a data block of file n says that it is an OFS one of that file
abbrev pub FileSaysOfs : List ℕ → Layout → ℕ → Type 0
FileSaysOfs image l n = (k : ℕ) × (b : ℕ) × At (datas_of l n) k b × (says_ofs_data image (at_node image l n) (suc k) b ≡ true)

-- a data block of an FFS volume says that it is an OFS one of its file
abbrev pub SaysOfs : List ℕ → Tree → Layout → Type 0
SaysOfs image t l = (t.kind ≡ Ffs) × ((n : ℕ) × FileSaysOfs image l n)

-- the rescue of an image that is accepted where these types are: the tree that fits it, in as many blocks, and nothing is left out
pub record IsOwnTree (types : Types) (image : List ℕ) (p : Prepared) : Type 0 where
  pub layout : Layout
  pub fits : FitsBy (letters_for types image) image p.tree layout
  pub size : p.blocks ≡ blocks image
  pub room : IsBuildable p.tree p.blocks
  pub none_out : p.left_out.items ≡ []
  pub no_deleted_out : p.deleted_out.items ≡ []

-- entry i of a proposal is kept
abbrev pub IsKeptAt : List EntryVerdict → ℕ → Type 0
IsKeptAt vs i = (x : Addition) × (claimed : List ℕ) × (slice_get vs i ≡ Some (keeps x claimed))

-- claim i is left out, for a reason
abbrev pub IsLeftOut : List LeftOut → ℕ → Type 0
IsLeftOut out i = (why : Why) × In out (record { index = i; why = why })

-- of the entries that are left out these are all that are claims and proposed
abbrev pub TellsClaims : List Claim → List LeftOut → List LeftOut → Type 0
TellsClaims cs outs told = (x : LeftOut) (c : Claim) → In outs x → slice_get cs x.index ≡ Some c → is_proposed c ≡ true → In told x

-- an entry that is left out is that of a whole deleted file, of headers that begin at index `first` of a proposal
pub record IsOfDeleted (ds : List DeletedHeader) (first : ℕ) (x y : LeftOut) : Type 0 where
  pub header : DeletedHeader
  pub index : x.index ≡ first + y.index
  pub at : slice_get ds y.index ≡ Some header
  pub whole : is_whole header ≡ true
  pub reason : y.why ≡ x.why

-- of the entries that are left out these are all that are whole deleted files
abbrev pub TellsDeleted : List DeletedHeader → ℕ → List LeftOut → List LeftOut → Type 0
TellsDeleted ds first outs told = (x y : LeftOut) → In outs x → IsOfDeleted ds first x y → In told y

-- a list with more entries behind
abbrev pub IsBehind : List Proposed → List Proposed → Type 0
IsBehind ps qs = (rest : List Proposed) × (qs ≡ ps ++ rest)

-- the first entries of a proposal are those of the claims
pub record ProposesClaims (cs : List Claim) (ps : List Proposed) : Type 0 where
  pub all : length cs ≤ length ps
  pub each : (i : ℕ) (c : Claim) (q : Proposed) → slice_get cs i ≡ Some c → slice_get ps i ≡ Some q → IsProposalOf c q

-- the letters of the names of a new volume, of an image that is read by these
abbrev pub letters_within : Types → Letters → Letters
letters_within Plain letters = Ascii
letters_within WithInternational letters = letters

-- The tree has of some proposal what is kept by the verdicts on it, which `AreVerdicts` says; no block is one of two entries, nor twice of one. The
-- first entries of the proposal are those of the claims, and each claim that is proposed is kept or listed. So is each whole deleted file, where they
-- are asked for: the directory of these and their headers come behind all claims.
pub record IsRescued (input : List ℕ) (reading : Reading) (cs : List Claim) (ds : List DeletedHeader) (terms : RescueTerms) (p : Prepared) : Type 0 where
  pub setting : Setting
  pub held : ℕ
  pub image : setting.image ≡ held_part input held
  pub kind : setting.tree.kind ≡ reading.kind
  pub letters : setting.tree.letters ≡ letters_within terms.types reading.letters
  pub size : p.blocks ≡ reading.blocks
  pub room : setting.blocks ≡ reading.blocks
  pub ps : List Proposed
  pub vs : List EntryVerdict
  pub verdicts : AreVerdicts setting ps vs
  pub tree : p.tree ≡ kept_tree setting vs
  pub once : IsOnce (kept_blocks vs)
  pub claims : ProposesClaims cs ps
  pub alone : terms.with_deleted ≡ false → length ps ≡ length cs
  pub told : (i : ℕ) (c : Claim) → slice_get cs i ≡ Some c → is_proposed c ≡ true → IsKeptAt vs i ⊎ IsLeftOut p.left_out.items i
  pub deleted_told : terms.with_deleted ≡ true → (i : ℕ) (d : DeletedHeader) → slice_get ds i ≡ Some d → is_whole d ≡ true
      → IsKeptAt vs (length cs + 1 + i) ⊎ IsLeftOut p.deleted_out.items i
