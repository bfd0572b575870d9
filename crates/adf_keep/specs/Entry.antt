-- The entries of an image, by their headers alone.
-- Letters: h the block of a header; claimed the blocks that an entry claims.
use Rattle.std.specs.Prelude.{◌≡◌, ◌⊎◌, ◌∷◌, ℕ, List, [], Option, Some, None}
use Rattle.adf_base.specs.Words.{block}
use Rattle.adf_names.specs.{declared.kind.Kind.Kind, declared.meta.Meta.Meta}
use Rattle.adf_tree.specs.declared.entry.Body.{Body, TheVariants.Dir}
use Rattle.adf_blocks.specs.{HeadBlock.meta_stated}
use Rattle.adf_blocks.specs.declared.layout.TheConstants.{SECONDARY_TYPE, ST_DIR}
use Rattle.adf_volume.specs.Image.{word_in}
use Rattle.adf_keep.specs.File.{IsFileOf, IsHeld}

-- a directory, by its header, which is all that it claims
pub record IsDirOf (image : List ℕ) (h : ℕ) (body : Body) (claimed : List ℕ) : Type 0 where
  pub type : word_in image h SECONDARY_TYPE ≡ ST_DIR
  pub body_is : body ≡ Dir
  pub all : claimed ≡ h ∷ []

-- the comment, the protection bits and the date are those that the header at block h states, and the body is that of its directory or file
pub record IsHeadedBy (kind : Kind) (image : List ℕ) (h : ℕ) (meta : Meta) (body : Body) (claimed : List ℕ) : Type 0 where
  pub held : IsHeld image h
  pub meta_is : meta ≡ meta_stated (block image h)
  pub content : IsDirOf image h body claimed ⊎ IsFileOf kind image h body claimed

-- the metadata of a directory that is made: no comment, no protection bits, the earliest date
abbrev pub made_meta : Meta
made_meta = record { comment = []; protect = 0; stamp = record { days = 0; mins = 0; ticks = 0 } }

-- a directory that is made
pub record IsMadeDir (meta : Meta) (body : Body) (claimed : List ℕ) : Type 0 where
  pub meta_is : meta ≡ made_meta
  pub body_is : body ≡ Dir
  pub none : claimed ≡ []

-- an entry that is kept: by its header, or made if it has none
abbrev pub IsEntryOf : Kind → List ℕ → Option ℕ → Meta → Body → List ℕ → Type 0
IsEntryOf kind image None meta body claimed = IsMadeDir meta body claimed
IsEntryOf kind image (Some h) meta body claimed = IsHeadedBy kind image h meta body claimed
