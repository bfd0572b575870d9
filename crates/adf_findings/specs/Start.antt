-- Images to survey.
use Rattle.std.specs.Prelude.{◌≡◌, ◌==◌, ◌&&◌, ℕ, Bool, List, [], ◌∷◌, ◌++◌, Option, Some, None}
use Rattle.adf_base.specs.Words.{word}
use Rattle.adf_blocks.specs.{declared.cause.Cause.Cause, Sizes.blocks}
use Rattle.adf_blocks.specs.declared.layout.TheConstants.{SECONDARY_TYPE, ST_ROOT, TYPE, T_SHORT}
use Rattle.adf_names.specs.declared.kind.Kind.{Kind}
use Rattle.adf_volume.specs.{Demands.IsSize, Image.kind_of, Walk.Role.Root, declared.fault.Fault.Fault}
use Rattle.adf_findings.specs.{declared.start.Unread.Unread, Survey.FindingValue, Survey.finding}

-- an image of whole blocks, their number allowed, of this kind and number of blocks
pub record IsSized (image : List ℕ) (read : Kind) (n : ℕ) : Type 0 where
  pub size : IsSize image
  pub kind : read ≡ kind_of image
  pub blocks : n ≡ blocks image

-- the block has the types of a root
abbrev pub has_root_type : List ℕ → Bool
has_root_type b = (word b TYPE == T_SHORT) && (word b SECONDARY_TYPE == ST_ROOT)

-- the findings of the boot block: its cause, if it has one
abbrev pub boot_findings : Option Cause → List FindingValue
boot_findings None = []
boot_findings (Some c) = finding None 0 c ∷ []

-- the findings of the root: its cause, if it has one
abbrev pub root_findings : Option Fault → List FindingValue
root_findings None = []
root_findings (Some u) = finding (Some Root) u.block u.cause ∷ []

-- the findings of an image of which nothing is taken
abbrev pub unread_findings : Unread → List FindingValue
unread_findings u = boot_findings u.boot ++ finding None u.last.block u.last.cause ∷ []
