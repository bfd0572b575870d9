-- What an image becomes by a script. s is the script, es are edits, `given` are the bytes behind it, t is a tree, n a number of blocks.
use Rattle.std.specs.Prelude.{◌≡◌, ◌≤◌, ℕ, Bool, List, [], ◌∷◌, Option, Some, None, drop, false, length, true}
use Rattle.adf_blocks.specs.Sizes.{blocks, middle}
use Rattle.adf_build.specs.{Building.IsBuildable, Laid.volume, Plan.planned}
use Rattle.adf_base.specs.declared.hash.Letters.{Letters}
use Rattle.adf_boot_blocks.specs.{BootBlocks.is_bootable, Writing.cleared, Writing.installed, Writing.restored}
use Rattle.adf_boot_blocks.specs.{declared.standard.TheConstants.STANDARD_CODE}
use Rattle.adf_edits.specs.{Edits.EditValue, Edits.edited, Outline.OutlineValue, Outline.outline_of, Outline.tree_of_outline_by}
use Rattle.adf_tree.specs.{Additions.AllHaveRoomBy, Tree.Tree}
use Rattle.adf_volume.specs.{Fits.FitsBy, Layout.Layout, Types.letters_for, declared.types.Types.TheVariants.WithInternational}
use Rattle.adf_cache_laying.specs.LaidCaches.{HasCaches}
use Rattle.adf_uncached.specs.{Cached.FitsCached, Uncached.is_cached, Verdict.FitsUncached, declared.images.Uncached.Uncached}
use Rattle.adf_edit_cmd.specs.Script.{IsScript, ScriptValue, behind_file, caches_by, files_len, letters_by}
use Rattle.adf_edit_cmd.specs.Manifests.{IsManifestBy, is_manifest}
use Rattle.adf_edit_cmd.specs.declared.{old_disk.Old.Old, old_disk.TheConstants.NO_BOOT}
use Rattle.adf_edit_cmd.specs.declared.script.BootEdit.{BootEdit, TheVariants.Clear, TheVariants.Install}

-- edits make this outline of another, one after the other
unfoldable pub AreApplied : List EditValue → List ℕ → (old new : OutlineValue) → Type 0
AreApplied [] given old new = new ≡ old
AreApplied (e ∷ es) given old new =
    (next : OutlineValue) × (edited e given old ≡ Some next) × AreApplied es (behind_file e given) next new

-- an image is a volume of types 0 to 3 with this tree
abbrev pub IsVolume : List ℕ → Tree → Type 0
IsVolume image t = (l : Layout) × FitsBy (letters_for WithInternational image) image t l

-- a tree fits an image without its caches, and the caches are right
abbrev pub IsUncachedTree : Uncached → Tree → Type 0
IsUncachedTree u t = (l : Layout) × FitsUncached u.fault u.image.items t l

-- the letters of the new volume: those that the script asks for, or else those of the old one
abbrev pub letters_after : ScriptValue → Tree → Letters
letters_after s t = letters_by s.settings.letters t.letters

-- a volume of n blocks with the boot blocks that a script asks for: the standard code or none, and else those of the old image behind the
-- type, as they stand, but where that is another, with a checksum that is right if theirs was
abbrev pub booted : Option BootEdit → ℕ → List ℕ → List ℕ → List ℕ
booted None n image laid = restored laid image
booted (Some Install) n image laid = installed laid (middle n) STANDARD_CODE
booted (Some Clear) n image laid = cleared laid

-- the new image is that laid of the tree in n blocks, with these boot blocks. It is a volume of the tree by its letters, and an Amiga
-- starts from it if it has the standard code
pub record IsLaidOver (boot : Option BootEdit) (t : Tree) (n : ℕ) (image new : List ℕ) : Type 0 where
  pub room : IsBuildable t n
  pub bytes : new ≡ booted boot n image (volume t n)
  pub fits : FitsBy t.letters new t (planned t n)
  pub starts : boot ≡ Some Install → is_bootable new ≡ true

-- the disk that is edited: its tree, how many blocks it has, bytes that begin with its boot blocks, and whether its directories have caches
pub record OldDisk : Type 0 where
  pub tree : Tree
  pub blocks : ℕ
  pub boot : List ℕ
  pub caches : Bool

-- as the code has it: a tree, and the letters by which it is meant
abbrev pub disk_of : Old → OldDisk
disk_of o = record { tree = record o.tree { letters = o.letters }; blocks = o.blocks; boot = o.boot.now; caches = o.caches }

-- an image is a volume of this tree: with directory caches, which are right, or of types 0 to 3
abbrev pub IsVolumeWith : (caches : Bool) → List ℕ → Tree → Type 0
IsVolumeWith true image t = (l : Layout) × FitsCached image t l
IsVolumeWith false image t = IsVolume image t

-- it is that of an image
pub record IsOfImage (image : List ℕ) (old : OldDisk) : Type 0 where
  pub volume : IsVolumeWith (is_cached image) image old.tree
  pub size : old.blocks ≡ blocks image
  pub boot : old.boot ≡ image
  pub caches : old.caches ≡ is_cached image

-- it is that of a manifest, which has no boot blocks
pub record IsOfManifest (text : List ℕ) (old : OldDisk) : Type 0 where
  pub manifest : IsManifestBy text old.tree old.blocks
  pub boot : old.boot ≡ NO_BOOT
  pub caches : old.caches ≡ false

-- it is that of an image, or of a manifest in its place
abbrev pub IsOldBy : (manifest : Bool) → List ℕ → OldDisk → Type 0
IsOldBy true text old = IsOfManifest text old
IsOldBy false image old = IsOfImage image old

abbrev pub IsOld : List ℕ → OldDisk → Type 0
IsOld image old = IsOldBy (is_manifest image) image old

-- the new image is laid for the tree of a disk after all edits
abbrev pub IsByTree : ScriptValue → List ℕ → OldDisk → List ℕ → Type 0
IsByTree s given old new =
    (o : OutlineValue) × AreApplied s.edits given (outline_of old.tree) o × AllHaveRoomBy (letters_after s old.tree) o.additions
    × IsLaidOver s.settings.boot (tree_of_outline_by (letters_after s old.tree) o) old.blocks old.boot new

-- the bytes that begin with the boot blocks of a new volume with directory caches: those of the old image, or those that the script asks for
abbrev pub boot_kept : Option BootEdit → (image plain : List ℕ) → List ℕ
boot_kept None image plain = image
boot_kept (Some edit) image plain = plain

-- the new image is a volume with directory caches and these boot blocks, or the volume itself
abbrev pub IsCachedIf : (caches : Bool) → (boot plain new : List ℕ) → Type 0
IsCachedIf true boot plain new = HasCaches plain boot new
IsCachedIf false boot plain new = new ≡ plain

-- the same, with directory caches if the script asks for them, or asks of letters nothing and the old disk has them
abbrev pub IsByDisk : ScriptValue → List ℕ → OldDisk → List ℕ → Type 0
IsByDisk s given old new =
    (plain : List ℕ) × IsByTree s given old plain
    × IsCachedIf (caches_by s.settings.letters old.caches) (boot_kept s.settings.boot old.boot plain) plain new

-- it is that of the image, or of the manifest in its place
abbrev pub IsByScript : ScriptValue → List ℕ → List ℕ → List ℕ → Type 0
IsByScript s given image new = (old : OldDisk) × IsOld image old × IsByDisk s given old new

-- an input has this script, these bytes behind it, and this image behind those of its files
pub record IsInput (input : List ℕ) (s : ScriptValue) (given image : List ℕ) : Type 0 where
  pub script : IsScript input s given
  pub enough : files_len s.edits ≤ length given
  pub behind : image ≡ drop (files_len s.edits) given

-- the new image is that of the input's image after its script
abbrev pub IsEdited : List ℕ → List ℕ → Type 0
IsEdited input new = (s : ScriptValue) × (given : List ℕ) × (image : List ℕ) × IsInput input s given image × IsByScript s given image new
