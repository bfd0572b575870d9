-- Directory caches that are laid into a volume of type 2 or 3.
-- Letters: w the walk of the volume's survey, fs its findings, v and gs those of the image's; d a directory, n an entry, by their nodes; b a block;
-- i a word; t a tree; l, m layouts; boot bytes that begin with the boot blocks that are kept.
use Rattle.std.specs.Prelude.{◌≡◌, ◌≢◌, ◌<◌, ◌+◌, ◌==◌, ◌⊎◌, ◌||◌, ℕ, Bool, List, None, Some, false, length, set, slice_get, slice_index}
use Rattle.std.specs.Prelude.{take, true}
use Rattle.adf_base.specs.Words.{block}
use Rattle.adf_blocks.specs.Sizes.{blocks}
use Rattle.adf_blocks.specs.declared.cause.Cause.TheVariants.{Link}
use Rattle.adf_blocks.specs.declared.layout.TheConstants.{CHECKSUM, EXTENSION}
use Rattle.adf_boot_blocks.specs.{Writing.restored, declared.boot.TheConstants.BOOT_LEN}
use Rattle.adf_tree.specs.Tree.{Tree}
use Rattle.adf_volume.specs.{Fits.FitsOf, Image.word_in, Layout.Layout, Walk.Walk, Walk.heads, Walk.node_block}
use Rattle.adf_volume.specs.declared.types.Types.TheVariants.{WithInternational}
use Rattle.adf_findings.specs.Members.{number_at, owning_entry, owns, parent_node}
use Rattle.adf_findings.specs.Survey.{FindingValue, OnSurvey}
use Rattle.adf_caches.specs.Entries.{has_entry}
use Rattle.adf_caches.specs.Caches.{directory_header, first_cache, is_found_directory}
use Rattle.adf_uncached.specs.{Cached.FitsCached, Uncached.cache_fault}

-- the boot blocks that are kept, behind the type of a volume with caches, which is 2 more: as they stand, but where their type is another, with a
-- checksum that is right if theirs was
abbrev pub boot_with_caches : (volume boot : List ℕ) → List ℕ
boot_with_caches volume boot = restored (set (take BOOT_LEN volume) 3 (slice_index volume 3 + 2)) boot

-- each directory that is found has a cache: its header names the first block
abbrev pub AllHaveCaches : List ℕ → Walk → Type 0
AllHaveCaches image v = (d : ℕ) → is_found_directory image v d ≡ true → first_cache image v d ≢ 0

-- entry n has its header in the same block, and is in the same directory
abbrev pub IsAtSamePlace : (w v : Walk) (n : ℕ) → Type 0
IsAtSamePlace w v n = (node_block v n ≡ node_block w n) × (parent_node v n ≡ parent_node w n)

-- block b is a part of what is found in both or in none, of the same entry, and of a file the same data block
pub record IsSamePart (w v : Walk) (b : ℕ) : Type 0 where
  pub part : owns v b ≡ owns w b
  pub entry : owning_entry v b ≡ owning_entry w b
  pub number : number_at v b ≡ number_at w b

-- a finding is of the type, which is told at block 0, or it is that an entry is a link
abbrev pub IsOfTypeOrLink : FindingValue → Type 0
IsOfTypeOrLink f = (f.block ≡ 0) ⊎ (f.cause ≡ Link)

-- the same is found of n blocks: the same entries, at their places, with their blocks; and as many findings, which tell the type and links alone
pub record AreFoundAlike (n : ℕ) (w : Walk) (fs : List FindingValue) (v : Walk) (gs : List FindingValue) : Type 0 where
  pub count : heads v ≡ heads w
  pub places : (k : ℕ) → has_entry w k ≡ true → IsAtSamePlace w v k
  pub parts : (b : ℕ) → b < n → IsSamePart w v b
  pub findings : length gs ≡ length fs
  pub told : (k : ℕ) (f : FindingValue) → slice_get gs k ≡ Some f → IsOfTypeOrLink f

-- a word of a directory's header, or of the root, that its cache changes: the checksum, and the first block of the cache
abbrev pub is_of_cache : (i : ℕ) → Bool
is_of_cache i = (i == CHECKSUM) || (i == EXTENSION)

-- block b has the same words, but for those two
abbrev pub IsSameButCache : (volume image : List ℕ) (b : ℕ) → Type 0
IsSameButCache volume image b = (i : ℕ) → i < 128 → is_of_cache i ≡ false → word_in image b i ≡ word_in volume b i

-- what stands on a volume stands on an image: of the root and of directories all but those two words, and all blocks of other entries
pub record KeepsBlocks (volume image : List ℕ) (w : Walk) : Type 0 where
  pub directories : (d : ℕ) → is_found_directory volume w d ≡ true → IsSameButCache volume image (directory_header volume w d)
  pub others : (b n : ℕ) → b < blocks volume → owning_entry w b ≡ Some n → is_found_directory volume w n ≡ false → block image b ≡ block volume b

-- a tree that fits a volume fits an image, as that of a volume with caches
abbrev pub KeepsTree : (volume image : List ℕ) → Type 0
KeepsTree volume image = (t : Tree) (l : Layout) → FitsOf WithInternational volume t l → (m : Layout) × FitsCached image t m

-- an image is a volume with directory caches, which are right, and with the boot blocks that are kept
pub record HasCaches (volume boot image : List ℕ) : Type 0 where
  pub long : length image ≡ length volume
  pub boots : take BOOT_LEN image ≡ boot_with_caches volume boot
  pub right : OnSurvey image (λ v _. cache_fault image v ≡ None)
  pub all : OnSurvey image (λ v _. AllHaveCaches image v)
  pub found : OnSurvey volume (λ w fs. OnSurvey image (λ v gs. AreFoundAlike (blocks volume) w fs v gs))
  pub kept : OnSurvey volume (λ w _. KeepsBlocks volume image w)
  pub tree : KeepsTree volume image
