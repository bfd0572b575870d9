-- Surveys of an image: a walk that continues past parts with causes, and all those causes.
-- Letters: s a course; r, q roles; b the block of a role; a, i (d, k) the block and the word that point to it;
-- at, c the block and the cause of a finding;
-- j a judgement; fs findings; n a number of blocks.
use Rattle.std.specs.Prelude.{◌≡◌, ◌==◌, ◌&&◌, ℕ, Bool, true, false, nat_le, List, [], ◌∷◌, ◌++◌, ◌-◌, ◌/◌, Option, Some, None, slice_index}
use Rattle.std.proofs.Common.{suc}
use Rattle.adf_blocks.specs.{declared.cause.Cause.Cause, Sizes.blocks}
use Rattle.adf_blocks.specs.declared.cause.Cause.TheVariants.{BadSum, Link, BadName, BadComment, WrongSlot, BadFirst, SameName, ShortFile, BadHashSize}
use Rattle.adf_blocks.specs.declared.cause.Cause.TheVariants.{DirCache, International, NotValidated}
use Rattle.adf_base.specs.Words.{block}
use Rattle.adf_blocks.specs.declared.layout.TheConstants.{BITMAP_FLAG, OWN_KEY, PAGE_BITS, T_DIR_CACHE, TYPE, VALID}
use Rattle.adf_volume.specs.{Image.word_in, Image.root_of, Demands.Demand, Demands.AllHold, Demands.FirstFails, Demands.boot_demands, Demands.root_demands}
use Rattle.adf_volume.specs.Walk.{Role, Before, Has, Asks, Lacks, IsAbsent, bitmap_demands, Walk, Role.Root, Role.Page}
use Rattle.adf_findings.specs.Demands.{demands_in}

-- A finding: the part that it concerns, if any; the block reported; the cause.
pub record FindingValue : Type 0 where
  pub part : Option Role
  pub block : ℕ
  pub cause : Cause

-- a finding from its part, block and cause
abbrev pub finding : Option Role → ℕ → Cause → FindingValue
finding r at c = record { part = r; block = at; cause = c }

-- a block with this cause can still be the part
abbrev pub is_slight : Cause → Bool
is_slight ShortFile = true
is_slight BadSum = true
is_slight Link = true
is_slight BadName = true
is_slight BadComment = true
is_slight WrongSlot = true
is_slight BadFirst = true
is_slight SameName = true
is_slight BadHashSize = true
is_slight NotValidated = true
is_slight _ = false

-- a part with this cause is still taken; but not a page, which only its checksum identifies
abbrev pub is_kept : Role → Cause → Bool
is_kept (Page i) c = false
is_kept _ c = is_slight c

-- the block is in range, has no owner and identifies itself as the part: the demands without slight causes all hold
abbrev pub IsItself : Role → List Demand → Type 0
IsItself r [] = Unit {0}
IsItself r (x ∷ xs) = (is_kept r x.cause ≡ false → x.holds) × IsItself r xs

-- The judgement of a part that is next: it has no cause; it has one, which is reported, and is still taken;
-- it has one and is skipped.
pub data JudgementValue : Type 0 where
  clean : JudgementValue
  reported : (at : ℕ) (c : Cause) → JudgementValue
  skipped : (at : ℕ) (c : Cause) → JudgementValue

-- the demands on the part give this judgement
abbrev pub Judged : Role → List Demand → JudgementValue → Type 0
Judged r xs clean = AllHold xs
Judged r xs (reported at c) = FirstFails xs at c × IsItself r xs
Judged r xs (skipped at c) = FirstFails xs at c × (IsItself r xs → ⊥)

-- The progress of a survey: its walk and the parts skipped, with their blocks, newest first; the findings.
pub record Course : Type 0 where
  pub walk : Walk
  pub skipped : Walk
  pub findings : List FindingValue

-- the course after the part that was next, at block b, is taken or skipped, and its cause reported
abbrev pub after : Course → Role → ℕ → JudgementValue → Course
after s r b clean = record { walk = (r, b) ∷ s.walk; skipped = s.skipped; findings = s.findings }
after s r b (reported at c) = record { walk = (r, b) ∷ s.walk; skipped = s.skipped; findings = s.findings ++ finding (Some r) at c ∷ [] }
after s r b (skipped at c) = record { walk = s.walk; skipped = (r, b) ∷ s.skipped; findings = s.findings ++ finding (Some r) at c ∷ [] }

-- the first role, in order, that the walk asks for and that is neither in the walk nor skipped
pub record IsNext (image : List ℕ) (s : Course) (r : Role) (a i : ℕ) : Type 0 where
  pub asked : Asks image s.walk r a i
  pub lacks : Lacks s.walk r
  pub unskipped : Lacks s.skipped r
  pub least : (q : Role) (d k : ℕ) → Asks image s.walk q d k → Lacks s.walk q → Lacks s.skipped q → Before q r → ⊥

-- a boot block with this cause is of another type, 2 to 5, which surveys read
abbrev pub is_other_type : Cause → Bool
is_other_type International = true
is_other_type DirCache = true
is_other_type _ = false

-- the findings of a boot block of type 0 to 5: none for 0 and 1, otherwise its cause
pub data BootTells (image : List ℕ) : List FindingValue → Type 0 where
  clean_boot : AllHold (boot_demands image) → BootTells image []
  other_type : {at : ℕ} {c : Cause} → FirstFails (boot_demands image) at c → is_other_type c ≡ true → BootTells image (finding None at c ∷ [])

-- the root is judged by its form
abbrev pub RootJudged : List ℕ → JudgementValue → Type 0
RootJudged image j = Judged Root (root_demands image (root_of image)) j

-- the findings of a root that is taken: none, or its cause
pub data RootTells (image : List ℕ) : List FindingValue → Type 0 where
  clean_root : RootJudged image clean → RootTells image []
  reported_root : {at : ℕ} {c : Cause} → RootJudged image (reported at c) → RootTells image (finding (Some Root) at c ∷ [])

-- the findings of an image of which nothing is taken: another cause of size or boot bytes;
-- or, after those of the boot block, the cause of a root that is skipped
pub data UnreadTells (image : List ℕ) : List FindingValue → Type 0 where
  bad_boot : {at : ℕ} {c : Cause} → FirstFails (boot_demands image) at c → is_other_type c ≡ false → UnreadTells image (finding None at c ∷ [])
  bad_root : {boot : List FindingValue} {at : ℕ} {c : Cause} → BootTells image boot → RootJudged image (skipped at c)
      → UnreadTells image (boot ++ finding None at c ∷ [])

-- the course that starts with the root and these findings
abbrev pub begun : List ℕ → List FindingValue → Course
begun image fs = record { walk = (Root, root_of image) ∷ []; skipped = []; findings = fs }

-- a course starts with the root; each part that is next is judged by its demands
pub data IsCourse (image : List ℕ) : Course → Type 0 where
  start : {boot root : List FindingValue} → BootTells image boot → RootTells image root → IsCourse image (begun image (boot ++ root))
  step : {s : Course} {r : Role} {a i : ℕ} (j : JudgementValue) → IsCourse image s → IsNext image s r a i
      → Judged r (demands_in image s.walk r a (word_in image a i)) j → IsCourse image (after s r (word_in image a i) j)

-- nothing is next
abbrev pub IsDone : List ℕ → Course → Type 0
IsDone image s = (r : Role) (a i : ℕ) → Asks image s.walk r a i → Lacks s.walk r → Lacks s.skipped r → ⊥

-- the bitmap flag of the root is that of a valid bitmap
abbrev pub IsValidated : List ℕ → Type 0
IsValidated image = word_in image (root_of image) BITMAP_FLAG ≡ VALID

-- whether block b says that it is a directory cache, on a volume of type 4 or 5
abbrev pub is_cache : List ℕ → ℕ → Bool
is_cache image b = nat_le 4 (slice_index (block image 0) 3) && (word_in image b TYPE == T_DIR_CACHE) && (word_in image b OWN_KEY == b)

-- block b was not skipped, and is no directory cache
abbrev pub IsUnexcused : List ℕ → Course → ℕ → Type 0
IsUnexcused image s b = IsAbsent s.skipped b × (is_cache image b ≡ false)

-- the bit of block b is compared: the bitmap is valid, the walk has the page, and b is in the walk or has no excuse
abbrev pub IsCompared : List ℕ → Course → ℕ → Type 0
IsCompared image s b =
    IsValidated image × ((page : ℕ) × Has s.walk (Page ((b - 2) / PAGE_BITS)) page) × (IsAbsent s.walk b → IsUnexcused image s b)

-- the findings of the bits of n blocks, from b on: one for each that is compared and disagrees with the walk
pub data BitsTell (image : List ℕ) (s : Course) : ℕ → ℕ → List FindingValue → Type 0 where
  ends : {b : ℕ} → BitsTell image s b 0 []
  agrees : {b n : ℕ} {fs : List FindingValue} → (IsCompared image s b → AllHold (bitmap_demands image s.walk b 1)) → BitsTell image s (suc b) n fs
      → BitsTell image s b (suc n) fs
  differs : {b n at : ℕ} {c : Cause} {fs : List FindingValue} → IsCompared image s b → FirstFails (bitmap_demands image s.walk b 1) at c
      → BitsTell image s (suc b) n fs → BitsTell image s b (suc n) (finding None at c ∷ fs)

-- The walk and the findings of an image. Of some images nothing is taken;
-- of the others parts are judged until none is next, then the bits are compared.
pub data IsSurvey (image : List ℕ) : Walk → List FindingValue → Type 0 where
  unread : {fs : List FindingValue} → UnreadTells image fs → IsSurvey image [] fs
  read : {s : Course} {bits : List FindingValue} → IsCourse image s → IsDone image s
      → BitsTell image s 2 (blocks image - 2) bits → IsSurvey image s.walk (s.findings ++ bits)

-- what holds of the walk and the findings of the survey of an image
abbrev pub OnSurvey : List ℕ → (Walk → List FindingValue → Type 0) → Type 0
OnSurvey image holds = (w : Walk) (fs : List FindingValue) → IsSurvey image w fs → holds w fs
