-- The text of a plan: lines, each ended by a line feed, of words with a space between them. `left` is what is left of a text from a
-- line on, ps are partitions.
use Rattle.std.specs.Prelude.{◌≡◌, ◌≤◌, ◌+◌, ◌-◌, ◌*◌, ◌^◌, ◌==◌, ◌&&◌, ◌||◌, ℕ, ℤ, pos, neg_ℤ, nat_le, nat_lt, Bool, FitsSigned, true, false, List}
use Rattle.std.specs.Prelude.{[], ◌∷◌, codes, Option, Some, None, if◌then◌else◌, length, slice_index}
use Rattle.std.specs.{Int.w8, List.after_first, List.before_first, List.list_all, Str.bytes_eq}
use Rattle.adf_blocks.specs.Sizes.{is_allowed}
use Rattle.adf_names.specs.{Escapes.IsSpelling, Texts.is_name_byte}
use Rattle.adf_partitions.specs.{declared.layout.TheConstants.MOST_PARTITIONS, declared.plan.PartitionPlan.PartitionPlan}
use Rattle.adf_plans.specs.{declared.plan_line.Options.Options, declared.plan_words.TheConstants.MOST_NUMBER}
use Rattle.adf_partitions.specs.{Plans.PlanValue, Plans.cylinder_blocks, Plans.planned_blocks, FileSystems.system_named}
use Rattle.adf_partitions.specs.declared.file_system.FileSystem.{FileSystem, TheVariants.WithCaches, TheVariants.WithoutCaches}
use Rattle.adf_plans.specs.declared.plan_text.TheConstants.{FEWEST_WITH_CACHES}

-- the bytes before the first byte c, or all
unfoldable pub before_byte : ℕ → List ℕ → List ℕ
before_byte c text = before_first (λ x. x == c) text

-- the bytes behind the first byte c, if there is one
unfoldable pub behind_byte : ℕ → List ℕ → List ℕ
behind_byte c text = after_first (λ x. x == c) text

-- the first word of a text, and the text behind its space
abbrev pub first_word : List ℕ → List ℕ
first_word text = before_byte 32 text

abbrev pub behind_word : List ℕ → List ℕ
behind_word text = behind_byte 32 text

-- the first line of a text, no bytes if no line feed ends it, and the text behind its line feed
abbrev pub first_line : List ℕ → List ℕ
first_line text = if nat_lt (length (before_byte 10 text)) (length text) then before_byte 10 text else []

abbrev pub behind_line : List ℕ → List ℕ
behind_line text = behind_byte 10 text

-- n and the digits behind it, if the number is at most MOST_NUMBER
unfoldable pub number_from : ℕ → List ℕ → Option ℕ
number_from n [] = Some n
number_from n (c ∷ cs) = if nat_le 48 c && nat_le c 57 && nat_le (10 * n + (c - 48)) MOST_NUMBER then number_from (10 * n + (c - 48)) cs else None

-- the number of decimal digits
abbrev pub decimal_number : List ℕ → Option ℕ
decimal_number [] = None
decimal_number (c ∷ cs) = number_from 0 (c ∷ cs)

-- a boot priority of one byte
abbrev pub priority_up : Option ℕ → Option ℤ
priority_up None = None
priority_up (Some n) = if nat_le n 127 then Some (pos n) else None

abbrev pub priority_down : Option ℕ → Option ℤ
priority_down None = None
priority_down (Some n) = if nat_le n 128 then Some (neg_ℤ (pos n)) else None

-- the boot priority of a word: a number, perhaps behind `-`
abbrev pub priority_of : List ℕ → Option ℤ
priority_of [] = None
priority_of (c ∷ cs) = if c == 45 then priority_down (decimal_number cs) else priority_up (decimal_number (c ∷ cs))

-- whether a word comes first, and the text without it
abbrev pub has_word : List ℕ → List ℕ → Bool
has_word word text = bytes_eq (first_word text) word

abbrev pub without_word : List ℕ → List ℕ → List ℕ
without_word word text = if has_word word text then behind_word text else text

-- the boot priority that comes first, if any, and the text without it
abbrev pub option_priority : List ℕ → Option ℤ
option_priority text = if has_word (codes "priority") text then priority_of (first_word (behind_word text)) else Some (pos 0)

abbrev pub without_priority : List ℕ → List ℕ
without_priority text = if has_word (codes "priority") text then behind_word (behind_word text) else text

-- options, if nothing is left behind them
abbrev pub options_with : Bool → Option ℤ → List ℕ → Option Options
options_with bootable None text = None
options_with bootable (Some priority) text =
    if bytes_eq (without_word (codes "given") text) []
    then Some (record { bootable = bootable; priority = priority; given = has_word (codes "given") text }) else None

-- the options `bootable`, `priority P` and `given`, each of which may be left out
abbrev pub options_of : List ℕ → Option Options
options_of text =
    options_with (has_word (codes "bootable") text) (option_priority (without_word (codes "bootable") text))
    (without_priority (without_word (codes "bootable") text))

-- the options of a partition
abbrev pub options_in : PartitionPlan → Options
options_in p = record { bootable = p.bootable; priority = p.priority; given = p.given }

-- the word for the file system, behind the name
abbrev pub kind_word : List ℕ → List ℕ
kind_word text = first_word (behind_word text)

-- NAME KIND CYLINDERS, and options
pub record IsPartitionText (text : List ℕ) (p : PartitionPlan) : Type 0 where
  pub name : IsSpelling 31 (first_word text) p.name
  pub system : system_named (kind_word text) ≡ Some p.system
  pub cylinders : decimal_number (first_word (behind_word (behind_word text))) ≡ Some p.cylinders
  pub options : options_of (behind_word (behind_word (behind_word text))) ≡ Some (options_in p)
  pub some : 1 ≤ length p.name
  pub bytes : list_all is_name_byte p.name ≡ true
  pub size : 1 ≤ p.cylinders
  pub priority : FitsSigned w8 p.priority

-- whether a line ends in a space
abbrev pub ends_in_space : List ℕ → Bool
ends_in_space line = slice_index line (length line - 1) == 32

-- partition NAME KIND CYLINDERS, and options, with nothing behind them
pub record IsPartitionLine (line : List ℕ) (p : PartitionPlan) : Type 0 where
  pub last : ends_in_space line ≡ false
  pub word : has_word (codes "partition") line ≡ true
  pub text : IsPartitionText (behind_word line) p

-- SECTORS HEADS
pub record IsDiskText (text : List ℕ) (sectors heads : ℕ) : Type 0 where
  pub first : decimal_number (first_word text) ≡ Some sectors
  pub second : decimal_number (behind_word text) ≡ Some heads

-- disk SECTORS HEADS
pub record IsDiskLine (line : List ℕ) (sectors heads : ℕ) : Type 0 where
  pub word : has_word (codes "disk") line ≡ true
  pub text : IsDiskText (behind_word line) sectors heads

-- the lines of partitions stand first, and `end` is left behind them
unfoldable pub AreLines : List ℕ → List PartitionPlan → List ℕ → Type 0
AreLines left [] end = left ≡ end
AreLines left (p ∷ ps) end = IsPartitionLine (first_line left) p × AreLines (behind_line left) ps end

-- the next line is none of a partition
abbrev pub HasNoPartition : List ℕ → Type 0
HasNoPartition left = (p : PartitionPlan) → ¬ IsPartitionLine (first_line left) p

-- whether a new volume of n blocks has one for the directory cache of its root, if it has caches
abbrev pub has_cache_room : FileSystem → ℕ → Bool
has_cache_room (WithoutCaches kind letters) n = true
has_cache_room (WithCaches kind) n = nat_le FEWEST_WITH_CACHES n

-- whether the volume of a partition is given, or may be a new one with the drive's name as label
abbrev pub has_volume : ℕ → PartitionPlan → Bool
has_volume c p = p.given || (is_allowed (p.cylinders * c) && has_cache_room p.system (p.cylinders * c) && nat_le (length p.name) 30)

-- whether a disk has so many sectors, heads, partitions and blocks
abbrev pub has_size : PlanValue → Bool
has_size plan =
    nat_le 1 plan.sectors && nat_le 1 plan.heads && nat_le (length plan.partitions) MOST_PARTITIONS && nat_lt (planned_blocks plan) (2 ^ 32)

-- whether a disk can have this plan, and its new volumes too
abbrev pub is_plan : PlanValue → Bool
is_plan plan = has_size plan && list_all (has_volume (cylinder_blocks plan)) plan.partitions

-- a plan of these lines: `end` is the text from the line after them on
abbrev pub HasLines : List ℕ → PlanValue → List ℕ → Type 0
HasLines text plan end =
    IsDiskLine (first_line text) plan.sectors plan.heads × AreLines (behind_line text) plan.partitions end × HasNoPartition end

-- what stands behind the lines of a plan
abbrev pub begins_with_end : List ℕ → Bool
begins_with_end end = bytes_eq (first_line end) (codes "end")

-- whether a text ends a plan, and a disk can have it
abbrev pub ends_plan : PlanValue → List ℕ → Bool
ends_plan plan end = begins_with_end end && is_plan plan

-- the text of a plan, and the bytes behind its line `end`
pub record IsText (text : List ℕ) (plan : PlanValue) (rest : List ℕ) : Type 0 where
  pub end : List ℕ
  pub lines : HasLines text plan end
  pub ends : begins_with_end end ≡ true
  pub good : is_plan plan ≡ true
  pub behind : rest ≡ behind_line end

-- a text has one plan at most
abbrev pub TextsHaveOnePlan : Type 0
TextsHaveOnePlan = (text : List ℕ) (a b : PlanValue) (c d : List ℕ) → IsText text a c → IsText text b d → (a ≡ b) × (c ≡ d)

-- a text has no plan
abbrev pub HasNoPlan : List ℕ → Type 0
HasNoPlan text = (plan : PlanValue) (rest : List ℕ) → ¬ IsText text plan rest
