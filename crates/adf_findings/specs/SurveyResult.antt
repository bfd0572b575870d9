-- The results of a survey.
-- Letters: v a result; w, fs the walk and the findings of the survey; k the index of a finding; n a node; b a block; i the number of a page.
use Rattle.std.specs.Prelude.{◌≡◌, ◌≤◌, ◌-◌, ◌/◌, ◌==◌, ◌↔◌, ℕ, Bool, true, cond, List, Option, Some, None, length, map, slice_get, slice_index}
use Rattle.std.specs.{BTreeMap.is_at, Map.lookup, Option.option_flatten, Ordering.nat_cmp}
use Rattle.adf_blocks.specs.declared.layout.TheConstants.{PAGE_BITS}
use Rattle.adf_volume.specs.{declared.owner.Owner.Owner, Parts.entry_of, Walk.Has, Walk.heads, Walk.node_block, Walk.Walk, Walk.Role.Page}
use Rattle.adf_volume.specs.Owners.{is_part, owner_at}
use Rattle.adf_findings.specs.{WalkOwners.data_number_of, declared.concern.Concern.Concern, declared.finding.Finding.Finding}
use Rattle.adf_findings.specs.{declared.found.ChainPlace.ChainPlace, Concerned.concern_of_nth, Concerned.is_contested, Concerned.is_taken, Files.grave}
use Rattle.adf_findings.specs.{Found.places_of, Parts.finding_value, Sound.IsSound, Survey.FindingValue, Survey.IsSurvey, Survey.IsValidated}
use Rattle.adf_findings.specs.Members.{at_role, number_at, owning_entry, owns, parent_node, has_mark}

-- the result: the findings and what they concern; the owner of each block; whether findings say that it is taken; the blocks of pages, by number;
-- for each node its block, its parent, from node 1 on its position, whether it is sound, and whether it is but for harmless findings of headers
pub record SurveyValue : Type 0 where
  pub image : List ℕ
  pub findings : List Finding
  pub concerned : List (Option Concern)
  pub owners : List Owner
  pub contested : List Bool
  pub pages : List (ℕ × ℕ)
  pub nodes : List ℕ
  pub parents : List ℕ
  pub places : List ChainPlace
  pub sound : List Bool
  pub whole : List Bool

-- the block of page i by those kept
abbrev pub block_at : List (ℕ × ℕ) → ℕ → Option ℕ
block_at pages i = lookup (is_at (nat_cmp i)) pages

-- the entry that has a block by the owners of blocks; none for 0
abbrev pub entry_at : List Owner → ℕ → Option ℕ
entry_at owners b = cond (entry_of (owner_at owners b) == 0) None (Some (entry_of (owner_at owners b)))

-- the entry of the block of a finding that it is taken
abbrev pub owner_for : List Owner → Finding → Option ℕ
owner_for owners f = cond (is_taken f.cause) (entry_at owners f.block) None

-- the number of the data block that a block is, from 1, where no other part asks for it; otherwise 0
abbrev pub alone_in : SurveyValue → ℕ → ℕ
alone_in v b = cond (has_mark v.contested b) 0 (data_number_of (owner_at v.owners b))

-- the result is that of this walk and these findings
pub record TellsOf (v : SurveyValue) (w : Walk) (fs : List FindingValue) : Type 0 where
  pub survey : IsSurvey v.image w fs
  pub findings : map finding_value v.findings ≡ fs
  pub concerned : (k : ℕ) → option_flatten (slice_get v.concerned k) ≡ concern_of_nth w fs k
  pub owner : (b : ℕ) → entry_at v.owners b ≡ owning_entry w b
  pub number : (b : ℕ) → data_number_of (owner_at v.owners b) ≡ number_at w b
  pub contested : (b : ℕ) → has_mark v.contested b ≡ is_contested fs b
  pub part : (b : ℕ) → is_part (owner_at v.owners b) ≡ owns w b
  pub page : (i : ℕ) → block_at v.pages i ≡ at_role w (Page i)
  pub node : (n : ℕ) → slice_index v.nodes n ≡ node_block w n
  pub parent : (n : ℕ) → slice_index v.parents n ≡ parent_node w n
  pub places : v.places ≡ places_of w
  pub count : length v.nodes - 1 ≡ heads w
  pub sound : (n : ℕ) → 1 ≤ n → (has_mark v.sound n ≡ true) ↔ IsSound v.image w fs n (node_block w n)
  pub whole : (n : ℕ) → 1 ≤ n → (has_mark v.whole n ≡ true) ↔ IsSound v.image w (grave fs) n (node_block w n)

-- the result is that of a survey
abbrev pub IsOfSurvey : SurveyValue → Type 0
IsOfSurvey v = (w : Walk) × (fs : List FindingValue) × TellsOf v w fs

-- the bitmap tells of block b whether it is free: its flag is that of a valid bitmap, and the walk has the page of b
abbrev pub IsBitStated : List ℕ → Walk → ℕ → Type 0
IsBitStated image w b = (2 ≤ b) × IsValidated image × ((page : ℕ) × Has w (Page ((b - 2) / PAGE_BITS)) page)
