-- What the calls promise that survey and judge an image or rescue what exists on it: what they write and how far, and which of it a caller can index by. Which
-- rows they put into tables is tested on the built library (bindings/python/tests).
-- Letters: b a block, bs how many the image has; at a place in a file; n what a call returns.
use Rattle.std.specs.Prelude.{◌≡◌, ◌≤◌, ◌<◌, ◌↔◌, ◌⊎◌, ℕ, List, drop, length, min, slice_index, take}
use Rattle.adf_names.specs.PathTexts.{IsPathText}
use Rattle.adf_blocks.specs.Sizes.{blocks as blocks_of}
use Rattle.adf_volume.specs.{Image.kind_of, declared.types.Types.Types}
use Rattle.adf_memory.specs.{Areas.bytes_from, Rooms.BeginsWith, Rooms.filled, Verdicts.WantsMemory, declared.found_files.TheConstants.NO_BLOCK}
use Rattle.adf_memory.specs.{declared.found_links.TableLink.TableLink, declared.found_parts.FoundPart.FoundPart, declared.found_tables.FoundEntry.FoundEntry}
use Rattle.adf_memory.specs.{declared.found_tables.Surveyed.Surveyed, declared.found_tables.TableFinding.TableFinding, declared.losses.TableLoss.TableLoss}
use Rattle.adf_memory.specs.{declared.rescuing.RescueRefusal.RescueRefusal, declared.rescuing.RescueTold.RescueTold, declared.subjects.SubjectTold.SubjectTold}
use Rattle.adf_memory.specs.Rescuing.{ExplainsRescue, GivesVolume, HasRescue, rescue_number, rescue_told, sized}

-- the room begins with as many bytes as are told, which are those of the input, as far as it has them, and zeros behind them, but for the first four
pub record HasSurveyed (image old new : List ℕ) (told : SubjectTold) : Type 0 where
  pub within : told.length ≤ length old
  pub rest : drop 4 (take told.length new) ≡ drop 4 (sized told.length image)
  pub behind : drop told.length new ≡ drop told.length old

-- adf_survey_subject: the room begins with the image that is surveyed. If it is refused, or memory ran out, nothing is written
pub record PutsSubject (image old new : List ℕ) (told : SubjectTold) (n : ℕ) : Type 0 where
  pub number : (n ≡ 0) ⊎ (n ≡ 24) ⊎ WantsMemory n
  pub surveyed : n ≡ 0 → HasSurveyed image old new told
  pub small : n ≡ 24 → length old < told.length
  pub unchanged : ¬ (n ≡ 0) → new ≡ old

-- the entries that a finding names are not past the last block
pub record IsFindingIn (bs : ℕ) (row : TableFinding) : Type 0 where
  pub node : row.node ≤ bs
  pub owner : row.owner ≤ bs

-- the header of an entry is a block, and its directory not past the last one
pub record IsEntryIn (bs : ℕ) (row : FoundEntry) : Type 0 where
  pub header : row.header < bs
  pub parent : row.parent ≤ bs

-- the header of a link is a block, and it and what it leads to are not past the last one
pub record IsLinkOf (bs : ℕ) (row : TableLink) : Type 0 where
  pub header : row.header < bs
  pub node : row.node ≤ bs
  pub target : row.target ≤ bs

-- each table begins with as many rows as are told; there are no more entries than blocks
pub record HasTables (bs : ℕ) (old_findings new_findings : List TableFinding) (old_entries new_entries : List FoundEntry) (told : Surveyed) : Type 0 where
  pub findings : BeginsWith (IsFindingIn bs) told.findings old_findings new_findings
  pub entries : BeginsWith (IsEntryIn bs) told.entries old_entries new_entries
  pub few : told.entries ≤ bs

-- adf_survey_index: the tables are filled, and if memory ran out, they are unchanged
pub record FillsSurvey (image : List ℕ) (old_findings new_findings : List TableFinding) (old_entries new_entries : List FoundEntry) (told : Surveyed)
    (n : ℕ) : Type 0 where
  pub number : (n ≡ 0) ⊎ WantsMemory n
  pub tables : n ≡ 0 → HasTables (blocks_of image) old_findings new_findings old_entries new_entries told
  pub unchanged : WantsMemory n → (new_findings ≡ old_findings) × (new_entries ≡ old_entries)

-- adf_survey_find: the text is that of a path or not
pub record FindsFound (path : List ℕ) (old new n : ℕ) : Type 0 where
  pub number : (n ≡ 0) ⊎ (n ≡ 1) ⊎ (n ≡ 2) ⊎ WantsMemory n
  pub bad_path : (n ≡ 2) ↔ ((names : List (List ℕ)) → ¬ IsPathText path names)
  pub unchanged : ¬ (n ≡ 0) → new ≡ old

-- adf_survey_links: the table begins with as many rows as are told. If memory ran out, nothing is written
pub record FillsLinks (image : List ℕ) (old new : List TableLink) (had told n : ℕ) : Type 0 where
  pub number : (n ≡ 0) ⊎ WantsMemory n
  pub links : n ≡ 0 → BeginsWith (IsLinkOf (blocks_of image)) told old new
  pub unchanged : WantsMemory n → (new ≡ old) × (told ≡ had)

-- the table begins with a row for each block, whose entry is not past the last one, or with none
abbrev pub BeginsWithParts : (bs : ℕ) → (old new : List FoundPart) → Type 0
BeginsWithParts bs old new = (k : ℕ) × (k ≤ bs) × BeginsWith (λ row. row.node ≤ bs) k old new

-- adf_survey_parts: the table has a row for each block of the image at most. If memory ran out, it is unchanged
pub record FillsParts (image : List ℕ) (old new : List FoundPart) (n : ℕ) : Type 0 where
  pub number : (n ≡ 0) ⊎ WantsMemory n
  pub parts : n ≡ 0 → BeginsWithParts (blocks_of image) old new
  pub unchanged : WantsMemory n → new ≡ old

-- adf_survey_owners: nothing behind the blocks of the image is written. If memory ran out, nothing is
pub record TellsFoundRoles (image old new : List ℕ) (n : ℕ) : Type 0 where
  pub number : (n ≡ 0) ⊎ WantsMemory n
  pub behind : (b : ℕ) → blocks_of image ≤ b → slice_index new b ≡ slice_index old b
  pub unchanged : WantsMemory n → new ≡ old

-- no block, or one of the image
abbrev pub IsFoundBlock : List ℕ → ℕ → Type 0
IsFoundBlock image b = (b ≡ NO_BLOCK) ⊎ (b < blocks_of image)

-- adf_found_blocks: the table begins with as many numbers as are told, by any rows
abbrev pub FillsFound : List ℕ → (old new : List ℕ) → (n : ℕ) → Type 0
FillsFound image old new n = BeginsWith (IsFoundBlock image) n old new

-- adf_found_read: with any table the room begins with what its blocks hold from a place on, up to the first that the image does not have, and no more than `size`
-- bytes of it
pub record ReadsFound (image table : List ℕ) (at : ℕ) (old new : List ℕ) (n : ℕ) : Type 0 where
  pub size : ℕ
  pub within : n ≤ length new
  pub count : n ≡ min (length old) (length (take size (bytes_from image (kind_of image) table at)))
  pub bytes : new ≡ filled (take size (bytes_from image (kind_of image) table at)) old
  pub behind : drop n new ≡ drop n old

-- a refusal of what a rescue gives into a room of so many bytes has this number and is told
abbrev pub IsRescueRefused : Types → List ℕ → (room : ℕ) → RescueTold → ℕ → Type 0
IsRescueRefused types image room told n =
    (r : RescueRefusal) × (n ≡ rescue_number r) × (told ≡ rescue_told r) × ExplainsRescue types image room r

-- adf_rescue, and adf_rescue_types, with the types that the new volume may have: at 0 the room begins with the volume of a rescue of the image. Any other
-- number is that of a refusal, and nothing is written
pub record RescuesVolume (types : Types) (image old new : List ℕ) (old_rows new_rows : List TableLoss) (old_paths new_paths : List ℕ)
    (told : RescueTold) (n : ℕ) : Type 0 where
  pub volume : n ≡ 0 → HasRescue (GivesVolume types image) old new old_rows new_rows old_paths new_paths told
  pub refused : ¬ (n ≡ 0) → IsRescueRefused types image (length old) told n
  pub unchanged : ¬ (n ≡ 0) → (new ≡ old) × (new_rows ≡ old_rows) × (new_paths ≡ old_paths)
