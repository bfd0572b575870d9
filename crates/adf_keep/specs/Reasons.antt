-- Why the entry of a header is not read.
-- Letters: h the block of the header; n a number of blocks, m that of one in a table and k that of a data block, from 0; bs the blocks of the
-- entries that are kept.
use Rattle.std.specs.Prelude.{◌≡◌, ◌≢◌, ◌<◌, ◌≤◌, ◌++◌, ◌⊎◌, ℕ, true, List, Option, Some, None}
use Rattle.adf_names.specs.declared.kind.Kind.{Kind}
use Rattle.adf_blocks.specs.Sizes.{count}
use Rattle.adf_blocks.specs.declared.layout.TheConstants.{SECONDARY_TYPE, SIZE, ST_DIR, ST_FILE}
use Rattle.adf_volume.specs.Image.{word_in}
use Rattle.adf_keep.specs.{Marks.has_block, File.HasExts, File.HaveForms, File.IsHeld, File.datas_from, File.firsts, File.named_at, File.table_at, File.tables_from, File.tables_needed}
use Rattle.adf_keep.specs.declared.proposal.Why.{Why, TheVariants.BadData, TheVariants.BadTable, TheVariants.NoData, TheVariants.NoEntry, TheVariants.NoHeader, TheVariants.Taken}

-- why block b, of n blocks of which those of bs are claimed, cannot be claimed
abbrev pub IsBlockFault : ℕ → List ℕ → ℕ → Why → Type 0
IsBlockFault n bs b NoData = 2 ≤ b → b < n → ⊥
IsBlockFault n bs b Taken = has_block bs b ≡ true
IsBlockFault n bs b _ = ⊥

-- why n blocks of a table cannot be claimed: one is no extension block; or one is claimed, or twice in the chain
abbrev pub IsTableFault : List ℕ → List ℕ → ℕ → ℕ → Why → Type 0
IsTableFault image bs h n BadTable = HasExts image h n → ⊥
IsTableFault image bs h n Taken = (m : ℕ) × (m < n) × (has_block (bs ++ firsts (table_at image h) m) (table_at image h m) ≡ true)
IsTableFault image bs h n _ = ⊥

-- why n data blocks that a table names cannot be claimed: one is not held; or one is claimed, or twice in the table
abbrev pub IsDataFault : List ℕ → List ℕ → ℕ → ℕ → Why → Type 0
IsDataFault image bs h n NoData = (k : ℕ) × (k < n) × (IsHeld image (named_at image h k) → ⊥)
IsDataFault image bs h n Taken = (k : ℕ) × (k < n) × (has_block (bs ++ firsts (named_at image h) k) (named_at image h k) ≡ true)
IsDataFault image bs h n _ = ⊥

-- why a file is not read: its table cannot be claimed, or then its data blocks, or these have not their form
abbrev pub IsFileFault : Kind → List ℕ → List ℕ → ℕ → Why → Type 0
IsFileFault kind image bs h BadData = HaveForms kind image h (datas_from kind image h) → ⊥
IsFileFault kind image bs h why =
    IsTableFault image bs h (tables_needed (count kind (word_in image h SIZE))) why
    ⊎ IsDataFault image (bs ++ tables_from kind image h) h (count kind (word_in image h SIZE)) why

-- why the entry of a header is not read: the header is not held; it is of neither a directory nor a file; or it is of a directory whose header
-- is claimed, or of a file that is not read
abbrev pub IsHeadFault : Kind → List ℕ → List ℕ → ℕ → Why → Type 0
IsHeadFault kind image bs h NoHeader = IsHeld image h → ⊥
IsHeadFault kind image bs h NoEntry = (word_in image h SECONDARY_TYPE ≢ ST_DIR) × (word_in image h SECONDARY_TYPE ≢ ST_FILE)
IsHeadFault kind image bs h why =
    ((word_in image h SECONDARY_TYPE ≡ ST_DIR) × IsTableFault image bs h 1 why)
    ⊎ ((word_in image h SECONDARY_TYPE ≡ ST_FILE) × IsFileFault kind image bs h why)

-- a directory that is made is never refused
abbrev pub IsEntryFault : Kind → List ℕ → List ℕ → Option ℕ → Why → Type 0
IsEntryFault kind image bs None why = ⊥
IsEntryFault kind image bs (Some h) why = IsHeadFault kind image bs h why
