-- The root block of a volume.
use Rattle.std.specs.Prelude.{◌≡◌, ◌≤◌, ◌*◌, ◌==◌, ◌&&◌, nat_le, ℕ, List, [], ◌∷◌, length, slice_index, take}
use Rattle.adf_base.specs.Words.{word, long_sum, sealed}
use Rattle.adf_names.specs.declared.meta.Stamps.{Stamps}
use Rattle.adf_blocks.specs.declared.cause.Cause.TheVariants.{BadSum, BadType, BadName, BadHashSize, NotValidated}
use Rattle.adf_blocks.specs.{declared.root_out.RootOut.RootOut, Forms.Clause, Forms.stamp_at, Forms.text_at}
use Rattle.adf_blocks.specs.declared.layout.TheConstants.{ALTERED, BITMAP_FLAG, CHECKSUM, CREATED, DATE, FIRST_MAP_EXT, FIRST_PAGE, FIRST_SLOT, HASH_SIZE, NAME}
use Rattle.adf_blocks.specs.declared.layout.TheConstants.{ROOT_PAGES, SECONDARY_TYPE, SLOTS, ST_ROOT, TYPE, T_SHORT, VALID}
use Rattle.adf_blocks.specs.Fields.{Field, block_of_fields, long, longs, stamp, text}

-- the form of a root
abbrev pub root_form : List ℕ → List Clause
root_form b =
    (long_sum b == 0, BadSum)
    ∷ ((word b TYPE == T_SHORT) && (word b SECONDARY_TYPE == ST_ROOT), BadType)
    ∷ (nat_le (slice_index b NAME) 30, BadName)
    ∷ (word b HASH_SIZE == SLOTS, BadHashSize)
    ∷ (word b BITMAP_FLAG == VALID, NotValidated)
    ∷ []

-- the label in any block read as a root, cut to 30 bytes
abbrev pub label_stated : List ℕ → List ℕ
label_stated b = take 30 (text_at b NAME)

-- the three dates of a root: its own, the last change, the creation
abbrev pub stamps_at : List ℕ → Stamps
stamps_at b = record { root = stamp_at b DATE; altered = stamp_at b ALTERED; created = stamp_at b CREATED }

-- the fields of a root that vary
pub record RootFields : Type 0 where
  pub slots : List ℕ
  pub pages : List ℕ
  pub map_ext : ℕ
  pub label : List ℕ
  pub stamps : Stamps

-- the fields of a root to write, as values
abbrev pub root_fields : RootOut → RootFields
root_fields r = record { slots = r.slots; pages = r.pages.now; map_ext = r.map_ext; label = r.label.now; stamps = r.stamps }

-- the fields of a root and their offsets, the last first
abbrev pub root_table : RootFields → List Field
root_table r =
    (4 * SECONDARY_TYPE, long ST_ROOT)
    ∷ (4 * CREATED, stamp r.stamps.created)
    ∷ (4 * ALTERED, stamp r.stamps.altered)
    ∷ (NAME, text r.label)
    ∷ (4 * DATE, stamp r.stamps.root)
    ∷ (4 * FIRST_MAP_EXT, long r.map_ext)
    ∷ (4 * FIRST_PAGE, longs r.pages)
    ∷ (4 * BITMAP_FLAG, long VALID)
    ∷ (4 * FIRST_SLOT, longs r.slots)
    ∷ (4 * HASH_SIZE, long SLOTS)
    ∷ (4 * TYPE, long T_SHORT)
    ∷ []

-- the bytes of a root with these fields
unfoldable pub root_block : RootFields → List ℕ
root_block r = sealed CHECKSUM (block_of_fields (root_table r))

-- the fields fit a root
pub record FitsRoot (r : RootFields) : Type 0 where
  pub slots : length r.slots ≡ SLOTS
  pub pages : length r.pages ≤ ROOT_PAGES
  pub label : length r.label ≤ 30
