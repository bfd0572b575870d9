-- The fields of a written root.
use Rattle.std.proofs.Common.{◌≡◌, ◌≤◌, ◌<◌, ℕ, ◌+◌, ◌*◌, ◌^◌, List, length, refl, sym, ◌∙◌, arith, rules, inl, inr, None, slice_index}
use Rattle.std.proofs.{lemmas.Bool.le-leb, lemmas.Bool.cases_lt, lemmas.List.get_or_past}
use Rattle.adf_base.specs.Words.{block, word, with_block, long_sum}
use Rattle.adf_base.proofs.WordLaws.{length_longs, block_written}
use Rattle.adf_blocks.specs.declared.layout.TheConstants.{ALTERED, BITMAP_FLAG, CHECKSUM, CREATED, DATE, FIRST_MAP_EXT, FIRST_PAGE, FIRST_SLOT, HASH_SIZE, NAME}
use Rattle.adf_blocks.specs.declared.layout.TheConstants.{ROOT_PAGES, SECONDARY_TYPE, SLOTS, ST_ROOT, TYPE, T_SHORT, VALID}
use Rattle.adf_blocks.specs.{Forms.first_cause, Forms.text_at, Fields.Descends, Fields.long, Fields.longs}
use Rattle.adf_blocks.specs.RootBlock.{FitsRoot, RootFields, root_block, root_form, root_table, stamps_at}
use Rattle.adf_names.specs.Meta.{AreStamps}
use Rattle.adf_blocks.proofs.FieldLaws.{apart_between, length_sealed_fields, long_number, numbers_of_field, stamp_of_field, sum_of_fields, text_of_field}
use Rattle.adf_blocks.proofs.FieldLaws.{word_between, word_of_field}

-- the fields of a root fit side by side
pub root_descends : (r : RootFields) → FitsRoot r → Descends 512 (root_table r)
root_descends r h = search (rules, length_longs)

-- the words of a root
pub root_block-sum : (r : RootFields) → FitsRoot r → long_sum (root_block r) ≡ 0
unfolding root_block
root_block-sum r h = sum_of_fields (root_table r) (root_descends r h)

pub root_block-type : (r : RootFields) → FitsRoot r → word (root_block r) TYPE ≡ T_SHORT
unfolding root_block
root_block-type r h = word_of_field (root_table r) TYPE T_SHORT (root_descends r h) (search rules) (omega arith) (omega arith)

pub root_block-secondary : (r : RootFields) → FitsRoot r → word (root_block r) SECONDARY_TYPE ≡ ST_ROOT
unfolding root_block
root_block-secondary r h = word_of_field (root_table r) SECONDARY_TYPE ST_ROOT (root_descends r h) (search rules) (omega arith) (omega arith)

pub root_block-valid : (r : RootFields) → FitsRoot r → word (root_block r) BITMAP_FLAG ≡ VALID
unfolding root_block
root_block-valid r h = word_of_field (root_table r) BITMAP_FLAG VALID (root_descends r h) (search rules) (omega arith) (omega arith)

-- a slot of a root
pub root_block-slot : (r : RootFields) (s : ℕ) → FitsRoot r → s < SLOTS → slice_index r.slots s < 2 ^ 32
    → word (root_block r) (FIRST_SLOT + s) ≡ slice_index r.slots s
unfolding root_block
root_block-slot r s h lt small =
    numbers_of_field CHECKSUM (root_table r) FIRST_SLOT s r.slots (omega arith) (root_descends r h) (search rules) (omega (arith, h.slots))
    (omega arith)
    ∙ long_number (slice_index r.slots s) small

pub root_block-hash_size : (r : RootFields) → FitsRoot r → word (root_block r) HASH_SIZE ≡ SLOTS
unfolding root_block
root_block-hash_size r h = word_of_field (root_table r) HASH_SIZE SLOTS (root_descends r h) (search rules) (omega arith) (omega arith)

pub root_block-label : (r : RootFields) → FitsRoot r → (slice_index (root_block r) NAME ≡ length r.label) × (text_at (root_block r) NAME ≡ r.label)
unfolding root_block
root_block-label r h = text_of_field (root_table r) NAME r.label (root_descends r h) (search rules) (omega arith)

-- the text of a root's label
pub root_block-text : (r : RootFields) → FitsRoot r → text_at (root_block r) NAME ≡ r.label
root_block-text r h = (root_block-label r h).1

-- the bitmap pages of a root, or 0 past the last
pub root_block-page : (r : RootFields) (i : ℕ) → FitsRoot r → i < ROOT_PAGES → slice_index r.pages i < 2 ^ 32
    → word (root_block r) (FIRST_PAGE + i) ≡ slice_index r.pages i
unfolding root_block
root_block-page r i h lt small = elim (cases_lt i (length r.pages)) [
  | inl in_pages ↦
      numbers_of_field CHECKSUM (root_table r) FIRST_PAGE i r.pages (omega arith) (root_descends r h) (search rules) in_pages (omega arith)
      ∙ long_number (slice_index r.pages i) small
  | inr past ↦
      let pages = length_longs r.pages in
      word_between (root_table r) (FIRST_PAGE + i) (root_descends r h) (omega arith)
      (apart_between 512 (4 * (FIRST_PAGE + i)) (4 * (FIRST_PAGE + i) + 4) (root_table r) (4 * FIRST_MAP_EXT, long r.map_ext)
      (4 * FIRST_PAGE, longs r.pages) (root_descends r h) (search rules) (omega arith) (omega arith))
      (omega arith)
      ∙ sym (get_or_past r.pages i 0 past)
]

-- the first bitmap extension block of a root
pub root_block-map_ext : (r : RootFields) → FitsRoot r → r.map_ext < 2 ^ 32 → word (root_block r) FIRST_MAP_EXT ≡ r.map_ext
unfolding root_block
root_block-map_ext r h small = word_of_field (root_table r) FIRST_MAP_EXT r.map_ext (root_descends r h) (search rules) (omega arith) small

-- the dates of a root
pub root_block-stamps : (r : RootFields) → FitsRoot r → AreStamps r.stamps → stamps_at (root_block r) ≡ r.stamps
unfolding root_block
root_block-stamps r h fits =
    let root = stamp_of_field (root_table r) DATE r.stamps.root (root_descends r h) (search rules) (omega arith) fits.root in
    let altered = stamp_of_field (root_table r) ALTERED r.stamps.altered (root_descends r h) (search rules) (omega arith) fits.altered in
    let created = stamp_of_field (root_table r) CREATED r.stamps.created (root_descends r h) (search rules) (omega arith) fits.created in
    rw (root, altered, created) refl

-- a root that was written is read
pub root_block-form : (r : RootFields) → FitsRoot r → first_cause (root_form (root_block r)) ≡ None
root_block-form r h = grind (arith, le-leb, root_block-label, root_block-sum, root_block-type, root_block-secondary, root_block-hash_size, root_block-valid)

-- a root is a whole block
pub length_root_block : (r : RootFields) → FitsRoot r → length (root_block r) ≡ 512
unfolding root_block
length_root_block r h = length_sealed_fields (root_table r) (root_descends r h)

-- a root that was written into an image is read there
pub written_root_form : (image : List ℕ) (b : ℕ) (r : RootFields) → FitsRoot r → b * 512 + 512 ≤ length image
    → first_cause (root_form (block (with_block image b (root_block r)) b)) ≡ None
written_root_form image b r h room = rw (block_written image b (root_block r) room (length_root_block r h)) (root_block-form r h)
