-- The fields of a written header.
use Rattle.std.proofs.Common.{◌≡◌, ◌≤◌, ◌<◌, ℕ, ◌+◌, ◌-◌, ◌*◌, ◌^◌, List, length, refl, ap, ◌∙◌, arith, rules, true, None, not, slice_index}
use Rattle.std.proofs.lemmas.Bool.{eq-eqb, le-leb, Decides.nat_tests}
use Rattle.std.proofs.{lemmas.List.length-reverse, Math.Bool.or-true, lemmas.Grind.common_steps}
use Rattle.byteorder.specs.Endian.{big_number}
use Rattle.adf_base.specs.{Hash.slot_of, Words.block, Words.word, Words.with_block, Words.long_sum, Dates.IsStamp}
use Rattle.adf_base.proofs.WordLaws.{length_longs, block_written}
use Rattle.adf_names.specs.{Meta.IsBoundedMeta, Texts.is_name, declared.kind.Kind.Kind, declared.kind.Kind.TheVariants.Ofs, declared.kind.Kind.TheVariants.Ffs}
use Rattle.adf_blocks.specs.{Forms.first_cause, Forms.stamp_at, Forms.text_at, Fields.Descends, Fields.long}
use Rattle.adf_blocks.specs.declared.layout.TheConstants.{CHECKSUM, COMMENT, DATE, EXTENSION, FIRST_DATA, FIRST_POINTER, FIRST_SLOT, NAME, NEXT_IN_CHAIN}
use Rattle.adf_blocks.specs.declared.layout.TheConstants.{OWN_KEY, PARENT, POINTERS, PROTECTION, SECONDARY_TYPE, SIZE, SLOTS, ST_DIR, TYPE, T_SHORT}
use Rattle.adf_blocks.specs.HeadBlock.{BodyFields, FitsBody, FitsBodyWords, FitsHead, HeadFields, head_block, head_form, head_table, body_at, body_stated}
use Rattle.adf_blocks.specs.HeadBlock.{ext_of, first_of, has_first, has_type, is_link, is_name_at, meta_at, secondary_of, size_of, table_of}
use Rattle.adf_blocks.specs.HeadBlock.BodyFields.{DirFields, FileFields}
use Rattle.adf_blocks.proofs.{ClauseLaws.no_cause, FieldLaws.text_of_field, FieldLaws.word_of_field}
use Rattle.adf_blocks.proofs.FieldLaws.{length_sealed_fields, long_number, number_of_field, numbers_of_field, pointer_number, stamp_of_field, sum_of_fields}

-- a name has at most 30 bytes
pub name_short : (bs : List ℕ) → is_name bs ≡ true → length bs ≤ 30
name_short bs h = grind (arith, nat_tests)

-- the slots or pointers lie between the other fields
table_fits : (b : BodyFields) → FitsBody b → ((table_of b).0 + length (table_of b).1 ≤ 4 * PROTECTION) × (4 * FIRST_DATA + 4 ≤ (table_of b).0)
table_fits (DirFields slots) h = search (rules, length_longs)
table_fits (FileFields size table ext) h = search (rules, length_longs, length-reverse)

-- the fields of a header fit side by side
pub head_descends : (h : HeadFields) → FitsHead h → Descends 512 (head_table h)
head_descends h fits = search (rules, name_short, table_fits)

-- a header is a whole block
pub length_head_block : (h : HeadFields) → FitsHead h → length (head_block h) ≡ 512
unfolding head_block
length_head_block h fits = length_sealed_fields (head_table h) (head_descends h fits)

-- the fields of a header
pub head_block-sum : (h : HeadFields) → FitsHead h → long_sum (head_block h) ≡ 0
unfolding head_block
head_block-sum h fits = sum_of_fields (head_table h) (head_descends h fits)

pub head_block-type : (h : HeadFields) → FitsHead h → word (head_block h) TYPE ≡ T_SHORT
unfolding head_block
head_block-type h fits = word_of_field (head_table h) TYPE T_SHORT (head_descends h fits) (search rules) (omega arith) (omega arith)

pub head_block-own : (h : HeadFields) → FitsHead h → word (head_block h) OWN_KEY ≡ h.own
unfolding head_block
head_block-own h fits = word_of_field (head_table h) OWN_KEY h.own (head_descends h fits) (search rules) (omega arith) fits.own

pub head_block-protect : (h : HeadFields) → FitsHead h → h.meta.protect < 2 ^ 32 → word (head_block h) PROTECTION ≡ h.meta.protect
unfolding head_block
head_block-protect h fits small = word_of_field (head_table h) PROTECTION h.meta.protect (head_descends h fits) (search rules) (omega arith) small

pub head_block-size : (h : HeadFields) → FitsHead h → size_of h.body < 2 ^ 32 → word (head_block h) SIZE ≡ size_of h.body
unfolding head_block
head_block-size h fits small = word_of_field (head_table h) SIZE (size_of h.body) (head_descends h fits) (search rules) (omega arith) small

pub head_block-comment : (h : HeadFields) → FitsHead h
    → (slice_index (head_block h) COMMENT ≡ length h.meta.comment) × (text_at (head_block h) COMMENT ≡ h.meta.comment)
unfolding head_block
head_block-comment h fits = text_of_field (head_table h) COMMENT h.meta.comment (head_descends h fits) (search rules) (omega arith)

pub head_block-stamp : (h : HeadFields) → FitsHead h → IsStamp h.meta.stamp → stamp_at (head_block h) DATE ≡ h.meta.stamp
unfolding head_block
head_block-stamp h fits small = stamp_of_field (head_table h) DATE h.meta.stamp (head_descends h fits) (search rules) (omega arith) small

pub head_block-name : (h : HeadFields) → FitsHead h → (slice_index (head_block h) NAME ≡ length h.name) × (text_at (head_block h) NAME ≡ h.name)
unfolding head_block
head_block-name h fits = text_of_field (head_table h) NAME h.name (head_descends h fits) (search rules) (omega arith)

pub head_block-next : (h : HeadFields) → FitsHead h → h.next < 2 ^ 32 → word (head_block h) NEXT_IN_CHAIN ≡ h.next
unfolding head_block
head_block-next h fits small = word_of_field (head_table h) NEXT_IN_CHAIN h.next (head_descends h fits) (search rules) (omega arith) small

pub head_block-parent : (h : HeadFields) → FitsHead h → word (head_block h) PARENT ≡ h.parent
unfolding head_block
head_block-parent h fits = word_of_field (head_table h) PARENT h.parent (head_descends h fits) (search rules) (omega arith) fits.parent

pub head_block-ext : (h : HeadFields) → FitsHead h → ext_of h.body < 2 ^ 32 → word (head_block h) EXTENSION ≡ ext_of h.body
unfolding head_block
head_block-ext h fits small = word_of_field (head_table h) EXTENSION (ext_of h.body) (head_descends h fits) (search rules) (omega arith) small

secondary_small : (b : BodyFields) → secondary_of b < 2 ^ 32
secondary_small (DirFields slots) = omega arith
secondary_small (FileFields size table ext) = omega arith

pub head_block-secondary : (h : HeadFields) → FitsHead h → word (head_block h) SECONDARY_TYPE ≡ secondary_of h.body
unfolding head_block
head_block-secondary h fits =
    word_of_field (head_table h) SECONDARY_TYPE (secondary_of h.body) (head_descends h fits) (search rules) (omega arith) (secondary_small h.body)

-- what the header's meta, body, slots and pointers read as
pub head_block-meta : (h : HeadFields) → FitsHead h → IsBoundedMeta h.meta → meta_at (head_block h) ≡ h.meta
head_block-meta h fits small = search (rules, head_block-comment, head_block-protect, head_block-stamp)

body_reads : (b : List ℕ) (body : BodyFields) → word b SECONDARY_TYPE ≡ secondary_of body → word b SIZE ≡ size_of body
    → word b EXTENSION ≡ ext_of body → body_at b ≡ body_stated body
body_reads b (DirFields slots) kind size ext = rw kind refl
body_reads b (FileFields n table x) kind size ext = rw (kind, size, ext) refl

pub head_block-body : (h : HeadFields) → FitsHead h → FitsBodyWords h.body → body_at (head_block h) ≡ body_stated h.body
head_block-body h fits small = search (rules, body_reads, head_block-secondary, head_block-size, head_block-ext)

pub head_block-slot : (h : HeadFields) (slots : List ℕ) (s : ℕ) → FitsHead h → h.body ≡ DirFields slots → s < SLOTS → slice_index slots s < 2 ^ 32
    → word (head_block h) (FIRST_SLOT + s) ≡ slice_index slots s
unfolding head_block
head_block-slot h slots s fits e lt small =
    let n : length slots ≡ SLOTS = rw e at fits.body in
    numbers_of_field CHECKSUM (head_table h) FIRST_SLOT s slots (omega arith) (head_descends h fits) (search (rules, ap table_of e)) (omega arith)
    (omega arith)
    ∙ long_number (slice_index slots s) small

-- the number in pointer j of a file, or 0 past the last
pub head_block-pointer : (h : HeadFields) (size : ℕ) (table : List ℕ) (ext j : ℕ) → FitsHead h → h.body ≡ FileFields size table ext → j < POINTERS
    → word (head_block h) (FIRST_POINTER - j) ≡ big_number 4 (long (slice_index table j))
unfolding head_block
head_block-pointer h size table ext j fits e lt =
    let n : length table ≤ POINTERS = rw e at fits.body in
    pointer_number (head_table h) FIRST_POINTER j table (4 * FIRST_DATA, long (first_of h.body)) (head_descends h fits)
    (search (rules, ap table_of e)) (omega arith) (omega arith) (omega arith) (omega arith)

-- the first data block is named twice
first_there : (h : HeadFields) → FitsHead h → word (head_block h) FIRST_DATA ≡ big_number 4 (long (first_of h.body))
unfolding head_block
first_there h fits = number_of_field (head_table h) FIRST_DATA (first_of h.body) (head_descends h fits) (search rules) (omega arith)

first_of_file : (h : HeadFields) (size : ℕ) (table : List ℕ) (ext : ℕ) → FitsHead h → h.body ≡ FileFields size table ext
    → word (head_block h) FIRST_DATA ≡ word (head_block h) FIRST_POINTER
first_of_file h size table ext fits e = search (rules, first_there, head_block-pointer)

has_first_dir : (kind : Kind) (b : List ℕ) → word b SECONDARY_TYPE ≡ ST_DIR → has_first kind b ≡ true
has_first_dir Ofs b e = rw e refl
has_first_dir Ffs b e = refl

has_first_file : (kind : Kind) (b : List ℕ) → word b FIRST_DATA ≡ word b FIRST_POINTER → has_first kind b ≡ true
has_first_file Ofs b e = rw (eq-eqb (word b FIRST_DATA) (word b FIRST_POINTER) e) (or-true _)
has_first_file Ffs b e = refl

first_holds : (kind : Kind) (h : HeadFields) (body : BodyFields) → FitsHead h → h.body ≡ body → has_first kind (head_block h) ≡ true
first_holds kind h (DirFields slots) fits e = has_first_dir kind (head_block h) (head_block-secondary h fits ∙ ap secondary_of e)
first_holds kind h (FileFields size table ext) fits e = has_first_file kind (head_block h) (first_of_file h size table ext fits e)

types_hold : (b : List ℕ) (body : BodyFields) → word b TYPE ≡ T_SHORT → word b SECONDARY_TYPE ≡ secondary_of body → has_type b ≡ true
types_hold b (DirFields slots) t e = rw (t, e) refl
types_hold b (FileFields size table ext) t e = rw (t, e) refl

no_link : (b : List ℕ) (body : BodyFields) → word b SECONDARY_TYPE ≡ secondary_of body → not (is_link (word b SECONDARY_TYPE)) ≡ true
no_link b (DirFields slots) e = rw e refl
no_link b (FileFields size table ext) e = rw e refl

name_there : (h : HeadFields) → FitsHead h → is_name_at (head_block h) NAME ≡ true
name_there h fits = grind (arith, common_steps, head_block-name, name_short, le-leb)

-- a header that was written is read
pub head_block-form : (kind : Kind) (h : HeadFields) → FitsHead h → first_cause (head_form kind h.own h.parent (slot_of h.name) (head_block h)) ≡ None
head_block-form kind h fits =
    let b : List ℕ = head_block h in
    let comment = head_block-comment h fits in
    no_cause (head_form kind h.own h.parent (slot_of h.name) b) (search (
      eq-eqb (long_sum b) 0 (head_block-sum h fits),
      types_hold b h.body (head_block-type h fits) (head_block-secondary h fits),
      no_link b h.body (head_block-secondary h fits),
      eq-eqb (word b OWN_KEY) h.own (head_block-own h fits),
      eq-eqb (word b PARENT) h.parent (head_block-parent h fits),
      name_there h fits,
      le-leb (slice_index b COMMENT) 79 (omega (arith, comment.0, fits.comment)),
      eq-eqb (slot_of (text_at b NAME)) (slot_of h.name) (ap slot_of (head_block-name h fits).1),
      first_holds kind h h.body fits refl,
    ))

-- a header that was written into an image is read there
pub written_head_form : (image : List ℕ) (b : ℕ) (h : HeadFields) (kind : Kind) → FitsHead h → b * 512 + 512 ≤ length image
    → first_cause (head_form kind h.own h.parent (slot_of h.name) (block (with_block image b (head_block h)) b)) ≡ None
written_head_form image b h kind fits room = rw (block_written image b (head_block h) room (length_head_block h fits)) (head_block-form kind h fits)
