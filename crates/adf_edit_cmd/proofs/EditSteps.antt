-- Edits one after the other, and the bytes of their files.
use Rattle.std.proofs.Common.{◌≡◌, ◌<◌, ◌≤◌, ◌+◌, ◌++◌, ◌∙◌, ℕ, suc, List, [], ◌∷◌, Option, Some, length, map, drop, get_or, slice_index, take, true}
use Rattle.std.proofs.Common.{ap, refl, arith}
use Rattle.std.proofs.{Math.Seq.drop-cons, Math.Seq.take-append_seam, lemmas.List.drop_all, lemmas.List.get_or-take, lemmas.List.length-map}
use Rattle.std.proofs.{lemmas.Bool.and_parts, lemmas.Bool.eqb-true, lemmas.Grind.common_steps}
use Rattle.adf_boot_blocks.proofs.OtherBoots.{other_fits_by}
use Rattle.adf_boot_blocks.specs.BootBlocks.{IsOtherBoot, begins_with_dos, is_bootable}
use Rattle.adf_build.specs.{Building.IsBuildable, Laid.volume, Plan.planned}
use Rattle.adf_edits.specs.{Edits.EditValue, Edits.edit_value, Edits.edited, Outline.OutlineValue, declared.edits.Edit.Edit}
use Rattle.adf_base.specs.{Words.block, declared.hash.Letters.Letters}
use Rattle.adf_tree.specs.Tree.{Tree}
use Rattle.adf_volume.specs.{Fits.FitsBy, Layout.Layout}
use Rattle.adf_edit_cmd.specs.Edited.{AreApplied, IsLaidOver, booted}
use Rattle.adf_edit_cmd.specs.Script.{behind_file, bytes_taken, files_len}
use Rattle.adf_edit_cmd.specs.declared.script.{BootEdit.BootEdit, BootEdit.TheVariants.Install}

-- edits that are left make of an outline what all make of the first
abbrev pub GoesOn : List EditValue → List ℕ → OutlineValue → List EditValue → List ℕ → OutlineValue → Type 0
GoesOn all first old left given now = (new : OutlineValue) → AreApplied left given now new → AreApplied all first old new

-- the next edit is applied
pub edit_next : (all : List EditValue) (first : List ℕ) (old : OutlineValue) (xs ys : List Edit) (e : Edit) (given rest : List ℕ) (now next : OutlineValue)
    → xs ≡ e ∷ ys → edited (edit_value e) given now ≡ Some next → rest ≡ behind_file (edit_value e) given
    → GoesOn all first old (map edit_value xs) given now → GoesOn all first old (map edit_value ys) rest next
unfolding AreApplied
edit_next all first old xs ys e given rest now next front is tail goes = λ new h. (rw front at goes) new (next, is, rw tail at h)

pub edits_over : (all : List EditValue) (first : List ℕ) (old : OutlineValue) (xs : List Edit) (given : List ℕ) (now : OutlineValue)
    → xs ≡ [] → GoesOn all first old (map edit_value xs) given now → AreApplied all first old now
unfolding AreApplied
edits_over all first old xs given now none goes = (rw none at goes) now refl

-- the bytes of the next edit
files_from : (es : List Edit) (i : ℕ) (e : Edit) → i < length es → get_or es i e ≡ e
    → map edit_value (drop i es) ≡ edit_value e ∷ map edit_value (drop (i + 1) es)
files_from es i e lt is =
    ap (map edit_value) (drop-cons es i e lt ∙ (ap (λ x. x ∷ drop (suc i) es) is ∙ ap (λ k. e ∷ drop k es) (suc_plus i)))
  where
    suc_plus : (k : ℕ) → suc k ≡ k + 1
    suc_plus k = omega arith

-- how many bytes the files take from an edit on
files_more : (e : EditValue) (es : List EditValue) → files_len (e ∷ es) ≡ bytes_taken e + files_len es
unfolding files_len
files_more e es = refl

pub len_next : (es : List Edit) (i : ℕ) (e : Edit) → i < length es → get_or es i e ≡ e
    → files_len (map edit_value (drop i es)) ≡ bytes_taken (edit_value e) + files_len (map edit_value (drop (i + 1) es))
len_next es i e lt is = ap files_len (files_from es i e lt is) ∙ files_more (edit_value e) (map edit_value (drop (i + 1) es))

pub len_over : (es : List Edit) (i : ℕ) → length es ≤ i → files_len (map edit_value (drop i es)) ≡ 0
unfolding files_len
len_over es i le = ap (λ fs. files_len (map edit_value fs)) (drop_all i es le)

pub as_few : (es : List Edit) (most : ℕ) → length (map edit_value es) ≤ most → length es ≤ most
as_few es most h = omega (arith, h, length-map es edit_value)

first_byte : (image : List ℕ) (i : ℕ) → i < 4 → slice_index (block image 0) i ≡ slice_index image i
unfolding block
first_byte image i lt = get_or-take 512 image i 0 (omega (arith, lt))

-- a volume begins with `DOS`
volume_begins : {letters : Letters} (image : List ℕ) (t : Tree) (l : Layout) → FitsBy letters image t l → begins_with_dos image ≡ true
volume_begins image t l fits =
    let dos = fits.boots.1.0 in
    let a : slice_index image 0 ≡ 0x44 = grind (arith, common_steps, and_parts, eqb-true, first_byte) in
    let b : slice_index image 1 ≡ 0x4F = grind (arith, common_steps, and_parts, eqb-true, first_byte) in
    let c : slice_index image 2 ≡ 0x53 = grind (arith, common_steps, and_parts, eqb-true, first_byte) in
    rw (a, b, c) refl

-- what is laid with other boot blocks is a volume of the tree
pub laid_over : (boot : Option BootEdit) (t : Tree) (n : ℕ) (image old new : List ℕ) → IsBuildable t n → old ≡ volume t n
    → FitsBy t.letters old t (planned t n) → IsOtherBoot old new
    → new ≡ booted boot n image old → (begins_with_dos old ≡ true → boot ≡ Some Install → is_bootable new ≡ true)
    → IsLaidOver boot t n image new
laid_over boot t n image old new room is fits other put starts = record {
  room = room;
  bytes = put ∙ ap (λ (v : List ℕ). booted boot n image v) is;
  fits = other_fits_by old new other t (planned t n) fits;
  starts = starts (volume_begins old t (planned t n) fits);
}

-- a whole block that is written is what stands there
pub whole_block : (n : ℕ) (xs ys : List ℕ) → n ≡ length xs → take n (xs ++ ys) ≡ xs
whole_block n xs ys is = ap (λ k. take k (xs ++ ys)) is ∙ take-append_seam xs ys
