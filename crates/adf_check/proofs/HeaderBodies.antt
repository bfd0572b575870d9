-- The words of a header that its body is read from.
use Rattle.std.proofs.Common.{◌≡◌, ◌≢◌, ℕ, List, Bool, true, false, refl, sym, ◌∙◌, if◌then◌else◌, arith}
use Rattle.std.proofs.{lemmas.Bool.eqb-true, lemmas.Bool.eqb-false, lemmas.Grind.common_steps}
use Rattle.adf_blocks.specs.declared.layout.TheConstants.{EXTENSION, SECONDARY_TYPE, SIZE, ST_DIR}
use Rattle.adf_base.specs.Words.{block}
use Rattle.adf_blocks.specs.HeadBlock.{body_at}
use Rattle.adf_blocks.specs.declared.head.HeadBody.{HeadBody, TheVariants.Dir, TheVariants.File}
use Rattle.adf_volume.specs.Image.{word_in}

pick_dir : (t : Bool) (s e : ℕ) → (if t then Dir else File s e) ≡ Dir → t ≡ true
pick_dir true s e h = refl
pick_dir false s e h = cc

pick_file : (t : Bool) (s e x y : ℕ) → (if t then Dir else File s e) ≡ File x y → (t ≡ false) × (x ≡ s) × (y ≡ e)
pick_file true s e x y h = cc
pick_file false s e x y h = (refl, cc, cc)

module _ (image : List ℕ) (b : ℕ) {body : HeadBody} (is : body ≡ body_at (block image b)) where
  -- a directory has the type of one
  pub dir_type : body ≡ Dir → word_in image b SECONDARY_TYPE ≡ ST_DIR
  dir_type h = eqb-true (word_in image b SECONDARY_TYPE) ST_DIR (pick_dir _ (word_in image b SIZE) (word_in image b EXTENSION) (sym is ∙ h))

  -- a file has not, and its size and its first extension block
  pub file_words : {size ext : ℕ} → body ≡ File size ext
      → (word_in image b SECONDARY_TYPE ≢ ST_DIR) × (size ≡ word_in image b SIZE) × (ext ≡ word_in image b EXTENSION)
  file_words {size = size} {ext = ext} h = grind (arith, common_steps, pick_file, eqb-false)
