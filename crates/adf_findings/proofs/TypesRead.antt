-- How an image begins for a check that accepts these types.
-- Letters: at, c the block and the cause of a finding of the boot block; n a type.
use Rattle.std.proofs.Common.{true, false, not, None, Some, Option, cond, ◌≡◌, ◌<◌, ◌&&◌, ◌==◌, ℕ, List, [], ◌∷◌, ◌⊎◌, ◌++◌, inl, inr, refl, sym, subst, ap}
use Rattle.std.proofs.Common.{◌∙◌, arith, slice_index}
use Rattle.std.proofs.{lemmas.Bool.le-ltb, lemmas.Bool.Decides.nat_tests, lemmas.Grind.common_steps}
use Rattle.adf_base.specs.Words.{block}
use Rattle.adf_base.specs.declared.hash.Letters.TheVariants.{Ascii, International as InternationalLetters}
use Rattle.adf_blocks.specs.declared.cause.Cause.{Cause, TheVariants.BadSize, TheVariants.DirCache, TheVariants.International, TheVariants.NotDos}
use Rattle.adf_blocks.specs.Forms.{first_cause}
use Rattle.adf_volume.specs.Demands.{AllHold, FirstFails, boot_demands, boot_demands_by, has_letters}
use Rattle.adf_volume.specs.{Image.letters_of, Start.start_form, Types.letters_for}
use Rattle.adf_volume.proofs.{ImageStart.boot_fails, ImageStart.boot_holds, ImageStart.plain_letters, Lists.fails_not_all, OneFault.fails_one}
use Rattle.adf_findings.specs.Survey.{BootTells, FindingValue, finding, is_other_type, BootTells.clean_boot, BootTells.other_type}
use Rattle.adf_findings.specs.Types.{passed, passed_of}
use Rattle.adf_volume.specs.declared.types.Types.{Types, TheVariants.Plain, TheVariants.WithInternational}
use Rattle.adf_findings.proofs.FirstFindings.{BootReads, Reads}

-- types 0 and 1 alone: each finding is a fault
plain_boot : {image : List ℕ} {fs : List FindingValue} → BootTells image fs → BootReads image Ascii [] fs
plain_boot (clean_boot h) = inl (refl, h)
plain_boot (other_type {at = at} {c = c} h e) = inr (finding None at c, refl, h)

plain_reads : (image : List ℕ) → Reads image Ascii []
plain_reads image = record { boot = plain_boot; bad = (λ h e. (refl, h)); same = plain_letters image }

-- the types that are no type of ASCII letters, and those of directory caches
two_or_three : (n : ℕ) → ((not (n == 2) && not (n == 3)) ≡ true → ⊥) → (n ≡ 2) ⊎ (n ≡ 3)
two_or_three n h = grind (arith, common_steps, nat_tests)

four_or_five : (n : ℕ) → ((not (n == 4) && not (n == 5)) ≡ true → ⊥) → (n ≡ 4) ⊎ (n ≡ 5)
four_or_five n h = grind (arith, common_steps, nat_tests)

-- each of them may have international letters; those of 2 and 3 have no directory caches
international_type : (n : ℕ) → (n ≡ 2) ⊎ (n ≡ 3)
    → (has_letters InternationalLetters n ≡ true) × ((not (n == 4) && not (n == 5)) ≡ true) × (n < 2 → ⊥)
international_type n (inl e) = rw (e) (refl, refl, (λ lt. omega arith))
international_type n (inr e) = rw (e) (refl, refl, (λ lt. omega arith))

cached_type : (n : ℕ) → (n ≡ 4) ⊎ (n ≡ 5) → (has_letters InternationalLetters n ≡ true) × (n < 2 → ⊥)
cached_type n (inl e) = rw (e) (refl, (λ lt. omega arith))
cached_type n (inr e) = rw (e) (refl, (λ lt. omega arith))

module _ (image : List ℕ) where
  abbrev type : ℕ
  type = slice_index (block image 0) 3

  -- the letters of types from 2 on
  other_letters : (type < 2 → ⊥) → letters_of image ≡ InternationalLetters
  unfolding letters_of
  other_letters h = ap (λ low. cond low Ascii InternationalLetters) (le-ltb type 2 (omega (arith, h)))

  -- the cause of a boot block is the first one
  first_is : (at : ℕ) (c : Cause) → FirstFails (boot_demands image) at c → (first_cause (start_form image) ≡ Some c) × (at ≡ 0)
  first_is at c h = go (first_cause (start_form image)) refl
    where
      go : (o : Option Cause) → first_cause (start_form image) ≡ o → (o ≡ Some c) × (at ≡ 0)
      go None e = absurd (fails_not_all (boot_demands image) at c h (boot_holds Ascii image e))
      go (Some d) e =
          let same = fails_one (boot_demands image) 0 d at c (boot_fails Ascii image d e) h in
          (ap Some same.1, sym same.0)

  none_first : AllHold (boot_demands image) → first_cause (start_form image) ≡ None
  none_first h = grind (arith, common_steps, fails_not_all, boot_fails)

  -- a boot block of another type is one of international letters, or of directory caches
  abbrev Other : ℕ → Cause → Type 0
  Other at c =
      ((c ≡ International) × AllHold (boot_demands_by InternationalLetters image))
      ⊎ ((c ≡ DirCache) × FirstFails (boot_demands_by InternationalLetters image) at c)

  not_other : (c d : Cause) → is_other_type c ≡ false → is_other_type d ≡ true → c ≡ d → ⊥
  not_other c d h e same = let clash : false ≡ true = sym h ∙ ap is_other_type same ∙ e in cc

  other : (at : ℕ) (c : Cause) → FirstFails (boot_demands image) at c → is_other_type c ≡ true → Other at c × (type < 2 → ⊥)
  other at c (inl x) e = absurd (not_other BadSize c refl e x.2)
  other at c (inr (size, inl x)) e = absurd (not_other NotDos c refl e x.2)
  other at c (inr (size, inr (dos, inl x))) e = grind (arith, common_steps, international_type, two_or_three)
  other at c (inr (size, inr (dos, inr (plain, inl x)))) e = grind (arith, common_steps, cached_type, four_or_five)
  other at c (inr (size, inr (dos, inr (plain, inr x)))) e = absurd x.1

  -- the boot block by the letters of the image
  by_letters : {fs : List FindingValue} → BootTells image fs → BootReads image (letters_of image) (passed WithInternational image) fs
  by_letters {fs} (clean_boot h) = grind (arith, common_steps, plain_letters, none_first)
  by_letters (other_type {at = at} {c = c} h e) =
      let x = other at c h e in
      subst (λ l. BootReads image l (passed WithInternational image) (finding None at c ∷ [])) (sym (other_letters x.1)) (read x.0 (first_is at c h))
    where
      read : Other at c → (first_cause (start_form image) ≡ Some c) × (at ≡ 0)
          → BootReads image InternationalLetters (passed WithInternational image) (finding None at c ∷ [])
      read (inl (is, holds)) first =
          inl ((λ i. finding None (first.1 i) (is i) ∷ []) ∙ sym (ap passed_of (first.0 ∙ ap Some is)), holds)
      read (inr (is, fails)) first =
          let none : passed WithInternational image ≡ [] = ap passed_of (first.0 ∙ ap Some is) in
          inr (finding None at c, ap (λ l. l ++ finding None at c ∷ []) (sym none), fails)

  by_letters_bad : {at : ℕ} {c : Cause} → FirstFails (boot_demands image) at c → is_other_type c ≡ false
      → (passed WithInternational image ≡ []) × FirstFails (boot_demands_by (letters_of image) image) at c
  by_letters_bad {at = at} {c = c} h e = (ap passed_of (first_is at c h).0 ∙ none c e, same h)
    where
      none : (c : Cause) → is_other_type c ≡ false → passed_of (Some c) ≡ []
      none International e = cc
      none _ e = refl

      same : FirstFails (boot_demands image) at c → FirstFails (boot_demands_by (letters_of image) image) at c
      same (inl x) = inl x
      same (inr (size, inl x)) = inr (size, inl x)
      same (inr (size, inr (dos, inl x))) = absurd (let clash : false ≡ true = sym e ∙ ap is_other_type (sym x.2) in let none : ⊥ = cc in none)
      same (inr (size, inr (dos, inr (plain, inl x)))) =
          absurd (let clash : false ≡ true = sym e ∙ ap is_other_type (sym x.2) in let none : ⊥ = cc in none)
      same (inr (size, inr (dos, inr (plain, inr x)))) = absurd x.1

  pub types_read : (types : Types) → Reads image (letters_for types image) (passed types image)
  types_read Plain = plain_reads image
  types_read WithInternational = record { boot = by_letters; bad = by_letters_bad; same = (λ h. refl) }
