-- What is told of an image that is kept as one without caches is told of the image.
-- Letters: u what is kept; t a tree, l a layout; b a block, c a cause; n a number, or counts; v the image of a checked volume.
use Rattle.std.proofs.lemmas.Grind.{common_steps}
use Rattle.std.proofs.Common.{◌≡◌, ◌≢◌, ◌∙◌, ℕ, List, ap, arith, inl, inr, length, refl, subst, sym}
use Rattle.adf_tree.specs.Tree.{Tree}
use Rattle.adf_blocks.specs.{Causes.cause_number, declared.cause.Cause.Cause, declared.cause.Cause.TheVariants.NoMemory}
use Rattle.adf_volume.specs.{Counts.counts_of, Fits.FitsBy, Layout.Layout, Types.letters_for, declared.counts.Counts.Counts}
use Rattle.adf_volume.specs.declared.types.Types.TheVariants.{WithInternational}
use Rattle.adf_check.specs.Volumes.{OnVolume}
use Rattle.adf_uncached.specs.{Cached.cached_counts, Verdict.with_used, declared.images.Uncached.Uncached}
use Rattle.adf_uncached.proofs.FaultSteps.{other_told}
use Rattle.adf_cached_files.specs.InPlace.{FirstFaultInPlace, FitsInPlace, IsKeptOf, IsReadInPlace}
use Rattle.adf_cached_files.proofs.{KeptImages.first_told, KeptImages.fits_kept, OneInPlace.none_in_place}
use Rattle.adf_memory.specs.{CheckCalls.IsCheckedOf, Verdicts.WantsMemory}
use Rattle.adf_memory.proofs.ToldCauses.{same_cause, some_number}
use Rattle.adf_memory_types.specs.CachedCalls.{IsCheckedCached}

module _ (image : List ℕ) (u : Uncached) (held : IsKeptOf image u) where
  -- the counts of what fits
  pub counts_told : (v : List ℕ) (n : Counts) → v ≡ u.image.items
      → OnVolume v (λ t l. n ≡ with_used (length u.blocks.items) (counts_of v t l))
      → (t : Tree) (l : Layout) (fits : FitsInPlace image t l) → n ≡ cached_counts image fits.cached.walk t l
  counts_told v n same told t l fits =
      let is = held fits.cached.walk fits.cached.findings fits.cached.survey in
      let kept = (fits_kept image u held t l fits.cached).fits.1 in
      let here = subst (λ (i : List ℕ). FitsBy (letters_for WithInternational u.image.items) i t l) (sym same) kept in
      told (letters_for WithInternational u.image.items) t l here
      ∙ ap (λ (b : List ℕ). with_used (length u.blocks.items) (counts_of b t l)) same
      ∙ (λ i. with_used (length (is.blocks i)) (counts_of (is.bytes i) t l))

-- a check that accepts
pub accepted_told : (image : List ℕ) (b : ℕ) (t : Tree) (l : Layout) → FitsInPlace image t l → IsCheckedCached image b 0
accepted_told image b t l fits =
    let nothing : (X : Type 0) → WantsMemory 0 → X = λ X e. absurd (omega (arith, e)) in
    record {
      number = inl refl;
      fits = λ zero. (t, l, fits);
      first = λ some. absurd (some refl);
      none = λ some. absurd (some refl);
      memory = nothing _;
    }

-- a check that refuses an image at a block answers the number of the cause
pub refused_told : (image : List ℕ) (c : Cause) (b n : ℕ) → n ≡ cause_number c → (c ≢ NoMemory → FirstFaultInPlace image b c)
    → (c ≡ NoMemory → b ≡ 0) → IsCheckedCached image b n
refused_told image c b n is fault zero =
    let wants : WantsMemory n → c ≡ NoMemory = λ e. same_cause c NoMemory (sym is ∙ e) in
    let other : ¬ WantsMemory n → c ≢ NoMemory = λ no e. no (is ∙ ap cause_number e) in
    record {
      number = inr (c, sym is);
      fits = λ e. absurd (some_number c (sym is ∙ e));
      first = λ some no. (c, sym is, fault (other no));
      none = λ some no t l fits. none_in_place image b c t l (fault (other no)) fits;
      memory = λ e. zero (wants e);
    }

-- a check for which memory ran out
pub memory_told : (image : List ℕ) (n : ℕ) → n ≡ cause_number NoMemory → IsCheckedCached image 0 n
memory_told image n is = refused_told image NoMemory 0 n is (λ other. absurd (other refl)) (λ same. refl)

-- the first fault, at the block that is told
pub first_at : (image : List ℕ) (c : Cause) (at b : ℕ) → (c ≢ NoMemory → FirstFaultInPlace image at c) → (c ≢ NoMemory → b ≡ at)
    → c ≢ NoMemory → FirstFaultInPlace image b c
first_at image c at b first same other = subst (λ x. FirstFaultInPlace image x c) (sym (same other)) (first other)

-- a check of what is kept, where the image is read in place
pub kept_told : (image : List ℕ) (u : Uncached) → IsReadInPlace image u → (b n : ℕ) → IsCheckedOf WithInternational u.image.items b n
    → IsCheckedCached image b n
kept_told image u read b n checked =
    let (t, l, here) = read.fits in
    let right = (fits_kept image u read.kept t l here.cached).right in
    record {
      number = checked.number;
      fits = λ zero. (t, l, here);
      first = λ some no.
          let (c, number, first) = checked.first some no in
          (c, number, first_told image u read.kept b c (other_told u.image.items u.fault b c right first));
      none = λ some no t l fits. checked.none some no t l (fits_kept image u read.kept t l fits.cached).fits;
      memory = checked.memory;
    }

-- the block that is told of a fault
abbrev pub told_at : Cause → ℕ → ℕ
told_at NoMemory b = 0
told_at _ b = b

pub told_none : (c : Cause) (b : ℕ) → c ≡ NoMemory → told_at c b ≡ 0
told_none c b e = subst (λ x. told_at x b ≡ 0) (sym e) refl

pub told_other : (c : Cause) (b : ℕ) → c ≢ NoMemory → told_at c b ≡ b
told_other c b other = grind (arith, common_steps)
