-- The first fault of an image as one without caches, and that of its caches.
-- Letters: bytes those of the image without caches; caches the fault of caches, if there is one; b, d blocks; c, e causes; f a fault; t a tree, l a layout.
use Rattle.std.specs.Prelude.{Option, Some, None, Result, Ok, Err, IfErr, IfOk}
use Rattle.std.proofs.Common.{◌≡◌, ◌≢◌, ℕ, true, false, List, inl, inr, subst}
use Rattle.std.proofs.lemmas.Bool.{cases_Bool}
use Rattle.adf_tree.specs.Tree.{Tree}
use Rattle.adf_blocks.specs.declared.cause.Cause.{Cause, TheVariants.NoMemory}
use Rattle.adf_volume.specs.{Fits.FitsOf, Layout.Layout, Walk.FirstFaultOf, declared.fault.Fault.Fault}
use Rattle.adf_volume.specs.declared.types.Types.TheVariants.{WithInternational}
use Rattle.adf_volume.proofs.TypeLaws.{none_fits_of, one_fault_of}
use Rattle.adf_uncached.specs.Verdict.{FirstFaultUncached, FirstFaultUncached.at_bit, FirstFaultUncached.at_cache, FirstFaultUncached.at_part}
use Rattle.adf_uncached.specs.Verdict.{FitsUncached, HasParts, is_of_bit}

module _ (bytes : List ℕ) where
  -- parts have no fault where the first one is of a bit
  pub parts_at_bit : (b : ℕ) (c : Cause) → FirstFaultOf WithInternational bytes b c → is_of_bit c ≡ true → HasParts bytes
  parts_at_bit b c first bit d e other =
      let same = one_fault_of WithInternational bytes b c d e first other in
      subst (λ x. is_of_bit x ≡ true) same.1 bit

  -- or where a tree fits
  pub parts_that_fit : (t : Tree) (l : Layout) → FitsOf WithInternational bytes t l → HasParts bytes
  parts_that_fit t l fits d e other = absurd (none_fits_of WithInternational bytes d e t l other fits)

  -- the verdict where a tree fits
  pub caches_told : (caches : Option Fault) (t : Tree) (l : Layout) (f : Fault) → FitsOf WithInternational bytes t l → caches ≡ Some f
      → FirstFaultUncached caches bytes f.block f.cause
  caches_told caches t l f fits is = at_cache (parts_that_fit t l fits) is

  -- the verdict where there is a first fault
  pub fault_told : (caches : Option Fault) (b : ℕ) (c : Cause) → FirstFaultOf WithInternational bytes b c → is_of_bit c ≡ false
      → FirstFaultUncached caches bytes b c
  fault_told caches b c first part = at_part first part

  pub bit_told : (caches : Option Fault) (b : ℕ) (c : Cause) → FirstFaultOf WithInternational bytes b c → is_of_bit c ≡ true → caches ≡ None
      → FirstFaultUncached caches bytes b c
  bit_told caches b c first bit none = at_bit none first bit

  pub cache_told : (caches : Option Fault) (b : ℕ) (c : Cause) (f : Fault) → FirstFaultOf WithInternational bytes b c → is_of_bit c ≡ true
      → caches ≡ Some f → FirstFaultUncached caches bytes f.block f.cause
  cache_told caches b c f first bit is = at_cache (parts_at_bit b c first bit) is

  -- the verdict where the caches have no fault
  pub other_told : (caches : Option Fault) (b : ℕ) (c : Cause) → caches ≡ None → FirstFaultOf WithInternational bytes b c
      → FirstFaultUncached caches bytes b c
  other_told caches b c none first = elim (cases_Bool (is_of_bit c)) [
    | inl y ↦ at_bit none first y
    | inr y ↦ at_part first y
  ]

  -- what a check says of them where the caches have no fault
  pub first_of : {A : Type 0} (caches : Option Fault) (r : Result A Fault) → caches ≡ None
      → IfErr r (λ f. f.cause ≢ NoMemory → FirstFaultOf WithInternational bytes f.block f.cause)
      → IfErr r (λ f. f.cause ≢ NoMemory → FirstFaultUncached caches bytes f.block f.cause)
  first_of caches (Ok v) none h = h
  first_of caches (Err f) none h = λ some. other_told caches f.block f.cause none (h some)

pub fits_of : (caches : Option Fault) (r : Result (List ℕ) Fault) → caches ≡ None
    → IfOk r (λ v. (t : Tree) × (l : Layout) × FitsOf WithInternational v t l)
    → IfOk r (λ v. (t : Tree) × (l : Layout) × FitsUncached caches v t l)
fits_of caches (Ok v) none h = (h.0, h.1, record { right = none; fits = h.2 })
fits_of caches (Err f) none h = h

-- a cause of a bit is not that memory ran out
pub bit_no_memory : (c : Cause) → is_of_bit c ≡ true → c ≢ NoMemory
bit_no_memory c h e = let none : is_of_bit NoMemory ≡ true = subst (λ x. is_of_bit x ≡ true) e h in cc
