-- Blocks that leave no file in doubt.
-- Letters: f a state; b a block; m a node; k a number of blocks.
use Rattle.std.specs.Prelude.{Bool, true, false, not, ◌&&◌, ◌||◌, None}
use Rattle.std.proofs.Common.{◌≡◌, ℕ, zero, suc, List, [], inl, inr, ◌<◌, ◌≤◌, refl, ap, ◌∙◌, arith}
use Rattle.std.proofs.{lemmas.Bool.cases_lt, lemmas.Bool.Decides.nat_tests, lemmas.Grind.common_steps}
use Rattle.adf_base.specs.Words.{block, word}
use Rattle.adf_blocks.specs.declared.layout.TheConstants.{TYPE, T_DATA}
use Rattle.adf_volume.specs.declared.owner.Owner.{Owner}
use Rattle.adf_volume.specs.Owners.{is_part}
use Rattle.adf_findings.specs.{WalkOwners.data_number_of, declared.found.Found.Found, Found.is_owned, Marks.doubted, Marks.is_doubted, Marks.is_node}
use Rattle.adf_findings.proofs.SoundMarks.{none_doubted}

no_number : (o : Owner) → is_part o ≡ false → data_number_of o ≡ 0
no_number o h = grind (arith, common_steps)

-- a block that no part owns leaves none in doubt
pub unowned_sure : (image : List ℕ) (f : Found) (b : ℕ) → is_owned f b ≡ false → doubted image f b ≡ None
unowned_sure image f b e = grind (arith, common_steps, no_number)

-- while no block is skipped, one of another type leaves none in doubt
pub untyped_sure : (image : List ℕ) (f : Found) (b n : ℕ) → f.skipped.items ≡ [] → n ≡ word (block image b) TYPE → (n ≡ T_DATA → ⊥)
    → doubted image f b ≡ None
untyped_sure image f b n none is other = grind (arith, common_steps, nat_tests, none_doubted)

or_false : (x : Bool) → (x || false) ≡ x
or_false true = refl
or_false false = refl

-- blocks that leave none in doubt change no mark
pub same_doubted : (image : List ℕ) (f : Found) (m first end : ℕ) → first ≤ end
    → ((b : ℕ) → first ≤ b → b < end → doubted image f b ≡ None) → is_doubted image f end m ≡ is_doubted image f first m
same_doubted image f m first zero le none = let e : 0 ≡ first = omega (arith, le) in ap (λ k. is_doubted image f k m) e
same_doubted image f m first (suc k) le none = elim (cases_lt first (suc k)) [
  | inl lt ↦
      let no : doubted image f k ≡ None = none k (omega (arith, lt)) (omega arith) in
      let rest = same_doubted image f m first k (omega (arith, lt)) (λ b lo hi. none b lo (omega (arith, hi))) in
      ap (λ o. is_doubted image f k m || is_node o m) no ∙ (or_false (is_doubted image f k m) ∙ rest)
  | inr past ↦ let e : suc k ≡ first = omega (arith, le, past) in ap (λ k. is_doubted image f k m) e
]

-- one more struck mark
pub both : (x p q : Bool) → ((x && not p) && not q) ≡ (x && not (p || q))
both x p q = grind (arith, common_steps)

pub kept : (x : Bool) → x ≡ (x && true)
kept true = refl
kept false = refl
