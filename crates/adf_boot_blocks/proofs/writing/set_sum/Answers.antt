use Rattle.std.proofs.Common.{◌≡◌, ◌≤◌, ℕ, List, arith, length, ◌-◌, true, ap, subst, sym, ◌∙◌}
use Rattle.adf_base.specs.Words.{with_word, words}
use Rattle.adf_base.proofs.WordLaws.{length-with_word}
use Rattle.adf_boot_blocks.specs.BootBlocks.{IsOtherBoot, carry_sum, has_right_sum}
use Rattle.adf_boot_blocks.specs.declared.boot.TheConstants.{BOOT_LEN, BOOT_WORDS, CHECKSUM, RIGHT_SUM}
use Rattle.adf_boot_blocks.proofs.CarrySums.{AreBytes, AreWords, words_of_bytes, words_unset, set_twice, sum_is_right}
use Rattle.adf_boot_blocks.proofs.Writes.{other_sum}
use Rattle.adf_boot_blocks.proofs.writing.set_sum.Goals as goal

pub returns-clause-exact : goal.returns-clause-exact
returns-clause-exact c =
    let image : List ℕ = c.args.image.now in
    c.put_word-2.ensures
    ∙ ap (λ b. with_word b CHECKSUM (RIGHT_SUM - c.carry_sum-sum.result)) c.put_word.ensures
    ∙ set_twice image CHECKSUM 0 (RIGHT_SUM - c.carry_sum-sum.result) (omega (arith, c.requires))
    ∙ ap (λ s. with_word image CHECKSUM (RIGHT_SUM - s)) (c.carry_sum-sum.ensures ∙ ap (λ b. carry_sum (words BOOT_WORDS b)) c.put_word.ensures)

pub returns-clause-right : goal.returns-clause-right
returns-clause-right c =
    let image : List ℕ = c.args.image.now in
    let v : ℕ = RIGHT_SUM - carry_sum (words BOOT_WORDS (with_word image CHECKSUM 0)) in
    let bytes : AreBytes (with_word image CHECKSUM v) =
    subst AreBytes (returns-clause-exact c) (λ k lt. let h = c.type_inv.image k in omega (arith, h)) in
    let long : BOOT_LEN ≤ length (with_word image CHECKSUM v) =
    omega (arith, c.requires, length-with_word image CHECKSUM v (omega (arith, c.requires))) in
    let small : AreWords image = words_unset image v c.requires (words_of_bytes (with_word image CHECKSUM v) bytes long) in
    subst (λ (b : List ℕ). has_right_sum b ≡ true) (sym (returns-clause-exact c)) (sum_is_right image small c.requires)

pub returns-clause-other : goal.returns-clause-other
returns-clause-other c =
    subst (λ (b : List ℕ). IsOtherBoot c.args.image.now b) (sym (returns-clause-exact c)) (other_sum c.args.image.now c.requires)
