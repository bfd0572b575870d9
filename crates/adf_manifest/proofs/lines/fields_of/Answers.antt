use Rattle.std.proofs.Common.{◌≡◌, ap, arith, length}
use Rattle.std.proofs.lemmas.Bool.Decides.{nat_tests}
use Rattle.adf_base.specs.Dates.{plain_text}
use Rattle.adf_names.specs.Digits.{hex_word}
use Rattle.adf_manifest.proofs.{TokenLaws.if_none, TokenLaws.stamp_lacks, DigitLaws.word_lacks, LineLaws.fields_parts}
use Rattle.adf_manifest.proofs.lines.fields_of.Goals as goal

pub returns-in_err-stamp-clause-none : goal.returns-in_err-stamp-clause-none
returns-in_err-stamp-clause-none c = if_none c.from_residual.result (λ s p path hs hp hf e.
    c.in_err-stamp.ensures.none (plain_text s) (hex_word p) path (stamp_lacks s hs) (word_lacks p) e)

pub returns-in_err-stamp-2-clause-none : goal.returns-in_err-stamp-2-clause-none
returns-in_err-stamp-2-clause-none c = if_none c.from_residual-in_err-stamp-2.result (λ s p path hs hp hf e.
    c.in_err-stamp-2.ensures.none s hs (fields_parts s p path c.in_ok-stamp.ensures.some hs e).0)

pub returns-in_err-protect-clause-none : goal.returns-in_err-protect-clause-none
returns-in_err-protect-clause-none c = if_none c.from_residual-in_err-protect.result (λ s p path hs hp hf e.
    c.in_err-protect.ensures.none p hp (fields_parts s p path c.in_ok-stamp.ensures.some hs e).1)

pub returns-then-is_empty-clause-none : goal.returns-then-is_empty-clause-none
returns-then-is_empty-clause-none c =
    let empty : length c.in_ok-stamp.path.now ≡ 0 = grind (arith, nat_tests) in
    λ s p path hs hp hf e. omega (arith, ap length (fields_parts s p path c.in_ok-stamp.ensures.some hs e).2, hf, empty)
