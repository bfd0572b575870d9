use Rattle.std.proofs.Common.{◌≡◌, ◌∙◌, sym, arith}
use Rattle.std.specs.Fmt.{decimal}
use Rattle.std.proofs.lemmas.Fmt.{decimal_injective}
use Rattle.adf_names.specs.Digits.{pair}
use Rattle.adf_manifest.proofs.{TokenLaws.if_none, TokenLaws.not_cut, LineLaws.fill_parts, LineLaws.fill_text}
use Rattle.adf_manifest.proofs.lines.fill_of.Goals as goal
use Rattle.adf_manifest.proofs.lines.fill_of.Goals.{else-count-gt0-via-then-count-gt0+else-count-le-MOST_FILL, else-count-gt0-via-else-count-gt0}

pub returns-in_err-count-clause-none : goal.returns-in_err-count-clause-none
returns-in_err-count-clause-none c = if_none c.from_residual-in_err-count.result (λ count byte h e.
    not_cut 32 _ (decimal count) (pair byte) c.in_err-count.ensures.none (fill_text _ _ count byte c.in_ok-text.ensures.some e))

pub returns-in_err-count-2-clause-none : goal.returns-in_err-count-2-clause-none
returns-in_err-count-2-clause-none c =
    if_none c.from_residual-in_err-count-2.result (λ count byte h e. c.in_err-count-2.ensures.none count (omega (arith, h.1))
    (fill_parts count byte c.in_ok-text.ensures.some c.in_ok-count.ensures.some h.1 e).0)

pub returns-in_err-byte-clause-none : goal.returns-in_err-byte-clause-none
returns-in_err-byte-clause-none c = if_none c.from_residual-in_err-byte.result (λ count byte h e. c.in_err-byte.ensures.none byte h.2
    (fill_parts count byte c.in_ok-text.ensures.some c.in_ok-count.ensures.some h.1 e).1)

pub returns-else-count-gt0-clause-none : goal.returns-else-count-gt0-clause-none
returns-else-count-gt0-clause-none c = λ count byte h e.
    let parts = fill_parts count byte c.in_ok-text.ensures.some c.in_ok-count.ensures.some h.1 e in
    let same : c.in_ok-count-2.count ≡ count =
    decimal_injective _ _ (omega arith) (omega (arith, h.1)) (sym c.in_ok-count-2.ensures.some ∙ parts.0) in
    elim c.else-count-gt0.branch [
      | else-count-gt0-via-then-count-gt0+else-count-le-MOST_FILL w ↦ omega (arith, same, h.0, h.1)
      | else-count-gt0-via-else-count-gt0 w ↦ omega (arith, same, h.0, h.1)
    ]
