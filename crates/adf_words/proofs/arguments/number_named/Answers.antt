use Rattle.std.proofs.Common.{◌≡◌, ◌≢◌, ◌∙◌, ℕ, List, Err, Ok, ap, arith, get_or, sym}
use Rattle.adf_words.proofs.Numbers.{named, none_named}
use Rattle.adf_words.proofs.arguments.number_named.Goals as goal

no_sign : (t bytes : List ℕ) → bytes ≡ t → get_or bytes 0 0 ≢ 43 → get_or t 0 0 ≢ 43
no_sign t bytes same h e = h (ap (λ l. get_or l 0 0) same ∙ e)

pub returns-in-Ok-clause-named : goal.returns-in-Ok-clause-named
returns-in-Ok-clause-named c =
    named c.args.most c.args.text.now c.parse.result c.parse.ensures.value.0 (no_sign _ _ c.as_bytes-bytes.ensures.value c.if-bytes-eq43.false)
    c.in-Ok.number c.in-Ok.is (omega (arith, c.if-number-most.true))

pub returns-in_default-2-clause-named : goal.returns-in_default-2-clause-named
returns-in_default-2-clause-named c =
    none_named c.args.most c.args.text.now c.parse.result c.parse.ensures.value.0 (no_sign _ _ c.as_bytes-bytes.ensures.value c.if-bytes-eq43.false)
    (omega arith) (λ n e. let clash : Err c.in_default.field-0 ≡ Ok n = sym c.in_default.is ∙ e in absurd cc)
