use Rattle.std.proofs.Common.{◌++◌, ◌∷◌, ◌∙◌, sym}
use Rattle.adf_manifest.proofs.TokenLaws.{if_none, not_cut, one_cut}
use Rattle.adf_manifest.proofs.tokens.cut_twice.Goals as goal

pub returns-in_err-first-clause-none : goal.returns-in_err-first-clause-none
returns-in_err-first-clause-none c = if_none c.from_residual.result (λ x y z hx hy e.
    not_cut c.args.byte _ x (y ++ c.args.byte ∷ z) c.in_err-first.ensures.none e)

pub returns-in_err-second-clause-none : goal.returns-in_err-second-clause-none
returns-in_err-second-clause-none c =
    let byte = c.args.byte in
    let cut = c.in_ok-first.ensures.some in
    if_none c.from_residual-in_err-second.result (λ x y z hx hy e.
    not_cut byte _ y z c.in_err-second.ensures.none (one_cut byte _ _ x (y ++ byte ∷ z) cut.1 hx (sym cut.0 ∙ e)).1)
