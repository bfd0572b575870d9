use Rattle.std.proofs.Common.{◌≡◌, ◌+◌, length}
use Rattle.adf_manifest.proofs.TokenLaws.{prefix_says}
use Rattle.adf_manifest.proofs.tokens.after.Goals as goal

pub returns-clause-some : goal.returns-clause-some
returns-clause-some c =
    (prefix_says (λ x. length x.now + length c.args.prefix.now ≡ length c.args.text.now) c.args.text.now c.args.prefix.now (λ rest. rest.now)
    c.strip_prefix.result c.strip_prefix.ensures.cases).0

pub returns-clause-none : goal.returns-clause-none
returns-clause-none c =
    (prefix_says (λ x. length x.now + length c.args.prefix.now ≡ length c.args.text.now) c.args.text.now c.args.prefix.now (λ rest. rest.now)
    c.strip_prefix.result c.strip_prefix.ensures.cases).1
