use Rattle.std.proofs.Common.{◌∙◌, Some, ap}
use Rattle.clap.specs.{Words.Rule, Words.rule_of, declared.builder.action.ArgAction.TheVariants.SetTrue, declared.builder.arg.Arg.Arg}
use Rattle.adf_words.proofs.arguments.flag.Goals as goal

pub returns-clause-rule : goal.returns-clause-rule
returns-clause-rule c =
    let named : Rule → Rule = λ r. record r { long = Some c.args.name.now } in
    let set : Rule → Rule = λ r. record r { action = Some SetTrue } in
    ap rule_of c.action.ensures ∙ ap set (ap rule_of c.long.ensures ∙ ap named c.new.ensures.rule)

pub returns-clause-local : goal.returns-clause-local
returns-clause-local c =
    ap (λ (a : Arg). a.global) c.action.ensures ∙ (ap (λ (a : Arg). a.global) c.long.ensures ∙ c.new.ensures.optional.1)
