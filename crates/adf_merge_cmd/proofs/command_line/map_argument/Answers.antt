use Rattle.std.proofs.Common.{◌∙◌, Some, ap, codes}
use Rattle.clap.specs.{Words.Rule, Words.rule_of, declared.builder.action.ArgAction.TheVariants.Append, declared.builder.arg.Arg.Arg}
use Rattle.adf_merge_cmd.proofs.command_line.map_argument.Goals as goal

pub returns-clause-rule : goal.returns-clause-rule
returns-clause-rule c =
    let named : Rule → Rule = λ r. record r { long = Some (codes "map") } in
    let many : Rule → Rule = λ r. record r { action = Some Append } in
    ap rule_of c.action.ensures ∙ ap many (ap rule_of c.long.ensures ∙ ap named c.new.ensures.rule)

pub returns-clause-local : goal.returns-clause-local
returns-clause-local c =
    ap (λ (a : Arg). a.global) c.action.ensures ∙ (ap (λ (a : Arg). a.global) c.long.ensures ∙ c.new.ensures.optional.1)
