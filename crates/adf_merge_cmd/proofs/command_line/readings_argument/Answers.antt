use Rattle.std.proofs.Common.{◌∙◌, Bool, Some, ap}
use Rattle.clap.specs.{Words.Rule, Words.rule_of, declared.builder.arg.Arg.Arg}
use Rattle.clap.specs.declared.builder.action.ArgAction.TheVariants.{Append}
use Rattle.adf_merge_cmd.proofs.command_line.readings_argument.Goals as goal

pub returns-clause-rule : goal.returns-clause-rule
returns-clause-rule c =
    let many : Rule → Rule = λ r. record r { action = Some Append } in
    ap rule_of c.action.ensures ∙ ap many c.new.ensures.rule

pub returns-clause-local : goal.returns-clause-local
returns-clause-local c = let global : Arg → Bool = λ a. a.global in ap global c.action.ensures ∙ c.new.ensures.optional.1
