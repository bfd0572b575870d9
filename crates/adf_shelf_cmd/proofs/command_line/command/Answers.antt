use Rattle.std.proofs.Common.{◌≡◌, ◌∙◌, Some, ap, codes, true}
use Rattle.clap.specs.{Simple.app_of_fields, Words.App, Words.Rule, Words.app_of, Words.rule_of, declared.builder.arg.Arg.Arg}
use Rattle.clap.specs.declared.builder.action.ArgAction.TheVariants.{Append}
use Rattle.adf_words.specs.Arguments.{flag_rule}
use Rattle.adf_shelf_cmd.specs.CommandLine.{bare_shelf, files_rule}
use Rattle.adf_shelf_cmd.proofs.command_line.command.Goals as goal

pub returns : goal.returns
returns c =
    let no_flag : App → App = λ a. record a { top = record a.top { disable_help_flag = true } } in
    let bare : app_of c.disable_help_flag-bare.result ≡ bare_shelf =
    ap app_of_fields c.disable_help_flag-bare.ensures ∙ ap no_flag c.new-2.ensures.app in
    let many : Rule → Rule = λ r. record r { action = Some Append } in
    let files : rule_of c.action-files.result ≡ files_rule = ap rule_of c.action-files.ensures ∙ ap many c.new.ensures.rule in
    let files_local = ap (λ (a : Arg). a.global) c.action-files.ensures ∙ c.new.ensures.optional.1 in
    let one = c.with_argument-nulls.ensures.app _ (flag_rule (codes "null")) bare c.flag.ensures.rule c.flag.ensures.local in
    let two = c.with_argument-types.ensures.app _ (flag_rule (codes "any-type")) one c.flag-2.ensures.rule c.flag-2.ensures.local in
    let three = c.with_argument-objects.ensures.app _ (flag_rule (codes "json")) two c.flag-3.ensures.rule c.flag-3.ensures.local in
    c.with_argument.ensures.app _ files_rule three files files_local
