use Rattle.std.proofs.Common.{ap, ◌∙◌, true}
use Rattle.clap.specs.{Simple.app_of_fields, Words.App}
use Rattle.adf_words.proofs.arguments.bare_command.Goals as goal

pub returns : goal.returns
returns c =
    let no_flag : App → App = λ a. record a { top = record a.top { disable_help_flag = true } } in
    let no_subcommand : App → App = λ a. record a { top = record a.top { disable_help_subcommand = true } } in
    ap app_of_fields c.disable_help_subcommand.ensures
    ∙ ap no_subcommand (ap app_of_fields c.disable_help_flag.ensures ∙ ap no_flag c.new.ensures.app)
