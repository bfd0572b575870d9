use Rattle.std.proofs.Common.{◌≡◌, ◌∙◌, ap, true}
use Rattle.clap.specs.{Simple.app_of_fields, Words.App, Words.app_of}
use Rattle.adf_merge_cmd.specs.CommandLine.{bare_merge, map_rule, readings_rule}
use Rattle.adf_merge_cmd.proofs.command_line.command.Goals as goal

pub returns : goal.returns
returns c =
    let no_flag : App → App = λ a. record a { top = record a.top { disable_help_flag = true } } in
    let bare : app_of c.disable_help_flag-bare.result ≡ bare_merge =
    ap app_of_fields c.disable_help_flag-bare.ensures ∙ ap no_flag c.new.ensures.app in
    let mapped = c.with_argument-mapped.ensures.app _ map_rule bare c.map_argument.ensures.rule c.map_argument.ensures.local in
    c.with_argument.ensures.app _ readings_rule mapped c.readings_argument.ensures.rule c.readings_argument.ensures.local
