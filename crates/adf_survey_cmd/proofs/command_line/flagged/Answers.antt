use Rattle.std.proofs.Common.{◌≡◌, ◌∙◌, Some, ap, codes}
use Rattle.clap.specs.{Words.Rule, Words.rule_of, declared.builder.arg.Arg.Arg}
use Rattle.adf_words.specs.{Arguments.flag_rule, FileArguments.file_rule}
use Rattle.adf_survey_cmd.specs.CommandLine.{blocks_rule, map_text_rule}
use Rattle.adf_survey_cmd.proofs.command_line.flagged.Goals as goal

pub returns : goal.returns
returns c =
    let named : Rule → Rule = λ r. record r { long = Some (codes "blocks") } in
    let rule : rule_of c.long-blocks.result ≡ blocks_rule = ap rule_of c.long-blocks.ensures ∙ ap named c.new.ensures.rule in
    let local = ap (λ (a : Arg). a.global) c.long-blocks.ensures ∙ c.new.ensures.optional.1 in
    let one = c.with_argument-numbered.ensures.app _ blocks_rule c.bare_command.ensures rule local in
    let mapping : Rule → Rule = λ r. record r { long = Some (codes "map") } in
    let map : rule_of c.long.result ≡ map_text_rule = ap rule_of c.long.ensures ∙ ap mapping c.new-2.ensures.rule in
    let alone = ap (λ (a : Arg). a.global) c.long.ensures ∙ c.new-2.ensures.optional.1 in
    let mapped = c.with_argument-mapped.ensures.app _ map_text_rule one map alone in
    let blank = c.with_argument-blanked.ensures.app _ (flag_rule (codes "blank")) mapped c.flag.ensures.rule c.flag.ensures.local in
    let two = c.with_argument-listed.ensures.app _ (flag_rule (codes "list")) blank c.flag-2.ensures.rule c.flag-2.ensures.local in
    let three = c.with_argument-objects.ensures.app _ (flag_rule (codes "json")) two c.flag-3.ensures.rule c.flag-3.ensures.local in
    c.with_argument.ensures.app _ file_rule three c.file_argument.ensures.rule c.file_argument.ensures.local
