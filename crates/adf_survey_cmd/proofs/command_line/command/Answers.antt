use Rattle.std.proofs.Common.{codes}
use Rattle.adf_survey_cmd.specs.CommandLine.{survey_file_app, flagged_survey, survey_cat_app, survey_rescue_app}
use Rattle.adf_survey_cmd.proofs.command_line.command.Goals as goal

pub returns : goal.returns
returns c =
    let cats = c.with_subcommand-cats.ensures flagged_survey survey_cat_app c.flagged.ensures c.survey_cat_command.ensures.app
    c.survey_cat_command.ensures.local in
    let rescues = c.with_subcommand-rescues.ensures _ survey_rescue_app cats c.survey_rescue_command.ensures.app
    c.survey_rescue_command.ensures.local in
    let deletes = c.with_subcommand-deletes.ensures _ (survey_file_app (codes "deleted")) rescues c.file_command.ensures.app c.file_command.ensures.local in
    let blanks = c.with_subcommand-blanks.ensures _ (survey_file_app (codes "blank")) deletes c.file_command-2.ensures.app c.file_command-2.ensures.local in
    c.with_subcommand.ensures _ (survey_file_app (codes "claims")) blanks c.file_command-3.ensures.app c.file_command-3.ensures.local
