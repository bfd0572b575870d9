use Rattle.adf_disk_cmd.specs.CommandLine.{lists_and_checks, disk_survey_app, volume_app}
use Rattle.adf_disk_cmd.proofs.command_line.command.Goals as goal

pub returns : goal.returns
returns c =
    let tells = c.survey_command.ensures in
    let surveys =
    c.with_subcommand-surveys.ensures lists_and_checks disk_survey_app c.lists_and_checks.ensures tells.app tells.local in
    let builds = c.with_file-builds.ensures _ surveys in
    c.with_subcommand.ensures _ volume_app builds c.volume_command.ensures.app c.volume_command.ensures.local
