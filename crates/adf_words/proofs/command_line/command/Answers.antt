use Rattle.adf_words.specs.{Arguments.cat_app, CommandLine.build_app, CommandLine.convert_app, CommandLine.plain_app}
use Rattle.adf_words.proofs.command_line.command.Goals as goal

pub returns : goal.returns
returns c =
    let cats = c.with_subcommand-cats.ensures plain_app cat_app c.plain_command.ensures c.cat_command.ensures.app c.cat_command.ensures.local in
    let builds = c.with_subcommand-builds.ensures _ build_app cats c.build_command.ensures.app c.build_command.ensures.local in
    c.with_subcommand.ensures _ convert_app builds c.convert_command.ensures.app c.convert_command.ensures.local
