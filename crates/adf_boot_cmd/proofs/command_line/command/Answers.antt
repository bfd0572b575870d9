use Rattle.adf_boot_cmd.specs.CommandLine.{copy_app, told_app}
use Rattle.adf_boot_cmd.proofs.command_line.command.Goals as goal

pub returns : goal.returns
returns c =
    let clears = c.with_file-clears.ensures _ (c.with_file-installs.ensures told_app c.told_command.ensures) in
    c.with_subcommand.ensures _ copy_app clears c.copy_command.ensures.app c.copy_command.ensures.local
