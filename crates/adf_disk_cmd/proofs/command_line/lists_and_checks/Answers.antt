use Rattle.std.proofs.Common.{codes}
use Rattle.adf_words.specs.Arguments.{bare_app}
use Rattle.adf_disk_cmd.specs.CommandLine.{telling_app}
use Rattle.adf_disk_cmd.proofs.command_line.lists_and_checks.Goals as goal

pub returns : goal.returns
returns c =
    let list = c.telling_command.ensures in
    let check = c.telling_command-2.ensures in
    let lists =
    c.with_subcommand-lists.ensures (bare_app (codes "adf-disk")) (telling_app (codes "list")) c.bare_command.ensures list.app list.local in
    c.with_subcommand.ensures _ (telling_app (codes "check")) lists check.app check.local
