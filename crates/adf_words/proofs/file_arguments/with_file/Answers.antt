use Rattle.adf_words.specs.FileArguments.{file_app}
use Rattle.adf_words.proofs.file_arguments.with_file.Goals as goal

pub returns : goal.returns
returns c = λ a known.
    c.with_subcommand.ensures a (file_app c.args.name.now) known c.file_command.ensures.app c.file_command.ensures.local
