-- The argument FILE, which names what is read in place of standard input.
use Rattle.std.specs.Prelude.{List, Option, Some, None, codes, if◌then◌else◌}
use Rattle.std.specs.{Option.option_and_then, Str.bytes_eq}
use Rattle.clap.specs.Words.{App, Row, Rule, Text, first_of, new_app, new_rule, with_rule, with_subcommand}

-- the argument FILE
abbrev pub file_rule : Rule
file_rule = new_rule (codes "file")

-- a command of this name, whose argument is FILE
abbrev pub file_app : Text → App
file_app name = with_rule (new_app name) file_rule

-- one more subcommand, whose argument is FILE
abbrev pub with_file : App → Text → App
with_file app name = with_subcommand app (file_app name).top

-- the file that a text names: `-` is standard input
abbrev pub file_meant : Text → Option Text
file_meant text = if bytes_eq text (codes "-") then None else Some text

-- the file that matches name, if any
abbrev pub file_matched : List Row → Option Text
file_matched rows = option_and_then file_meant (first_of (codes "file") rows)

-- the file that the arguments name, if any, by their own rows and those of a subcommand: where there is one, by its
abbrev pub file_met : List Row → Option (Text × List Row) → Option Text
file_met rows None = file_matched rows
file_met rows (Some p) = file_matched p.1
