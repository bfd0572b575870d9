-- What the command lines of the programs share, as clap reads them.
use Rattle.std.specs.Prelude.{◌&&◌, ℕ, Bool, true, false, List, Option, Some, None, codes, length, nat_le, if◌then◌else◌}
use Rattle.std.specs.Str.{all_ascii_digits, bytes_eq, Parse.digits_value}
use Rattle.clap.specs.Words.{App, Row, Rule, Text, first_of, new_app, new_rule, with_rule}
use Rattle.clap.specs.declared.builder.action.ArgAction.TheVariants.{SetTrue}

-- a program of this name, with no flag and no subcommand for help
abbrev pub bare_app : Text → App
bare_app name = record (new_app name) { top = record (new_app name).top { disable_help_flag = true; disable_help_subcommand = true } }

-- the argument of this name, which must be there
abbrev pub required_rule : Text → Rule
required_rule name = record (new_rule name) { required = true }

-- the flag of this name, behind `--`
abbrev pub flag_rule : Text → Rule
flag_rule name = record (new_rule name) { long = Some name; action = Some SetTrue }

-- cat PATH
abbrev pub cat_app : App
cat_app = with_rule (new_app (codes "cat")) (required_rule (codes "path"))

-- the argument has this value
abbrev pub is_text : Text → Option Text → Bool
is_text t None = false
is_text t (Some s) = bytes_eq s t

-- the flag of this name is among the matches
abbrev pub has_flag : Text → List Row → Bool
has_flag name rows = is_text (codes "true") (first_of name rows)

-- a number: decimal digits, up to this one
abbrev pub number_named : (most : ℕ) → Text → Option ℕ
number_named most text =
    if (all_ascii_digits text && nat_le 1 (length text)) && nat_le (digits_value 10 text) most then Some (digits_value 10 text) else None
