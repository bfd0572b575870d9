-- The command line of `adf-shelf`, as clap reads it, and the order that its matches name.
use Rattle.std.specs.Prelude.{◌≡◌, List, [], Bool, true, Some, codes, unwrap_or}
use Rattle.clap.specs.Words.{App, Row, Rule, Text, all_of, fault_of, matches_of, new_app, new_rule, with_rule}
use Rattle.clap.specs.declared.builder.action.ArgAction.TheVariants.{Append}
use Rattle.adf_words.specs.Arguments.{flag_rule, has_flag}

-- what a command line asks for: whether names that are read end in zero bytes, whether types 2 and 3 are accepted too, whether objects are written, and the names
pub record ShelfOrder : Type 0 where
  pub null : Bool
  pub any_type : Bool
  pub json : Bool
  pub files : List Text

-- the arguments FILE ..
abbrev pub files_rule : Rule
files_rule = record (new_rule (codes "files")) { action = Some Append }

-- with no flag for help
abbrev pub bare_shelf : App
bare_shelf = record (new_app (codes "adf-shelf")) { top = record (new_app (codes "adf-shelf")).top { disable_help_flag = true } }

-- the command line: [--null] [--any-type] [--json] [FILE..]
abbrev pub shelf_app : App
shelf_app = with_rule (with_rule (with_rule (with_rule bare_shelf (flag_rule (codes "null"))) (flag_rule (codes "any-type"))) (flag_rule (codes "json"))) files_rule

-- the order of the matches
abbrev pub order_in : List Row → ShelfOrder
order_in rows = record {
  null = has_flag (codes "null") rows;
  any_type = has_flag (codes "any-type") rows;
  json = has_flag (codes "json") rows;
  files = unwrap_or (all_of (codes "files") rows) [];
}

-- clap takes the arguments, and its matches are the order
abbrev pub AsksShelf : List Text → ShelfOrder → Type 0
AsksShelf args order = (fault_of shelf_app args ≡ []) × (order_in (matches_of shelf_app args) ≡ order)

-- clap refuses the arguments
abbrev pub AreRefusedByShelf : List Text → Type 0
AreRefusedByShelf args = ¬ (fault_of shelf_app args ≡ [])
