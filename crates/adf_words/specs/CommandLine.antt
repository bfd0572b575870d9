-- The command line of `adf`, as clap reads it, and the request that its matches name.
use Rattle.std.specs.Prelude.{◌≡◌, ◌⊎◌, ℕ, List, [], Bool, Option, Some, None, codes, map, option_map, option_and_then, if◌then◌else◌}
use Rattle.std.specs.{Borrow.Bor, Str.bytes_eq}
use Rattle.clap.specs.Words.{App, Row, Text, fault_of, first_of, new_app, subcommand_of, with_rule, with_subcommand}
use Rattle.adf_names.specs.{declared.kind.Kind.Kind, Kinds.kind_named}
use Rattle.adf_words.specs.Arguments.{bare_app, cat_app, flag_rule, has_flag, required_rule}
use Rattle.adf_words.specs.declared.command_line.Request.{Request}
use Rattle.adf_words.specs.declared.command_line.Request.TheVariants.{Check, List as ListAll, Cat, Build, Convert}
use Rattle.adf_words.specs.declared.command_line.ArgsError.{ArgsError, TheVariants.NoMemory, TheVariants.Usage}

-- build [--list]
abbrev pub build_app : App
build_app = with_rule (new_app (codes "build")) (flag_rule (codes "list"))

-- convert KIND
abbrev pub convert_app : App
convert_app = with_rule (new_app (codes "convert")) (required_rule (codes "kind"))

-- one more subcommand, which has no argument
abbrev pub with_plain : App → Text → App
with_plain app name = with_subcommand app (new_app name).top

-- adf with the two commands that have no argument
abbrev pub plain_app : App
plain_app = with_plain (with_plain (bare_app (codes "adf")) (codes "check")) (codes "list")

-- the command line: check, list, cat PATH, build [--list], convert KIND
abbrev pub adf_app : App
adf_app = with_subcommand (with_subcommand (with_subcommand plain_app cat_app.top) build_app.top) convert_app.top

-- what a command line asks for
pub data RequestValue : Type 0 where
  check : RequestValue
  list : RequestValue
  cat : Text → RequestValue
  build : Bool → RequestValue
  convert : Kind → RequestValue

-- the request that a subcommand's name and matches are
abbrev pub request_named : Text → List Row → Option RequestValue
request_named name rows =
    if bytes_eq name (codes "check") then Some check
    else (if bytes_eq name (codes "list") then Some list
    else (if bytes_eq name (codes "cat") then option_map cat (first_of (codes "path") rows)
    else (if bytes_eq name (codes "build") then Some (build (has_flag (codes "list") rows))
    else (if bytes_eq name (codes "convert") then option_map convert (option_and_then kind_named (first_of (codes "kind") rows))
    else None))))

-- what the matches ask for
abbrev pub met : Option (Text × List Row) → Option RequestValue
met = option_and_then (λ p. request_named p.0 p.1)

-- the request of the arguments, where clap takes them
abbrev pub request_of : List Text → Option RequestValue
request_of args = met (subcommand_of adf_app args)

-- the texts of arguments
abbrev pub texts_of : List (Bor (List ℕ)) → List Text
texts_of args = map (λ w. w.now) args

-- clap takes the arguments, and its matches name the request
abbrev pub AsksFor : List Text → RequestValue → Type 0
AsksFor args r = (fault_of adf_app args ≡ []) × (request_of args ≡ Some r)

-- clap refuses the arguments, or its matches lack the command or its value
abbrev pub AreRefused : List Text → Type 0
AreRefused args = (¬ (fault_of adf_app args ≡ [])) ⊎ (request_of args ≡ None)

-- the value of a request as the code has it
abbrev pub request_value : Request → RequestValue
request_value Check = check
request_value ListAll = list
request_value (Cat p) = cat p.now
request_value (Build b) = build b
request_value (Convert k) = convert k

-- what an error of arguments says: that they are refused; of want of memory nothing
abbrev pub ExplainsArgs : ArgsError → (refused : Type 0) → Type 0
ExplainsArgs Usage refused = refused
ExplainsArgs NoMemory refused = Unit {0}

-- the text of the error
abbrev pub args_error_text : ArgsError → List ℕ
args_error_text Usage = codes "bad words"
args_error_text NoMemory = codes "no memory"
