-- The command line of `adf-disk`, as clap reads it, and what its matches ask for.
use Rattle.std.specs.Prelude.{◌≡◌, ◌⊎◌, ℕ, Bool, true, false, List, [], Option, Some, None, codes, option_map, if◌then◌else◌}
use Rattle.std.specs.{Option.option_and_then, Str.bytes_eq}
use Rattle.clap.specs.Words.{App, Row, Text, fault_of, first_of, matches_of, new_app, subcommand_of, with_rule, with_subcommand}
use Rattle.adf_words.specs.Arguments.{bare_app, flag_rule, has_flag, number_named, required_rule}
use Rattle.adf_words.specs.FileArguments.{file_met, file_rule, with_file}
use Rattle.adf_blocks.specs.declared.layout.TheConstants.{MOST_BLOCKS}
use Rattle.adf_disk_cmd.specs.declared.command_line.DiskRequest.{DiskRequest}
use Rattle.adf_disk_cmd.specs.declared.command_line.DiskRequest.TheVariants.{List as ListAll, Check, Search, Propose, Volume, Build}
use Rattle.adf_disk_cmd.specs.declared.command_line.Wanted.{Wanted, TheVariants.Number, TheVariants.Name}

-- volume NAME [FILE]
abbrev pub volume_app : App
volume_app = with_rule (with_rule (new_app (codes "volume")) (required_rule (codes "name"))) file_rule

-- a command that tells of a disk, as list [--json] [FILE]
abbrev pub telling_app : Text → App
telling_app name = with_rule (with_rule (new_app name) (flag_rule (codes "json"))) file_rule

-- one more such command
abbrev pub with_telling : App → Text → App
with_telling app name = with_subcommand app (telling_app name).top

-- list [--json] [FILE], check [--json] [FILE]
abbrev pub lists_and_checks : App
lists_and_checks = with_telling (with_telling (bare_app (codes "adf-disk")) (codes "list")) (codes "check")

-- survey [--search] [--plan] [--json]
abbrev pub disk_survey_flags : App
disk_survey_flags =
    with_rule (with_rule (with_rule (new_app (codes "survey")) (flag_rule (codes "search"))) (flag_rule (codes "plan"))) (flag_rule (codes "json"))

-- the same with [FILE]
abbrev pub disk_survey_app : App
disk_survey_app = with_rule disk_survey_flags file_rule

-- the command line: these, build [PLAN], and volume NAME [FILE]
abbrev pub disk_app : App
disk_app = with_subcommand (with_file (with_subcommand lists_and_checks disk_survey_app.top) (codes "build")) volume_app.top

-- a partition, by its number or its name
pub data WantedValue : Type 0 where
  number : ℕ → WantedValue
  name : Text → WantedValue

-- what a command line asks for: what is told of a disk, as lines or as objects, or what is found on it, or a plan of that, or the bytes of a volume or of a
-- new disk
pub data DiskRequestValue : Type 0 where
  list : (json : Bool) → DiskRequestValue
  check : (json : Bool) → DiskRequestValue
  search : (json : Bool) → DiskRequestValue
  propose : DiskRequestValue
  volume : WantedValue → DiskRequestValue
  build : DiskRequestValue

-- the partition that a text means: a number where it is one, else a name
abbrev pub wanted_named : Text → WantedValue
wanted_named text = elim (number_named MOST_BLOCKS text) [ Some n ↦ number n | None ↦ name text ]

-- the request to survey a disk: to search it, or to propose a plan of what is found, which is no object, or to list its partitions, as `list` does
abbrev pub survey_request : (searches plans json : Bool) → Option DiskRequestValue
survey_request true false json = Some (search json)
survey_request true true false = Some propose
survey_request true true true = None
survey_request false false json = Some (list json)
survey_request false true json = None

-- the request that a subcommand's name and matches are
abbrev pub disk_request_named : Text → List Row → Option DiskRequestValue
disk_request_named command rows =
    if bytes_eq command (codes "list") then Some (list (has_flag (codes "json") rows))
    else (if bytes_eq command (codes "check") then Some (check (has_flag (codes "json") rows))
    else (if bytes_eq command (codes "survey") then survey_request (has_flag (codes "search") rows) (has_flag (codes "plan") rows) (has_flag (codes "json") rows)
    else (if bytes_eq command (codes "build") then Some build
    else (if bytes_eq command (codes "volume") then option_map (λ text. volume (wanted_named text)) (first_of (codes "name") rows)
    else None))))

-- what the matches ask for
abbrev pub disk_met : Option (Text × List Row) → Option DiskRequestValue
disk_met = option_and_then (λ p. disk_request_named p.0 p.1)

-- the file that the arguments name, if any
abbrev pub disk_file : List Text → Option Text
disk_file args = file_met (matches_of disk_app args) (subcommand_of disk_app args)

-- clap takes the arguments, and its matches name the request
abbrev pub AsksDisk : List Text → DiskRequestValue → Type 0
AsksDisk args r = (fault_of disk_app args ≡ []) × (disk_met (subcommand_of disk_app args) ≡ Some r)

-- the arguments name the request, of a file or of standard input
abbrev pub AsksDiskOf : List Text → DiskRequestValue → Option Text → Type 0
AsksDiskOf args r file = AsksDisk args r × (disk_file args ≡ file)

-- clap refuses the arguments, or its matches lack the command or its value
abbrev pub AreRefusedByDisk : List Text → Type 0
AreRefusedByDisk args = (¬ (fault_of disk_app args ≡ [])) ⊎ (disk_met (subcommand_of disk_app args) ≡ None)

-- a partition as the code has it
abbrev pub wanted_value : Wanted → WantedValue
wanted_value (Number n) = number n
wanted_value (Name text) = name text.now

-- the value of a request as the code has it
abbrev pub disk_request_value : DiskRequest → DiskRequestValue
disk_request_value (ListAll json) = list json
disk_request_value (Check json) = check json
disk_request_value (Search json) = search json
disk_request_value Propose = propose
disk_request_value (Volume wanted) = volume (wanted_value wanted)
disk_request_value Build = build
