-- The command line of `adf-boot`, as clap reads it, and what its matches ask for.
use Rattle.std.specs.Prelude.{◌≡◌, ◌⊎◌, ◌||◌, List, [], Option, Some, None, codes, is_some, option_map, if◌then◌else◌}
use Rattle.std.specs.Str.{bytes_eq}
use Rattle.clap.specs.Words.{App, Row, Text, fault_of, first_of, matches_of, new_app, subcommand_of, with_rule, with_subcommand}
use Rattle.adf_words.specs.{Arguments.bare_app, Arguments.flag_rule, Arguments.has_flag, Arguments.required_rule, FileArguments.file_met, FileArguments.file_rule, FileArguments.with_file}
use Rattle.adf_boot_cmd.specs.declared.command_line.BootRequest.{BootRequest, TheVariants.Tell, TheVariants.Install, TheVariants.Clear, TheVariants.Copy}

-- copy BOOTFILE [FILE]
abbrev pub copy_app : App
copy_app = with_rule (with_rule (new_app (codes "copy")) (required_rule (codes "boot"))) file_rule

-- [--json] [FILE]
abbrev pub told_app : App
told_app = with_rule (with_rule (bare_app (codes "adf-boot")) (flag_rule (codes "json"))) file_rule

-- the command line: [--json] [FILE], install [FILE], clear [FILE], or copy BOOTFILE [FILE]
abbrev pub boot_app : App
boot_app = with_subcommand (with_file (with_file told_app (codes "install")) (codes "clear")) copy_app.top

-- what a command line asks for; `copy` names the boot file
pub data BootRequestValue : Type 0 where
  tell : BootRequestValue
  install : BootRequestValue
  clear : BootRequestValue
  copy : Text → BootRequestValue

-- the request that a subcommand's name and matches are
abbrev pub boot_request_named : Text → List Row → Option BootRequestValue
boot_request_named name rows =
    if bytes_eq name (codes "install") then Some install
    else (if bytes_eq name (codes "clear") then Some clear
    else (if bytes_eq name (codes "copy") then option_map copy (first_of (codes "boot") rows)
    else None))

-- what the matches ask for, by their own rows: with no subcommand what is there; no subcommand goes with the flag, or with a file before it
abbrev pub boot_met : List Row → Option (Text × List Row) → Option BootRequestValue
boot_met rows None = Some tell
boot_met rows (Some p) = if has_flag (codes "json") rows || is_some (first_of (codes "file") rows) then None else boot_request_named p.0 p.1

-- the request of the arguments, where clap takes them
abbrev pub boot_request_of : List Text → Option BootRequestValue
boot_request_of args = boot_met (matches_of boot_app args) (subcommand_of boot_app args)

-- the file that the arguments name, if any
abbrev pub boot_file : List Text → Option Text
boot_file args = file_met (matches_of boot_app args) (subcommand_of boot_app args)

-- clap takes the arguments, and its matches ask for this
abbrev pub AsksBoot : List Text → BootRequestValue → Type 0
AsksBoot args r = (fault_of boot_app args ≡ []) × (boot_request_of args ≡ Some r)

-- clap refuses the arguments, or its matches lack the boot file or have the flag or a file before a subcommand
abbrev pub AreRefusedByBoot : List Text → Type 0
AreRefusedByBoot args = (¬ (fault_of boot_app args ≡ [])) ⊎ (boot_request_of args ≡ None)

-- the value of a request as the code has it
abbrev pub boot_request_value : BootRequest → BootRequestValue
boot_request_value (Tell json) = tell
boot_request_value Install = install
boot_request_value Clear = clear
boot_request_value (Copy name) = copy name.now
