-- The command line of `adf-merge`, as clap reads it, and the readings and maps that its matches name.
use Rattle.std.specs.Prelude.{◌≡◌, ◌⊎◌, ◌&&◌, nat_le, List, [], Bool, true, false, Some, codes, length, unwrap_or}
use Rattle.clap.specs.Words.{App, Row, Rule, Text, all_of, fault_of, matches_of, new_app, new_rule, with_rule}
use Rattle.clap.specs.declared.builder.action.ArgAction.TheVariants.{Append}
use Rattle.adf_words.specs.declared.command_line.ArgsError.{ArgsError, TheVariants.NoMemory, TheVariants.Usage}
use Rattle.adf_readings.specs.declared.choice.TheConstants.{MOST_READINGS}

-- the arguments A B ..
abbrev pub readings_rule : Rule
readings_rule = record (new_rule (codes "readings")) { action = Some Append }

-- with no flag for help
abbrev pub bare_merge : App
bare_merge = record (new_app (codes "adf-merge")) { top = record (new_app (codes "adf-merge")).top { disable_help_flag = true } }

-- the option --map MAP, once for each map
abbrev pub map_rule : Rule
map_rule = record (new_rule (codes "map")) { long = Some (codes "map"); action = Some Append }

-- the command line: [--map MAP ..] A B [C..]
abbrev pub merge_app : App
merge_app = with_rule (with_rule bare_merge map_rule) readings_rule

-- what words ask for: to merge the readings of these names, the first of which have these maps
pub record MergeOrder : Type 0 where
  pub readings : List Text
  pub maps : List Text

-- what the matches name
abbrev pub order_met : List Row → MergeOrder
order_met rows = record { readings = unwrap_or (all_of (codes "readings") rows) []; maps = unwrap_or (all_of (codes "map") rows) [] }

-- as many readings as are merged, and no more maps
abbrev pub are_enough : MergeOrder → Bool
are_enough o = nat_le 2 (length o.readings) && (nat_le (length o.readings) MOST_READINGS && nat_le (length o.maps) (length o.readings))

-- clap takes the arguments, and its matches name these readings and maps, as many as are merged
abbrev pub AsksMerge : List Text → MergeOrder → Type 0
AsksMerge args order = (fault_of merge_app args ≡ []) × (order_met (matches_of merge_app args) ≡ order) × (are_enough order ≡ true)

-- clap refuses the arguments, or its matches name too few readings, or too many, or more maps
abbrev pub AreRefusedByMerge : List Text → Type 0
AreRefusedByMerge args = (¬ (fault_of merge_app args ≡ [])) ⊎ (are_enough (order_met (matches_of merge_app args)) ≡ false)

-- what an error of the arguments says of them
abbrev pub ExplainsMergeArgs : ArgsError → List Text → Type 0
ExplainsMergeArgs Usage args = AreRefusedByMerge args
ExplainsMergeArgs NoMemory args = Unit {0}
