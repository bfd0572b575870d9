-- The command line of `adf-survey`, as clap reads it, and what its matches ask for.
use Rattle.std.specs.Prelude.{if◌then◌else◌, ◌≡◌, ◌⊎◌, ◌||◌, ◌&&◌, ℕ, List, [], Bool, true, false, Option, Some, None, codes, is_some, option_map}
use Rattle.std.specs.{Option.option_and_then, Str.bytes_eq}
use Rattle.clap.specs.Words.{App, Row, Rule, Text, fault_of, first_of, matches_of, new_app, new_rule, subcommand_of, with_rule, with_subcommand}
use Rattle.adf_blocks.specs.declared.layout.TheConstants.{MOST_BLOCKS}
use Rattle.adf_maps.specs.Maps.{MapValue, map_of}
use Rattle.adf_words.specs.Arguments.{bare_app, cat_app, flag_rule, has_flag, number_named}
use Rattle.adf_words.specs.FileArguments.{file_met, file_rule}
use Rattle.adf_volume.specs.declared.types.Types.{Types, TheVariants.Plain, TheVariants.WithInternational}
use Rattle.adf_survey_cmd.specs.declared.command_line.{Inquiry.Inquiry, RescueWish.RescueWish}
use Rattle.adf_survey_cmd.specs.declared.command_line.Question.{Question, TheVariants.Blanks, TheVariants.Cat, TheVariants.Claims, TheVariants.Deleted}
use Rattle.adf_survey_cmd.specs.declared.command_line.Question.TheVariants.{Report, Rescue}

-- the option --blocks N
abbrev pub blocks_rule : Rule
blocks_rule = record (new_rule (codes "blocks")) { long = Some (codes "blocks") }

-- cat [--damaged] PATH [FILE], or cat --deleted BLOCK [FILE]
abbrev pub survey_cat_app : App
survey_cat_app = with_rule (with_rule (with_rule cat_app (flag_rule (codes "damaged"))) (flag_rule (codes "deleted"))) file_rule

-- rescue [--keep-type] [--keep-all], and the rest of its words
abbrev pub typed_rescue : App
typed_rescue = with_rule (with_rule (new_app (codes "rescue")) (flag_rule (codes "keep-type"))) (flag_rule (codes "keep-all"))

-- the same with [--deleted]
abbrev pub flagged_rescue : App
flagged_rescue = with_rule typed_rescue (flag_rule (codes "deleted"))

-- rescue [--keep-type] [--keep-all] [--deleted] [--before-format] [FILE]
abbrev pub survey_rescue_app : App
survey_rescue_app = with_rule (with_rule flagged_rescue (flag_rule (codes "before-format"))) file_rule

-- NAME [FILE]
abbrev pub survey_file_app : Text → App
survey_file_app name = with_rule (new_app name) file_rule

-- the option --map TEXT
abbrev pub map_text_rule : Rule
map_text_rule = record (new_rule (codes "map")) { long = Some (codes "map") }

-- with the options that go with each question
abbrev pub numbered_survey : App
numbered_survey = with_rule (with_rule (with_rule (bare_app (codes "adf-survey")) blocks_rule) map_text_rule) (flag_rule (codes "blank"))

-- with the flags and the file
abbrev pub flagged_survey : App
flagged_survey = with_rule (with_rule (with_rule numbered_survey (flag_rule (codes "list"))) (flag_rule (codes "json"))) file_rule

-- the command line: [--blocks N] [--map TEXT] [--blank], and [--list] [--json] [FILE], cat [--damaged] PATH [FILE], cat --deleted BLOCK [FILE], rescue
-- [--keep-type] [--keep-all] [--deleted] [--before-format] [FILE], deleted [FILE], blank [FILE], or claims [FILE]
abbrev pub survey_app : App
survey_app =
    let rescues = with_subcommand (with_subcommand flagged_survey survey_cat_app.top) survey_rescue_app.top in
    let blanks = with_subcommand (with_subcommand rescues (survey_file_app (codes "deleted")).top) (survey_file_app (codes "blank")).top in
    with_subcommand blanks (survey_file_app (codes "claims")).top

-- what is asked of an image: all findings, and perhaps what exists, both as lines or as objects; the bytes of a file, which is intact or may be damaged; a new
-- volume; the deleted headers, or the bytes of the file of one, by its block; the bytes of files in blank blocks; or all that is judged
pub data QuestionValue : Type 0 where
  report : (list json : Bool) → QuestionValue
  cat : (damaged : Bool) → Text → QuestionValue
  rescue : RescueWish → QuestionValue
  deleted : (file : Option ℕ) → QuestionValue
  blanks : QuestionValue
  claims : QuestionValue

-- what a command line asks for, of the image as it is or as if it had so many blocks; what a map says of it, if one is given; and whether
-- each blank block of it counts as never read
pub record InquiryValue : Type 0 where
  pub blocks : Option ℕ
  pub map : Option MapValue
  pub blank : Bool
  pub question : QuestionValue

-- a question of the image as it is or as if it had so many blocks, with a map, and where each blank block may count as never read
abbrev pub asked_beside : Option MapValue → (blank : Bool) → Option ℕ → QuestionValue → InquiryValue
asked_beside map blank blocks question = record { blocks = blocks; map = map; blank = blank; question = question }

-- the blocks that the matches name, if any
abbrev pub blocks_met : List Row → Option (Option ℕ)
blocks_met rows = elim (first_of (codes "blocks") rows) [ None ↦ Some None | Some text ↦ option_map Some (number_named MOST_BLOCKS text) ]

-- the map whose text the matches have, if any
abbrev pub map_met : List Row → Option (Option MapValue)
map_met rows = elim (first_of (codes "map") rows) [ None ↦ Some None | Some text ↦ option_map Some (map_of text) ]

-- what `cat` asks of the file under a path, or with --deleted of the one whose header is in a block; not with --damaged too
abbrev pub cat_asked : (deleted_one damaged : Bool) → Text → Option QuestionValue
cat_asked deleted_one damaged text =
    if deleted_one then (if damaged then None else option_map (λ b. deleted (Some b)) (number_named MOST_BLOCKS text)) else Some (cat damaged text)

-- the same by the matches, with their path
unfoldable pub cat_met : List Row → Option QuestionValue
cat_met rows = option_and_then (cat_asked (has_flag (codes "deleted") rows) (has_flag (codes "damaged") rows)) (first_of (codes "path") rows)

-- the types that the volume of a rescue may have: all that are accepted, or those of ASCII letters
abbrev pub types_kept : (keep_letters : Bool) → Types
types_kept true = WithInternational
types_kept false = Plain

-- the rescue that the matches ask for
abbrev pub wish_met : List Row → RescueWish
wish_met rows = record {
  types = types_kept (has_flag (codes "keep-all") rows || has_flag (codes "keep-type") rows);
  with_deleted = has_flag (codes "deleted") rows;
  before_format = has_flag (codes "before-format") rows;
  with_links = has_flag (codes "keep-all") rows;
}

-- the same, but --keep-all does not go with --before-format
unfoldable pub rescue_met : List Row → Option QuestionValue
rescue_met rows =
    if has_flag (codes "keep-all") rows && has_flag (codes "before-format") rows then None else Some (rescue (wish_met rows))

-- what a subcommand's name and matches ask
abbrev pub question_named : Text → List Row → Option QuestionValue
question_named name rows =
    if bytes_eq name (codes "cat") then cat_met rows
    else (if bytes_eq name (codes "rescue") then rescue_met rows
    else (if bytes_eq name (codes "deleted") then Some (deleted None)
    else (if bytes_eq name (codes "blank") then Some blanks
    else (if bytes_eq name (codes "claims") then Some claims else None))))

-- the flag --list, the flag --json or a FILE is among the matches
abbrev pub excludes_subcommand : List Row → Bool
excludes_subcommand rows = has_flag (codes "list") rows || (has_flag (codes "json") rows || is_some (first_of (codes "file") rows))

-- what the matches ask, by their own rows: with no subcommand the findings; no subcommand goes with such a flag, or with a file before it
abbrev pub question_met : List Row → Option (Text × List Row) → Option QuestionValue
question_met rows None = Some (report (has_flag (codes "list") rows) (has_flag (codes "json") rows))
question_met rows (Some p) = if excludes_subcommand rows then None else question_named p.0 p.1

-- what the matches ask for
abbrev pub inquiry_met : List Row → Option (Text × List Row) → Option InquiryValue
inquiry_met rows subcommand =
    option_and_then (λ map. option_and_then (λ blocks.
    option_map (asked_beside map (has_flag (codes "blank") rows) blocks) (question_met rows subcommand)) (blocks_met rows)) (map_met rows)

-- what the arguments ask for, where clap takes them
abbrev pub inquiry_of : List Text → Option InquiryValue
inquiry_of args = inquiry_met (matches_of survey_app args) (subcommand_of survey_app args)

-- the file that the arguments name, if any
abbrev pub survey_file : List Text → Option Text
survey_file args = file_met (matches_of survey_app args) (subcommand_of survey_app args)

-- clap takes the arguments, and its matches ask for this
abbrev pub AsksSurvey : List Text → InquiryValue → Type 0
AsksSurvey args r = (fault_of survey_app args ≡ []) × (inquiry_of args ≡ Some r)

-- clap refuses the arguments, or its matches lack the path, have such a flag or a file before a subcommand, have another text than a number of
-- blocks or of a block, another than that of a map, or have --damaged beside --deleted, or --keep-all beside --before-format
abbrev pub AreRefusedBySurvey : List Text → Type 0
AreRefusedBySurvey args = (¬ (fault_of survey_app args ≡ [])) ⊎ (inquiry_of args ≡ None)

-- the value of a question as the code has it
abbrev pub question_value : Question → QuestionValue
question_value (Report list json) = report list json
question_value (Cat path damaged) = cat damaged path.now
question_value (Rescue wish) = rescue wish
question_value (Deleted file) = deleted file
question_value Blanks = blanks
question_value Claims = claims

-- the value of an inquiry as the code has it
abbrev pub inquiry_value : Inquiry → InquiryValue
inquiry_value q = asked_beside q.map q.blank q.blocks (question_value q.question)
