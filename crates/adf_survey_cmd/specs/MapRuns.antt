-- Runs whose words may name the file of a map: its text is read in place of its name.
-- Letters: files what is known of the files; at the number of the word that names the map, name that word; n the status.
use Rattle.std.specs.Prelude.{◌≡◌, ◌⊎◌, ◌+◌, ℕ, Bool, true, false, List, [], Option, None, Some, is_some, slice_index_or, slice_set}
use Rattle.std.specs.Str.{IsUtf8}
use Rattle.std.specs.Io.KnownBytes.{Appends}
use Rattle.adf_maps.specs.Maps.{map_of}
use Rattle.adf_runs.specs.Streams.{AreFirst, Seen}
use Rattle.adf_file_runs.specs.FileRuns.{KnownFiles, RunEndsOnFiles}
use Rattle.adf_survey_cmd.specs.{Answers.survey_command, CommandLine.survey_file, MapWords.map_word, declared.map_runs.TheConstants.MOST_MAP}

-- these bytes are a map of ddrescue
unfoldable pub is_map : List ℕ → Bool
is_map bytes = is_some (map_of bytes)

-- the bytes that are read of the file of a name: all, up to a limit
abbrev pub AreReadOf : KnownFiles → List ℕ → List ℕ → Type 0
AreReadOf files name bytes = AreFirst (MOST_MAP + 1) (files.bytes_of name) bytes

-- the text of a map: the bytes of its file; or none, if these are no text
abbrev pub IsMapText : KnownFiles → List ℕ → List ℕ → Type 0
IsMapText files name text =
    (bytes : List ℕ) × AreReadOf files name bytes × (is_map bytes ≡ true)
    × ((IsUtf8 bytes × (text ≡ bytes)) ⊎ ((¬ IsUtf8 bytes) × (text ≡ [])))

-- the file of a name was read and is no map
abbrev pub TellsNoMap : KnownFiles → List ℕ → ℕ → Type 0
TellsNoMap files name n = (n ≡ 1) × ((bytes : List ℕ) × AreReadOf files name bytes × (is_map bytes ≡ false))

-- the map was not had: nothing is written to output
abbrev pub LacksMap : ℕ → Seen → Type 0
LacksMap n output = (n ≡ 3) × Appends output.before output.after []

-- the file that is named is no map: nothing is written to output
abbrev pub RefusesMapFile : KnownFiles → List ℕ → ℕ → Seen → Type 0
RefusesMapFile files name n output = TellsNoMap files name n × Appends output.before output.after []

-- how a run ends whose words name a map
abbrev pub EndsWithMap : List (List ℕ) → (at : ℕ) → KnownFiles → Seen → ℕ → Seen → Seen → Type 0
EndsWithMap words at files input n output errors =
    LacksMap n output
    ⊎ (RefusesMapFile files (slice_index_or words at []) n output
    ⊎ ((text : List ℕ) × IsMapText files (slice_index_or words at []) text
    × RunEndsOnFiles survey_command survey_file (slice_set words at text) files input n output errors))

-- how a run ends, by the word that names a map, if there is one
abbrev pub EndsByMap : Option ℕ → List (List ℕ) → KnownFiles → Seen → ℕ → Seen → Seen → Type 0
EndsByMap None words files input n output errors = RunEndsOnFiles survey_command survey_file words files input n output errors
EndsByMap (Some at) words files input n output errors = EndsWithMap words at files input n output errors

-- how a run of the program ends
abbrev pub SurveyEnds : List (List ℕ) → KnownFiles → Seen → ℕ → Seen → Seen → Type 0
SurveyEnds words files input n output errors = EndsByMap (map_word words) words files input n output errors
