-- How runs end whose words name a map: it is not had, or is none, or its text is read.
-- Letters: those of MapRuns; name the name of the file; put the words with the text, read those that are run.
use Rattle.std.proofs.Common.{◌≡◌, ◌⊎◌, ◌∙◌, ℕ, Bool, List, [], Option, inl, inr, slice_index_or, slice_set, subst, sym, true}
use Rattle.std.specs.Str.{IsUtf8}
use Rattle.adf_runs.proofs.PendingText.{appends_nil}
use Rattle.adf_runs.specs.Streams.{Seen, still}
use Rattle.adf_file_runs.specs.FileRuns.{KnownFiles, RunEndsOnFiles}
use Rattle.adf_survey_cmd.specs.{Answers.survey_command, CommandLine.survey_file}
use Rattle.adf_survey_cmd.specs.MapRuns.{AreReadOf, EndsWithMap, TellsNoMap, is_map}

module _ (words : List (List ℕ)) (at : ℕ) (files : KnownFiles) (input : Seen) (n : ℕ) (errors : Seen) (name : List ℕ) where
  -- output is as it was where the map is not had, or is none
  pub refused_ends : (o : Option (List ℕ)) (failed : Bool) → slice_index_or words at [] ≡ name → (n ≡ 3) ⊎ TellsNoMap files name n
      → EndsWithMap words at files input n (still o failed) errors
  refused_ends o failed same (inl three) = inl (three, appends_nil o)
  refused_ends o failed same (inr told) = inr (inl (subst (λ w. TellsNoMap files w n) (sym same) told, appends_nil o))

  -- where it is had, its text is read in place of its name
  pub mapped_ends : (output : Seen) (bytes text : List ℕ) (read put : List (List ℕ)) → slice_index_or words at [] ≡ name
      → AreReadOf files name bytes → is_map bytes ≡ true → (IsUtf8 bytes × (text ≡ bytes)) ⊎ ((¬ IsUtf8 bytes) × (text ≡ []))
      → read ≡ put → put ≡ slice_set words at text → RunEndsOnFiles survey_command survey_file read files input n output errors
      → EndsWithMap words at files input n output errors
  mapped_ends output bytes text read put same of map is alike set ends =
      let run : RunEndsOnFiles survey_command survey_file (slice_set words at text) files input n output errors =
      subst (λ (ws : List (List ℕ)). RunEndsOnFiles survey_command survey_file ws files input n output errors) (alike ∙ set) ends in
      inr (inr (text, (bytes, subst (λ w. AreReadOf files w bytes) (sym same) of, map, is), run))
