use Rattle.std.proofs.Common.{◌≡◌, ◌≤◌, ◌-◌, ◌∙◌, ℕ, List, [], ◌∷◌, Option, arith, drop, length, refl, subst, take}
use Rattle.std.proofs.lemmas.List.{take_all}
use Rattle.std.specs.Borrow.{Bor}
use Rattle.adf_edit_cmd.specs.Changing.{EditEnds, WordsEnd}
use Rattle.adf_file_runs.specs.FileRuns.{KnownFiles}
use Rattle.adf_runs.specs.Streams.{Seen}
use Rattle.adf_words.specs.CommandLine.{texts_of}
use Rattle.adf_edit_cmd.proofs.program.WorkSystemProgram.start.Goals as goal

-- a run with words behind the name of the program ends by these
ends_by_words : (words rest : List (Bor (List ℕ))) (files : KnownFiles) (after : List ℕ → Option (List ℕ)) (input : Seen) (n : ℕ) (output errors : Seen)
    → 2 ≤ length words → rest ≡ take (length words - 1) (drop 1 words) → output.after ≡ output.before → WordsEnd (texts_of rest) files after n
    → EditEnds (texts_of words) files after input n output errors
ends_by_words [] rest files after input n output errors two e same ends = absurd (omega (arith, two))
ends_by_words (name ∷ []) rest files after input n output errors two e same ends = absurd (omega (arith, two))
ends_by_words (name ∷ word ∷ words) rest files after input n output errors two e same ends =
    (same, subst (λ ws. WordsEnd (texts_of ws) files after n) (e ∙ take_all (length (name ∷ word ∷ words) - 1) (word ∷ words) (omega arith)) ends)

pub returns-in-len2-up : goal.returns-in-len2-up
returns-in-len2-up g c = record { ends = ends_by_words c.args.asked.now.words.now _ _ _ _ _ _ _ c.in-len2-up.len_at_least refl refl c.run_words.ensures }
