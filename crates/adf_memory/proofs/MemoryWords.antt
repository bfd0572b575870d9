-- A command whose words are bytes in memory.
use Rattle.std.proofs.{Common.ℕ, Common.List, Common.inl, Common.inr, Common.arith, lemmas.Grind.common_steps}
use Rattle.adf_runs.specs.{Commands.Command, Commands.IsUnanswered, Commands.IsConsumed, Commands.RunEnds, Streams.Seen, Streams.at_hand}
use Rattle.adf_memory.specs.Words.{AreWords, in_memory}
use Rattle.adf_memory.proofs.WordParts.{along}

-- the bytes are these words
module _ (c : Command (List (List ℕ))) (bytes : List ℕ) (words : List (List ℕ)) (are : AreWords bytes words) where
  bad_path_words : (in_memory c).asks_bad_path bytes → c.asks_bad_path words
  bad_path_words (others, also, bad) = along bytes others words c.asks_bad_path also are bad

  unanswered_words : IsUnanswered (in_memory c) bytes → IsUnanswered c words
  unanswered_words (inl all) = inl (all words are)
  unanswered_words (inr bad) = inr (bad_path_words bad)

  refused_bytes : c.refuses words → (in_memory c).refuses bytes
  refused_bytes refused = λ others also. along bytes words others c.refuses are also refused

  unanswered_bytes : IsUnanswered c words → IsUnanswered (in_memory c) bytes
  unanswered_bytes (inl refused) = inl (refused_bytes refused)
  unanswered_bytes (inr bad) = inr (words, are, bad)

  pub ends_in_memory : (input : List ℕ) (n : ℕ) (output errors : Seen) → RunEnds c words (at_hand input) n output errors
      → RunEnds (in_memory c) bytes (at_hand input) n output errors
  ends_in_memory input n output errors h = grind (arith, common_steps, unanswered_words, unanswered_bytes, refused_bytes, bad_path_words)

  pub consumed_in_memory : (input : List ℕ) (n consumed : ℕ) → IsConsumed c words input n consumed → IsConsumed (in_memory c) bytes input n consumed
  consumed_in_memory input n consumed h = record {
    within = h.within;
    none = λ unanswered. h.none (unanswered_words unanswered);
    at_most = λ most enough. h.at_most most (λ r asks. enough r (words, are, asks));
    all = λ ne far. let (r, asks, same) = h.all ne far in (r, (words, are, asks), same);
  }
