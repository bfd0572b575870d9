-- The command `adf-boot` is consistent.
use Rattle.std.proofs.Common.{◌≡◌, ◌∙◌, ℕ, List, Option, Some, None, inl, inr, sym}
use Rattle.adf_boot_cmd.specs.{CommandLine.AreRefusedByBoot, CommandLine.AsksBoot, CommandLine.BootRequestValue, Answers.boot_command}
use Rattle.adf_runs.specs.Commands.{IsConsistent, IsUnanswered}

pub not_refused : (words : List (List ℕ)) (r : BootRequestValue) → AsksBoot words r → ¬ AreRefusedByBoot words
not_refused words r asks (inl fault) = fault asks.0
not_refused words r asks (inr none) = let clash : Some r ≡ None = sym asks.1 ∙ none in absurd cc

pub taken : (bytes_of : List ℕ → Option (List ℕ)) (words : List (List ℕ)) (r : BootRequestValue) → AsksBoot words r
    → ¬ IsUnanswered (boot_command bytes_of) words
taken bytes_of words r asks (inl refused) = not_refused words r asks refused
taken bytes_of words r asks (inr none) = none

pub consistent : (bytes_of : List ℕ → Option (List ℕ)) → IsConsistent (boot_command bytes_of)
consistent bytes_of = record {
  taken = λ words order asks. not_refused words asks.0 asks.1;
  unread = λ words none. absurd none;
}
