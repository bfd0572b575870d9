-- Plans whose lines name host files. `left` is what is left of a text from a line on, k how many lines of partitions stand there.
use Rattle.std.specs.Prelude.{◌≡◌, ◌≢◌, ◌++◌, ◌-◌, ◌||◌, ℕ, Bool, zero, suc, true, false, List, [], Option, Some, None, codes, if◌then◌else◌, length, take}
use Rattle.std.specs.{Str.bytes_eq}
use Rattle.adf_plans.specs.PlanTexts.{behind_line, behind_word, ends_in_space, first_line, has_word, without_priority, without_word}

-- what stands behind the cylinders and the options of a partition's line
abbrev pub volume_words : List ℕ → List ℕ
volume_words line = without_priority (without_word (codes "bootable") (behind_word (behind_word (behind_word (behind_word line)))))

-- whether these words name no file: there are none, or `given`
abbrev pub name_none : List ℕ → Bool
name_none words = bytes_eq words [] || bytes_eq words (codes "given")

-- the host file that a line names for its volume; none of a line that ends in a space
abbrev pub host_of : List ℕ → Option (List ℕ)
host_of line = if ends_in_space line || name_none (volume_words line) then None else Some (volume_words line)

-- a line with `given` in place of the host file
abbrev pub line_without : List ℕ → Option (List ℕ) → List ℕ
line_without line None = line
line_without line (Some host) = take (length line - length host) line ++ codes "given"

-- a line begins as that of a partition
abbrev pub BeginsPartition : List ℕ → Type 0
BeginsPartition line = has_word (codes "partition") line ≡ true

-- after k lines of partitions one more stands, which names a host file
unfoldable pub NamesHostAt : ℕ → List ℕ → Type 0
NamesHostAt zero left = BeginsPartition (first_line left) × (host_of (first_line left) ≢ None)
NamesHostAt (suc k) left = BeginsPartition (first_line left) × NamesHostAt k (behind_line left)

-- one of the lines of partitions that follow the first line names a host file
abbrev pub NamesHosts : List ℕ → Type 0
NamesHosts text = (k : ℕ) × NamesHostAt k (behind_line text)

-- the k lines of partitions, with `given` in place of each host file, and what is behind them as it is
unfoldable pub ArePlain : ℕ → List ℕ → List ℕ → Type 0
ArePlain zero left plain = (has_word (codes "partition") (first_line left) ≡ false) × (plain ≡ left)
ArePlain (suc k) left plain =
    BeginsPartition (first_line left)
    × ((more : List ℕ) × ArePlain k (behind_line left) more
    × (plain ≡ (line_without (first_line left) (host_of (first_line left)) ++ codes "\n") ++ more))

-- a text with `given` in place of each host file that its lines name
abbrev pub IsPlainText : List ℕ → List ℕ → Type 0
IsPlainText text plain =
    (k : ℕ) × (more : List ℕ) × ArePlain k (behind_line text) more × (plain ≡ take (length text - length (behind_line text)) text ++ more)

-- a text has one such plain text at most
abbrev pub TextsHaveOnePlainText : Type 0
TextsHaveOnePlainText = (text a b : List ℕ) → IsPlainText text a → IsPlainText text b → a ≡ b
