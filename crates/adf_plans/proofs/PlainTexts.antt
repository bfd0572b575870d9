-- Texts whose lines name host files. left is what is left of a text, k, j are numbers of lines, `plain` is the plain text so far.
use Rattle.std.proofs.Common.{◌≡◌, ◌≢◌, ◌∙◌, ◌++◌, ◌-◌, ◌<◌, ℕ, zero, suc, true, false, List, None, ap, append_assoc, arith, codes, length, refl, sym, take}
use Rattle.std.proofs.Common.{[], ◌∷◌}
use Rattle.adf_plans.proofs.TextLines.{shorter}
use Rattle.adf_plans.specs.HostFiles.{ArePlain, BeginsPartition, IsPlainText, NamesHostAt, NamesHosts, host_of, line_without}
use Rattle.adf_plans.specs.PlanTexts.{before_byte, behind_line, first_line, has_word}

-- no line of a partition is empty, so one takes bytes
no_empty_line : ¬ BeginsPartition (first_line [])
unfolding before_byte
no_empty_line h = absurd cc

pub line_passed : (left : List ℕ) → BeginsPartition (first_line left) → length (behind_line left) < length left
line_passed [] h = absurd (no_empty_line h)
line_passed (x ∷ xs) h = shorter 10 (x ∷ xs) (omega arith)

-- a host file is named by the lines of a text if and only if it is by those that are left
pub record Seeks (text left : List ℕ) : Type 0 where
  pub found : (k : ℕ) → NamesHostAt k left → NamesHosts text
  pub none : ((k : ℕ) → ¬ NamesHostAt k left) → ¬ NamesHosts text

pub sought : (text : List ℕ) → Seeks text (behind_line text)
sought text = record { found = λ k at. (k, at); none = λ none at. none at.0 at.1 }

pub sought_next : (text left : List ℕ) → Seeks text left → BeginsPartition (first_line left) → host_of (first_line left) ≡ None
    → Seeks text (behind_line left)
unfolding NamesHostAt
sought_next text left h begins plain = record {
  found = λ k at. h.found (suc k) (begins, at);
  none = λ none. h.none (λ k at. go none k at);
}
  where
    go : ((k : ℕ) → ¬ NamesHostAt k (behind_line left)) → (k : ℕ) → ¬ NamesHostAt k left
    go none zero at = at.1 plain
    go none (suc k) at = none k at.1

pub host_found : (text left : List ℕ) → Seeks text left → BeginsPartition (first_line left) → host_of (first_line left) ≢ None → NamesHosts text
unfolding NamesHostAt
host_found text left h begins some = h.found zero (begins, some)

pub no_host : (text left : List ℕ) → Seeks text left → has_word (codes "partition") (first_line left) ≡ false → ¬ NamesHosts text
unfolding NamesHostAt
no_host text left h other = h.none go
  where
    go : (k : ℕ) → ¬ NamesHostAt k left
    go zero at = let clash : true ≡ false = sym at.0 ∙ other in absurd cc
    go (suc k) at = let clash : true ≡ false = sym at.0 ∙ other in absurd cc

-- the plain text so far, and that of what is left, are the plain text
abbrev pub Continues : List ℕ → List ℕ → List ℕ → Type 0
Continues text plain left = (k : ℕ) (more : List ℕ) → ArePlain k left more → IsPlainText text (plain ++ more)

pub begun : (text plain left : List ℕ) → left ≡ behind_line text → plain ≡ take (length text - length left) text → Continues text plain left
begun text plain left e p k more h = (k, more, rw e at h, ap (λ l. l ++ more) (rw e at p))

pub line_put : (text plain next left : List ℕ) → Continues text plain left → BeginsPartition (first_line left)
    → next ≡ plain ++ (line_without (first_line left) (host_of (first_line left)) ++ codes "\n") → Continues text next (behind_line left)
unfolding ArePlain
line_put text plain next left h begins put k more rest =
    let line : List ℕ = line_without (first_line left) (host_of (first_line left)) ++ codes "\n" in
    rw (put, append_assoc plain line more) (h (suc k) (line ++ more) (begins, (more, rest, refl)))

pub all_put : (text plain left : List ℕ) → Continues text plain left → has_word (codes "partition") (first_line left) ≡ false
    → IsPlainText text (plain ++ left)
unfolding ArePlain
all_put text plain left h other = h zero left (other, refl)

-- a text has one plain text
one_plain : (k j : ℕ) (left a b : List ℕ) → ArePlain k left a → ArePlain j left b → a ≡ b
unfolding ArePlain
one_plain zero zero left a b h i = h.1 ∙ sym i.1
one_plain zero (suc j) left a b h i = let clash : true ≡ false = sym i.0 ∙ h.0 in absurd cc
one_plain (suc k) zero left a b h i = let clash : true ≡ false = sym h.0 ∙ i.0 in absurd cc
one_plain (suc k) (suc j) left a b h i =
    let (more, rest, e) = h.1 in
    let (others, back, f) = i.1 in
    let line : List ℕ = line_without (first_line left) (host_of (first_line left)) ++ codes "\n" in
    e ∙ (ap (λ l. line ++ l) (one_plain k j (behind_line left) more others rest back) ∙ sym f)

pub one_plain_text : (text a b : List ℕ) → IsPlainText text a → IsPlainText text b → a ≡ b
one_plain_text text a b h i =
    let (k, more, are, e) = h in
    let (j, others, be, f) = i in
    e ∙ (ap (λ l. take (length text - length (behind_line text)) text ++ l) (one_plain k j (behind_line text) more others are be) ∙ sym f)
