-- Texts of plans with other bytes behind them. t, u are texts behind a line or behind lines, e what is left behind the lines of ps.
use Rattle.std.proofs.Common.{◌≡◌, ◌<◌, ◌∙◌, ◌++◌, ◌==◌, ℕ, Bool, true, false, List, [], ◌∷◌, ap, append_assoc, arith, codes, get_or, inl, length, refl, sym}
use Rattle.std.proofs.Common.{nat_lt, if◌then◌else◌}
use Rattle.std.proofs.{lemmas.Bool.Decides.nat_tests, lemmas.Grind.common_steps}
use Rattle.std.proofs.lemmas.List.Sums.{fails_before_first, passes_at_first, split_at_first}
use Rattle.std.specs.{List.position_or_len, Str.bytes_eq}
use Rattle.clap.proofs.CutLemmas.{Lacks, after_first-at, before_first-at}
use Rattle.adf_disk_cmd.specs.{HostPlans.PlansTakeAnyBytes}
use Rattle.adf_partitions.specs.{Plans.PlanValue, declared.plan.PartitionPlan.PartitionPlan}
use Rattle.adf_plans.specs.PlanTexts.{AreLines, IsText, before_byte, begins_with_end, behind_byte}
use Rattle.adf_plans.specs.PlanTexts.{behind_line, first_line, has_word}

-- whether a line feed ends the first line
abbrev has_feed : List ℕ → Bool
has_feed text = nat_lt (length (before_byte 10 text)) (length text)

-- a text is its first line with its line feed, and what is behind; that line stays the first one before any text
record Cut (text : List ℕ) : Type 0 where
  front : List ℕ
  whole : text ≡ front ++ behind_line text
  first : (t : List ℕ) → first_line (front ++ t) ≡ first_line text
  behind : (t : List ℕ) → behind_line (front ++ t) ≡ t

before_at : (l t : List ℕ) → Lacks 10 l → before_byte 10 (l ++ 10 ∷ t) ≡ l
unfolding before_byte
before_at l t none = before_first-at 10 l t none

behind_at : (l t : List ℕ) → Lacks 10 l → behind_line (l ++ 10 ∷ t) ≡ t
unfolding behind_byte
behind_at l t none = after_first-at 10 l t none

first_at : (l t : List ℕ) → Lacks 10 l → first_line (l ++ 10 ∷ t) ≡ l
first_at l t none =
    let more : nat_lt (length l) (length (l ++ 10 ∷ t)) ≡ true = grind (arith, common_steps, nat_tests) in
    rw (before_at l t none, more) refl

fed : (text : List ℕ) → has_feed text ≡ true → position_or_len (λ x. x == 10) text < length text
unfolding before_byte
fed text h = grind (arith, common_steps, nat_tests)

lacks_feed : (text : List ℕ) → has_feed text ≡ true → Lacks 10 (before_byte 10 text)
unfolding before_byte
lacks_feed text h i lt =
    let fails = fails_before_first (λ x. x == 10) text i 0 (grind (arith, common_steps)) in grind (arith, common_steps, nat_tests)

split : (text : List ℕ) → has_feed text ≡ true → text ≡ before_byte 10 text ++ 10 ∷ behind_line text
unfolding before_byte behind_byte
split text h =
    let p : ℕ → Bool = λ x. x == 10 in
    let lt = fed text h in
    let feed : get_or text (position_or_len p text) 0 ≡ 10 = let passes = passes_at_first p text 0 lt in grind (arith, nat_tests) in
    split_at_first p text 0 lt ∙ ap (λ x. before_byte 10 text ++ x ∷ behind_line text) feed

cut : (text : List ℕ) → has_feed text ≡ true → Cut text
cut text h =
    let l : List ℕ = before_byte 10 text in
    let none = lacks_feed text h in
    let one : (t : List ℕ) → (l ++ 10 ∷ []) ++ t ≡ l ++ 10 ∷ t = λ t. append_assoc l (10 ∷ []) t in
    let here : first_line text ≡ l = rw h refl in
    record {
      front = l ++ 10 ∷ [];
      whole = split text h ∙ sym (one (behind_line text));
      first = λ t. ap first_line (one t) ∙ (first_at l t none ∙ sym here);
      behind = λ t. ap behind_line (one t) ∙ behind_at l t none;
    }

-- a line that has a word is ended
worded : (word text : List ℕ) → has_word word [] ≡ false → has_word word (first_line text) ≡ true → has_feed text ≡ true
worded word text none some = go (has_feed text) some
  where
    go : (b : Bool) → has_word word (if b then before_byte 10 text else []) ≡ true → b ≡ true
    go true h = refl
    go false h = let clash : true ≡ false = sym h ∙ none in absurd cc

no_partition_word : has_word (codes "partition") [] ≡ false
unfolding before_byte
no_partition_word = refl

no_disk_word : has_word (codes "disk") [] ≡ false
unfolding before_byte
no_disk_word = refl

-- lines of partitions before other bytes
lines_before : (ps : List PartitionPlan) (left e : List ℕ) → AreLines left ps e
    → (front : List ℕ) × (left ≡ front ++ e) × ((u : List ℕ) → AreLines (front ++ u) ps u)
unfolding AreLines
lines_before [] left e h = ([], h, λ u. refl)
lines_before (p ∷ ps) left e h =
    let c = cut left (worded (codes "partition") left no_partition_word h.0.word) in
    let (front, whole, are) = lines_before ps (behind_line left) e h.1 in (
      c.front ++ front,
      c.whole ∙ (ap (λ t. c.front ++ t) whole ∙ sym (append_assoc c.front front e)),
      λ u.
          let same : (c.front ++ front) ++ u ≡ c.front ++ (front ++ u) = append_assoc c.front front u in
          rw (same, c.first (front ++ u), c.behind (front ++ u)) (h.0, are u),
    )

ended : (e : List ℕ) → begins_with_end e ≡ true → has_feed e ≡ true
unfolding before_byte
ended e h = go (has_feed e) h
  where
    go : (b : Bool) → bytes_eq (if b then before_byte 10 e else []) (codes "end") ≡ true → b ≡ true
    go true h = refl
    go false h = absurd cc

-- a text of a plan stays one with any bytes behind it
any_behind : (plain left given : List ℕ) (plan : PlanValue) → IsText plain plan left → (front : List ℕ) × (plain ≡ front ++ left) × IsText (front ++ given) plan given
any_behind plain left given plan is =
    let e = is.end in
    let disk = cut plain (worded (codes "disk") plain no_disk_word is.lines.0.word) in
    let last = cut e (ended e is.ends) in
    let (lines, whole, are) = lines_before plan.partitions (behind_line plain) e is.lines.1 in
    let front : List ℕ = disk.front ++ (lines ++ last.front) in
    let joined : (t : List ℕ) → front ++ t ≡ disk.front ++ (lines ++ (last.front ++ t)) =
    λ t. append_assoc disk.front (lines ++ last.front) t ∙ ap (λ l. disk.front ++ l) (append_assoc lines last.front t) in
    let u : List ℕ = last.front ++ given in (
      front,
      disk.whole ∙ (ap (λ l. disk.front ++ l) (whole ∙ ap (λ l. lines ++ l) (last.whole ∙ ap (λ l. last.front ++ l) (sym is.behind)))
          ∙ sym (joined left)),
      record {
        end = u;
        lines = rw (joined given, disk.first (lines ++ u), disk.behind (lines ++ u))
            (is.lines.0, are u, rw (last.first given) is.lines.2);
        ends = rw (last.first given) is.ends;
        good = is.good;
        behind = sym (last.behind given);
      },
    )

pub plans_take_any_bytes : PlansTakeAnyBytes
plans_take_any_bytes plain left given plan reply is answers =
    let (front, whole, text) = any_behind plain left given plan is in (front, whole, inl (plan, given, text, answers))
