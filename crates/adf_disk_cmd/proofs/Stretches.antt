-- The bytes of an input that are held, up to where it stands.
-- Letters: `start` is what the input had at first, a, b and c what is left of it; k is where the held bytes begin, f the first byte of a place, n a count.
use Rattle.std.proofs.Common.{◌≡◌, ◌<◌, ◌≤◌, ◌+◌, ◌-◌, ◌*◌, ◌∙◌, ◌++◌, ◌∷◌, [], ℕ, List, Option, None, Some, All, ap, append-nil, append_assoc, arith, drop}
use Rattle.std.proofs.Common.{get_or, length, min, subst, sym, take, length-append, length-drop, length-take, length-take-le}
use Rattle.std.proofs.{Math.Seq.drop-append_seam, lemmas.Bool.cases_lt, lemmas.Grind.common_steps}
use Rattle.std.proofs.lemmas.List.{drop-append-le, drop-drop, get_or-drop, take-append-drop, take-append-le}
use Rattle.std.proofs.lemmas.List.Elements.{All-append, All-cons, All-from_get_or, All-get_or, All-nil}
use Rattle.std.specs.{Io.KnownBytes.Consumes, Io.KnownBytes.IsAtEnd, List.Sorted.IsNonDecreasingBy}
use Rattle.adf_disk_cmd.specs.{Checks.IsVolumeAnswer, Surveys.volume_at, declared.work.TheConstants.MOST_DISK_BYTES}
use Rattle.adf_partitions.specs.{Places.end_of, declared.place.Place.Place}
use Rattle.adf_runs.proofs.KnownBytes.{consumes_more, two_at_most}
use Rattle.adf_runs.specs.Streams.{PassesOver, TakesAtMost, TakesCount, TakesFirst}
use Rattle.adf_disk_cmd.proofs.HeldVolume.{whole_place}
use Rattle.adf_disk_cmd.specs.HeldChecks.{HasVerdict, BeginsFrom, IsStretch, IsWithin, first_of_place}
use Rattle.adf_disk_cmd.specs.declared.checking.CheckedVolume.{CheckedVolume}

pub stretch_at_most : (start left : Option (List ℕ)) (k n : ℕ) (bytes : List ℕ) → IsStretch start left k bytes → k + length bytes ≤ n
    → TakesAtMost n start left
stretch_at_most start left k n bytes s few = (s.before ++ bytes, omega (arith, length-append s.before bytes, s.from), s.taken)

pub more_at_most : (start a b : Option (List ℕ)) (k m n : ℕ) (bytes : List ℕ) → IsStretch start a k bytes → TakesAtMost m a b
    → k + length bytes + m ≤ n
    → TakesAtMost n start b
more_at_most start a b k m n bytes s more few =
    two_at_most (k + length bytes) m n start a b few (stretch_at_most start a k (k + length bytes) bytes s (omega arith)) more

-- what is held is let go, and more is passed over
pub stretch_passed : (start a b : Option (List ℕ)) (k j count limit : ℕ) (bytes none : List ℕ) → j ≡ (k + length bytes) + count → none ≡ []
    → PassesOver limit a b count → IsStretch start a k bytes → IsStretch start b j none
stretch_passed start a b k j count limit bytes none e f (passed, first, len) s = record {
  before = (s.before ++ bytes) ++ passed;
  from = omega (arith, e, len, s.from, length-append (s.before ++ bytes) passed, length-append s.before bytes);
  taken = consumes_more start a b (s.before ++ bytes) passed (((s.before ++ bytes) ++ passed) ++ none)
      (ap (λ (l : List ℕ). ((s.before ++ bytes) ++ passed) ++ l) f ∙ append-nil ((s.before ++ bytes) ++ passed)) s.taken first.1;
}

-- what is held is let go up to a byte
pub stretch_cut : (start left : Option (List ℕ)) (k f j : ℕ) (bytes rest : List ℕ) → j ≡ f → rest ≡ drop (f - k) bytes → k ≤ f → f ≤ k + length bytes
    → IsStretch start left k bytes → IsStretch start left j rest
stretch_cut start left k f j bytes rest same e le within s =
    let front = take (f - k) bytes in
    let whole : (s.before ++ front) ++ rest ≡ s.before ++ bytes =
    append_assoc s.before front rest ∙ ap (λ (l : List ℕ). s.before ++ (front ++ l)) e
    ∙ ap (λ (l : List ℕ). s.before ++ l) (take-append-drop (f - k) bytes) in
    record {
      before = s.before ++ front;
      from = omega (arith, same, s.from, length-append s.before front, length-take-le (f - k) bytes (omega arith));
      taken = subst (λ (l : List ℕ). Consumes start left l) (sym whole) s.taken;
    }

-- what is held of a place are its bytes
pub volume_held : (all : List ℕ) (left : Option (List ℕ)) (k f n : ℕ) (bytes : List ℕ) → IsStretch (Some all) left k bytes → k ≤ f
    → (k + length bytes < f + n → IsAtEnd left) → take n (drop (f - k) bytes) ≡ take n (drop f all)
volume_held all None k f n bytes s before end = absurd s.taken
volume_held all (Some rest) k f n bytes s before end =
    let whole : all ≡ s.before ++ (bytes ++ rest) = s.taken ∙ append_assoc s.before bytes rest in
    let here : drop k all ≡ bytes ++ rest =
    ap (drop k) whole ∙ ap (λ (m : ℕ). drop m (s.before ++ (bytes ++ rest))) (sym s.from) ∙ drop-append_seam s.before (bytes ++ rest) in
    let sum : k + (f - k) ≡ f = omega (arith, before) in
    let there : drop f all ≡ drop (f - k) (bytes ++ rest) =
    ap (λ (m : ℕ). drop m all) (sym sum) ∙ sym (drop-drop (f - k) k all) ∙ ap (drop (f - k)) here in
    sym (ap (take n) there ∙ cut)
  where
    cut : take n (drop (f - k) (bytes ++ rest)) ≡ take n (drop (f - k) bytes)
    cut = grind (arith, common_steps, cases_lt, append-nil, drop-append-le, take-append-le, length-drop)

-- so an answer to them is that to the volume at the place
pub one_answered : (all image bytes : List ℕ) (left : Option (List ℕ)) (k : ℕ) (q : Place) (v : CheckedVolume) → IsStretch (Some all) left k bytes
    → BeginsFrom k q → IsWithin q → (k + length bytes < end_of q * 512 → IsAtEnd left)
    → image ≡ take (q.blocks * 512) (drop (q.first * 512 - k) bytes) → v.place ≡ q → IsVolumeAnswer image v.answer
    → HasVerdict (take MOST_DISK_BYTES all) v
unfolding volume_at
one_answered all image bytes left k q v s from within end e f answer =
    let f0 : ℕ = q.first * 512 in
    let b : ℕ = q.blocks * 512 in
    let sum : end_of q * 512 ≡ f0 + b = omega arith in
    let held = volume_held all left k f0 b bytes s from (λ (short : k + length bytes < f0 + b). end (omega (arith, short, sum))) in
    let whole = whole_place f0 b MOST_DISK_BYTES all (omega (arith, within)) in
    let same : image ≡ volume_at (take MOST_DISK_BYTES all) v.place =
    e ∙ held ∙ sym whole ∙ ap (λ (r : Place). volume_at (take MOST_DISK_BYTES all) r) (sym f) in
    subst (λ (l : List ℕ). IsVolumeAnswer l v.answer) same answer

-- the place that comes next, and those behind it
pub next_from : (k i : ℕ) (places : List Place) (d : Place) → i < length places → All (BeginsFrom k) (drop i places) → BeginsFrom k (get_or places i d)
next_from k i places d within h =
    let first = All-get_or (BeginsFrom k) (drop i places) 0 d (omega (arith, within, length-drop i places)) h in
    let same : i + 0 ≡ i = omega arith in
    subst (BeginsFrom k) (get_or-drop i places 0 d ∙ ap (λ (j : ℕ). get_or places j d) same) first

pub later_from : (k i : ℕ) (places : List Place) (d : Place) → IsNonDecreasingBy first_of_place places → BeginsFrom k (get_or places i d)
    → All (BeginsFrom k) (drop (i + 1) places)
later_from k i places d order from = All-from_get_or (BeginsFrom k) (drop (i + 1) places) d one
  where
    one : (j : ℕ) → j < length (drop (i + 1) places) → BeginsFrom k (get_or (drop (i + 1) places) j d)
    one j lt = grind (arith, common_steps, length-drop, get_or-drop)

-- the tables from a byte on are the first stretch
pub stretch_first : (start left : Option (List ℕ)) (n k : ℕ) (tables bytes : List ℕ) → TakesFirst n start left tables → bytes ≡ drop k tables
    → k ≤ length tables → IsStretch start left k bytes
stretch_first start left n k tables bytes first e inside = record {
  before = take k tables;
  from = length-take-le k tables inside;
  taken = subst (λ (l : List ℕ). Consumes start left l) (sym (ap (λ (l : List ℕ). take k tables ++ l) e ∙ take-append-drop k tables)) first.1;
}

-- what was held and what is passed over behind it are all bytes, as many as count
pub all_counted : (all rest bytes : List ℕ) (k count limit : ℕ) → IsStretch (Some all) (Some rest) k bytes → k + length bytes ≤ limit
    → (left : Option (List ℕ)) → PassesOver (limit - (k + length bytes)) (Some rest) left count → (k + length bytes) + count ≡ min limit (length all)
all_counted all rest bytes k count limit s few left (passed, first, len) = grind (arith, common_steps, length-append, length-take)

-- a volume that was checked behind those before it
abbrev pub AddsCheck : List ℕ → Place → List CheckedVolume → List CheckedVolume → Type 0
AddsCheck image q few more = (v : CheckedVolume) × (v.place ≡ q) × IsVolumeAnswer image v.answer × (more ≡ few ++ v ∷ [])

pub answer_added : (all image bytes : List ℕ) (left : Option (List ℕ)) (k : ℕ) (q : Place) (few more : List CheckedVolume)
    → AddsCheck image q few more
    → All (HasVerdict (take MOST_DISK_BYTES all)) few → IsStretch (Some all) left k bytes → BeginsFrom k q → IsWithin q
    → (k + length bytes < end_of q * 512 → IsAtEnd left) → image ≡ take (q.blocks * 512) (drop (q.first * 512 - k) bytes)
    → All (HasVerdict (take MOST_DISK_BYTES all)) more
answer_added all image bytes left k q few more (v, place, answer, e) h s from within end same =
    let one = one_answered all image bytes left k q v s from within end same place answer in
    let disk : List ℕ = take MOST_DISK_BYTES all in
    subst (All (HasVerdict disk)) (sym e)
    (All-append (HasVerdict disk) few (v ∷ []) h (All-cons (HasVerdict disk) v [] one (All-nil (HasVerdict disk))))

-- what is read is counted
pub count_of : (n : ℕ) (a b : Option (List ℕ)) (old bytes : List ℕ)
    → ((more : List ℕ) × (bytes ≡ old ++ more) × (length more ≡ n) × Consumes a b more)
    → TakesCount n a b
count_of n a b old bytes (more, e, len, taken) = (more, len, taken)
