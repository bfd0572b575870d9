-- Steps of a count of blocks over the entries of a tree.
use Rattle.std.proofs.Common.{◌≡◌, ◌<◌, ℕ, zero, suc, ◌+◌, ◌-◌, ◌^◌, List, [], ◌∷◌, length, drop, min, sym, ap, ◌∙◌, arith, Some, None, add-one, false}
use Rattle.std.proofs.Common.{if◌then◌else◌, ◌==◌}
use Rattle.std.specs.List.{slice_get}
use Rattle.std.proofs.{lemmas.Bool.Decides.nat_tests, lemmas.Grind.common_steps}
use Rattle.adf_names.specs.declared.kind.Kind.{Kind}
use Rattle.adf_tree.specs.{declared.entry.Entry.Entry, Tree.entry}
use Rattle.adf_build.specs.Plan.{entries_blocks, entry_blocks}

-- node i + 1 is the entry at place i
not_zero : (i : ℕ) → ((i + 1) == 0) ≡ false
not_zero i = grind (arith, nat_tests)

entry-next : (es : List Entry) (i : ℕ) → entry es (i + 1) ≡ slice_get es i
entry-next es i = ap (λ t. if t then None else slice_get es (i + 1 - 1)) (not_zero i) ∙ ap (slice_get es) (omega arith)

left_is : (es : List Entry) (i : ℕ) (e : Entry) → slice_get es i ≡ Some e → drop i es ≡ e ∷ drop (suc i) es
left_is [] i e h = cc
left_is (x ∷ xs) zero e h = let same : x ≡ e = cc in ap (λ y. y ∷ xs) same
left_is (x ∷ xs) (suc i) e h = left_is xs i e h

none_past : (es : List Entry) (i : ℕ) → slice_get es i ≡ None → i < length es → ⊥
none_past [] i h lt = omega arith
none_past (x ∷ xs) zero h lt = cc
none_past (x ∷ xs) (suc i) h lt = none_past xs i h (omega arith)

-- there is an entry to count
pub count_goes_on : (es : List Entry) (i : ℕ) → None ≡ entry es (i + 1) → i < length es → ⊥
count_goes_on es i h lt = none_past es i (sym (h ∙ entry-next es i)) lt

-- what is left from an entry on
pub entry_left : (es : List Entry) (i : ℕ) (e : Entry) → Some e ≡ entry es (i + 1) → drop i es ≡ e ∷ drop (i + 1) es
entry_left es i e h = left_is es i e (sym (h ∙ entry-next es i)) ∙ ap (λ k. e ∷ drop k es) (sym (add-one i))

-- one entry more is counted
pub count_step : (kind : Kind) (es : List Entry) (i sum new need : ℕ) (e : Entry) → Some e ≡ entry es (i + 1)
    → new ≡ min (sum + entry_blocks kind e) (2 ^ 64 - 1)
    → min (sum + entries_blocks kind (drop i es)) (2 ^ 64 - 1) ≡ need → min (new + entries_blocks kind (drop (i + 1) es)) (2 ^ 64 - 1) ≡ need
count_step kind es i sum new need e h f inv = grind (arith, common_steps, left_is, entry-next, add-one)
