-- Counts of directories and files.
use Rattle.std.proofs.Common.{◌≡◌, ℕ, suc, List, [], ◌∷◌, ◌+◌, ◌-◌, length, count_by, cond, Bool, refl, sym, ap, ◌∙◌, arith, not}
use Rattle.std.proofs.{lemmas.List.Filters.length-filter_both, lemmas.List.Sums.length-filter, lemmas.List.Sums.sum_by-cons}
use Rattle.adf_tree.specs.declared.entry.Entry.{Entry}
use Rattle.adf_volume.specs.{Counts.is_directory, Lists.At}

-- two lists of one length whose members agree have one count
pub same_count : {X Y : Type 0} (f : X → Bool) (g : Y → Bool) (xs : List X) (ys : List Y) → length xs ≡ length ys
    → ((i : ℕ) (x : X) (y : Y) → At xs i x → At ys i y → f x ≡ g y) → count_by f xs ≡ count_by g ys
same_count f g [] [] e h = refl
same_count f g [] (y ∷ ys) e h = absurd (omega arith)
same_count f g (x ∷ xs) [] e h = absurd (omega arith)
same_count f g (x ∷ xs) (y ∷ ys) e h =
    sum_by-cons (λ x. cond (f x) 1 0) x xs
    ∙ ap (λ t. cond t 1 0 + count_by f xs) (h 0 x y refl refl)
    ∙ ap (λ n. cond (g y) 1 0 + n) (same_count f g xs ys (omega arith) (λ i a b p q. h (suc i) a b p q))
    ∙ sym (sum_by-cons (λ y. cond (g y) 1 0) y ys)

-- those that are directories and those that are not are all
pub others : (es : List Entry) (all dirs : ℕ) → all ≡ length es → dirs ≡ count_by is_directory es
    → all - dirs ≡ count_by (λ e. not (is_directory e)) es
others es all dirs a d =
    let file : Entry → Bool = λ e. not (is_directory e) in
    omega (arith, length-filter_both is_directory file (λ _. refl) es, length-filter is_directory es, length-filter file es)
