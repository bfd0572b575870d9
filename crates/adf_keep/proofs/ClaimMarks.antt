-- The marks of claimed blocks, with one more and with one less.
use Rattle.std.proofs.Common.{◌≡◌, ◌≢◌, ◌==◌, ◌||◌, ◌<◌, ◌≤◌, ◌+◌, ℕ, Bool, true, false, zero, suc, List, [], ◌∷◌, ◌++◌, length, get_or, arith, refl, sym, ◌∙◌, ap, subst, inl, inr, ◌⊎◌}
use Rattle.std.proofs.{lemmas.Grind.common_steps, lemmas.Bool.Decides.nat_tests, lemmas.Bool.cases_lt}
use Rattle.std.proofs.Math.ListN.{set, length-set}
use Rattle.std.proofs.lemmas.List.{get_or_append_left, get_or_past, get_or_push, length_push, append_assoc, get_or-set_same, get_or-set_other}
use Rattle.std.proofs.lemmas.List.Quantifiers.{all_pairs_push}
use Rattle.adf_volume.specs.Lists.{At}
use Rattle.adf_keep.specs.Marks.{AreClaimed, IsOnce, has_block}

pub same_or_not : (a b : ℕ) → (a ≡ b) ⊎ (a ≢ b)
same_or_not a b = elim (cases_lt a b) [
  | inl lt ↦ inr (λ e. omega arith)
  | inr ge ↦ elim (cases_lt b a) [ inl lt ↦ inr (λ e. omega arith) | inr le ↦ inl (omega arith) ]
]

pub has_push : (bs : List ℕ) (b x : ℕ) → has_block (bs ++ b ∷ []) x ≡ (has_block bs x || (b == x))
has_push [] b x = grind (arith, common_steps)
has_push (c ∷ bs) b x = grind (arith, common_steps, has_push bs b x)

-- what is at an index is had
has_at : (bs : List ℕ) (k d : ℕ) → k < length bs → has_block bs (get_or bs k d) ≡ true
has_at [] k d lt = absurd (omega arith)
has_at (c ∷ bs) zero d lt = grind (arith, common_steps, nat_tests)
has_at (c ∷ bs) (suc k) d lt = grind (arith, common_steps, has_at bs k d (omega arith))

-- what is had is at an index
has_index : (bs : List ℕ) (b : ℕ) → has_block bs b ≡ true → (k : ℕ) × (k < length bs) × ((d : ℕ) → get_or bs k d ≡ b)
has_index [] b h = absurd (cc)
has_index (c ∷ bs) b h = elim (same_or_not c b) [
  | inl same ↦ (0, omega arith, λ d. same)
  | inr other ↦
      let r = has_index bs b (grind (arith, common_steps, nat_tests)) in
      (suc r.0, omega (arith, r.1), λ d. r.2 d)
]

-- a block that is not had may come last, and what comes last is not had before
once_more : (bs : List ℕ) (b : ℕ) → IsOnce bs → has_block bs b ≡ false → IsOnce (bs ++ b ∷ [])
once_more bs b once none = all_pairs_push (λ a c. a ≢ c) bs b once (λ k d lt same.
    let at : has_block bs (get_or bs k d) ≡ true = has_at bs k d lt in
    let here : has_block bs b ≡ true = subst (λ x. has_block bs x ≡ true) same at in
    cc)

pub once_less : (bs : List ℕ) (b : ℕ) → IsOnce (bs ++ b ∷ []) → IsOnce bs
once_less bs b once = λ i j d lt below.
    let long : length (bs ++ b ∷ []) ≡ length bs + 1 = length_push bs b in
    let all = once i j d lt (omega arith) in
    let first : get_or (bs ++ b ∷ []) i d ≡ get_or bs i d = get_or_append_left bs (b ∷ []) d i (omega arith) in
    let second : get_or (bs ++ b ∷ []) j d ≡ get_or bs j d = get_or_append_left bs (b ∷ []) d j (omega arith) in
    λ same. all (cc)

pub none_before : (bs : List ℕ) (b : ℕ) → IsOnce (bs ++ b ∷ []) → has_block bs b ≡ false
none_before bs b once = none (has_block bs b) refl
  where
    none : (v : Bool) → has_block bs b ≡ v → has_block bs b ≡ false
    none false is = is
    none true is =
        let r = has_index bs b is in
        let long : length (bs ++ b ∷ []) ≡ length bs + 1 = length_push bs b in
        let all = once r.0 (length bs) 0 r.1 (omega arith) in
        let first : get_or (bs ++ b ∷ []) r.0 0 ≡ get_or bs r.0 0 = get_or_append_left bs (b ∷ []) 0 r.0 r.1 in
        let second : get_or (bs ++ b ∷ []) (length bs) 0 ≡ b = get_or_push bs b 0 (length bs) refl in
        absurd (all (first ∙ (r.2 0 ∙ sym second)))

-- one more
pub claimed_more : (n : ℕ) (marks : List Bool) (bs : List ℕ) (b : ℕ) → AreClaimed n marks bs → 2 ≤ b → b < length marks → get_or marks b false ≡ false
    → AreClaimed n (set marks b true) (bs ++ b ∷ [])
claimed_more n marks bs b are from within none = record {
  size = length-set marks b true ∙ are.size;
  marked = (λ x. elim (same_or_not x b) [
    | inl same ↦ grind (arith, common_steps, nat_tests, has_push bs b x, get_or-set_same marks b true false within)
    | inr other ↦ grind (arith, common_steps, nat_tests, has_push bs b x, get_or-set_other marks b x true false other, are.marked x)
  ]);
  once = once_more bs b are.once (sym (are.marked b) ∙ none);
  inside = (λ x had. elim (same_or_not x b) [
    | inl same ↦ (omega arith, omega (arith, are.size))
    | inr other ↦ are.inside x (grind (arith, common_steps, nat_tests, has_push bs b x))
  ]);
}

-- one less
pub claimed_less : (n : ℕ) (marks : List Bool) (bs : List ℕ) (b : ℕ) → AreClaimed n marks (bs ++ b ∷ []) → b < length marks
    → AreClaimed n (set marks b false) bs
claimed_less n marks bs b are within = record {
  size = length-set marks b false ∙ are.size;
  marked = (λ x. elim (same_or_not x b) [
    | inl same ↦ grind (arith, common_steps, nat_tests, none_before bs b are.once, get_or-set_same marks b false false within)
    | inr other ↦ grind (arith, common_steps, nat_tests, has_push bs b x, get_or-set_other marks b x false false other, are.marked x)
  ]);
  once = once_less bs b are.once;
  inside = (λ x had. are.inside x (grind (arith, common_steps, has_push bs b x)));
}

-- what is claimed is within
pub claimed_within : (n : ℕ) (marks : List Bool) (bs : List ℕ) (b : ℕ) → AreClaimed n marks (bs ++ b ∷ []) → length marks ≤ b → ⊥
claimed_within n marks bs b are past =
    let none : get_or marks b false ≡ false = get_or_past marks b false past in
    let some : has_block (bs ++ b ∷ []) b ≡ true = grind (arith, common_steps, nat_tests, has_push bs b b) in
    let is = are.marked b in
    cc

-- the last block that was claimed, at the end of the list that is taken back
pub popped : (n : ℕ) (marks : List Bool) (bs all rest : List ℕ) (b : ℕ) → all ≡ rest ++ b ∷ [] → AreClaimed n marks (bs ++ all)
    → AreClaimed n marks ((bs ++ rest) ++ b ∷ [])
popped n marks bs all rest b is are = subst (λ xs. AreClaimed n marks xs) (ap (λ xs. bs ++ xs) is ∙ sym (append_assoc bs rest (b ∷ []))) are

-- a mark that was read
pub unmarked : (marks : List Bool) (b : ℕ) (mark : Bool) → b < length marks → mark ≡ get_or marks b mark → mark ≡ false → get_or marks b false ≡ false
unmarked marks b mark within read none = subst (λ d. get_or marks b d ≡ false) none (sym read ∙ none)

-- a block of a list is had, also behind others
has_there : (bs xs : List ℕ) (k b : ℕ) → At xs k b → has_block (bs ++ xs) b ≡ true
has_there [] [] k b at = absurd at
has_there [] (x ∷ xs) zero b at = grind (arith, common_steps, nat_tests)
has_there [] (x ∷ xs) (suc k) b at = grind (arith, common_steps, has_there [] xs k b at)
has_there (c ∷ bs) xs k b at = grind (arith, common_steps, has_there bs xs k b at)

-- the blocks that were claimed last are inside
pub claims_inside : (n : ℕ) (marks : List Bool) (bs xs : List ℕ) → AreClaimed n marks (bs ++ xs) → (k b : ℕ) → At xs k b → (2 ≤ b) × (b < n)
claims_inside n marks bs xs are k b at = are.inside b (has_there bs xs k b at)
