-- What the survey of an image gives.
-- Letters: w the walk of the survey; d a directory, by its node; marks those of wrong caches; u the image as one without caches; p, q tests; a, h a
-- range; k, n numbers, ns some of them.
use Rattle.std.specs.Prelude.{Some, None, Result, IfOk, cond, find}
use Rattle.std.specs.List.{range_with_len}
use Rattle.std.proofs.Common.{◌≡◌, ◌<◌, ◌≤◌, ◌∙◌, ◌+◌, ℕ, zero, suc, Bool, true, false, List, [], ◌∷◌, ap, arith, inl, inr, length, refl, subst, sym}
use Rattle.std.proofs.lemmas.Bool.{cases_Bool, cases_lt, cond-false, cond-true, Decides.nat_tests}
use Rattle.std.proofs.lemmas.{List.get_or_past, Option.same_Some, Result.IfOk-weaker}
use Rattle.adf_volume.proofs.ImageStart.{type_byte}
use Rattle.adf_volume.specs.Walk.{Walk, heads}
use Rattle.adf_findings.specs.Members.{has_mark}
use Rattle.adf_caches.specs.{Blocks.HaveChains, Blocks.cache_blocks, Caches.directory_header, Caches.has_caches, Caches.is_wrong_cache}
use Rattle.adf_caches.proofs.BlockSteps.{have_chains}
use Rattle.adf_blocks.specs.declared.cause.Cause.TheVariants.{DirCache}
use Rattle.adf_volume.specs.Fault.{fault}
use Rattle.adf_uncached.specs.declared.images.Uncached.{Uncached}
use Rattle.adf_uncached.specs.Uncached.{KeepsAs, IsUncached, blocks_if_right, fault_if_wrong, first_wrong, free_fault, freed, is_cached, plainly_typed}

-- tests that agree find the same
find_same : (p q : ℕ → Bool) → ((n : ℕ) → p n ≡ q n) → (ns : List ℕ) → find p ns ≡ find q ns
find_same p q same [] = refl
find_same p q same (n ∷ ns) = ap (λ t. cond t (Some n) (find p ns)) (same n) ∙ ap (λ o. cond (q n) (Some n) o) (find_same p q same ns)

-- the first number of a range that passes a test
pub find_first : (p : ℕ → Bool) (a h n : ℕ) → a ≤ n → n < a + h → p n ≡ true → ((k : ℕ) → k < n → p k ≡ false)
    → find p (range_with_len a h) ≡ Some n
find_first p a zero n from before here none = absurd (omega (arith, from, before))
find_first p a (suc h) n from before here none = elim (cases_lt a n) [
  | inl y ↦
      cond-false (p a) (Some a) (find p (range_with_len (a + 1) h)) (none a y)
      ∙ find_first p (a + 1) h n (omega (arith, y)) (omega (arith, before)) here none
  | inr y ↦
      let same : a ≡ n = omega (arith, y, from) in
      cond-true (p a) (Some a) (find p (range_with_len (a + 1) h)) (subst (λ k. p k ≡ true) (sym same) here) ∙ ap (λ k. Some k) same
]

-- no number of a range does
pub find_none : (p : ℕ → Bool) (a h : ℕ) → ((k : ℕ) → k < a + h → p k ≡ false) → find p (range_with_len a h) ≡ None
find_none p a zero none = refl
find_none p a (suc h) none =
    cond-false (p a) (Some a) (find p (range_with_len (a + 1) h)) (none a (omega arith))
    ∙ find_none p (a + 1) h (λ k lt. none k (omega (arith, lt)))

-- what does not pass is none of a range's first
none_found : (p : ℕ → Bool) (a h : ℕ) → find p (range_with_len a h) ≡ None → (k : ℕ) → a ≤ k → k < a + h → p k ≡ false
none_found p a zero e k from before = absurd (omega (arith, from, before))
none_found p a (suc h) e k from before = elim (cases_Bool (p a)) [
  | inl y ↦ let clash = sym (cond-true (p a) (Some a) (find p (range_with_len (a + 1) h)) y) ∙ e in cc
  | inr y ↦
      let rest = sym (cond-false (p a) (Some a) (find p (range_with_len (a + 1) h)) y) ∙ e in
      elim (cases_lt a k) [
        | inl z ↦ none_found p (a + 1) h rest k (omega (arith, z)) (omega (arith, before))
        | inr z ↦ let same : a ≡ k = omega (arith, z, from) in subst (λ n. p n ≡ false) same y
      ]
]

-- what is found passes
pub find_true : (p : ℕ → Bool) (ns : List ℕ) (d : ℕ) → find p ns ≡ Some d → p d ≡ true
find_true p [] d e = cc
find_true p (n ∷ ns) d e = elim (cases_Bool (p n)) [
  | inl y ↦
      let same = same_Some n d (sym (cond-true (p n) (Some n) (find p ns) y) ∙ e) in
      subst (λ k. p k ≡ true) same y
  | inr y ↦ find_true p ns d (sym (cond-false (p n) (Some n) (find p ns) y) ∙ e)
]

-- the first mark, as it is come to
pub marked_first : (marks : List Bool) (n i : ℕ) (t : Bool) → i < n → n ≡ length marks → t ≡ has_mark marks i → t ≡ true
    → ((k : ℕ) → k < i → has_mark marks k ≡ false) → Some i ≡ find (has_mark marks) (range_with_len 0 (length marks))
marked_first marks n i t lt size is here none =
    sym (find_first (has_mark marks) 0 (length marks) i (omega arith) (omega (arith, lt, size)) (sym is ∙ here) none)

pub marked_none : (marks : List Bool) (n i : ℕ) → n ≤ i → n ≡ length marks → ((k : ℕ) → k < i → has_mark marks k ≡ false)
    → None ≡ find (has_mark marks) (range_with_len 0 (length marks))
marked_none marks n i end size none = sym (find_none (has_mark marks) 0 (length marks) (λ k lt. none k (omega (arith, lt, end, size))))

-- a type of directory caches
pub cached_type : (image : List ℕ) → is_cached image ≡ true → has_caches image ≡ true
cached_type image h = grind (arith, nat_tests, type_byte)

module _ (image : List ℕ) (w : Walk) (marks : List Bool) (size : length marks ≡ heads w + 1)
    (wrong : (d : ℕ) → has_mark marks d ≡ is_wrong_cache image w d) where
  -- the first mark is that of the first wrong cache
  pub first_of_marks : find (has_mark marks) (range_with_len 0 (length marks)) ≡ first_wrong image w
  first_of_marks =
      ap (λ n. find (has_mark marks) (range_with_len 0 n)) size ∙ find_same (has_mark marks) (is_wrong_cache image w) wrong (range_with_len 0 (heads w + 1))

  -- without a mark each directory has its chain
  pub chains_unmarked : is_cached image ≡ true → first_wrong image w ≡ None → HaveChains image w
  chains_unmarked cached none =
      have_chains image w (cached_type image cached) (λ d. elim (cases_lt d (heads w + 1)) [
        | inl y ↦ none_found (is_wrong_cache image w) 0 (heads w + 1) none d (omega arith) (omega (arith, y))
        | inr y ↦ sym (wrong d) ∙ get_or_past marks d false (omega (arith, y, size))
      ])

module _ (image : List ℕ) (w : Walk) (u : Uncached) where
  -- what is kept where a cache is wrong
  pub held_wrong : (d : ℕ) → first_wrong image w ≡ Some d → KeepsAs u (plainly_typed image) [] (Some (fault (directory_header image w d) DirCache))
      → IsUncached image w u
  held_wrong d e h = record {
    bytes = h.bytes ∙ ap (freed image w) (sym (ap (blocks_if_right image w) e));
    blocks = h.blocks ∙ sym (ap (blocks_if_right image w) e);
    fault = h.fault ∙ sym (ap (fault_if_wrong image w) e);
  }

  -- and where none is
  pub held_right : first_wrong image w ≡ None
      → KeepsAs u (freed image w (cache_blocks image w)) (cache_blocks image w) (free_fault image w (cache_blocks image w)) → IsUncached image w u
  held_right e h = record {
    bytes = h.bytes ∙ ap (freed image w) (sym (ap (blocks_if_right image w) e));
    blocks = h.blocks ∙ sym (ap (blocks_if_right image w) e);
    fault = h.fault ∙ sym (ap (fault_if_wrong image w) e);
  }

module _ (image : List ℕ) (w : Walk) {E : Type 0} (r : Result Uncached E) where
  pub wrong_result : (d b : ℕ) → first_wrong image w ≡ Some d → b ≡ directory_header image w d
      → IfOk r (λ u. KeepsAs u (plainly_typed image) [] (Some (fault b DirCache))) → IfOk r (IsUncached image w)
  wrong_result d b first at h =
      IfOk-weaker r (λ u. KeepsAs u (plainly_typed image) [] (Some (fault b DirCache))) (IsUncached image w)
      (λ u k. held_wrong image w u d first (subst (λ n. KeepsAs u (plainly_typed image) [] (Some (fault n DirCache))) at k)) h

  pub right_result : first_wrong image w ≡ None
      → IfOk r (λ u. KeepsAs u (freed image w (cache_blocks image w)) (cache_blocks image w) (free_fault image w (cache_blocks image w)))
      → IfOk r (IsUncached image w)
  right_result first h =
      IfOk-weaker r (λ u. KeepsAs u (freed image w (cache_blocks image w)) (cache_blocks image w) (free_fault image w (cache_blocks image w)))
      (IsUncached image w) (λ u k. held_right image w u first k) h

pub wrong_first : (image : List ℕ) (w : Walk) (d : ℕ) → first_wrong image w ≡ Some d → is_wrong_cache image w d ≡ true
wrong_first image w d first = find_true (is_wrong_cache image w) (range_with_len 0 (heads w + 1)) d first
