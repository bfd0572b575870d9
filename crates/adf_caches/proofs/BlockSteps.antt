-- The blocks of caches, as they are listed.
-- Letters: right, next as in Paths; a, b numbers, bs those on a way; k the most of them; list those listed; w the walk of an image's survey;
-- d a directory, by its node.
use Rattle.std.specs.Prelude.{◌==◌, ◌&&◌, not, Option, Some, None, cond, is_some, option_map}
use Rattle.std.specs.{List.flat_map, List.range_with_len, Option.unwrap_or}
use Rattle.std.proofs.Common.{◌≡◌, ◌<◌, ◌∙◌, ◌+◌, ◌-◌, ℕ, zero, suc, Bool, true, false, List, [], ◌∷◌, ◌++◌}
use Rattle.std.proofs.Common.{ap, append_assoc, append-nil, arith, inl, inr, refl, subst, sym}
use Rattle.std.proofs.lemmas.Bool.{cases_Bool, cond-false, cond-true, eqb-true, false≢true}
use Rattle.std.proofs.lemmas.{Grind.flat_map-append, List.Concat.flat_map-cons, Option.none-some, Option.same_Some}
use Rattle.adf_blocks.specs.Sizes.{blocks, in_range}
use Rattle.adf_volume.specs.Walk.{Walk}
use Rattle.adf_caches.specs.Blocks.{HaveChains, blocks_of_cache, cache_blocks}
use Rattle.adf_caches.specs.Caches.{agree, cache_chain, has_caches, is_cache_block, is_found_directory, is_wrong_cache, next_cache}
use Rattle.adf_caches.specs.Paths.{way_by}
use Rattle.adf_caches.proofs.ChainWays.{cache_parts}

-- what is listed, with the way that is left, is all
abbrev pub Lists : (right : ℕ → Bool) → (next : ℕ → ℕ) → List ℕ → (k b : ℕ) → (all : List ℕ) → Type 0
Lists right next list k b all = option_map (λ bs. list ++ bs) (way_by right next k b) ≡ Some all

module _ (right : ℕ → Bool) (next : ℕ → ℕ) where
  -- where the way has ended, all is listed
  pub listed_all : (list : List ℕ) (k b : ℕ) (all : List ℕ) → b ≡ 0 → Lists right next list k b all → list ≡ all
  listed_all list zero zero all e h = sym (append-nil list) ∙ same_Some (list ++ []) all h
  listed_all list (suc k) zero all e h = sym (append-nil list) ∙ same_Some (list ++ []) all h
  listed_all list k (suc b) all e h = absurd (omega (arith, e))

  -- no number is left
  pub listed_last : (list : List ℕ) (b : ℕ) (all : List ℕ) → Lists right next list 0 b all → list ≡ all
  listed_last list b all h = elim (cases_Bool (b == 0)) [
    | inl y ↦
        let end = sym (ap (option_map (λ bs. list ++ bs)) (cond-true (b == 0) (Some []) None y)) ∙ h in
        sym (append-nil list) ∙ same_Some (list ++ []) all end
    | inr y ↦ let none = sym (ap (option_map (λ bs. list ++ bs)) (cond-false (b == 0) (Some []) None y)) ∙ h in absurd (none-some all none)
  ]

  more : (list : List ℕ) (b : ℕ) (o : Option (List ℕ)) (all : List ℕ)
      → option_map (λ bs. list ++ bs) (option_map (λ bs. b ∷ bs) o) ≡ Some all → option_map (λ bs. (list ++ b ∷ []) ++ bs) o ≡ Some all
  more list b (Some bs) all h = ap (λ l. Some l) (append_assoc list (b ∷ []) bs) ∙ h
  more list b None all h = cc

  goes_right : (t : Bool) (list : List ℕ) (b : ℕ) (o : Option (List ℕ)) (all : List ℕ)
      → option_map (λ bs. list ++ bs) (cond t (option_map (λ bs. b ∷ bs) o) None) ≡ Some all
      → (t ≡ true) × (option_map (λ bs. (list ++ b ∷ []) ++ bs) o ≡ Some all)
  goes_right true list b o all h = (refl, more list b o all h)
  goes_right false list b o all h = cc

  -- one more number
  pub listed_more : (list : List ℕ) (k b : ℕ) (all : List ℕ) → (b ≡ 0 → ⊥) → Lists right next list (suc k) b all
      → (right b ≡ true) × Lists right next (list ++ b ∷ []) k (next b) all
  listed_more list k b all some h =
      let more = way_by right next k (next b) in
      let last : (b == 0) ≡ false = elim (cases_Bool (b == 0)) [ inl y ↦ absurd (some (eqb-true b 0 y)) | inr y ↦ y ] in
      goes_right (right b) list b more all
      (sym (ap (option_map (λ bs. list ++ bs)) (cond-false (b == 0) (Some []) (cond (right b) (option_map (λ bs. b ∷ bs) more) None) last)) ∙ h)

  -- nothing is listed yet
  pub listed_none : (list : List ℕ) (k b : ℕ) (bs : List ℕ) → way_by right next k b ≡ Some bs → Lists right next list k b (list ++ bs)
  listed_none list k b bs h = ap (option_map (λ l. list ++ l)) h

some_of : (o : Option (List ℕ)) → is_some o ≡ true → o ≡ Some (unwrap_or o [])
some_of (Some bs) h = refl
some_of None h = cc

module _ (image : List ℕ) (w : Walk) where
  -- the next step of a chain
  pub chain_more : (d : ℕ) (list : List ℕ) (k b behind : ℕ) (all : List ℕ) → k < blocks image → (b ≡ 0 → ⊥)
      → (in_range image b ≡ true → behind ≡ next_cache image b)
      → Lists (is_cache_block image w d) (next_cache image) list (blocks image - k) b all
      → Lists (is_cache_block image w d) (next_cache image) (list ++ b ∷ []) (blocks image - (k + 1)) behind all
  chain_more d list k b behind all lt some is h =
      let less : blocks image - k ≡ suc (blocks image - (k + 1)) = omega (arith, lt) in
      let step = listed_more (is_cache_block image w d) (next_cache image) list (blocks image - (k + 1)) b all some
      (ap (λ n. option_map (λ bs. list ++ bs) (way_by (is_cache_block image w d) (next_cache image) n b)) (sym less) ∙ h) in
      subst (λ n. Lists (is_cache_block image w d) (next_cache image) (list ++ b ∷ []) (blocks image - (k + 1)) n all)
      (sym (is (cache_parts image w d b step.0).0)) step.1

  -- the chain of a directory is its blocks
  pub chain_is : (d : ℕ) → HaveChains image w → is_found_directory image w d ≡ true → cache_chain image w d ≡ Some (blocks_of_cache image w d)
  chain_is d chains found =
      some_of (cache_chain image w d) (chains d found)
      ∙ ap (λ l. Some l) (sym (cond-true (is_found_directory image w d) (unwrap_or (cache_chain image w d) []) [] found))

  -- a directory that is not found has none
  pub none_of : (d : ℕ) (list : List ℕ) → is_found_directory image w d ≡ false → list ≡ list ++ blocks_of_cache image w d
  none_of d list out =
      sym (append-nil list)
      ∙ ap (λ l. list ++ l) (sym (cond-false (is_found_directory image w d) (unwrap_or (cache_chain image w d) []) [] out))

  -- nothing has blocks where nothing is found
  pub no_blocks : w ≡ [] → [] ≡ cache_blocks image w
  no_blocks e = subst (λ v. [] ≡ cache_blocks image v) (sym e) refl

-- one number more
range_more : (a n : ℕ) → range_with_len a (n + 1) ≡ range_with_len a n ++ (a + n) ∷ []
range_more a zero = let same : a ≡ a + 0 = omega arith in ap (λ k. k ∷ []) same
range_more a (suc n) =
    let more : suc n + 1 ≡ suc (n + 1) = omega arith in
    let last : a + 1 + n ≡ a + suc n = omega arith in
    ap (range_with_len a) more
    ∙ ap (λ l. a ∷ l) (range_more (a + 1) n ∙ ap (λ k. range_with_len (a + 1) n ++ k ∷ []) last)

-- the blocks of one directory more
pub blocks_more : (image : List ℕ) (w : Walk) (n : ℕ) (list new : List ℕ) → list ≡ flat_map (blocks_of_cache image w) (range_with_len 0 n)
    → new ≡ list ++ blocks_of_cache image w n → new ≡ flat_map (blocks_of_cache image w) (range_with_len 0 (n + 1))
blocks_more image w n list new h e =
    let f = blocks_of_cache image w in
    let same : 0 + n ≡ n = omega arith in
    let one : flat_map f (n ∷ []) ≡ f n = flat_map-cons f n [] ∙ append-nil (f n) in
    let all : flat_map f (range_with_len 0 (n + 1)) ≡ flat_map f (range_with_len 0 n) ++ f n =
    ap (flat_map f) (range_more 0 n ∙ ap (λ k. range_with_len 0 n ++ k ∷ []) same)
    ∙ (flat_map-append f (range_with_len 0 n) (n ∷ []) ∙ ap (λ l. flat_map f (range_with_len 0 n) ++ l) one) in
    e ∙ (ap (λ l. l ++ f n) h ∙ sym all)

-- no cache is wrong on a volume with caches: each has its chain
pub have_chains : (image : List ℕ) (w : Walk) → has_caches image ≡ true → ((d : ℕ) → is_wrong_cache image w d ≡ false) → HaveChains image w
have_chains image w caches right d found = elim (cases_Bool (agree image w d (cache_chain image w d))) [
  | inl y ↦ agreed (cache_chain image w d) y
  | inr y ↦
      let bad : is_wrong_cache image w d ≡ true =
      ap (λ t. t && (is_found_directory image w d && not (agree image w d (cache_chain image w d)))) caches
      ∙ (ap (λ t. t && not (agree image w d (cache_chain image w d))) found ∙ ap not y) in
      absurd (false≢true (sym (right d) ∙ bad))
]
  where
    agreed : (o : Option (List ℕ)) → agree image w d o ≡ true → is_some o ≡ true
    agreed (Some bs) h = refl
    agreed None h = cc
