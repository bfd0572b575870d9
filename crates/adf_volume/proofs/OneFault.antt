-- There is at most one first fault.
use Rattle.std.proofs.Common.{◌≡◌, ℕ, suc, List, [], ◌∷◌, ◌++◌, inl, inr, ◌-◌, ◌<◌, length, refl, sym, subst, ◌∙◌, arith, rules}
use Rattle.std.proofs.lemmas.Grind.{common_steps}
use native.Mathlib.Decide.{dec_lt}
use Rattle.adf_base.specs.declared.hash.Letters.{Letters}
use Rattle.adf_blocks.specs.{declared.cause.Cause.Cause, Sizes.blocks}
use Rattle.adf_volume.specs.{Image.word_in, Image.root_of, Demands.Demand, Demands.FirstFails, Demands.boot_demands_by, Demands.root_demands, Walk.Role.Head}
use Rattle.adf_volume.specs.{Walk.IsWalkBy.start, Walk.IsWalkBy.step, Walk.FirstFaultBy.at_boot, Walk.FirstFaultBy.at_due, Walk.FirstFaultBy.at_bitmap}
use Rattle.adf_volume.specs.Walk.{Role, Before, Same, heads, Asks, IsDue, NoCauseBy, demands_by, bitmap_demands, IsWalkBy, IsWhole, FirstFaultBy, Walk}
use Rattle.adf_volume.proofs.{Gathered.asks_one, Walks.of_walk, Lists.fails_not_all, Roles.asks_number, Roles.dec_same, Roles.same_role, WalkOrder.before_total}

pub fails_one : (xs : List Demand) (b : ℕ) (c : Cause) (b' : ℕ) (c' : Cause) → FirstFails xs b c → FirstFails xs b' c' → (b ≡ b') × (c ≡ c')
fails_one [] b c b' c' h k = absurd h
fails_one (x ∷ xs) b c b' c' (inl h) (inl k) = (sym h.1 ∙ k.1, sym h.2 ∙ k.2)
fails_one (x ∷ xs) b c b' c' (inl h) (inr k) = absurd (h.0 k.0)
fails_one (x ∷ xs) b c b' c' (inr h) (inl k) = absurd (k.0 h.0)
fails_one (x ∷ xs) b c b' c' (inr h) (inr k) = fails_one xs b c b' c' h.1 k.1

-- roles of which neither comes before the other have one key
pub neither_before : (r q : Role) → (Before r q → ⊥) → (Before q r → ⊥) → Same r q
neither_before r q x y = elim (dec_same r q) [ yes s ↦ s | no s ↦ absurd (x (before_total r q y s)) ]

module _ (image : List ℕ) where
  pub number_is : (w : Walk) (r : Role) (a i n p s j : ℕ) → Asks image w r a i → r ≡ Head n p s j → n ≡ suc (heads w)
  number_is w r a i n p s j h e = asks_number image w n p s j a i (subst (λ r. Asks image w r a i) e h)

-- the last step of a walk
record Step (letters : Letters) (image : List ℕ) (w w' : Walk) : Type 0 where
  role : Role
  at : ℕ
  index : ℕ
  due : IsDue image w role at index
  fine : NoCauseBy letters image w role at (word_in image at index)
  same : w' ≡ (role, word_in image at index) ∷ w

module _ {letters : Letters} (image : List ℕ) where
  -- one role is due, by one word
  due_one : (w : Walk) → IsWalkBy letters image w → (r q : Role) (a i b j : ℕ) → IsDue image w r a i → IsDue image w q b j
      → (r ≡ q) × (a ≡ b) × (i ≡ j)
  due_one w v r q a i b j d e =
      let same : Same r q = neither_before r q (e.least r a i d.asked d.lacks) (d.least q b j e.asked e.lacks) in
      let z : r ≡ q = same_role r q same
      (λ n m p s k f g. number_is image w r a i n p s k d.asked f ∙ sym (number_is image w q b j m p s k e.asked g)) in
      let x = asks_one image (of_walk image v) q a i b j (subst (λ r. Asks image w r a i) z d.asked) e.asked in
      (z, x.0, x.1)

  -- a walk has the root
  not_empty : {w : Walk} → IsWalkBy letters image w → length w ≡ 0 → ⊥
  not_empty start e = omega arith
  not_empty (step v d f n) e = omega arith

  same_walks : {w u : Walk} → IsWalkBy letters image w → IsWalkBy letters image u → length w ≡ length u → w ≡ u
  same_walks start start e = refl
  same_walks start (step v d f n) e = absurd (not_empty v (omega arith))
  same_walks (step v d f n) start e = absurd (not_empty v (omega arith))
  same_walks (step {w = w} {r = r} {b = b} {a = a} {i = i} v d f n) (step {w = u} {r = q} {b = c} {a = a'} {i = i'} v' d' f' n') e =
      search (rules, due_one, same_walks v v')

  -- from the shorter of two walks a step leads on
  goes_on : {u : Walk} → IsWalkBy letters image u → (w : Walk) → IsWalkBy letters image w → length w < length u → (x : Walk) × Step letters image w x
  goes_on start w v l = absurd (not_empty v (omega arith))
  goes_on (step {w = u} {r = r} {b = b} {a = a} {i = i} v d f n) w vw l =
      elim (dec_lt (length w) (length u)) [
        | yes k ↦ goes_on v w vw k
        | no k ↦
            let z : u ≡ w = same_walks v vw (omega arith) in (
              (r, word_in image a i) ∷ w,
              record {
                role = r;
                at = a;
                index = i;
                due = subst (λ w. IsDue image w r a i) z d;
                fine = subst (λ w. NoCauseBy letters image w r a (word_in image a i)) z (subst (NoCauseBy letters image u r a) (sym f) n);
                same = refl;
              },
            )
      ]

  -- what is due after a walk has a cause, or a step leads on, and not both
  no_step : (w x : Walk) (r : Role) (a i b : ℕ) (c : Cause) → IsWalkBy letters image w → IsDue image w r a i
      → FirstFails (demands_by letters image w r a (word_in image a i)) b c → Step letters image w x → ⊥
  no_step w x r a i b c v d f s = grind (arith, common_steps, due_one, fails_not_all)

  whole_step : (w x : Walk) → IsWhole image w → Step letters image w x → ⊥
  whole_step w x h s = h s.role s.at s.index s.due.asked s.due.lacks

  -- two walks from which no step leads on are one
  one_walk : (w u : Walk) → IsWalkBy letters image w → IsWalkBy letters image u → ((x : Walk) → Step letters image w x → ⊥)
      → ((x : Walk) → Step letters image u x → ⊥) → w ≡ u
  one_walk w u v v' f g =
      let short : length w < length u → ⊥ = (λ l. let s = goes_on v' w v l in f s.0 s.1) in
      let long : length u < length w → ⊥ = (λ l. let s = goes_on v u v' l in g s.0 s.1) in
      same_walks v v' (omega arith)

  two_due : (w u : Walk) (r q : Role) (a i a' i' b : ℕ) (c : Cause) (b' : ℕ) (c' : Cause) → IsWalkBy letters image w → IsWalkBy letters image u
      → IsDue image w r a i → IsDue image u q a' i' → FirstFails (demands_by letters image w r a (word_in image a i)) b c
      → FirstFails (demands_by letters image u q a' (word_in image a' i')) b' c' → (b ≡ b') × (c ≡ c')
  two_due w u r q a i a' i' b c b' c' v v' d d' f f' =
      let z = one_walk w u v v' (λ x. no_step w x r a i b c v d f) (λ x. no_step u x q a' i' b' c' v' d' f') in
      let x = due_one u v' r q a i a' i' (subst (λ w. IsDue image w r a i) z d) d' in
      let g = subst (λ w. FirstFails (demands_by letters image w r a (word_in image a i)) b c) z f in
      fails_one (demands_by letters image u q a' (word_in image a' i')) b c b' c'
      (subst (λ (x : Role × (ℕ × ℕ)). FirstFails (demands_by letters image u x.0 x.1.0 (word_in image x.1.0 x.1.1)) b c)
      (λ t. (x.0 t, (x.1 t, x.2 t))) g) f'

  due_and_whole : (w u : Walk) (r : Role) (a i b : ℕ) (c : Cause) → IsWalkBy letters image w → IsWalkBy letters image u → IsDue image w r a i
      → FirstFails (demands_by letters image w r a (word_in image a i)) b c → IsWhole image u → ⊥
  due_and_whole w u r a i b c v v' d f h =
      let z = one_walk w u v v' (λ x. no_step w x r a i b c v d f) (λ x. whole_step u x h) in
      let d2 = subst (λ w. IsDue image w r a i) z d in
      h r a i d2.asked d2.lacks

  two_whole : (w u : Walk) → IsWalkBy letters image w → IsWalkBy letters image u → IsWhole image w → IsWhole image u → w ≡ u
  two_whole w u v v' h k = one_walk w u v v' (λ x. whole_step w x h) (λ x. whole_step u x k)

  pub one_fault : (b : ℕ) (c : Cause) (b' : ℕ) (c' : Cause) → FirstFaultBy letters image b c → FirstFaultBy letters image b' c' → (b ≡ b') × (c ≡ c')
  one_fault b c b' c' (at_boot f) (at_boot g) = fails_one (boot_demands_by letters image ++ root_demands image (root_of image)) b c b' c' f g
  one_fault b c b' c' (at_boot f) (at_due h w r a i v d g) =
      absurd (fails_not_all (boot_demands_by letters image ++ root_demands image (root_of image)) b c f h)
  one_fault b c b' c' (at_boot f) (at_bitmap h w v k g) =
      absurd (fails_not_all (boot_demands_by letters image ++ root_demands image (root_of image)) b c f h)
  one_fault b c b' c' (at_due h w r a i v d g) (at_boot f) = search (rules, fails_not_all)
  one_fault b c b' c' (at_due h w r a i v d g) (at_due h' w' r' a' i' v' d' g') = two_due w w' r r' a i a' i' b c b' c' v v' d d' g g'
  one_fault b c b' c' (at_due h w r a i v d g) (at_bitmap h' w' v' k' g') = absurd (due_and_whole w w' r a i b c v v' d g k')
  one_fault b c b' c' (at_bitmap h w v k g) (at_boot f) =
      absurd (fails_not_all (boot_demands_by letters image ++ root_demands image (root_of image)) b' c' f h)
  one_fault b c b' c' (at_bitmap h w v k g) (at_due h' w' r' a' i' v' d' g') = absurd (due_and_whole w' w r' a' i' b' c' v' v d' g' k)
  one_fault b c b' c' (at_bitmap h w v k g) (at_bitmap h' w' v' k' g') =
      fails_one (bitmap_demands image w' 2 (blocks image - 2)) b c b' c'
      (subst (λ w. FirstFails (bitmap_demands image w 2 (blocks image - 2)) b c) (two_whole w w' v v' k k') g) g'
