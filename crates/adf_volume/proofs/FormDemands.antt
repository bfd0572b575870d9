-- Forms as demands, and the facts about headers that follow.
use Rattle.std.proofs.Common.{◌≡◌, ℕ, List, [], ◌∷◌, ◌⊎◌, inl, inr, Bool, true, false, ◌||◌, not, Some, None, refl, ap, sym, subst, ◌∙◌, arith, ◌==◌}
use Rattle.std.proofs.{lemmas.Bool.and_parts, lemmas.Bool.eqb-true, lemmas.Grind.common_steps}
use Rattle.adf_blocks.specs.{declared.cause.Cause.Cause, Forms.first_cause, HeadBlock.head_form_by}
use Rattle.adf_blocks.specs.declared.layout.TheConstants.{SECONDARY_TYPE, ST_DIR, ST_FILE}
use Rattle.adf_names.specs.declared.kind.Kind.{Kind}
use Rattle.adf_base.specs.{Words.block, Hash.slot_by, declared.hash.Letters.Letters}
use Rattle.adf_volume.specs.{Image.word_in, Image.name_of, Demands.AllHold, Demands.FirstFails, Demands.demands_at, Lists.In}

-- where no test fails, each demand holds
pub all_demanded : (b : ℕ) (form : List (Bool × Cause)) → first_cause form ≡ None → AllHold (demands_at b form)
all_demanded b [] h = tt
all_demanded b ((true, c) ∷ form) h = (refl, all_demanded b form h)
all_demanded b ((false, c) ∷ form) h = cc

-- a test of the form, with its cause
pub demanded : (b : ℕ) (form : List (Bool × Cause)) (test : Bool) (c : Cause) → AllHold (demands_at b form) → In form (test, c) → test ≡ true
demanded b [] test c h i = absurd i
demanded b (x ∷ form) test c h (inl e) = subst (λ (y : Bool × Cause). y.0 ≡ true) e h.0
demanded b (x ∷ form) test c h (inr i) = demanded b form test c h.1 i

-- and the other way round
pub none_demanded : (b : ℕ) (form : List (Bool × Cause)) → AllHold (demands_at b form) → first_cause form ≡ None
none_demanded b [] h = refl
none_demanded b ((true, c) ∷ form) h = none_demanded b form h.1
none_demanded b ((false, c) ∷ form) h = cc

-- the first cause is that of the first demand that fails
pub first_demanded : (b : ℕ) (form : List (Bool × Cause)) (c : Cause) → first_cause form ≡ Some c → FirstFails (demands_at b form) b c
first_demanded b [] c h = cc
first_demanded b ((true, d) ∷ form) c h = inr (refl, first_demanded b form c h)
first_demanded b ((false, d) ∷ form) c h = let z : d ≡ c = cc in inl ((λ e. cc), refl, z)

-- and the other way round
pub demanded_first : (b a : ℕ) (c : Cause) (form : List (Bool × Cause)) → FirstFails (demands_at b form) a c → (first_cause form ≡ Some c) × (b ≡ a)
demanded_first b a c [] h = absurd h
demanded_first b a c ((true, d) ∷ form) (inl h) = absurd (h.0 refl)
demanded_first b a c ((true, d) ∷ form) (inr h) = demanded_first b a c form h.1
demanded_first b a c ((false, d) ∷ form) (inl h) = (ap Some h.2, h.1)
demanded_first b a c ((false, d) ∷ form) (inr h) = let e : false ≡ true = h.0 in cc

entry : (a l : Bool) → (a || l) ≡ true → not l ≡ true → a ≡ true
entry a l h k = grind (arith, common_steps)

which : (t : ℕ) (x : Bool) → (t == ST_DIR) ≡ x → (x || (t == ST_FILE)) ≡ true → (t ≡ ST_DIR) ⊎ (t ≡ ST_FILE)
which t true e h = inl (eqb-true t ST_DIR e)
which t false e h = inr (eqb-true t ST_FILE h)

-- a header is a directory's or a file's
pub head_type : (letters : Letters) (image : List ℕ) (kind : Kind) (b up s : ℕ)
    → AllHold (demands_at b (head_form_by letters kind b up s (block image b)))
    → (word_in image b SECONDARY_TYPE ≡ ST_DIR) ⊎ (word_in image b SECONDARY_TYPE ≡ ST_FILE)
head_type letters image kind b up s h = grind (arith, common_steps, demanded, not, which, entry, and_parts)

pub head_slot_is : (letters : Letters) (image : List ℕ) (kind : Kind) (b up s : ℕ)
    → AllHold (demands_at b (head_form_by letters kind b up s (block image b))) → slot_by letters (name_of image b) ≡ s
unfolding name_of
head_slot_is letters image kind b up s h = grind (arith, common_steps, eqb-true, demanded)

-- a directory's header is no file's
pub dir_not_file : (image : List ℕ) (b : ℕ) → word_in image b SECONDARY_TYPE ≡ ST_DIR → word_in image b SECONDARY_TYPE ≡ ST_FILE → ⊥
dir_not_file image b d f = let e : ST_DIR ≡ ST_FILE = sym d ∙ f in omega arith
