-- The state of a survey has the facts that the demands on a part need.
use Rattle.std.specs.Prelude.{Bool, true, false, not, ◌==◌, ◌||◌}
use Rattle.std.proofs.Common.{◌≡◌, ◌≢◌, ℕ, zero, suc, List, [], ◌∷◌, inl, inr, ◌<◌, refl, sym, subst, ap, ◌∙◌, arith}
use Rattle.std.specs.Str.{bytes_eq}
use Rattle.std.proofs.lemmas.Bool.{and_parts, cases_Bool, eqb-true, eq-eqb, Decides.nat_tests}
use Rattle.std.proofs.{lemmas.Slice.Eq.bytes_eq-Decides, lemmas.Grind.common_steps}
use Rattle.adf_tree.specs.NameSet.{HasMore, Names, has}
use Rattle.adf_names.specs.Texts.{is_name}
use Rattle.adf_blocks.specs.Sizes.{blocks, in_range}
use Rattle.adf_volume.specs.{Image.name_of, Positions.position_of, Walk.Role, Walk.Enough, Walk.Has, Walk.IsAbsent, Walk.Walk, Walk.Role.Head, Parts.role_of}
use Rattle.adf_findings.specs.{Demands.NewNameIn, Demands.uppers_in, declared.judge.Facts.Facts, declared.found.Found.Found, Survey.Course, Members.owns}
use Rattle.adf_volume.specs.declared.part.Part.{Part, TheVariants.Head as HeadPart}
use Rattle.adf_findings.specs.Forms.{IsContext, Knows, Tells}
use Rattle.adf_findings.proofs.{WalkOwners.owned_is, Names.other_name}
use Rattle.adf_findings.specs.Found.{is_owned, AreNamed, HasValidName, IsChain, KeepsName, Stands, has_name, is_named, known_at, new_in}

pub tells_absent : (w : Walk) (b : ℕ) → Tells (not (owns w b)) (IsAbsent w b)
tells_absent [] b = λ q h. h
tells_absent (x ∷ w) b = go (x.1 == b) (owns w b) refl (tells_absent w b)
  where
    go : (s t : Bool) → (x.1 == b) ≡ s → Tells (not t) (IsAbsent w b) → Tells (not (s || t)) (IsAbsent (x ∷ w) b)
    go true t e h = λ f. f x.0 (inl (refl, eqb-true x.1 b e))
    go false true e h = λ f. h (λ q k. f q (inr k))
    go false false e h = grind (arith, common_steps, eq-eqb)

-- in its own chain a header has the name that is its own
pub own_name : (image : List ℕ) (n p s j c : ℕ) (name : List ℕ)
    → is_named image (Head n p s j) c p s name ≡ bytes_eq (uppers_in image (name_of image c)) name
own_name image n p s j c name = rw (eq-eqb p p refl, eq-eqb s s refl) refl

-- whether the role is a header of the chain with the name
tells_named : (image : List ℕ) (r : Role) (c p s : ℕ) (name : List ℕ)
    → Tells (not (is_named image r c p s name)) ((m k : ℕ) → r ≡ Head m p s k → uppers_in image (name_of image c) ≢ name)
tells_named image r c p s name = grind (arith, common_steps, and_parts, eqb-true, bytes_eq-Decides, eq-eqb)

-- no header of the chain has the name
abbrev pub Fresh : List ℕ → ℕ → ℕ → List ℕ → Walk → Type 0
Fresh image p s name w = (m k c : ℕ) → Has w (Head m p s k) c → uppers_in image (name_of image c) ≢ name

tells_new : (image : List ℕ) (w : Walk) (p s : ℕ) (name : List ℕ)
    → Tells (not (has_name image w p s name)) ((m k c : ℕ) → Has w (Head m p s k) c → uppers_in image (name_of image c) ≢ name)
tells_new image [] p s name = λ m k c h. absurd h
tells_new image (x ∷ w) p s name =
    go (is_named image x.0 x.1 p s name) (has_name image w p s name) (tells_named image x.0 x.1 p s name) (tells_new image w p s name)
  where
    go : (t u : Bool) → Tells (not t) ((m k : ℕ) → x.0 ≡ Head m p s k → uppers_in image (name_of image x.1) ≢ name)
        → Tells (not u) (Fresh image p s name w) → Tells (not (t || u)) (Fresh image p s name (x ∷ w))
    go true u h k = λ f. h (λ m i e. f m i x.1 (inl (e, refl)))
    go false true h k = λ f. k (λ m i c g. f m i c (inr g))
    go false false h k = grind (arith, common_steps)

-- a chain without headers has no names
no_name : (image : List ℕ) (w : Walk) (p s : ℕ) (name : List ℕ) → ((m k c : ℕ) → Has w (Head m p s k) c → ⊥)
    → has_name image w p s name ≡ false
no_name image w p s name none = go (has_name image w p s name) (tells_new image w p s name)
  where
    go : (u : Bool) → Tells (not u) (Fresh image p s name w) → u ≡ false
    go false t = refl
    go true t = absurd (t (λ m k c h. absurd (none m k c h)))

-- the valid names that are known at a position of a chain are those of its headers
pub known_names : (image : List ℕ) (w : Walk) (n p s j : ℕ) (names : Names) → AreNamed image w (position_of (Head n p s j)) names
    → IsChain w (HeadPart n p s j) → (name : List ℕ) → is_name name ≡ true
    → known_at j (has names (uppers_in image name)) ≡ has_name image w p s (uppers_in image name)
known_names image w n p s zero names named none name valid = sym (no_name image w p s (uppers_in image name) none)
known_names image w n p s (suc j) names named (m, c, h) name valid = named name m p s j c valid refl refl h

-- the names kept with that of a header; `begun` has those before it
module _ (image : List ℕ) {part : Part} (b : ℕ) {n p s j : ℕ} (old begun : Names) (is : part ≡ HeadPart n p s j)
    (begins : (x : List ℕ) → has begun x ≡ known_at j (has old x)) where
  -- the name of the header in upper case, if it is valid
  module _ (name : List ℕ) (own : name ≡ uppers_in image (name_of image b)) where
    pub name_is_new : (w : Walk) (t : Bool) → t ≡ not (has begun name) → AreNamed image w (position_of (role_of part)) old
        → IsChain w part → HasValidName image part b → t ≡ new_in image w part b
    name_is_new w t e =
        subst (λ part. AreNamed image w (position_of (role_of part)) old → IsChain w part → HasValidName image part b → t ≡ new_in image w part b)
        (sym is)
        (λ named chain valid.
        let known = known_names image w n p s j old named chain (name_of image b) valid in
        e ∙ ap not (ap (has begun) own ∙ (begins (uppers_in image (name_of image b)) ∙ known)))

    pub kept_name : (new : Names) → HasMore begun new name → KeepsName image part b old new
    kept_name new more = grind (arith, common_steps, own)

  -- a header without one
  pub kept_none : is_name (name_of image b) ≡ false → KeepsName image part b old begun
  kept_none none = grind (arith, common_steps, other_name)

module _ (image : List ℕ) (f : Found) (s : Course) (st : Stands image f s) where
  pub new_is : (part : Part) (b : ℕ) → Tells (new_in image s.walk part b) (NewNameIn image s.walk (role_of part) b)
  new_is (HeadPart n p t j) b = tells_new image s.walk p t (uppers_in image (name_of image b))
  new_is _ b = tt

  below : (b : ℕ) → in_range image b ≡ true → b < blocks image
  below b e = grind (arith, nat_tests)

  -- what is said of a part, and whether its block has an owner, is known
  pub knows : (part : Part) (b : ℕ) (x : Facts) → IsContext image s.walk (role_of part) x.context
      → Tells x.is_enough (Enough image s.walk (role_of part)) → x.is_absent ≡ not (is_owned f b)
      → Knows image s.walk part b x
  knows part b x context enough absent =
      let owned : is_owned f b ≡ owns s.walk b = owned_is st.owners b in
      grind (arith, common_steps, below, tells_absent)

-- a block without a part is no member's
pub no_owner : (w : Walk) (b : ℕ) → IsAbsent w b → owns w b ≡ false
no_owner w b h = elim (cases_Bool (owns w b)) [
  | inl t ↦ let n : IsAbsent w b → ⊥ = subst (λ t. Tells (not t) (IsAbsent w b)) t (tells_absent w b) in absurd (n h)
  | inr f ↦ f
]
