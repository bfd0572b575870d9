-- The owners that are kept of blocks, and what they tell of a walk.
-- Letters: w a walk; r a role; o an owner; b a block; n a number of blocks.
use Rattle.std.specs.Prelude.{◌||◌, nat_lt}
use Rattle.std.specs.Option.{unwrap_or}
use Rattle.std.proofs.Common.{◌≡◌, ◌==◌, ℕ, Bool, true, false, cond, List, [], ◌∷◌, ◌<◌, ◌≤◌, ◌+◌, length, set, refl, sym, ap, ◌∙◌, arith, length-set}
use Rattle.std.proofs.{Common.get_or-set_same, Common.get_or-set_other, lemmas.Bool.le-ltb, lemmas.Bool.Decides.eqb_tells, lemmas.Grind.common_steps}
use Rattle.adf_volume.specs.declared.owner.Owner.{Owner, TheVariants.Free, TheVariants.Boot}
use Rattle.adf_volume.specs.{LayoutRoles.owner_of, Walk.Role, Walk.Walk, Parts.entry_of}
use Rattle.adf_volume.specs.Owners.{is_part, owned_count, owner_at}
use Rattle.adf_findings.specs.{WalkOwners.OwnersValue, WalkOwners.data_number_of, WalkOwners.node_after, Found.AreOwned, Found.owner_by}
use Rattle.adf_findings.specs.Members.{data_number, role_entry, number_at, owning_entry, owns}

through : {X Y : Type 0} (f : X → Y) (t : Bool) (x y : X) → f (cond t x y) ≡ cond t (f x) (f y)
through f true x y = refl
through f false x y = refl

pub both : {X : Type 0} (t : Bool) (x : X) → cond t x x ≡ x
both true x = refl
both false x = refl

-- a role tells the same of its block as its owner
entry_same : (r : Role) → entry_of (owner_of r) ≡ unwrap_or (role_entry r) 0
entry_same r = grind (arith, common_steps)

number_same : (r : Role) → data_number_of (owner_of r) ≡ data_number r
number_same r = grind (arith, common_steps)

pub part_owns : (r : Role) → is_part (owner_of r) ≡ true
part_owns r = grind (arith, common_steps)

-- the owner of a block by the walk tells its entry, its number, and whether a part has it
entry_by : (w : Walk) (b : ℕ) → entry_of (owner_by w b) ≡ unwrap_or (owning_entry w b) 0
entry_by [] b = through entry_of (nat_lt b 2) Boot Free ∙ both (nat_lt b 2) 0
entry_by (x ∷ w) b =
    through entry_of (x.1 == b) (owner_of x.0) (owner_by w b)
    ∙ (λ i. cond (x.1 == b) (entry_same x.0 i) (entry_by w b i))
    ∙ sym (through (λ o. unwrap_or o 0) (x.1 == b) (role_entry x.0) (owning_entry w b))

number_by : (w : Walk) (b : ℕ) → data_number_of (owner_by w b) ≡ number_at w b
number_by [] b = through data_number_of (nat_lt b 2) Boot Free ∙ both (nat_lt b 2) 0
number_by (x ∷ w) b =
    through data_number_of (x.1 == b) (owner_of x.0) (owner_by w b)
    ∙ (λ i. cond (x.1 == b) (number_same x.0 i) (number_by w b i))

part_by : (w : Walk) (b : ℕ) → is_part (owner_by w b) ≡ owns w b
part_by [] b = through is_part (nat_lt b 2) Boot Free ∙ both (nat_lt b 2) false
part_by (x ∷ w) b =
    through is_part (x.1 == b) (owner_of x.0) (owner_by w b)
    ∙ (λ i. cond (x.1 == b) (part_owns x.0 i) (part_by w b i))
    ∙ either (x.1 == b) (owns w b)
  where
    either : (s t : Bool) → cond s true t ≡ (s || t)
    either true t = refl
    either false t = refl

module _ {n : ℕ} {owners : OwnersValue} {w : Walk} (kept : AreOwned n owners w) (b : ℕ) where
  pub entry_is : entry_of (owner_at owners.owners b) ≡ unwrap_or (owning_entry w b) 0
  entry_is = ap entry_of (kept.owner b) ∙ entry_by w b

  pub number_is : data_number_of (owner_at owners.owners b) ≡ number_at w b
  number_is = ap data_number_of (kept.owner b) ∙ number_by w b

  pub owned_is : is_part (owner_at owners.owners b) ≡ owns w b
  owned_is = ap is_part (kept.owner b) ∙ part_by w b

  -- a block that no part owns, behind the boot blocks, is free
  pub free_is : 2 ≤ b → owns w b ≡ false → owner_at owners.owners b ≡ Free
  free_is lo none = kept.owner b ∙ free w none
    where
      free : (w : Walk) → owns w b ≡ false → owner_by w b ≡ Free
      free [] e = ap (λ t. cond t Boot Free) (le-ltb b 2 lo)
      free (x ∷ w) e = go (x.1 == b) e (free w)
        where
          go : (t : Bool) → (t || owns w b) ≡ false → (owns w b ≡ false → owner_by w b ≡ Free) → cond t (owner_of x.0) (owner_by w b) ≡ Free
          go true e h = cc
          go false e h = h e

-- a part owns a block more
pub owned_more : (n : ℕ) (f g : OwnersValue) (w : Walk) (r : Role) (b : ℕ) → b < n → g.owners ≡ set f.owners b (owner_of r)
    → g.node ≡ node_after (owner_of r) f.node → AreOwned n f w → AreOwned n g ((r, b) ∷ w)
owned_more n f g w r b lt owners node h = grind (arith, common_steps, length-set, set, eqb_tells, get_or-set_same, get_or-set_other)

pub count_more : (t : List Owner) (b : ℕ) (o : Owner) → b < length t → is_part o ≡ true → owner_at t b ≡ Free
    → owned_count (set t b o) ≡ owned_count t + 1
count_more t b o hi part free = grind (arith, common_steps)
