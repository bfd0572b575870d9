-- What is told of a checked volume is told of every tree and layout that fit its image.
use Rattle.std.proofs.Common.{◌≡◌, ◌≤◌, ◌<◌, ℕ, List, Option, Some, ◌∙◌, ap, arith, inl, refl, subst, sym}
use Rattle.adf_base.specs.declared.hash.Letters.{Letters}
use Rattle.adf_tree.specs.Tree.{Tree}
use Rattle.adf_blocks.specs.Sizes.{blocks}
use Rattle.adf_volume.specs.{declared.counts.Counts.Counts, declared.owner.Owner.Owner, declared.types.Types.Types}
use Rattle.adf_volume.specs.{Counts.counts_of, Fits.FitsBy, Fits.FitsOf, Layout.Layout, Layout.owned, Lists.In}
use Rattle.adf_volume.specs.OwnerClass.{class_number, class_of}
use Rattle.adf_volume.specs.declared.owner_class.OwnerClass.{OwnerClass, TheVariants.Free, TheVariants.Boot}
use Rattle.adf_check.specs.Volumes.{OnVolume}
use Rattle.adf_memory.specs.{CheckCalls.IsCheckedOf, OwnerNumbers.IsOwnerNumber, Verdicts.WantsMemory}

-- a check that accepts its image answers 0
pub acceptance_told : {types : Types} (v image : List ℕ) (b : ℕ) → v ≡ image → (t : Tree) × (l : Layout) × FitsOf types v t l → IsCheckedOf types image b 0
acceptance_told {types} v image b is (t, l, fits) =
    let nothing : (X : Type 0) → WantsMemory 0 → X = λ X e. absurd (omega (arith, e)) in
    record {
      number = inl refl;
      fits = λ zero. (t, l, subst (λ (i : List ℕ). FitsOf types i t l) is fits);
      first = λ some. absurd (some refl);
      none = λ some. absurd (some refl);
      memory = nothing _;
      begun = nothing _;
    }

-- the counts that are told of it are those of whatever fits its image
pub counts_stand : {ls : Letters} (v image : List ℕ) (n : Counts) → v ≡ image → OnVolume v (λ t l. n ≡ counts_of v t l)
    → (t : Tree) (l : Layout) → FitsBy ls image t l → n ≡ counts_of image t l
counts_stand {ls} v image n is exact t l fits =
    subst (λ (i : List ℕ). n ≡ counts_of i t l) is (exact ls t l (subst (λ (i : List ℕ). FitsBy ls i t l) (sym is) fits))

-- a class that is told is one
some_same : (got : Option OwnerClass) (q o : OwnerClass) → got ≡ Some q → got ≡ Some o → q ≡ o
some_same got q o a b = cc

-- the number of the role that is told of a block is that of its role
pub role_told : (image : List ℕ) (b r : ℕ) (got : Option OwnerClass) (q : OwnerClass) → got ≡ Some q → r ≡ class_number q
    → OnVolume image (λ _ l. (o : Owner) → In (owned image l) (o, b) → got ≡ Some (class_of o)) → (b < 2 → got ≡ Some Boot)
    → OnVolume image (λ _ l. 2 ≤ b → b < blocks image → ((o : Owner) → In (owned image l) (o, b) → ⊥) → got ≡ Some Free)
    → b < blocks image → IsOwnerNumber image b r
role_told image b r got q is number part boot free inside =
    let told : (o : OwnerClass) → got ≡ Some o → r ≡ class_number o = λ o e. number ∙ ap class_number (some_same got q o is e) in
    record {
      part = λ letters t l o fits has. told (class_of o) (part letters t l fits o has);
      boot = λ low. told Boot (boot low);
      free = λ letters t l fits from none. told Free (free letters t l fits from inside none);
    }
