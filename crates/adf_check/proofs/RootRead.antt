-- The state of a check after the root.
use Rattle.std.proofs.Common.{◌≡◌, ℕ, zero, suc, List, [], ◌∷◌, ◌+◌, ◌-◌, ◌<◌, ◌≤◌, length, set, refl, sym, ap, subst, ◌∙◌, arith, replicate}
use Rattle.std.proofs.{lemmas.Grind.common_steps, lemmas.List.length-replicate}
use Rattle.adf_blocks.specs.Sizes.{blocks}
use Rattle.adf_volume.specs.{Image.root_of, Walk.IsWalkBy.start, Start.IsOwnBegun}
use Rattle.adf_volume.specs.Walk.Role.{Root as TheRoot}
use Rattle.adf_volume.proofs.PositionSteps.{with_root}
use Rattle.adf_volume.specs.{declared.kept_owner.KeptOwner.KeptOwner, declared.owner_class.OwnerClass.TheVariants.Root}
use Rattle.adf_volume.specs.KeptOwner.{boot_owner, claimed_count, kept_at, no_owner}
use Rattle.adf_check.specs.{Reading.IsBeforePage, Store.StoreValue, Store.StoreMatches}
use Rattle.adf_check.proofs.{StoreSteps.tells_more, NumberBounds.many_blocks}

-- what is kept of the root
abbrev root_owner : KeptOwner
root_owner = record { class = Root; place = 0 }

-- the owners of 2 + m blocks of which nothing is claimed
abbrev pub new_owners : ℕ → List KeptOwner
new_owners m = boot_owner ∷ boot_owner ∷ replicate m no_owner

-- and of which the root alone is
abbrev pub owners_of : ℕ → ℕ → List KeptOwner
owners_of m root = set (new_owners m) root root_owner

-- what is kept when the root alone was read
abbrev pub first_store : List KeptOwner → StoreValue
first_store owners = record { owners = owners; headers = []; dirs = 0; starts = []; exts = []; datas = []; used = 1 }

new_length : (m : ℕ) → length (new_owners m) ≡ 2 + m
new_length m = let z : length {A = KeptOwner} (replicate m no_owner) ≡ m = length-replicate m no_owner in omega arith

new_boot : (m b : ℕ) → b < 2 → kept_at (new_owners m) b ≡ boot_owner
new_boot m b h = grind (arith, common_steps)

new_free : (m b : ℕ) → 2 ≤ b → b < 2 + m → kept_at (new_owners m) b ≡ no_owner
new_free m b l h = grind (arith, common_steps)

-- nothing is read and nothing is claimed
new_tells : (image : List ℕ) (m : ℕ) → blocks image ≡ 2 + m
    → StoreMatches image (record { owners = new_owners m; headers = []; dirs = 0; starts = []; exts = []; datas = []; used = 0 }) []
new_tells image m size = grind (arith, common_steps, new_length, new_boot, new_free)

-- the root alone is claimed
pub root_read : (image : List ℕ) (m root : ℕ) → IsOwnBegun image → blocks image ≡ 2 + m → root_of image ≡ root → 2 ≤ root → root < 2 + m
    → IsBeforePage image (first_store (owners_of m root)) 0 (root_of image)
root_read image m root begun size root_is low high = record {
  walk = (TheRoot, root_of image) ∷ [];
  read = record {
    begun = begun;
    tells = subst (λ b. StoreMatches image (first_store (owners_of m root)) ((TheRoot, b) ∷ [])) (sym root_is)
        (tells_more image _ [] TheRoot root (λ n p s j e. cc) (omega arith) (new_tells image m size) low (omega arith) (new_free m root low high));
    started = refl;
    within = omega arith;
    is_walk = start;
    up_to = with_root image;
  };
  holder = record { root = (λ _. refl); ext = (λ l. absurd (omega arith)) };
}

none_owned : (m : ℕ) → claimed_count (replicate m no_owner) ≡ 0
none_owned zero = refl
none_owned (suc m) = none_owned m

pub begun_with_root : (image : List ℕ) (n : ℕ) (owners new : List KeptOwner) → IsOwnBegun image → n ≡ blocks image → owners ≡ new_owners (n - 2)
    → new ≡ set owners (root_of image) root_owner → claimed_count new ≡ claimed_count owners + 1
    → IsBeforePage image (record { owners = new; headers = []; dirs = 0; starts = []; exts = []; datas = []; used = claimed_count new }) 0
    (root_of image)
begun_with_root image n owners new begun size e f count =
    let many : 4 ≤ blocks image = many_blocks image begun in
    let claimed : new ≡ owners_of (n - 2) (root_of image) = f ∙ ap (λ os. set os (root_of image) root_owner) e in
    let one : claimed_count new ≡ 1 = count ∙ ap (λ os. claimed_count os + 1) e ∙ ap (λ m. m + 1) (none_owned (n - 2)) in
    let kept : first_store (owners_of (n - 2) (root_of image))
    ≡ record { owners = new; headers = []; dirs = 0; starts = []; exts = []; datas = []; used = claimed_count new } =
    λ i. record { owners = (sym claimed) i; headers = []; dirs = 0; starts = []; exts = []; datas = []; used = (sym one) i } in
    subst (λ s. IsBeforePage image s 0 (root_of image)) kept (root_read image (n - 2) (root_of image) begun (omega arith) refl (omega arith) (omega arith))

pub root_is_free : (image : List ℕ) (n : ℕ) (owners : List KeptOwner) → IsOwnBegun image → n ≡ blocks image → owners ≡ new_owners (n - 2)
    → kept_at owners (root_of image) ≡ no_owner
root_is_free image n owners begun size e = grind (arith, common_steps, many_blocks, new_free)
