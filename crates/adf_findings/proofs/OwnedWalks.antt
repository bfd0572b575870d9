-- As many blocks have parts as their owners as the walk of a course has members.
-- Letters: w a walk; r a role; b its block; o, p owners of blocks.
use Rattle.std.proofs.Common.{◌≡◌, ℕ, List, [], ◌∷◌, ◌-◌, ◌<◌, ◌≤◌, length, set, replicate, refl, arith}
use Rattle.std.proofs.{lemmas.List.Sums.count_by-le-length, lemmas.Grind.common_steps}
use Rattle.adf_blocks.specs.Sizes.{blocks}
use Rattle.adf_volume.specs.declared.owner.Owner.TheVariants.{Boot, Free}
use Rattle.adf_volume.specs.{Image.root_of, Image.word_in, LayoutRoles.owner_of, Walk.Has, Walk.Role, Walk.Walk, Walk.Role.Root}
use Rattle.adf_volume.proofs.{PartDemands.part_holds_by, Sizes.size_low}
use Rattle.adf_volume.specs.Owners.{owned_count}
use Rattle.adf_findings.specs.{WalkOwners.OwnersValue, WalkOwners.node_after, Found.AreOwned}
use Rattle.adf_findings.specs.Survey.{Course, IsCourse, IsCourse.start, IsCourse.step, JudgementValue.clean, JudgementValue.reported, JudgementValue.skipped}
use Rattle.adf_findings.proofs.{Begun.new_count, Begun.new_owned, JudgementTests.itself_holds, Known.no_owner, Starts.course_size}
use Rattle.adf_findings.proofs.WalkOwners.{count_more, free_is, owned_more, part_owns}

-- the owners of the blocks of a walk: so many are parts as it has members
record Owned (image : List ℕ) (w : Walk) : Type 0 where
  owners : OwnersValue
  owned : AreOwned (blocks image) owners w
  many : owned_count owners.owners ≡ length w

more_owned : (image : List ℕ) (w : Walk) (r : Role) (b : ℕ) → 2 ≤ b → b < blocks image → ((q : Role) → Has w q b → ⊥) → Owned image w
    → Owned image ((r, b) ∷ w)
more_owned image w r b lo lt free o =
    let next : OwnersValue = record { owners = set o.owners.owners b (owner_of r); node = node_after (owner_of r) o.owners.node } in
    let inside : b < length o.owners.owners = (let e = o.owned.size in omega arith) in
    let more = count_more o.owners.owners b (owner_of r) inside (part_owns r) (free_is o.owned b lo (no_owner w b free)) in
    record {
      owners = next;
      owned = owned_more (blocks image) o.owners next w r b lt refl refl o.owned;
      many = (let e = o.many in omega arith);
    }

walk_owned : (image : List ℕ) {s : Course} → IsCourse image s → Owned image s.walk
walk_owned image (start boot root) =
    let low = size_low (blocks image) (course_size image (start boot root)).1 in
    let none : OwnersValue = record { owners = Boot ∷ Boot ∷ replicate (blocks image - 2) Free; node = 0 } in
    let lo : 2 ≤ blocks image = omega (arith, low) in
    let begun : Owned image [] = record { owners = none; owned = new_owned (blocks image) lo none refl refl; many = new_count (blocks image) lo none refl } in
    more_owned image [] Root (root_of image) (omega (arith, low)) (omega (arith, low)) (λ q h. h) begun
walk_owned image (step {s = s} {r = z} {a = a} {i = i} clean v d g) = grind (arith, common_steps, part_holds_by, more_owned, walk_owned image v)
walk_owned image (step {s = s} {r = z} {a = a} {i = i} (reported at c) v d g) =
    grind (arith, common_steps, more_owned, itself_holds image s.walk z a (word_in image a i) g.1, walk_owned image v)
walk_owned image (step (skipped at c) v d g) = walk_owned image v

-- a course has no more parts than the image has blocks
pub few_parts : (image : List ℕ) {s : Course} → IsCourse image s → length s.walk ≤ blocks image
few_parts image v = grind (arith, common_steps, walk_owned, count_by-le-length)
