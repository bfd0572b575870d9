-- The pages of the bitmap that a survey finds.
-- Letters: r a role; w the walk of a survey, fs its findings; i the number of a page; b, at blocks; a, j the block and the word that point to one.
use Rattle.std.specs.Prelude.{Some}
use Rattle.std.proofs.Common.{◌≡◌, ℕ, List, ◌<◌, inl, inr, arith}
use Rattle.std.proofs.lemmas.Grind.{common_steps}
use Rattle.adf_blocks.specs.Sizes.{blocks, pages_needed}
use Rattle.adf_volume.specs.Walk.{Has, Role, Walk, Role.Page}
use Rattle.adf_volume.proofs.Gathered.{IsGathered, IsGathered.start, IsGathered.step}
use Rattle.adf_findings.specs.{Members.at_role, Survey.FindingValue, Survey.IsSurvey, Survey.IsSurvey.read, Survey.IsSurvey.unread}
use Rattle.adf_findings.proofs.{RoleBlocks.taken_at, OneSurvey.gathered}

gathered_low : (image : List ℕ) {w : Walk} → IsGathered image w → (i b : ℕ) → Has w (Page i) b → i < pages_needed (blocks image)
gathered_low image start i b (inl e) = cc
gathered_low image start i b (inr f) = absurd f
gathered_low image (step {w = w} {r = r} a j c v d l) i b (inl e) = grind (arith, common_steps)
gathered_low image (step a j c v d l) i b (inr h) = gathered_low image v i b h

-- its number is one of those that the image needs
pub page_low : (image : List ℕ) (w : Walk) (fs : List FindingValue) → IsSurvey image w fs → (i b : ℕ) → Has w (Page i) b
    → i < pages_needed (blocks image)
page_low image w fs (unread f) i b h = absurd h
page_low image w fs (read v d t) i b h = gathered_low image (gathered image v) i b h

-- the block of a part is the one at its role
pub found_at : (image : List ℕ) (w : Walk) (fs : List FindingValue) → IsSurvey image w fs → (r : Role) (b : ℕ) → Has w r b → at_role w r ≡ Some b
found_at image w fs (unread f) r b h = absurd h
found_at image w fs (read v d t) r b h = taken_at image w (gathered image v) r b h
