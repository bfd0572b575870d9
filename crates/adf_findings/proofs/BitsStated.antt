-- What the bitmap tells of a block, by the pages that are kept.
-- Letters: w the walk of a survey, fs its findings; b a block; at the block of its page; t the bit.
use Rattle.std.proofs.Common.{Bool, Option, None, Some, IfSome, IsSome, IsTrue, ◌↔◌, ◌≡◌, ℕ, List, ◌-◌, ◌/◌, ◌%◌, ◌≤◌, refl, sym, subst, ◌∙◌, arith}
use Rattle.std.specs.{BTreeMap.BTreeMap, BTreeMap.get, Ordering.nat_cmp}
use Rattle.std.proofs.lemmas.Grind.{common_steps}
use Rattle.adf_blocks.specs.declared.layout.TheConstants.{PAGE_BITS}
use Rattle.adf_volume.specs.{Image.IsFreeAt, Walk.Has, Walk.IsFreeIn, Walk.Walk, Walk.Role.Page}
use Rattle.adf_volume.proofs.{Gathered.one_block, Roles.same_refl}
use Rattle.adf_findings.specs.{Found.IsBitOf, Members.at_role, SurveyResult.IsBitStated}
use Rattle.adf_findings.specs.Survey.{FindingValue, IsSurvey, IsValidated, IsSurvey.read, IsSurvey.unread}
use Rattle.adf_findings.proofs.{BitSteps.has_page, RoleBlocks.lacks_at, OneSurvey.gathered}

-- the walk of a survey has one block at most for a page
pub one_page : (image : List ℕ) (w : Walk) (fs : List FindingValue) → IsSurvey image w fs → (i at b : ℕ) → Has w (Page i) at
    → Has w (Page i) b → b ≡ at
one_page image w fs (unread f) i at b h g = absurd h
one_page image w fs (read v d t) i at b h g = (one_block image (gathered image v) (Page i) (Page i) b at g h (same_refl (Page i))).1

-- the bit of a page that is kept tells of its block
pub bit_stated : (image : List ℕ) (w : Walk) (fs : List FindingValue) → IsSurvey image w fs → (pages : BTreeMap ℕ ℕ)
    → ((i : ℕ) → get nat_cmp pages i ≡ at_role w (Page i)) → (b : ℕ) → 2 ≤ b → IsValidated image → (t : Option Bool)
    → IsBitOf image pages ((b - 2) / PAGE_BITS) ((b - 2) % PAGE_BITS) t
    → (IsSome t ↔ IsBitStated image w b) × IfSome t (λ t. IsTrue t ↔ IsFreeIn image w b)
bit_stated image w fs h pages same b lo valid None none = grind (arith, common_steps, lacks_at, same_refl)
bit_stated image w fs h pages same b lo valid (Some t) (at, some, free) =
    let page : ℕ = (b - 2) / PAGE_BITS in
    let has : Has w (Page page) at = has_page w page at (sym (same page) ∙ some) in (
      ((λ s. (lo, valid, (at, has))), (λ y. refl)),
      (
        (λ e. (at, has, free.0 e)),
        (λ y. free.1 (subst (λ a. IsFreeAt image a ((b - 2) % PAGE_BITS)) (one_page image w fs h page at y.0 has y.1) y.2)),
      ),
    )
