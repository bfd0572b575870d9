-- The start of an image: its size, its boot bytes and its root.
-- Letters: at, c the block and the cause of a finding.
use Rattle.std.proofs.Common.{None, Some, true, false, ◌≡◌, ℕ, List, [], ◌∷◌, ◌++◌, refl, ap, subst, ◌∙◌, arith}
use Rattle.std.proofs.lemmas.Grind.{common_steps}
use Rattle.adf_base.specs.Words.{block}
use Rattle.adf_blocks.specs.{declared.cause.Cause.Cause, Forms.first_cause, RootBlock.root_form}
use Rattle.adf_volume.specs.{Demands.FirstFails, Demands.IsSize, Demands.boot_demands, Demands.root_demands, Image.root_of, Walk.Role.Root}
use Rattle.adf_volume.proofs.{Lists.fails_not_all, FormDemands.all_demanded, FormDemands.first_demanded, OneFault.fails_one}
use Rattle.adf_findings.specs.{Start.has_root_type, Survey.JudgementValue.skipped, Survey.IsCourse.start, Survey.IsCourse.step, Survey.BootTells.clean_boot}
use Rattle.adf_findings.specs.{Survey.BootTells.other_type, Survey.UnreadTells.bad_boot, Survey.UnreadTells.bad_root}
use Rattle.adf_findings.specs.Survey.{BootTells, Course, FindingValue, IsCourse, IsItself, RootJudged, RootTells, UnreadTells, finding, is_other_type}
use Rattle.adf_findings.specs.Survey.RootTells.{clean_root, reported_root}

module _ (image : List ℕ) where
  -- a boot block of type 0 to 5 is that of an image of allowed size
  pub boot_size : {fs : List FindingValue} → BootTells image fs → IsSize image
  boot_size h = grind (arith, common_steps)

  -- a course begins behind a boot block of type 0 to 5
  pub boot_told : {s : Course} → IsCourse image s → (fs : List FindingValue) × BootTells image fs
  boot_told (start {boot = fs} b t) = (fs, b)
  boot_told (step j v n h) = boot_told v

  -- a course begins with a root that is taken
  pub root_told : {s : Course} → IsCourse image s → (fs : List FindingValue) × RootTells image fs
  root_told (start {root = fs} b t) = (fs, t)
  root_told (step j v n h) = root_told v

  -- an image that is gone through has the size of a volume
  pub course_size : {s : Course} → IsCourse image s → IsSize image
  course_size v = boot_size (boot_told v).1

  -- a boot block of type 0 to 5 has no other cause
  not_bad : {fs : List FindingValue} (at : ℕ) (c : Cause) → BootTells image fs → FirstFails (boot_demands image) at c → is_other_type c ≡ false → ⊥
  not_bad at c (clean_boot h) f e = fails_not_all (boot_demands image) at c f h
  not_bad at c (other_type {at = a} {c = d} g k) f e = grind (arith, common_steps, fails_one)

  -- a root that is taken is not skipped
  not_skipped : {fs : List FindingValue} (at : ℕ) (c : Cause) → RootTells image fs → RootJudged image (skipped at c) → ⊥
  not_skipped at c (clean_root h) g = fails_not_all (root_demands image (root_of image)) at c g.0 h
  not_skipped at c (reported_root h) g = g.1 h.1

  -- an image of which nothing is taken has no course
  pub not_unread : {fs boot root : List FindingValue} → BootTells image boot → RootTells image root → UnreadTells image fs → ⊥
  not_unread b t (bad_boot {at = at} {c = c} f e) = not_bad at c b f e
  not_unread b t (bad_root {at = at} {c = c} other h) = not_skipped at c t h

  -- the boot block has one cause or none
  pub boot_one : {fs gs : List FindingValue} → BootTells image fs → BootTells image gs → fs ≡ gs
  boot_one (clean_boot h) (clean_boot g) = refl
  boot_one (clean_boot h) (other_type {at = at} {c = c} g k) = absurd (fails_not_all (boot_demands image) at c g h)
  boot_one (other_type {at = at} {c = c} h e) (clean_boot g) = absurd (fails_not_all (boot_demands image) at c h g)
  boot_one (other_type {at = a} {c = c} h e) (other_type {at = b} {c = d} g k) = grind (arith, common_steps, fails_one)

  -- the root has one cause or none
  pub root_one : {fs gs : List FindingValue} → RootTells image fs → RootTells image gs → fs ≡ gs
  root_one (clean_root h) (clean_root g) = refl
  root_one (clean_root h) (reported_root {at = at} {c = c} g) = absurd (fails_not_all (root_demands image (root_of image)) at c g.0 h)
  root_one (reported_root {at = at} {c = c} h) (clean_root g) = absurd (fails_not_all (root_demands image (root_of image)) at c h.0 g)
  root_one (reported_root {at = a} {c = c} h) (reported_root {at = b} {c = d} g) = grind (arith, common_steps, fails_one)

  -- of an image of which nothing is taken one thing is told
  pub unread_one : {fs gs : List FindingValue} → UnreadTells image fs → UnreadTells image gs → fs ≡ gs
  unread_one (bad_boot {at = a} {c = c} f e) (bad_boot {at = b} {c = d} g k) = grind (arith, common_steps, fails_one)
  unread_one (bad_boot {at = a} {c = c} f e) (bad_root b g) = absurd (not_bad a c b f e)
  unread_one (bad_root b f) (bad_boot {at = a} {c = c} g k) = absurd (not_bad a c b g k)
  unread_one (bad_root {at = a} {c = c} b f) (bad_root {at = u} {c = d} t g) =
      let z = fails_one (root_demands image (root_of image)) a c u d f.0 g.0 in
      let y = boot_one b t in λ t. y t ++ finding None (z.0 t) (z.1 t) ∷ []

-- with its types the root says that it is the root
pub is_itself : (image : List ℕ) → has_root_type (block image (root_of image)) ≡ true → IsItself Root (root_demands image (root_of image))
is_itself image t = ((λ e. cc), ((λ e. t), ((λ e. cc), ((λ e. cc), ((λ e. cc), tt)))))

-- the root as it is read: b, in block at
module _ (image : List ℕ) (at : ℕ) (b : List ℕ) (is_at : at ≡ root_of image) (is_b : b ≡ block image at) where
  is_root : b ≡ block image (root_of image)
  is_root = is_b ∙ ap (block image) is_at

  -- where no test fails, it has no finding
  pub root_clean : first_cause (root_form b) ≡ None → RootTells image []
  root_clean h =
      clean_root (all_demanded (root_of image) (root_form (block image (root_of image))) (subst (λ b. first_cause (root_form b) ≡ None) is_root h))

  root_fails : (c : Cause) → first_cause (root_form b) ≡ Some c → FirstFails (root_demands image (root_of image)) at c
  root_fails c h = grind (arith, common_steps, first_demanded, is_root)

  -- otherwise it is taken with its cause if it has the types of a root
  pub root_reported : (c : Cause) → first_cause (root_form b) ≡ Some c → has_root_type b ≡ true → RootTells image (finding (Some Root) at c ∷ [])
  root_reported c h t = reported_root (root_fails c h, is_itself image (subst (λ b. has_root_type b ≡ true) is_root t))
