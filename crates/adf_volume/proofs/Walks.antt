-- Facts of walks: as lists of parts asked for, and because each part has no cause.
use Rattle.std.proofs.Common.{◌≡◌, ℕ, List, inl, inr, ◌+◌, ◌-◌, ◌*◌, ◌/◌, ◌%◌, ◌<◌, ◌≤◌, refl, sym, subst, ◌∙◌, arith}
use Rattle.std.proofs.lemmas.Grind.{common_steps}
use native.Mathlib.Decide.{dec_lt}
use Rattle.adf_base.specs.declared.hash.Letters.{Letters}
use Rattle.adf_blocks.specs.declared.layout.TheConstants.{FIRST_PAGE, MAP_EXT_PAGES, ROOT_PAGES}
use Rattle.adf_blocks.specs.Sizes.{blocks, pages_needed}
use Rattle.adf_volume.specs.{Image.root_of, Walk.Role.Page, Walk.Role.MapExt, Walk.Role.Head, Walk.Role.Ext, Walk.IsWalkBy.start, Walk.IsWalkBy.step}
use Rattle.adf_volume.specs.Walk.{Role, second, Has, heads, HeadAt, FileAt, Asks, IsDue, IsWalkBy, IsWhole, Before, node_block, Walk}
use Rattle.adf_volume.proofs.{Roles.dec_has, Roles.has_low, Roles.head_key, PartDemands.part_holds_by}
use Rattle.adf_volume.proofs.Gathered as gathered
use Rattle.adf_volume.proofs.Gathered.{IsGathered, IsGathered.start as gathered_start, IsGathered.step as gathered_step}

module _ {letters : Letters} (image : List ℕ) where
  -- a walk was gathered
  pub of_walk : {w : Walk} → IsWalkBy letters image w → IsGathered image w
  of_walk start = gathered_start
  of_walk (step {b = b} {a = a} {i = i} v d e n) = gathered_step a i b (of_walk v) d.asked d.lacks

  -- a block has one role
  pub one_role : {w : Walk} → IsWalkBy letters image w → (r q : Role) (b : ℕ) → Has w r b → Has w q b → r ≡ q
  one_role start r q b (inl e) (inl f) = sym e.0 ∙ f.0
  one_role start r q b (inl e) (inr f) = absurd f
  one_role start r q b (inr e) f = absurd e
  one_role (step v d g n) r q b (inl e) (inl f) = sym e.0 ∙ f.0
  one_role (step {w = w} {r = z} {b = c} {a = a} v d g n) r q b (inl e) (inr f) = grind (arith, common_steps, part_holds_by letters)
  one_role (step {w = w} {r = z} {b = c} {a = a} v d g n) r q b (inr e) (inl f) = grind (arith, common_steps, part_holds_by letters)
  one_role (step v d g n) r q b (inr e) (inr f) = one_role v r q b e f

  pub number_of : {w : Walk} {n b : ℕ} → IsWalkBy letters image w → HeadAt w n b → (1 ≤ n) × (n ≤ heads w)
  number_of v = gathered.number_of image (of_walk v)

  pub numbered : {w : Walk} → IsWalkBy letters image w → (n : ℕ) → 1 ≤ n → n ≤ heads w → (b : ℕ) × HeadAt w n b
  numbered v = gathered.numbered image (of_walk v)

  pub ext_file : {w : Walk} → IsWalkBy letters image w → (n k b : ℕ) → Has w (Ext n k) b → (h : ℕ) × FileAt image w n h
  ext_file v = gathered.ext_file image (of_walk v)

  pub file_is : (w : Walk) (n a : ℕ) → IsWalkBy letters image w → FileAt image w n a → node_block w n ≡ a
  file_is w n a v h = gathered.head_block image (of_walk v) h.header

-- what is asked for and comes before what is due is there
pub is_there : (image : List ℕ) (w : Walk) (q r : Role) (a i c k : ℕ) → IsDue image w r a i → Asks image w q c k → Before q r
    → second q < 2 → (b : ℕ) × Has w q b
is_there image w q r a i c k d ask bef low = grind (arith, common_steps, has_low w q low)

-- what a whole walk asks for is there
pub asked_block : (image : List ℕ) (w : Walk) → IsWhole image w → (r : Role) (a i : ℕ) → Asks image w r a i → second r < 2
    → (b : ℕ) × Has w r b
asked_block image w whole r a i ask low = grind (arith, common_steps, has_low w r low)

pub asked_header : (image : List ℕ) (w : Walk) → IsWhole image w → (n p s j a i : ℕ) → Asks image w (Head n p s j) a i
    → (m b : ℕ) × Has w (Head m p s j) b
asked_header image w whole n p s j a i ask =
    elim (dec_has w (Head n p s j)) [
      | inr y ↦ let z = head_key n p s j y.role y.same in (z.0, y.block, subst (λ r. Has w r y.block) z.1 y.has)
      | inl y ↦ absurd (whole (Head n p s j) a i ask y)
    ]

-- a page is asked for where the extension blocks up to it are there
pub page_word : (image : List ℕ) (w : Walk) (k : ℕ) → k < pages_needed (blocks image)
    → ((j : ℕ) → ROOT_PAGES + MAP_EXT_PAGES * j ≤ k → (a : ℕ) × Has w (MapExt j) a)
    → (a i : ℕ) × Asks image w (Page k) a i
page_word image w k lt have =
    elim (dec_lt k ROOT_PAGES) [
      | yes l ↦ (root_of image, FIRST_PAGE + k, (lt, inl (l, refl, refl)))
      | no l ↦
          let m = have ((k - ROOT_PAGES) / MAP_EXT_PAGES) (omega arith) in
          (m.0, (k - ROOT_PAGES) % MAP_EXT_PAGES, (lt, inr ((k - ROOT_PAGES) / MAP_EXT_PAGES, m.1, omega arith, omega arith)))
    ]
