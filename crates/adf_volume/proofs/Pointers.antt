-- The words that point to the next header of a chain, extension block of a file or page of the bitmap.
-- Letters as in specs/Positions; v says that the walk's parts were asked for; m the number of a block of a file's table.
use Rattle.std.proofs.Common.{◌≡◌, ◌≢◌, ℕ, zero, suc, List, inl, inr, ◌+◌, ◌-◌, ◌/◌, ◌%◌, ◌<◌, ◌≤◌, refl, sym, ap, ◌∙◌, arith}
use Rattle.std.proofs.{lemmas.Bool.Decides.nat_tests, lemmas.Grind.common_steps}
use Rattle.adf_blocks.specs.declared.layout.TheConstants.{EXTENSION, MAP_EXT_PAGES, ROOT_PAGES, SLOTS}
use Rattle.adf_blocks.specs.Sizes.{blocks, pages_needed}
use Rattle.adf_volume.specs.Image.{word_in}
use Rattle.adf_volume.specs.Walk.{Has, MemberAt, NamesPage, Asks, heads, Walk, Role.Page, Role.MapExt, Role.Head, Role.Ext}
use Rattle.adf_volume.specs.Positions.{IsLink, IsPageHolder, before_page, behind, in_map, position_of, word_of_map_ext, word_of_page}
use Rattle.adf_volume.proofs.Gathered.{IsGathered, dir_one, member_one, one_block}

module _ (image : List ℕ) (w : Walk) where
  -- a header that a word names is asked for
  pub link_asks : (p s j a i : ℕ) → s < SLOTS → IsLink image w p s j a i → word_in image a i ≢ 0 → Asks image w (Head (suc (heads w)) p s j) a i
  link_asks p s zero a i lt h ne = (refl, lt, h.0, h.1, ne)
  link_asks p s (suc j) a i lt h ne = (refl, h.0, h.1, ne)

  asked_link : (n p s j a i : ℕ) → Asks image w (Head n p s j) a i → IsLink image w p s j a i × (word_in image a i ≢ 0)
  asked_link n p s zero a i h = ((h.2, h.3), h.4)
  asked_link n p s (suc j) a i h = ((h.1, h.2), h.3)

  link_one : IsGathered image w → (p s j a i c k : ℕ) → IsLink image w p s j a i → IsLink image w p s j c k → (a ≡ c) × (i ≡ k)
  link_one v p s zero a i c k x y = (dir_one image v p a c x.0 y.0, x.1 ∙ sym y.1)
  link_one v p s (suc j) a i c k x y = grind (arith, common_steps, one_block)

  -- where its word is 0 a chain ends
  pub link_ends : IsGathered image w → (p s j a i : ℕ) → IsLink image w p s j a i → word_in image a i ≡ 0 → (n c k : ℕ)
      → Asks image w (Head n p s j) c k → ⊥
  link_ends v p s j a i link none n c k h = grind (arith, common_steps, asked_link, link_one)

  -- an extension block that a word names is asked for
  pub ext_asks : (n m a : ℕ) → MemberAt image w n m a → word_in image a EXTENSION ≢ 0 → Asks image w (Ext n (suc m)) a EXTENSION
  ext_asks n zero a h ne = (h, refl, ne)
  ext_asks n (suc m) a h ne = (h, refl, ne)

  asked_member : (n m a i : ℕ) → Asks image w (Ext n (suc m)) a i → MemberAt image w n m a × (i ≡ EXTENSION) × (word_in image a i ≢ 0)
  asked_member n zero a i h = h
  asked_member n (suc m) a i h = h

  -- where its word is 0 the extension blocks end
  pub ext_ends : IsGathered image w → (n m a : ℕ) → MemberAt image w n m a → word_in image a EXTENSION ≡ 0 → (c i : ℕ)
      → Asks image w (Ext n (suc m)) c i → ⊥
  ext_ends v n m a member none c i h = grind (arith, common_steps, asked_member, member_one)

  -- where no bitmap extension block comes before page k
  pub names_page : (k a : ℕ) → IsPageHolder image w k a → (ROOT_PAGES ≤ k → (k - ROOT_PAGES) % MAP_EXT_PAGES ≡ 0 → ⊥)
      → NamesPage image w k a (word_of_page k)
  names_page k a h other = grind (arith, common_steps, nat_tests)

  -- a page that a bitmap extension block begins with
  pub names_first : (k a : ℕ) → ROOT_PAGES ≤ k → (k - ROOT_PAGES) % MAP_EXT_PAGES ≡ 0 → Has w (MapExt ((k - ROOT_PAGES) / MAP_EXT_PAGES)) a
      → NamesPage image w k a (word_of_page k)
  names_first k a le due h = grind (arith, common_steps, nat_tests)

  -- the bitmap extension block that page k begins is asked for
  pub map_ext_asks : (k a : ℕ) → k < pages_needed (blocks image) → ROOT_PAGES ≤ k → (k - ROOT_PAGES) % MAP_EXT_PAGES ≡ 0 → IsPageHolder image w k a
      → Asks image w (MapExt ((k - ROOT_PAGES) / MAP_EXT_PAGES)) a (word_of_map_ext k)
  map_ext_asks k a lt le due h = grind (arith, common_steps, nat_tests)

  -- what names a page is behind that page as well
  pub next_holder : (k a i : ℕ) → NamesPage image w k a i → IsPageHolder image w (k + 1) a
  next_holder k a i (inl x) = record { root = (λ l. x.1); ext = (λ l. absurd (let y : k < ROOT_PAGES = x.0 in omega arith)) }
  next_holder k a i (inr (j, has, lt, e)) = grind (arith, common_steps)

-- the position before a page is its own, or that of the bitmap extension block that it begins
pub page_next : (k : ℕ) → (ROOT_PAGES ≤ k → (k - ROOT_PAGES) % MAP_EXT_PAGES ≡ 0 → ⊥) → before_page k ≡ position_of (Page k)
page_next k other = grind (arith, common_steps)

pub map_ext_next : (k : ℕ) → ROOT_PAGES ≤ k → (k - ROOT_PAGES) % MAP_EXT_PAGES ≡ 0
    → before_page k ≡ position_of (MapExt ((k - ROOT_PAGES) / MAP_EXT_PAGES))
map_ext_next k le due = grind (arith, common_steps)

pub behind_map_ext : (k : ℕ) → ROOT_PAGES ≤ k → (k - ROOT_PAGES) % MAP_EXT_PAGES ≡ 0
    → behind (MapExt ((k - ROOT_PAGES) / MAP_EXT_PAGES)) ≡ position_of (Page k)
behind_map_ext k le due = grind (arith, common_steps)

pub behind_page : (k : ℕ) → behind (Page k) ≡ before_page (k + 1)
behind_page k = let e : (behind (Page k)).third ≡ (before_page (k + 1)).third = omega arith in ap in_map e
