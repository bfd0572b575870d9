-- The positions of a course among the bitmap pages: a bitmap extension block comes before its pages.
use Rattle.std.proofs.Common.{Option, Some, None, ◌≡◌, ℕ, List, ◌∷◌, inl, ◌+◌, ◌-◌, ◌/◌, ◌%◌, ◌<◌, ◌≤◌, refl, sym, subst, arith}
use Rattle.std.proofs.lemmas.Grind.{common_steps}
use Rattle.adf_blocks.specs.{declared.layout.TheConstants.MAP_EXT_PAGES, declared.layout.TheConstants.ROOT_PAGES, Sizes.blocks, Sizes.pages_needed}
use Rattle.adf_volume.specs.{Image.word_in, Walk.NamesPage, Walk.Role.Page, Walk.Role.MapExt}
use Rattle.adf_volume.specs.Positions.{IsPageHolder, Position, before_page, position_of, word_of_map_ext, word_of_page}
use Rattle.adf_volume.proofs.{MemberFacts.names_up, PositionSteps.end_map, PositionSteps.map_broken}
use Rattle.adf_volume.proofs.Pointers.{behind_map_ext, behind_page, map_ext_asks, map_ext_next, names_first, next_holder}
use Rattle.adf_volume.specs.declared.part.Part.TheVariants.{Page as PagePart, MapExt as MapExtPart}
use Rattle.adf_findings.specs.{declared.progress.Progress.Progress, Survey.Course}
use Rattle.adf_findings.specs.Courses.{HasReachedPage, Holds, IsGoneOn, IsNamed, IsPageNamed, due_below}
use Rattle.adf_findings.proofs.CourseSteps.{moved}

-- a position that is the same
same_place : {image : List ℕ} {f : Progress} {s : Course} {k l : Position} → k ≡ l → Holds image f k s → Holds image f l s
same_place {image} {f} {s} e h = subst (λ k. Holds image f k s) e h

module _ (image : List ℕ) (f : Progress) (s : Course) (page : ℕ) where
  -- the bitmap extension block before a page is named
  pub map_ext_named : (a : ℕ) → page < pages_needed (blocks image) → ROOT_PAGES ≤ page → (page - ROOT_PAGES) % MAP_EXT_PAGES ≡ 0
      → Holds image f (before_page page) s → IsPageHolder image s.walk page a
      → IsNamed image f (due_below (MapExtPart ((page - ROOT_PAGES) / MAP_EXT_PAGES)) a) a (word_of_map_ext page) s
  map_ext_named a lt le due h holder = grind (arith, common_steps, same_place, map_ext_next, map_ext_asks)

  -- behind a bitmap extension block come the pages that it names, or where it was skipped the nodes
  pub map_ext_on : (a i : ℕ) (g : Progress) (o : Option ℕ) → ROOT_PAGES ≤ page → (page - ROOT_PAGES) % MAP_EXT_PAGES ≡ 0
      → Holds image f (position_of (MapExt ((page - ROOT_PAGES) / MAP_EXT_PAGES))) s
      → IsGoneOn image s (MapExtPart ((page - ROOT_PAGES) / MAP_EXT_PAGES)) a i g o → IsPageNamed image g page o
  map_ext_on a i g (Some c) le due h o = (
    _,
    same_place (behind_map_ext page le due) o.holds,
    names_first image ((MapExt ((page - ROOT_PAGES) / MAP_EXT_PAGES), word_in image a i) ∷ s.walk) page c le due (inl (refl, sym o.block)),
  )
  map_ext_on a i g None le due h o = grind (arith, common_steps, moved, end_map, map_broken)

  pub page_named : (a i : ℕ) → i ≡ word_of_page page → page < pages_needed (blocks image) → Holds image f (position_of (Page page)) s
      → NamesPage image s.walk page a (word_of_page page) → IsNamed image f (due_below (PagePart page) a) a i s
  page_named a i e lt h names = grind (arith, common_steps)

module _ (image : List ℕ) (f : Progress) (s : Course) (page : ℕ) where
  -- behind a page comes the next
  pub page_on : (a i : ℕ) (g : Progress) (o : Option ℕ) → NamesPage image s.walk page a i → IsGoneOn image s (PagePart page) a i g o
      → HasReachedPage image g (page + 1) a
  page_on a i g None names gone = (_, same_place (behind_page page) gone.holds, next_holder image s.walk page a i names)
  page_on a i g (Some c) names gone = grind (arith, common_steps, same_place, behind_page, next_holder, names_up)
