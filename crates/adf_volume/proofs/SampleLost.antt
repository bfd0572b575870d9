-- The first fault of an empty volume with a lost block.
-- Letters: q a role; a, b, c blocks; i, k words; p a directory's node; s a slot.
use Rattle.std.proofs.Common.{◌≡◌, ◌++◌, ℕ, zero, suc, [], ◌∷◌, inl, inr, ◌+◌, ◌-◌, ◌%◌, ◌<◌, ◌≤◌, refl, sym, ap, subst, arith}
use Rattle.std.proofs.lemmas.Grind.{common_steps}
use Rattle.adf_base.specs.Words.{block, word, words, with_bytes}
use Rattle.adf_blocks.specs.{PageBlock.page_form, RootBlock.root_form, declared.cause.Cause.TheVariants.LostBlock}
use Rattle.adf_blocks.specs.Sizes.{blocks, middle, pages_needed}
use Rattle.adf_volume.specs.Image.{IsFreeAt, root_of, word_in}
use Rattle.adf_volume.specs.Demands.{AllHold, FirstFails, boot_demands, boot_form, root_demands, page_demands}
use Rattle.adf_volume.specs.{Samples.one_lost, Walk.second, Walk.Walk, Walk.IsWalkBy.start, Walk.IsWalkBy.step, Walk.FirstFaultBy.at_bitmap}
use Rattle.adf_volume.specs.Walk.{Asks, Before, FirstFault, Has, IsAbsent, IsDue, IsFreeIn, IsWalk, IsWhole, Lacks, NoCause, Role, TypedAt, bitmap_demands}
use Rattle.adf_volume.specs.Walk.Role.{Root, Page, MapExt, Head, Ext, Data}
use Rattle.adf_volume.proofs.{FormDemands.all_demanded, Lists.all_append, Zeros.zero_at}

boots : AllHold (boot_demands one_lost)
unfolding one_lost block with_bytes
boots = ((refl, refl), all_demanded 0 (boot_form (block one_lost 0)) refl)

root_holds : AllHold (root_demands one_lost 3)
unfolding one_lost block word words with_bytes
root_holds = all_demanded 3 (root_form (block one_lost 3)) refl

page_holds : AllHold (page_demands one_lost 4)
unfolding one_lost block word words with_bytes
page_holds = all_demanded 4 (page_form (block one_lost 4)) refl

no_slot : (s : ℕ) → s < 72 → word_in one_lost 3 (6 + s) ≡ 0
unfolding one_lost block word with_bytes
no_slot s l = zero_at (λ s. word_in one_lost 3 (6 + s)) 72 s refl l

page_named : word_in one_lost 3 79 ≡ 4
unfolding one_lost block word with_bytes
page_named = refl

size : blocks one_lost ≡ 6
unfolding one_lost with_bytes
size = refl

at_root : root_of one_lost ≡ 3
at_root = ap middle size

one_page : pages_needed (blocks one_lost) ≡ 1
one_page = ap pages_needed size

-- the walk: the root, and then the page
abbrev only_root : Walk
only_root = (Root, 3) ∷ []

abbrev both : Walk
both = (Page 0, 4) ∷ only_root

lacks_page : Lacks only_root (Page 0)
lacks_page q b (inl e) s = let z : 0 ≡ second q = ap second e.0 in omega (arith, z, s.1)
lacks_page q b (inr h) s = h

least : (q : Role) (c k : ℕ) → Asks one_lost only_root q c k → Lacks only_root q → Before q (Page 0) → ⊥
least q c k h l m = grind (arith, common_steps, one_page)

due : IsDue one_lost only_root (Page 0) 3 79
due = grind (arith, common_steps, one_page, at_root, lacks_page, least)

not_there : (q : Role) → Has only_root q 4 → ⊥
not_there q (inl e) = omega (arith, e.1)
not_there q (inr h) = h

no_cause : NoCause one_lost only_root (Page 0) 3 4
no_cause = grind (arith, common_steps, all_append, page_holds, size, not_there)

walk : IsWalk one_lost both
walk = step (subst (λ b. IsWalk one_lost ((Root, b) ∷ [])) at_root start) due page_named no_cause

-- what the walk has
root_is : (a : ℕ) → Has both Root a → 3 ≡ a
root_is a h = grind (arith, common_steps)

page_is : (k a : ℕ) → Has both (Page k) a → 4 ≡ a
page_is k a h = grind (arith, common_steps)

no_head : (n p s j a : ℕ) → Has both (Head n p s j) a → ⊥
no_head n p s j a h = grind (arith, common_steps)

no_ext : (n k a : ℕ) → Has both (Ext n k) a → ⊥
no_ext n k a h = grind (arith, common_steps)

no_file : (n a t : ℕ) → TypedAt one_lost both t n a → ⊥
no_file n a t h = no_head n h.header.parent h.header.slot h.header.place a h.header.has

whole : IsWhole one_lost both
whole Root a i h l = h
whole (Page k) a i h l = l (Page 0) 4 (inl (refl, refl)) (refl, refl, omega (arith, h.0, one_page))
whole (MapExt zero) a i h l = omega (arith, h.0, one_page)
whole (MapExt (suc j)) a i h l = omega (arith, h.0, one_page)
whole (Head n zero s zero) a i h l = grind (arith, common_steps, root_is, no_slot)
whole (Head n (suc p) s zero) a i h l = no_file (suc p) a _ h.2
whole (Head n p s (suc j)) a i h l = no_head h.1.0 p s j a h.1.1
whole (Ext n zero) a i h l = h
whole (Ext n (suc zero)) a i h l = no_file n a _ h.0
whole (Ext n (suc (suc k))) a i h l = no_ext n (suc k) a h.0
whole (Data n zero) a i h l = h
whole (Data n (suc k)) a i h l = no_file n h.0.0 _ h.0.1

-- the bits
free_bit : IsFreeAt one_lost 4 0
unfolding one_lost block word with_bytes
free_bit = λ (e : 1 ≡ 0). omega arith

clear_bit : (b : ℕ) → 3 ≤ b → b < 6 → IsFreeAt one_lost 4 ((b - 2) % 4064) → ⊥
unfolding one_lost block word with_bytes
clear_bit (suc (suc (suc zero))) l u h = h refl
clear_bit (suc (suc (suc (suc zero)))) l u h = h refl
clear_bit (suc (suc (suc (suc (suc zero))))) l u h = h refl
clear_bit _ l u h = omega arith

not_free : (b : ℕ) → 3 ≤ b → b < 6 → IsFreeIn one_lost both b → ⊥
not_free b l u f = clear_bit b l u (subst (λ p. IsFreeAt one_lost p ((b - 2) % 4064)) (sym (page_is _ f.0 f.1)) f.2)

absent : IsAbsent both 2
absent = grind (arith, common_steps)

fifth : IsAbsent both 5
fifth = grind (arith, common_steps)

fails : FirstFails (bitmap_demands one_lost both 2 4) 5 LostBlock
fails =
    inr (
      λ a. (4, inl (refl, refl), free_bit),
      inr (
        λ f. absent,
        inr (
          λ a. absurd (a Root (inr (inl (refl, refl)))),
          inr (
            λ f. absurd (not_free 3 (omega arith) (omega arith) f),
            inr (
              λ a. absurd (a (Page 0) (inl (refl, refl))),
              inr (
                λ f. absurd (not_free 4 (omega arith) (omega arith) f),
                inl (λ h. not_free 5 (omega arith) (omega arith) (h fifth), refl, refl),
              ),
            ),
          ),
        ),
      ),
    )

pub lost_first : FirstFault one_lost 5 LostBlock
lost_first =
    let begun : AllHold (boot_demands one_lost ++ root_demands one_lost (root_of one_lost)) =
    all_append (boot_demands one_lost) (root_demands one_lost (root_of one_lost)) boots
    (subst (λ b. AllHold (root_demands one_lost b)) (sym at_root) root_holds) in
    let lost : FirstFails (bitmap_demands one_lost both 2 (blocks one_lost - 2)) 5 LostBlock =
    subst (λ n. FirstFails (bitmap_demands one_lost both 2 n) 5 LostBlock) (sym (ap (λ n. n - 2) size)) fails in
    inr (omega (arith, size), at_bitmap begun both walk whole lost)
