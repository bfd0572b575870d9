-- The blocks that a tree needs which fits an image: no more than the image has.
-- Letters: t a tree, l its layout; es entries, qs their places; n a node; h the block of its header; a, b blocks; xs blocks with what has them.
use Rattle.std.proofs.Common.{◌≡◌, ℕ, suc, List, [], ◌∷◌, ◌++◌, ◌+◌, ◌-◌, ◌*◌, ◌≤◌, length, length-append, refl, arith}
use Rattle.std.specs.List.{range_with_len}
use Rattle.std.proofs.{lemmas.List.FromFn.length-range_with_len, lemmas.Grind.common_steps}
use Rattle.adf_base.specs.declared.hash.Letters.{Letters}
use Rattle.adf_tree.specs.declared.entry.Body.{Body, TheVariants.Dir, TheVariants.File}
use Rattle.adf_tree.specs.{declared.entry.Entry.Entry, Tree.Tree}
use Rattle.adf_names.specs.declared.kind.Kind.{Kind}
use Rattle.adf_blocks.specs.{declared.layout.TheConstants.POINTERS, Sizes.blocks}
use Rattle.adf_volume.specs.declared.owner.Owner.TheVariants.{Data, Ext}
use Rattle.adf_volume.specs.{Fits.BodyFits, Fits.FileFits, Fits.FitsBy, Lists.At, Lists.numbered}
use Rattle.adf_volume.specs.Layout.{Layout, Place, at_node, datas_at, datas_of, exts_at, exts_of, owned, owned_from}
use Rattle.adf_volume.proofs.{Lists.length_numbered, WalkLengths.no_longer}
use Rattle.adf_build.specs.Plan.{blocks_needed, data_blocks, entries_blocks, exts_needed, reserved}
use Rattle.adf_build.proofs.AllocatedBlocks.{range_in}

-- the blocks of a body are at its entry

exts_few : (c m : ℕ) → c ≤ POINTERS * suc m → exts_needed c ≤ m
unfolding exts_needed
exts_few c m h = omega arith

body_blocks : (image : List ℕ) (t : Tree) (l : Layout) (n h : ℕ) (body : Body) → BodyFits image t.kind l n h body
    → ((bytes : List ℕ) → body ≡ File bytes → FileFits image t l n h bytes)
    → (exts_needed (data_blocks t.kind body) ≤ length (exts_of l n)) × (data_blocks t.kind body ≡ length (datas_of l n))
body_blocks image t l n h Dir fits file = grind (arith, common_steps, exts_few)
body_blocks image t l n h (File bytes) fits file = grind (arith, common_steps, exts_few)

-- so the entries own as many blocks as they need
places_own : (kind : Kind) (n : ℕ) (es : List Entry) (qs : List Place) → length qs ≡ length es
    → ((i : ℕ) (e : Entry) → At es i e → (exts_needed (data_blocks kind e.body) ≤ length (exts_at qs i))
    × (data_blocks kind e.body ≡ length (datas_at qs i))) → entries_blocks kind es ≤ length (owned_from n qs)
places_own kind n [] qs long each = omega arith
places_own kind n (e ∷ es) [] long each = absurd (omega arith)
places_own kind n (e ∷ es) (q ∷ qs) long each =
    let here : (exts_needed (data_blocks kind e.body) ≤ length q.exts) × (data_blocks kind e.body ≡ length q.datas) = each 0 e refl in
    let rest : entries_blocks kind es ≤ length (owned_from (suc n) qs) = places_own kind (suc n) es qs (omega arith) (λ i d at. each (suc i) d at) in
    let exts = length_numbered (Ext n) 1 q.exts in
    let datas = length_numbered (Data n) 1 q.datas in
    let all = length-append (numbered (Ext n) 1 q.exts ++ numbered (Data n) 1 q.datas) (owned_from (suc n) qs) in
    let both = length-append (numbered (Ext n) 1 q.exts) (numbered (Data n) 1 q.datas) in
    omega (arith, here.0, here.1, exts, datas, all, both)

owned_parts : (image : List ℕ) (l : Layout)
    → length (owned image l) ≡ 1 + (length l.pages + (length l.map_exts + length (owned_from 1 l.places)))
owned_parts image l = grind (arith, common_steps, length-append, length_numbered)

reserved_parts : {letters : Letters} (image : List ℕ) (t : Tree) (l : Layout) → FitsBy letters image t l
    → length l.pages + length l.map_exts ≡ reserved (blocks image)
unfolding reserved
reserved_parts image t l fit = λ i. fit.pages i + fit.map_exts i

-- the image has the blocks that its tree needs
pub fit_room : {letters : Letters} (image : List ℕ) (t : Tree) (l : Layout) → FitsBy letters image t l → blocks_needed t (blocks image) ≤ blocks image - 2
fit_room image t l fit =
    let most : ℕ = blocks image - 2 in
    let all : length (owned image l) ≤ length (range_with_len 2 most) =
    no_longer (λ b. b) (owned image l) (range_with_len 2 most) fit.once
    (λ o b i. let r = fit.range o b i in (b, range_in 2 most b r.0 (omega (arith, r.0, r.1)), refl)) in
    let long : length (range_with_len 2 most) ≡ most = length-range_with_len 2 most in
    let entries : entries_blocks t.kind t.entries ≤ length (owned_from 1 l.places) =
    places_own t.kind 1 t.entries l.places fit.places (λ i e at.
    body_blocks image t l (suc i) (at_node image l (suc i)) e.body (fit.entries (suc i) e at).body (λ bytes is. fit.files (suc i) e bytes at is)) in
    let parts = owned_parts image l in
    let fixed = reserved_parts image t l fit in
    omega arith
