-- The tree and the layout of a whole walk fit.
use Rattle.std.proofs.Common.{ℕ, zero, suc, List, ◌+◌, ◌-◌, ◌*◌, ◌/◌, ◌<◌, ◌≤◌, length, refl, sym, ap, subst, ◌∙◌, arith}
use native.Mathlib.Decide.{ℕ_discrete}
use Rattle.adf_base.specs.declared.hash.Letters.{Letters}
use Rattle.adf_blocks.specs.declared.layout.TheConstants.{MAP_EXT_PAGES, PAGE_BITS, ROOT_PAGES}
use Rattle.adf_volume.specs.{Image.root_of, Fits.FitsBy, Fits.FileFits, Made.tree_in_by, Made.layout_in, LayoutRoles.owner_of}
use Rattle.adf_blocks.specs.Sizes.{blocks}
use Rattle.adf_volume.specs.Demands.{AllHold, boot_demands_by, root_demands}
use Rattle.adf_volume.proofs.{TreeOrder.dir_node, TreeOrder.is_tree_from, MemberFacts.kept, MemberFacts.in_range, WholeWalks.map_exts_length}
use Rattle.adf_volume.proofs.{WholeWalks.pages_length, WholeWalks.root_names, WalkOwners.is_owned, WalkOwners.owned_has, WalkOwners.once, Sizes.size_low}
use Rattle.adf_volume.specs.Walk.{IsAbsent, IsFreeIn, bitmap_demands, IsWalkBy, IsWhole, Walk, Role.Page, Role.MapExt}
use Rattle.adf_volume.proofs.WalkMembers.{entries_length, places_length, pages, map_exts}
use Rattle.adf_volume.proofs.WholeWalks.{chains_spelled, content_long, entry_fits, ext_names, file_at, file_fits, head_is, is_tree, map_ext_next}

module _ {letters : Letters} (image : List ℕ) (w : Walk) (v : IsWalkBy letters image w) (whole : IsWhole image w)
    (boots : AllHold (boot_demands_by letters image)) where
  bitmap_at : (b0 n b : ℕ) → AllHold (bitmap_demands image w b0 n) → b0 ≤ b → b < b0 + n
      → (IsAbsent w b → IsFreeIn image w b) × (IsFreeIn image w b → IsAbsent w b)
  bitmap_at b0 zero b h lo hi = absurd (omega arith)
  bitmap_at b0 (suc n) b h lo hi =
      elim (ℕ_discrete b0 b) [
        | yes e ↦ subst (λ b. (IsAbsent w b → IsFreeIn image w b) × (IsFreeIn image w b → IsAbsent w b)) e (h.0, h.1.0)
        | no ne ↦ bitmap_at (suc b0) n b h.1.1 (omega arith) (omega arith)
      ]

  pub fits : AllHold (root_demands image (root_of image)) → AllHold (bitmap_demands image w 2 (blocks image - 2))
      → FitsBy letters image (tree_in_by letters image w) (layout_in w)
  fits root bits = record {
    boots = boots;
    kind = refl;
    letters = refl;
    root = root;
    label = refl;
    stamps = refl;
    tree = is_tree_from (tree_in_by letters image w) (is_tree image w v whole);
    places = places_length image w w ∙ sym (entries_length image w w);
    pages = pages_length image w v whole;
    map_exts = map_exts_length image w v whole;
    map_first = (λ b h. (kept image v (MapExt 0) b ((map_exts image v).from 0 b h)).1);
    map_next = map_ext_next image w v whole;
    page_named = (λ k b lt h. let x = (kept image v (Page k) b ((pages image v).from k b h)).1 in root_names image w v whole k b x.0 x.1 lt x.2 x.3);
    page_listed = (λ j i a b lt h k.
        let x = (kept image v (Page (ROOT_PAGES + MAP_EXT_PAGES * j + i)) b ((pages image v).from (ROOT_PAGES + MAP_EXT_PAGES * j + i) b k)).1 in
        (ext_names image w v whole) j i a b x.0 x.1 lt h x.2 x.3);
    page_form = (λ k b h. (kept image v (Page k) b ((pages image v).from k b h)).2);
    entries = entry_fits image w v whole boots;
    chains = (λ p s d lt. (chains_spelled image w v whole) p s (dir_node (tree_in_by letters image w) p d) lt);
    files = (λ n e bytes h f.
        let x = file_at image w v whole n e bytes h f in
        subst (λ h. FileFits image (tree_in_by letters image w) (layout_in w) n h bytes) (sym (head_is image w v whole x.1.header).0)
        (file_fits image w v whole n x.0 bytes x.1 (ap length x.2 ∙ (content_long image w v whole boots) n x.0 x.1)));
    once = once image w v whole;
    range = (λ o b h. let r = owned_has image w v whole o b h in in_range image v (size_low (blocks image) boots.0.1) r.0 b r.1);
    bitmap = (λ b lo hi.
        let s2 : 4 ≤ blocks image = (size_low (blocks image) boots.0.1) in
        let x = bitmap_at 2 (blocks image - 2) b bits lo (omega arith) in (
          (λ f o i. let r = owned_has image w v whole o b i in x.1 (f.0, (pages image v).from ((b - 2) / PAGE_BITS) f.0 f.1, f.2) r.0 r.1),
          (λ f. let y = x.0 (λ q h. f (owner_of q) (is_owned image w v whole q b h)) in (y.0, (pages image v).to ((b - 2) / PAGE_BITS) y.0 y.1, y.2)),
        ));
  }
