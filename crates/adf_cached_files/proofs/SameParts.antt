-- What is the same in an image and in the image as one without caches.
-- Letters: copy the image as one without caches; t a tree; l a layout; b a block, bs and ds blocks; n an entry; k the number of a data block, or of a page.
use Rattle.std.specs.Prelude.{◌++◌, ◌≤◌, Option, Some, take}
use Rattle.std.proofs.Common.{◌≡◌, ◌<◌, ◌∙◌, ℕ, zero, suc, List, [], ◌∷◌, ap, arith, inl, inr, length, refl, subst, sym}
use Rattle.std.proofs.lemmas.{Bool.cases_lt, Option.same_Some}
use Rattle.adf_base.specs.{Words.block, declared.hash.Letters.Letters}
use Rattle.adf_names.specs.declared.kind.Kind.{Kind}
use Rattle.adf_tree.specs.{Tree.Tree, declared.entry.Body.TheVariants.File, declared.entry.Entry.Entry}
use Rattle.adf_blocks.specs.Sizes.{blocks}
use Rattle.adf_volume.specs.{Fits.BodyFits, Fits.FitsBy, Image.area, Image.content, Image.joined, Image.kind_of, Lists.At, Lists.In}
use Rattle.adf_volume.specs.{Layout.EntryAt, Layout.Layout, Layout.at_node, Layout.datas_of, Layout.owned, declared.owner.Owner.Owner}
use Rattle.adf_volume.specs.declared.owner.Owner.TheVariants.{Page as APage}
use Rattle.adf_volume.specs.LayoutRoles.{LayoutHasBy, owner_of}
use Rattle.adf_volume.specs.Walk.{Role, Role.Data, Role.Ext, Role.Head, Role.MapExt, Role.Page, Role.Root}
use Rattle.adf_volume.proofs.{LayoutRoles.one_part, LayoutRoles.owned_part, LayoutRoles.part_owned, LayoutRoles.part_range}
use Rattle.adf_volume.specs.OwnerClass.{class_of}
use Rattle.adf_volume.specs.declared.owner_class.OwnerClass.{OwnerClass, TheVariants.Boot, TheVariants.Free, TheVariants.Page as ThePage}
use Rattle.adf_uncached.specs.Uncached.{uncached}
use Rattle.adf_cached_files.specs.InPlace.{FitsInPlace}
use Rattle.adf_cached_files.specs.Sameness.{AreSameButPages, IsSameButBitmap}

-- a member has a place
pub in_at : {X : Type 0} (xs : List X) (x : X) → In xs x → (i : ℕ) × At xs i x
in_at [] x h = absurd h
in_at (y ∷ ys) x (inl e) = (0, e)
in_at (y ∷ ys) x (inr h) = let r = in_at ys x h in (suc r.0, r.1)

-- what has a place is a member
pub at_in : {X : Type 0} (xs : List X) (i : ℕ) (x : X) → At xs i x → In xs x
at_in [] i x h = absurd h
at_in (y ∷ ys) zero x h = inl h
at_in (y ∷ ys) (suc i) x h = inr (at_in ys i x h)

-- a bitmap page has its owner
pub page_owned : {ls : Letters} (image : List ℕ) (t : Tree) (l : Layout) (b : ℕ) → FitsBy ls image t l → In l.pages b
    → (k : ℕ) × In (owned image l) (APage k, b)
page_owned {ls} image t l b fits page =
    let (k, at) = in_at l.pages b page in
    (k, part_owned ls image t l fits.places (Page k) b at)

-- no data block is a bitmap page
pub data_no_page : {ls : Letters} (image : List ℕ) (t : Tree) (l : Layout) (n k b : ℕ) → FitsBy ls image t l → At (datas_of l n) k b → ¬ In l.pages b
data_no_page image t l zero k b fits at page = at
data_no_page image t l (suc i) k b fits at page =
    let (m, here) = in_at l.pages b page in
    let one : Data (suc i) (suc k) ≡ Page m = one_part image t l fits (Data (suc i) (suc k)) (Page m) b at here in
    cc

-- each data block is the same
pub data_same : {ls : Letters} (image copy : List ℕ) (t : Tree) (l : Layout) (n k b : ℕ) → FitsBy ls copy t l → AreSameButPages image copy l
    → At (datas_of l n) k b → block image b ≡ block copy b
data_same image copy t l zero k b fits same at = absurd at
data_same image copy t l (suc i) k b fits same at =
    let range = part_range copy t l fits (Data (suc i) (suc k)) b at in
    same b (omega (arith, range.0)) range.1 (data_no_page copy t l (suc i) k b fits at)

-- so is what data blocks hold
joined_same : (image copy : List ℕ) (kind : Kind) (ds : List ℕ) → ((k b : ℕ) → At ds k b → block image b ≡ block copy b)
    → joined copy kind ds ≡ joined image kind ds
joined_same image copy kind [] same = refl
joined_same image copy kind (d ∷ ds) same =
    ap (λ (x : List ℕ). area kind x ++ joined copy kind ds) (sym (same 0 d refl))
    ∙ ap (λ (xs : List ℕ). area kind (block image d) ++ xs) (joined_same image copy kind ds (λ k b at. same (suc k) b at))

-- the bytes of a file are what its data blocks hold
held_bytes : (copy : List ℕ) (kind : Kind) (l : Layout) (n h : ℕ) (bytes : List ℕ) → BodyFits copy kind l n h (File bytes)
    → bytes ≡ take (length bytes) (joined copy kind (datas_of l n))
unfolding content
held_bytes copy kind l n h bytes body = body.1 ∙ ap (λ m. take m (joined copy kind (datas_of l n))) (sym body.2)

pub bytes_in_place : {ls : Letters} (image copy : List ℕ) (t : Tree) (l : Layout) (n : ℕ) (e : Entry) (bytes : List ℕ) → FitsBy ls copy t l
    → IsSameButBitmap image copy l → EntryAt t n e → e.body ≡ File bytes
    → bytes ≡ take (length bytes) (joined image (kind_of image) (datas_of l n))
bytes_in_place image copy t l n e bytes fits same at is =
    let body = subst (BodyFits copy t.kind l n (at_node copy l n)) is (fits.entries n e at).body in
    held_bytes copy t.kind l n (at_node copy l n) bytes body
    ∙ ap (λ (k : Kind). take (length bytes) (joined copy k (datas_of l n))) (fits.kind ∙ sym same.kind)
    ∙ ap (take (length bytes)) (joined_same image copy (kind_of image) (datas_of l n) (λ k b here. data_same image copy t l n k b fits same.parts here))

-- and by those of the image that is read in place
pub file_in_place : (image : List ℕ) (t : Tree) (l : Layout) (n : ℕ) (e : Entry) (bytes : List ℕ) → FitsInPlace image t l
    → EntryAt t n e → e.body ≡ File bytes → bytes ≡ take (length bytes) (joined image (kind_of image) (datas_of l n))
file_in_place image t l n e bytes fits at is =
    bytes_in_place image (uncached image fits.cached.walk) t l n e bytes fits.cached.fits.fits.1 fits.same at is

-- the class of a page
module _ {ls : Letters} (image : List ℕ) (t : Tree) (l : Layout) (fits : FitsBy ls image t l) (b : ℕ) (r : Option OwnerClass)
    (part : (o : Owner) → In (owned image l) (o, b) → r ≡ Some (class_of o)) where
  pub page_told : In l.pages b → r ≡ Some ThePage
  page_told page = let (k, here) = page_owned image t l b fits page in part (APage k) here

  page_role : (q : Role) → LayoutHasBy ls image t l q b → class_of (owner_of q) ≡ ThePage → In l.pages b
  page_role (Page j) has is = at_in l.pages j b has
  page_role Root has is = cc
  page_role (MapExt j) has is = cc
  page_role (Head n p s j) has is = cc
  page_role (Ext n k) has is = cc
  page_role (Data n k) has is = cc

  no_part : r ≡ Some ThePage → ¬ In l.pages b → (o : Owner) → In (owned image l) (o, b) → ⊥
  no_part is none o here =
      let (q, has, same) = owned_part ls image t l fits.places o b here in
      let class : class_of o ≡ ThePage = same_Some (class_of o) ThePage (sym (part o here) ∙ is) in
      none (page_role q has (subst (λ x. class_of x ≡ ThePage) same class))

  pub page_only : (b < 2 → r ≡ Some Boot) → (2 ≤ b → b < blocks image → ((o : Owner) → In (owned image l) (o, b) → ⊥) → r ≡ Some Free)
      → b < blocks image → r ≡ Some ThePage → ¬ In l.pages b → ⊥
  page_only boot free lt is none = elim (cases_lt b 2) [
    | inl y ↦ let both : Some Boot ≡ Some ThePage = sym (boot y) ∙ is in cc
    | inr y ↦ let both : Some Free ≡ Some ThePage = sym (free y lt (no_part is none)) ∙ is in cc
  ]
