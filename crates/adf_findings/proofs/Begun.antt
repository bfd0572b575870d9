-- The start of a course.
use Rattle.std.specs.Prelude.{Bool, false, cond, None, slice_index, slice_index_or, replicate, ◌==◌, ◌-◌}
use Rattle.std.proofs.Common.{◌≡◌, ℕ, zero, suc, List, [], ◌∷◌, ◌++◌, length, ◌<◌, ◌≤◌, refl, sym, subst, ap, ◌∙◌, arith, inl}
use Rattle.std.specs.{Ordering.nat_cmp, Map.lookup, BTreeMap.BTreeMap, BTreeMap.IsEmpty, BTreeMap.get, BTreeMap.is_at}
use Rattle.std.proofs.{lemmas.Bool.le-ltb, lemmas.Bool.Decides.eqb_tells, lemmas.List.length-replicate, lemmas.Grind.common_steps}
use Rattle.adf_tree.specs.NameSet.{Names}
use Rattle.adf_blocks.specs.Sizes.{blocks}
use Rattle.adf_volume.specs.{Image.root_of, Positions.before_page, Walk.Role.Root}
use Rattle.adf_volume.proofs.PositionSteps.{with_root}
use Rattle.adf_volume.specs.declared.part.Part.TheVariants.{Root as RootPart}
use Rattle.adf_findings.specs.{declared.found.Found.Found, declared.progress.Progress.Progress, Courses.HasReachedPage, Courses.noted, WalkOwners.OwnersValue}
use Rattle.adf_findings.specs.Survey.{FindingValue, IsCourse, begun}
use Rattle.adf_volume.specs.declared.owner.Owner.TheVariants.{Free, Boot, Root as TheRoot}
use Rattle.adf_volume.specs.Owners.{owned_count, owner_at}
use Rattle.adf_findings.specs.Found.{AreNamed, AreOwned, AreSame, IsNextPart, IsOwned, Stands, owner_by}
use Rattle.adf_findings.proofs.{Taking.none_default, Taking.stands_but, WalkOwners.count_more, WalkOwners.owned_more}

empty_get : {K X : Type 0} (m : BTreeMap K X) (test : K → Bool) → IsEmpty m → lookup test m.entries ≡ None
empty_get m test e = ap (lookup test) e

one_node : (b n : ℕ) → slice_index (b ∷ []) n ≡ cond (n == 0) b 0
one_node b zero = refl
one_node b (suc n) = grind (arith, common_steps, eqb_tells)

-- of new owners of n blocks none is that of a part
module _ (n : ℕ) (lo : 2 ≤ n) (owners : OwnersValue) (new : owners.owners ≡ Boot ∷ Boot ∷ replicate (n - 2) Free) where
  new_owner : (b : ℕ) → owner_at owners.owners b ≡ owner_by [] b
  new_owner b = grind (arith, common_steps, none_default, le-ltb)

  pub new_owned : owners.node ≡ 0 → AreOwned n owners []
  new_owned node = grind (arith, common_steps, length-replicate, new_owner)

  pub new_count : owned_count owners.owners ≡ 0
  new_count = grind (arith, common_steps)

  new_free : (b : ℕ) → 2 ≤ b → owner_at owners.owners b ≡ Free
  new_free b past = new_owner b ∙ ap (λ t. cond t Boot Free) (le-ltb b 2 past)

-- the root may be taken first
pub root_next : (image : List ℕ) (f : Found) (root : ℕ) → 4 ≤ blocks image → root ≡ root_of image
    → f.owners.owners ≡ Boot ∷ Boot ∷ replicate (blocks image - 2) Free → f.owners.node ≡ 0 → f.left ≡ blocks image
    → IsNextPart RootPart root f
root_next image f root many is new node left = grind (arith, common_steps, new_owned, new_free)

-- nothing is found but the root
pub stands_begun : (image : List ℕ) (f g h : Found) → 4 ≤ blocks image → IsEmpty f.pages
    → f.owners.owners ≡ Boot ∷ Boot ∷ replicate (blocks image - 2) Free → f.owners.node ≡ 0 → f.skipped.items ≡ []
    → f.left ≡ blocks image → f.nodes.items ≡ [] → f.parents.items ≡ 0 ∷ [] → f.places.items ≡ []
    → IsOwned RootPart (root_of image) f g → AreSame f g → h ≡ record g { nodes = h.nodes }
    → h.nodes.items ≡ g.nodes.items ++ root_of image ∷ [] → root_of image < blocks image → Stands image h (begun image [])
stands_begun image f g h many none_yet new node skipped left nodes parents places o e same pushed lt =
    let n : ℕ = blocks image in
    let root : ℕ = root_of image in
    let lo : 2 ≤ n = omega (arith, many) in
    let items : h.nodes.items ≡ root ∷ [] = pushed ∙ ap (λ xs. xs ++ root ∷ []) (ap (λ v. v.items) e.nodes ∙ nodes) in
    let owned = new_owned n lo f.owners new node in
    let none = new_count n lo f.owners new in
    let free = new_free n lo f.owners new root (omega (arith, many)) in
    let count = count_more f.owners.owners root TheRoot (omega (arith, lt, owned.size)) refl free in
    let more = ap owned_count o.owners in
    let marks : g.skipped.items ≡ [] = ap (λ v. v.items) o.skipped ∙ skipped in
    subst (λ h. Stands image h (begun image [])) (sym same) (record {
      pages = (λ i. ap (λ m. get nat_cmp m i) o.pages ∙ empty_get f.pages (is_at (nat_cmp i)) none_yet);
      owners = owned_more n f.owners g.owners [] Root root lt o.owners o.node owned;
      skipped = record { size = inl marks; marked = (λ b l. ap (λ xs. slice_index_or xs b false) marks) };
      left = omega (arith, none, count, more, o.left, left);
      node = (λ m. ap (λ xs. slice_index xs m) items ∙ one_node root m);
      count = ap length items;
      few = (let l : length h.nodes.items ≡ 1 = ap length items in omega (arith, l, o.left, left));
      parent = (λ m. ap (λ v. slice_index v.items m) e.parents ∙ (ap (λ xs. slice_index xs m) parents ∙ none_default 1 0 m));
      parents = ap (λ v. length v.items) e.parents ∙ ap length parents;
      places = ap (λ v. v.items) e.places ∙ places;
    })

module _ (image : List ℕ) (fs : List FindingValue) where
  no_names : (names : Names) → AreNamed image (begun image fs).walk (before_page 0) names
  no_names names name m p s j b valid e f h = absurd (omega arith)

  -- the course begins at the first page, whose block the root names
  begun_at : (f : Progress) → fs ≡ noted f → IsCourse image (begun image fs) → Stands image f.found (begun image fs) → blocks image ≤ 8388608
      → HasReachedPage image f 0 (root_of image)
  begun_at f told course st small = grind (arith, common_steps, with_root, no_names)

  pub on_begun : (f : Progress) → fs ≡ noted f → IsCourse image (begun image fs) → Stands image f.found (begun image []) → blocks image ≤ 8388608
      → HasReachedPage image f 0 (root_of image)
  on_begun f told course st small = begun_at f told course (stands_but image f.found f.found (begun image []) [] fs refl st st.skipped) small
