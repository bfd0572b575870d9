-- The state of a survey when parts are taken and skipped.
use Rattle.std.proofs.Common.{Bool, true, false, cond, ◌==◌, Some, slice_index, slice_index_or, ◌≡◌, ℕ, suc, List, [], ◌∷◌, ◌++◌, length, replicate, set, subst}
use Rattle.std.proofs.Common.{sym, ◌<◌, ◌≤◌, ap, ◌∙◌, arith, length-set, get_or-set_same, get_or-set_other}
use Rattle.std.specs.{Ordering.nat_cmp, BTreeMap.BTreeMap, BTreeMap.get, Global.Vec}
use Rattle.std.proofs.lemmas.List.{length-replicate, get_or_push, get_or_append_left, get_or_past, length_push}
use Rattle.std.proofs.{lemmas.Grind.common_steps, lemmas.Bool.cases_lt, lemmas.Bool.cond-false, lemmas.Bool.Decides.eqb_tells}
use Rattle.adf_blocks.specs.Sizes.{blocks}
use Rattle.adf_volume.proofs.Lists.{snoc_length}
use Rattle.adf_volume.specs.{declared.owner.Owner.Owner, LayoutRoles.owner_of, Parts.role_of}
use Rattle.adf_volume.specs.Owners.{owned_count}
use Rattle.adf_findings.proofs.WalkOwners.{count_more, free_is, owned_more, part_owns}
use Rattle.adf_volume.specs.Walk.{Role, heads, head_count, node_block, node_block_of, Walk, Role.Root, Role.Page, Role.Head}
use Rattle.adf_volume.specs.declared.part.Part.{Part, TheVariants.Page as PagePart, TheVariants.Head as HeadPart}
use Rattle.adf_findings.specs.{declared.found.ChainPlace.ChainPlace, declared.found.Found.Found, Survey.Course, Survey.FindingValue, Found.with_place}
use Rattle.adf_findings.specs.Found.{AreSkipped, AreMarked, AreSame, IsKept, IsOwned, IsBlockSkipped, IsPut, IsTaken, KeepsParts, Stands, places_of, with_mark}
use Rattle.adf_findings.specs.Members.{at_role, owns, parent_by, parent_node}
use Rattle.adf_findings.proofs.RoleBlocks.{other_place, page_place}

kept_more : (part : Part) (b : ℕ) (f g h : Found) → IsKept part b f g → AreSame g h → IsKept part b f h
kept_more (HeadPart n p s j) b f g h k e = grind (arith, common_steps)
kept_more _ b f g h k e = grind (arith, common_steps)

pub taken_last : (part : Part) (b : ℕ) (f g h : Found) → IsKept part b f g → KeepsParts f g → IsOwned part b g h → AreSame g h → IsTaken part b f h
taken_last part b f g h k p o e = grind (arith, common_steps, kept_more)

-- the pages with that of a part are those of the walk with it
pages_more : (m n : BTreeMap ℕ ℕ) (w : Walk) (part : Part) (b : ℕ) → IsPut part b m n
    → ((i : ℕ) → get nat_cmp m i ≡ at_role w (Page i)) → (i : ℕ) → get nat_cmp n i ≡ at_role ((role_of part, b) ∷ w) (Page i)
pages_more m n w (PagePart j) b u h i = u.0 i ∙ (λ t. cond (page_place j i t) (Some b) (h i t))
pages_more m n w part b u h i = grind (arith, common_steps, cond-false, other_place)

pub marked_more : (n : ℕ) (xs : List Bool) (w : Walk) (r : Role) (b : ℕ) → AreMarked n xs w → AreMarked n (set xs b true) ((r, b) ∷ w)
marked_more n xs w r b h = grind (arith, common_steps, length-set, eqb_tells, get_or-set_same, get_or-set_other)

pub none_default : {A : Type 0} (n : ℕ) (x : A) (b : ℕ) → slice_index_or (replicate n x) b x ≡ x
none_default n x b = grind (arith, common_steps)

-- a block is skipped
pub avoided_more : (n : ℕ) (xs : List Bool) (w : Walk) (r : Role) (b : ℕ) → AreSkipped n xs w → AreSkipped n (with_mark n b xs) ((r, b) ∷ w)
avoided_more n [] w r b h = grind (arith, common_steps, marked_more, length-replicate, none_default)
avoided_more n (x ∷ xs) w r b h = grind (arith, common_steps, marked_more)

node_snoc : (xs : List ℕ) (b m : ℕ) → slice_index (xs ++ b ∷ []) m ≡ cond (m == length xs) b (slice_index xs m)
node_snoc xs b m = grind (arith, common_steps, eqb_tells, cases_lt, get_or_push, get_or_append_left, get_or_past, length_push)

-- a part that comes next has the next number of its kind
abbrev pub IsNumbered : Walk → Role → Type 0
IsNumbered w (Head n p s j) = n ≡ suc (heads w)
IsNumbered w Root = ⊥
IsNumbered w _ = Unit {0}

-- what is taken stays so, whatever is skipped and reported and whatever names are kept
pub stands_but : (image : List ℕ) (f g : Found) (s : Course) (over : Walk) (fs : List FindingValue)
    → g ≡ record f { skipped = g.skipped; names = g.names } → Stands image f s
    → AreSkipped (blocks image) g.skipped.items over
    → Stands image g (record { walk = s.walk; skipped = over; findings = fs })
stands_but image f g s over fs rest st skipped = grind (arith, common_steps)

module _ (image : List ℕ) (f g : Found) (s : Course) (b : ℕ) (st : Stands image f s) where
  -- what of the walk is kept for later
  record IsLater (w : Walk) : Type 0 where
    node : (n : ℕ) → slice_index g.nodes.items n ≡ node_block w n
    count : length g.nodes.items ≡ suc (heads w)
    few : length g.nodes.items ≤ suc (length f.nodes.items)
    parent : (n : ℕ) → slice_index g.parents.items n ≡ parent_node w n
    parents : length g.parents.items ≡ suc (heads w)
    places : g.places.items ≡ places_of w

  same_later : (r : Role) → ((m c : ℕ) → node_block_of m r b c ≡ c) → head_count r (heads s.walk) ≡ heads s.walk
      → ((m c : ℕ) → parent_by m r c ≡ c) → ((cs : List ChainPlace) → with_place r cs ≡ cs) → AreSame f g
      → IsLater ((r, b) ∷ s.walk)
  same_later r node head parent place e = grind (arith, common_steps)

  later : (part : Part) → IsNumbered s.walk (role_of part) → IsKept part b f g → IsLater ((role_of part, b) ∷ s.walk)
  later part h k = grind (arith, common_steps, node_snoc, snoc_length, same_later)

  -- a part is taken
  pub stands_taken : (part : Part) → IsNumbered s.walk (role_of part) → 2 ≤ b → b < blocks image → owns s.walk b ≡ false → IsTaken part b f g
      → Stands image g (record { walk = (role_of part, b) ∷ s.walk; skipped = s.skipped; findings = s.findings })
  stands_taken part fit lo lt none t =
      let o : Owner = owner_of (role_of part) in
      let free = free_is st.owners b lo none in
      let count = count_more f.owners.owners b o (omega (arith, lt, st.owners.size)) (part_owns (role_of part)) free in
      let many = ap owned_count t.owned.owners in
      let l = later part fit t.kept in
      record {
        pages = pages_more f.pages g.pages s.walk part b t.owned.pages st.pages;
        owners = owned_more (blocks image) f.owners g.owners s.walk (role_of part) b lt t.owned.owners t.owned.node st.owners;
        skipped = subst (λ (v : Vec Bool). AreSkipped (blocks image) v.items s.skipped) (sym t.owned.skipped) st.skipped;
        left = omega (arith, many, count, t.owned.left, st.left);
        node = l.node;
        count = l.count;
        few = omega (arith, l.few, t.owned.left, st.few);
        parent = l.parent;
        parents = l.parents;
        places = l.places;
      }

  -- what is taken stays so, whatever is skipped and reported
  stands_else : (over : Walk) (fs : List FindingValue) → g ≡ record f { skipped = g.skipped }
      → AreSkipped (blocks image) g.skipped.items over
      → Stands image g (record { walk = s.walk; skipped = over; findings = fs })
  stands_else over fs rest skipped = grind (arith, common_steps, stands_but)

  -- a part is skipped
  pub stands_skipped : (r : Role) → IsBlockSkipped b f g
      → Stands image g (record { walk = s.walk; skipped = (r, b) ∷ s.skipped; findings = s.findings })
  stands_skipped r t = grind (arith, common_steps, stands_else, avoided_more)
