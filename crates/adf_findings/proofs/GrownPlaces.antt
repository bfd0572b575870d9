-- Places that are given: when nodes are begun, what was kept is the same owner still.
-- Letters: p, q places that are given; xs starts, x a start; c how many; n a node; i a place; k a number of a block, or an owner as it is kept.
use Rattle.std.specs.{Prelude.count_by, Global.Vec, List.All}
use Rattle.std.proofs.Common.{◌≡◌, ℕ, zero, suc, List, [], ◌∷◌, ◌++◌, ◌+◌, ◌-◌, ◌<◌, ◌≤◌, ◌^◌, inl, inr, length, get_or, map, replicate, set, nat_le, refl, sym}
use Rattle.std.proofs.Common.{ap, subst, ◌∙◌, arith}
use Rattle.std.proofs.{lemmas.Bool.cases_lt, lemmas.Bool.lt-leb, lemmas.List.Sorted.IsNonDecreasingBy-from_default, lemmas.Grind.common_steps}
use Rattle.std.proofs.lemmas.List.{get_or-append_right, get_or_append_left, length-append, length-replicate, map-set, Sums.count_by-le-length}
use Rattle.adf_volume.specs.declared.owner.Owner.{Owner}
use Rattle.adf_volume.specs.declared.owner.Owner.TheVariants as owner
use Rattle.adf_findings.specs.declared.given_places.GivenPlaces.{GivenPlaces}
use Rattle.adf_volume.specs.{declared.kept_owner.KeptOwner.KeptOwner, declared.node_start.NodeStart.NodeStart, KeptOwner.boot_owner, KeptOwner.is_claimed}
use Rattle.adf_volume.specs.{KeptOwner.kept_at, KeptOwner.no_owner, OwnerClass.is_part_class, Owners.is_part, Owners.owner_at}
use Rattle.adf_volume.specs.declared.owner_class.OwnerClass.{OwnerClass, TheVariants.Free, TheVariants.Ext, TheVariants.Data}
use Rattle.adf_volume.specs.Places.{AreStarts, first_data, first_ext, last_start, owner_kept, owner_with, start_of}
use Rattle.adf_findings.specs.WalkOwners.{AreFit, AreGrown, IsGiven, IsInside, IsKeptBy}
use Rattle.adf_volume.proofs.KeptPlaces.{last_is}

at_replicate : (c : ℕ) (x : NodeStart) (n : ℕ) (d : NodeStart) → n < c → get_or (replicate c x) n d ≡ x
at_replicate zero x n d lt = absurd (omega (arith, lt))
at_replicate (suc c) x zero d lt = refl
at_replicate (suc c) x (suc n) d lt = at_replicate c x n d (omega (arith, lt))

module _ (xs : List NodeStart) (c : ℕ) (x : NodeStart) where
  abbrev more : List NodeStart
  more = xs ++ replicate c x

  many : length more ≡ length xs + c
  many = omega (arith, length-append xs (replicate c x), length-replicate c x)

  -- the start of a node that was begun, and of one that is begun
  start_left : (n : ℕ) → n < length xs → start_of more n ≡ start_of xs n
  start_left n lt = get_or_append_left xs (replicate c x) (record { exts = 0; datas = 0 }) n lt

  start_right : (n : ℕ) → length xs ≤ n → n < length more → start_of more n ≡ x
  start_right n le lt = grind (arith, common_steps, get_or-append_right, at_replicate, many)

  -- no node that is begun behind a place is the last one whose blocks begin there
  none_more : (first : NodeStart → ℕ) (c i : ℕ) → i < first x → count_by (λ s. nat_le (first s) i) (replicate c x) ≡ 0
  none_more first zero i lt = refl
  none_more first (suc c) i lt = grind (arith, common_steps, nat_le, lt-leb, none_more first c i lt)

  as_many : (first : NodeStart → ℕ) (ys : List NodeStart) (i : ℕ) → i < first x
      → count_by (λ s. nat_le (first s) i) (ys ++ replicate c x) ≡ count_by (λ s. nat_le (first s) i) ys
  as_many first [] i lt = none_more first c i lt
  as_many first (y ∷ ys) i lt = let rest = as_many first ys i lt in grind (arith, common_steps)

  same_last : (first : NodeStart → ℕ) (i : ℕ) → i < first x → last_start first more i ≡ last_start first xs i
  same_last first i lt = ap (λ n. n - 1) (as_many first xs i lt)

  -- starts in order, where all come before those that are begun
  starts_more : (first : NodeStart → ℕ) → AreStarts first xs → ((n : ℕ) → n < length xs → first (start_of xs n) ≤ first x) → AreStarts first more
  starts_more first are up = record {
    some = omega (arith, are.some, many);
    zero = ap first (start_left 0 are.some) ∙ are.zero;
    rising = IsNonDecreasingBy-from_default first more (record { exts = 0; datas = 0 }) (λ i j le lt. elim (cases_lt j (length xs)) [
      | inl in' ↦
          let a = ap first (start_left i (omega (arith, le, in'))) in
          let b = ap first (start_left j in') in
          let r = are.rising i j (record { exts = 0; datas = 0 }) le in' in omega (arith, a, b, r)
      | inr past ↦
          let b = ap first (start_right j past lt) in
          elim (cases_lt i (length xs)) [
            | inl in' ↦ let a = ap first (start_left i in') in omega (arith, a, b, up i in')
            | inr past ↦ let a = ap first (start_right i past (omega (arith, le, lt))) in omega (arith, a, b)
          ]
    ]);
  }

-- what is so of the starts, of how many places are given, and of an owner that was kept
module _ (p : GivenPlaces) (fit : AreFit p) (c : ℕ) where
  abbrev xs : List NodeStart
  xs = p.starts.items

  abbrev x : NodeStart
  x = record { exts = p.exts; datas = p.datas }

  abbrev zs : List NodeStart
  zs = xs ++ replicate c x

  ends_more : (n : ℕ) → n < length zs → ((start_of zs n).exts ≤ p.exts) × ((start_of zs n).datas ≤ p.datas)
  ends_more n lt = grind (arith, common_steps, cases_lt, start_left, start_right)

  same_kept : (class : OwnerClass) (i : ℕ) → IsGiven p.exts p.datas class i → owner_with zs class i ≡ owner_with xs class i
  same_kept Ext i lt =
      let n : ℕ = last_start first_ext xs i in
      let in' : n < length xs = omega (arith, count_by-le-length (λ s. nat_le (first_ext s) i) xs, fit.exts.some) in
      ap (λ n. owner.Ext n (i - (start_of zs n).exts + 1)) (same_last xs c x first_ext i lt)
      ∙ ap (λ (s : NodeStart). owner.Ext n (i - s.exts + 1)) (start_left xs c x n in')
  same_kept Data i lt =
      let n : ℕ = last_start first_data xs i in
      let in' : n < length xs = omega (arith, count_by-le-length (λ s. nat_le (first_data s) i) xs, fit.datas.some) in
      ap (λ n. owner.Data n (i - (start_of zs n).datas + 1)) (same_last xs c x first_data i lt)
      ∙ ap (λ (s : NodeStart). owner.Data n (i - s.datas + 1)) (start_left xs c x n in')
  same_kept _ i lt = refl

  -- nodes are begun
  pub begun_grown : (starts : Vec NodeStart) → starts.items ≡ zs → AreGrown p (record { starts = starts; exts = p.exts; datas = p.datas })
  begun_grown starts e = record {
    fit = record {
      exts = subst (AreStarts first_ext) (sym e) (starts_more xs c x first_ext fit.exts (λ n lt. (fit.ends n lt).0));
      datas = subst (AreStarts first_data) (sym e) (starts_more xs c x first_data fit.datas (λ n lt. (fit.ends n lt).1));
      ends = (λ n lt.
          subst (λ zs. ((start_of zs n).exts ≤ p.exts) × ((start_of zs n).datas ≤ p.datas)) (sym e)
          (ends_more n (omega (arith, lt, ap length e))));
      short = fit.short;
    };
    same = (λ k in'. subst (λ zs. owner_kept zs k ≡ owner_kept xs k) (sym e) (same_kept k.class k.place in'));
    more = (omega arith, omega arith);
  }

-- block k of the last node that is begun is kept by its place
module _ (p : GivenPlaces) (fit : AreFit p) (n k place : ℕ) (begun : length p.starts.items ≡ n + 1) (number : 1 ≤ k) (short : place < 2 ^ 29) where
  pub ext_kept : (exts : ℕ) → place ≡ (start_of p.starts.items n).exts + (k - 1) → place < exts
      → IsKeptBy (record { starts = p.starts; exts = exts; datas = p.datas }) (owner.Ext n k) (record { class = Ext; place = place })
  ext_kept exts is lt =
      let last =
      last_is first_ext p.starts.items place n fit.exts
      (record { within = omega (arith, begun); begins = omega (arith, is); last = (λ m lo hi. absurd (omega (arith, lo, hi, begun))) }) in
      record {
        owner = ap (λ m. owner.Ext m (place - (start_of p.starts.items m).exts + 1)) (sym last) ∙ ap (owner.Ext n) (omega (arith, is, number));
        inside = lt;
        short = short;
      }

  pub data_kept : (datas : ℕ) → place ≡ (start_of p.starts.items n).datas + (k - 1) → place < datas
      → IsKeptBy (record { starts = p.starts; exts = p.exts; datas = datas }) (owner.Data n k) (record { class = Data; place = place })
  data_kept datas is lt =
      let last =
      last_is first_data p.starts.items place n fit.datas
      (record { within = omega (arith, begun); begins = omega (arith, is); last = (λ m lo hi. absurd (omega (arith, lo, hi, begun))) }) in
      record {
        owner = ap (λ m. owner.Data m (place - (start_of p.starts.items m).datas + 1)) (sym last) ∙ ap (owner.Data n) (omega (arith, is, number));
        inside = lt;
        short = short;
      }

-- of a new table all blocks but two are free
pub new_owners : (xs : List NodeStart) (n : ℕ)
    → map (owner_kept xs) (boot_owner ∷ boot_owner ∷ replicate n no_owner) ≡ owner.Boot ∷ owner.Boot ∷ replicate n owner.Free
new_owners xs n = ap (λ os. owner.Boot ∷ owner.Boot ∷ os) (free n)
  where
    free : (n : ℕ) → map (owner_kept xs) (replicate n no_owner) ≡ replicate n owner.Free
    free zero = refl
    free (suc n) = ap (λ os. owner.Free ∷ os) (free n)

same_owners : (p q : GivenPlaces) → AreGrown p q → (table : List KeptOwner) → All (IsInside p.exts p.datas) table
    → map (owner_kept q.starts.items) table ≡ map (owner_kept p.starts.items) table
same_owners p q grown [] in' = refl
same_owners p q grown (k ∷ table) in' =
    let first = grown.same k (in' 0 k (omega arith)) in
    let others = same_owners p q grown table (λ n d lt. in' (suc n) d (omega (arith, lt))) in
    λ t. first t ∷ others t

-- an owner is kept for a block
pub owners_claimed : (p q : GivenPlaces) (table : List KeptOwner) (b : ℕ) (o : Owner) (k : KeptOwner) → AreGrown p q
    → All (IsInside p.exts p.datas) table → IsKeptBy q o k
    → map (owner_kept q.starts.items) (set table b k) ≡ set (map (owner_kept p.starts.items) table) b o
owners_claimed p q table b o k grown in' kept = grind (arith, common_steps, map-set, set, same_owners)

-- a part owns a block if its owner is kept as claimed
part_of : (starts : List NodeStart) (class : OwnerClass) (i : ℕ) → is_part (owner_with starts class i) ≡ is_part_class class
part_of starts class i = grind (arith, common_steps)

pub part_kept : (starts : List NodeStart) (table : List KeptOwner) (b : ℕ)
    → is_part (owner_at (map (owner_kept starts) table) b) ≡ is_claimed (kept_at table b)
part_kept starts [] b = refl
part_kept starts (k ∷ table) zero = part_of starts k.class k.place
part_kept starts (k ∷ table) (suc b) = part_kept starts table b

-- a free block is kept as one
free_with : (starts : List NodeStart) (exts datas : ℕ) (class : OwnerClass) (i : ℕ) → IsGiven exts datas class i
    → owner_with starts class i ≡ owner.Free → ◌≡◌ {A = KeptOwner} (record { class = class; place = i }) no_owner
free_with starts exts datas Free i given e = λ t. record { class = Free; place = given t }
free_with starts exts datas _ i given e = cc

pub free_kept : (starts : List NodeStart) (exts datas : ℕ) (table : List KeptOwner) (b : ℕ) → All (IsInside exts datas) table
    → owner_at (map (owner_kept starts) table) b ≡ owner.Free → kept_at table b ≡ no_owner
free_kept starts exts datas [] b inside e = refl
free_kept starts exts datas (k ∷ table) zero inside e = free_with starts exts datas k.class k.place (inside 0 k (omega arith)) e
free_kept starts exts datas (k ∷ table) (suc b) inside e =
    free_kept starts exts datas table b (λ n d lt. inside (suc n) d (omega (arith, lt))) e
