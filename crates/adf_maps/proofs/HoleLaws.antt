-- Holes that are found one by one. hs are those so far, `end` is where the stretches so far end.
use Rattle.std.proofs.Common.{◌≡◌, ◌≤◌, ◌<◌, ◌+◌, ◌-◌, ◌*◌, ◌∙◌, ◌&&◌, ℕ, Bool, true, false, List, [], ◌∷◌, ◌++◌, Option, Some, None, All, ap, if◌then◌else◌, nat_le, nat_lt}
use Rattle.std.proofs.Common.{length, get_or, refl, sym, arith, append_assoc, append-nil, leb, inl, inr}
use Rattle.std.proofs.{lemmas.Bool.Decides.nat_tests}
use Rattle.std.proofs.lemmas.{Bool.cases_lt, List.get_or_default, List.Folds.list_any_at, List.Folds.list_any_none, List.Sorted.IsNonDecreasingBy-push}
use Rattle.std.specs.List.{list_any}
use Rattle.std.specs.List.Sorted.{IsPartitionPoint}
use Rattle.adf_maps.specs.Maps.{AreRising, MapValue, are_in_order, stretch_end, hole_between, holes_behind, last_end, map_with, meets, own_holes}
use Rattle.adf_maps.specs.{declared.hole.Hole.Hole, declared.stretch.Stretch.Stretch}

-- the map of holes so far and the stretches behind them
abbrev pub map_behind : List Hole → ℕ → List Stretch → Option MapValue
map_behind hs end ss = if are_in_order end ss then Some (record { holes = hs ++ holes_behind end ss; end = last_end end ss }) else None

pub map_of_all : (ss : List Stretch) → map_behind [] 0 ss ≡ map_with (Some ss)
map_of_all ss = refl

pub map_done : (hs : List Hole) (end : ℕ) → map_behind hs end [] ≡ Some (record { holes = hs; end = end })
unfolding are_in_order holes_behind last_end
map_done hs end = ap (λ all. Some (record { holes = all; end = end })) (append-nil hs)

pub stretch_taken : (hs : List Hole) (end : ℕ) (s : Stretch) (ss left : List Stretch) (all : Option MapValue) → end ≤ s.start
    → left ≡ s ∷ ss → map_behind hs end left ≡ all → map_behind ((hs ++ hole_between end s.start) ++ own_holes s) (stretch_end s) ss ≡ all
unfolding are_in_order holes_behind last_end
stretch_taken hs end s ss left all le front known =
    let h : map_behind hs end (s ∷ ss) ≡ all = ap (map_behind hs end) (sym front) ∙ known in
    let test : nat_le end s.start ≡ true = grind (arith, nat_tests) in
    let joined : ((hs ++ hole_between end s.start) ++ own_holes s) ++ holes_behind (stretch_end s) ss ≡ hs ++ holes_behind end (s ∷ ss)
    = append_assoc (hs ++ hole_between end s.start) (own_holes s) (holes_behind (stretch_end s) ss) ∙ append_assoc hs (hole_between end s.start) (own_holes s ++ holes_behind (stretch_end s) ss) in
    ap (λ all. if are_in_order (stretch_end s) ss then Some (record { holes = all; end = last_end (stretch_end s) ss }) else None) joined
    ∙ (ap (λ b. if b && are_in_order (stretch_end s) ss then Some (record { holes = hs ++ holes_behind end (s ∷ ss); end = last_end (stretch_end s) ss }) else None) (sym test) ∙ h)

pub stretch_refused : (hs : List Hole) (end : ℕ) (s : Stretch) (ss left : List Stretch) (all : Option MapValue) → s.start < end
    → left ≡ s ∷ ss → map_behind hs end left ≡ all → None ≡ all
unfolding are_in_order holes_behind last_end
stretch_refused hs end s ss left all lt front known =
    let h : map_behind hs end (s ∷ ss) ≡ all = ap (map_behind hs end) (sym front) ∙ known in
    let test : nat_le end s.start ≡ false = grind (arith, nat_tests) in
    ap (λ b. if b && are_in_order (stretch_end s) ss then Some (record { holes = hs ++ holes_behind end (s ∷ ss); end = last_end (stretch_end s) ss }) else None) (sym test) ∙ h

-- one hole more
pub rising_more : (hs : List Hole) (h : Hole) → AreRising hs → All (λ k. (k.start ≤ h.start) × (k.end ≤ h.start)) hs → h.start ≤ h.end → AreRising (hs ++ h ∷ [])
rising_more hs h rising within le = record {
  starts = IsNonDecreasingBy-push (λ k. k.start) hs h rising.starts (λ d some. (last d some).0);
  ends = IsNonDecreasingBy-push (λ k. k.end) hs h rising.ends (λ d some. omega (arith, (last d some).1));
}
  where
    last : (d : Hole) → 0 < length hs → ((get_or hs (length hs - 1) d).start ≤ h.start) × ((get_or hs (length hs - 1) d).end ≤ h.start)
    last d some = within (length hs - 1) d (omega arith)

-- the first hole that ends behind the start of a block is the one that may meet it
module _ (hs : List Hole) (b i : ℕ) (rising : AreRising hs) (point : IsPartitionPoint (λ h. leb h.end (b * 512) ≡ true) (λ h. leb h.end (b * 512) ≡ false) hs i) where
  before : (k : ℕ) (d : Hole) → k < i → meets b (get_or hs k d) ≡ false
  before k d lt = let over = point.0 k d (omega arith) lt in grind (arith, nat_tests)

  pub none_met : length hs ≤ i → false ≡ list_any (meets b) hs
  none_met le = sym (list_any_none (meets b) hs (λ k d lt. before k d (omega arith)))

  met_by : (h : Hole) → i < length hs → get_or hs i h ≡ h → (t : Bool) → nat_lt h.start (b * 512 + 512) ≡ t → t ≡ list_any (meets b) hs
  met_by h lt at true e =
      let over : leb (get_or hs i h).end (b * 512) ≡ false = point.1 i h (omega arith) lt in
      let there : leb h.end (b * 512) ≡ false = ap (λ x. leb x.end (b * 512)) (sym at) ∙ over in
      let meets_it : meets b h ≡ true = grind (arith, nat_tests) in
      sym (list_any_at (meets b) hs i h lt (ap (meets b) at ∙ meets_it))
  met_by h lt at false e = sym (list_any_none (meets b) hs (λ k d within. elim (cases_lt k i) [
    | inl less ↦ before k d less
    | inr more ↦ behind k d within more
  ]))
    where
      behind : (k : ℕ) (d : Hole) → k < length hs → i ≤ k → meets b (get_or hs k d) ≡ false
      behind k d within more =
          let same : get_or hs i d ≡ h = sym (get_or_default hs i h d lt) ∙ at in
          let later : (get_or hs i d).start ≤ (get_or hs k d).start = rising.starts i k d more within in
          let start : h.start ≤ (get_or hs k d).start = omega (arith, later, ap (λ x. x.start) same) in
          grind (arith, nat_tests)

  pub one_met : (h : Hole) → i < length hs → get_or hs i h ≡ h → nat_lt h.start (b * 512 + 512) ≡ list_any (meets b) hs
  one_met h lt at = met_by h lt at (nat_lt h.start (b * 512 + 512)) refl
