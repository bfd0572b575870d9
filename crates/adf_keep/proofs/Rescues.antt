-- What a rescue tells of the claims.
-- Letters: cs the claims, c one; ps a proposal; vs the verdicts on it; i, m, n indices.
use Rattle.std.proofs.Common.{◌≡◌, ◌∙◌, ℕ, ◌+◌, ◌<◌, ◌≤◌, inl, inr, ◌⊎◌, List, [], ◌∷◌, ◌++◌, Some, true, get_or, length, take, arith, ap, refl, subst, sym, zero, suc}
use Rattle.std.proofs.lemmas.Bool.{cases_lt}
use Rattle.std.proofs.lemmas.List.{length-append, take_all, take_more}
use Rattle.std.proofs.lemmas.Option.{get_or_from_slice_get, slice_get-get_or, slice_get_within}
use Rattle.std.specs.List.{slice_get}
use Rattle.adf_judge.specs.{declared.judgement.Claim.Claim, declared.judgement.DeletedHeader.DeletedHeader}
use Rattle.adf_volume.specs.Lists.{In}
use Rattle.adf_tree.proofs.Lists.{get_last}
use Rattle.adf_volume.proofs.Lists.{in_cases, in_right}
use Rattle.adf_keep.specs.{Proposing.IsProposalOf, Proposing.is_proposed, Proposing.is_whole, declared.proposal.LeftOut.LeftOut, declared.proposal.Proposed.Proposed, declared.proposal.Why.Why}
use Rattle.adf_keep.specs.Rescued.{IsKeptAt, IsLeftOut, ProposesClaims, TellsClaims, TellsDeleted}
use Rattle.adf_keep.specs.Verdicts.{AreVerdicts, AreVerdicts.more, AreVerdicts.none, EntryVerdict, Setting, all_left_out, left_out_at}
use Rattle.adf_keep.specs.Verdicts.EntryVerdict.{keeps, leaves}

-- as many verdicts as entries
verdicts_long : (g : Setting) (ps : List Proposed) (vs : List EntryVerdict) → AreVerdicts g ps vs → length vs ≡ length ps
verdicts_long g _ _ none = refl
verdicts_long g _ _ (more ps vs p v before is) =
    let same : length vs ≡ length ps = verdicts_long g ps vs before in
    omega (arith, same, length-append vs (v ∷ []), length-append ps (p ∷ []))

-- an entry that is left out
abbrev left_with : Why → ℕ → LeftOut
left_with why i = record { index = i; why = why }

-- each entry is kept, or listed
verdict_told : (vs : List EntryVerdict) (n i m : ℕ) → i < length vs → m ≡ n + i → IsKeptAt vs i ⊎ IsLeftOut (all_left_out n vs) m
verdict_told [] n i m lt at = absurd (omega arith)
verdict_told (keeps x claimed ∷ vs) n zero m lt at = inl (x, claimed, refl)
verdict_told (leaves why ∷ vs) n zero m lt at =
    let same : n ≡ m = omega arith in inr (why, inl (ap (left_with why) same))
verdict_told (v ∷ vs) n (suc i) m lt at =
    elim (verdict_told vs (suc n) i m (omega arith) (omega arith)) [
      | inl kept ↦ inl kept
      | inr listed ↦ inr (listed.0, in_right (left_out_at n v) (all_left_out (suc n) vs) (left_with listed.0 m) listed.1)
    ]

pub claims_told : (g : Setting) (cs : List Claim) (ps : List Proposed) (vs : List EntryVerdict) (outs told : List LeftOut) → ProposesClaims cs ps
    → AreVerdicts g ps vs → outs ≡ all_left_out 0 vs → TellsClaims cs outs told
    → (i : ℕ) (c : Claim) → slice_get cs i ≡ Some c → is_proposed c ≡ true → IsKeptAt vs i ⊎ IsLeftOut told i
claims_told g cs ps vs outs told proposes verdicts all tells i c at proposed =
    let long : length vs ≡ length ps = verdicts_long g ps vs verdicts in
    let lt : i < length cs = slice_get_within cs i c at in
    elim (verdict_told vs 0 i i (omega (arith, long, lt, proposes.all)) (omega arith)) [
      | inl kept ↦ inl kept
      | inr listed ↦ inr (listed.0, tells (left_with listed.0 i) c (subst (λ xs. In xs (left_with listed.0 i)) (sym all) listed.1) at proposed)
    ]

pub some_same : {X : Type 0} {x y : X} → Some x ≡ Some y → x ≡ y
some_same e = cc

front_get : {X : Type 0} (xs ys : List X) (i : ℕ) → i < length xs → slice_get (xs ++ ys) i ≡ slice_get xs i
front_get [] ys i h = absurd (omega arith)
front_get (x ∷ xs) ys zero h = refl
front_get (x ∷ xs) ys (suc i) h = front_get xs ys i (omega arith)

-- a proposal with more entries behind
pub proposes_more : (cs : List Claim) (ps qs rest : List Proposed) → qs ≡ ps ++ rest → ProposesClaims cs ps → ProposesClaims cs qs
proposes_more cs ps qs rest all is =
    let long = length-append ps rest in
    record {
      all = rw all (omega (arith, long, is.all));
      each = λ i c q claim entry.
          let lt : i < length ps = omega (arith, slice_get_within cs i c claim, is.all) in
          is.each i c q claim (sym (front_get ps rest i lt) ∙ (ap (λ xs. slice_get xs i) (sym all) ∙ entry));
    }

-- the proposals of the claims before one, and of that
pub proposes_next : (cs : List Claim) (ps : List Proposed) (c : Claim) (q : Proposed) → slice_get cs (length ps) ≡ Some c → IsProposalOf c q
    → ((i : ℕ) (d : Claim) (x : Proposed) → slice_get cs i ≡ Some d → slice_get ps i ≡ Some x → IsProposalOf d x)
    → (i : ℕ) (d : Claim) (x : Proposed) → slice_get cs i ≡ Some d → slice_get (ps ++ q ∷ []) i ≡ Some x → IsProposalOf d x
proposes_next cs ps c q at here before i d x claim entry =
    elim (cases_lt i (length ps)) [
      | inl lt ↦ before i d x claim (sym (front_get ps (q ∷ []) i lt) ∙ entry)
      | inr past ↦
          let inside : i < length (ps ++ q ∷ []) = slice_get_within (ps ++ q ∷ []) i x entry in
          let last : i ≡ length ps = omega (arith, inside, length-append ps (q ∷ []), past) in
          let same_c : c ≡ d = some_same (sym at ∙ (ap (slice_get cs) (sym last) ∙ claim)) in
          let same_q : q ≡ x = some_same (sym (get_last ps q) ∙ (ap (slice_get (ps ++ q ∷ [])) (sym last) ∙ entry)) in
          subst (λ (z : Claim). IsProposalOf z x) same_c (subst (λ (z : Proposed). IsProposalOf c z) same_q here)
    ]

-- what is told of the entries before one that is left out, and of that
tells_next : (cs : List Claim) (outs : List LeftOut) (k : ℕ) (x : LeftOut) (told new : List LeftOut) → k < length outs → x ≡ get_or outs k x
    → TellsClaims cs (take k outs) told → ((y : LeftOut) → In told y → In new y)
    → ((c : Claim) → slice_get cs x.index ≡ Some c → is_proposed c ≡ true → In new x)
    → TellsClaims cs (take (k + 1) outs) new
tells_next cs outs k x told new lt at before still here y c listed claim proposed =
    let e : take (k + 1) outs ≡ take k outs ++ x ∷ [] = take_more outs k x lt ∙ ap (λ z. take k outs ++ z ∷ []) (sym at) in
    elim (in_cases (take k outs) (x ∷ []) y (subst (λ xs. In xs y) e listed)) [
      | inl earlier ↦ still y (before y c earlier claim proposed)
      | inr one ↦ elim one [
        | inl same ↦ subst (λ z. In new z) same (here c (ap (λ (z : LeftOut). slice_get cs z.index) same ∙ claim) proposed)
        | inr nothing ↦ absurd nothing
      ]
    ]

-- the same of the entry at an index
pub tells_at : (cs : List Claim) (outs : List LeftOut) (k : ℕ) (d : LeftOut) (told new : List LeftOut) → k < length outs
    → TellsClaims cs (take k outs) told → ((y : LeftOut) → In told y → In new y)
    → ((c : Claim) → slice_get cs (get_or outs k d).index ≡ Some c → is_proposed c ≡ true → In new (get_or outs k d))
    → TellsClaims cs (take (k + 1) outs) new
tells_at cs outs k d told new lt before still here =
    let x : LeftOut = get_or outs k d in
    tells_next cs outs k x told new lt (sym (get_or_from_slice_get outs k x x (slice_get-get_or outs k d lt))) before still here

-- what is told of the entries that are left out before one, and of that: each by what stands for it
pub tells_each : (W : LeftOut → LeftOut → Type 0) (outs : List LeftOut) (k : ℕ) (d : LeftOut) (told new : List LeftOut) → k < length outs
    → ((x y : LeftOut) → In (take k outs) x → W x y → In told y) → ((y : LeftOut) → In told y → In new y)
    → ((y : LeftOut) → W (get_or outs k d) y → In new y) → (x y : LeftOut) → In (take (k + 1) outs) x → W x y → In new y
tells_each W outs k d told new lt before still here x y listed is =
    let last : LeftOut = get_or outs k d in
    let same : last ≡ get_or outs k last = sym (get_or_from_slice_get outs k last last (slice_get-get_or outs k d lt)) in
    let e : take (k + 1) outs ≡ take k outs ++ last ∷ [] = take_more outs k last lt ∙ ap (λ z. take k outs ++ z ∷ []) (sym same) in
    elim (in_cases (take k outs) (last ∷ []) x (subst (λ xs. In xs x) e listed)) [
      | inl earlier ↦ still y (before x y earlier is)
      | inr one ↦ elim one [
        | inl this ↦ here y (subst (λ z. W z y) (sym this) is)
        | inr nothing ↦ absurd nothing
      ]
    ]

pub all_told : (g : Setting) (cs : List Claim) (ds : List DeletedHeader) (ps : List Proposed) (vs : List EntryVerdict) (outs told : List LeftOut)
    → length ps ≡ length cs + 1 + length ds → AreVerdicts g ps vs → outs ≡ all_left_out 0 vs → TellsDeleted ds (length cs + 1) outs told
    → (i : ℕ) (d : DeletedHeader) → slice_get ds i ≡ Some d → is_whole d ≡ true → IsKeptAt vs (length cs + 1 + i) ⊎ IsLeftOut told i
all_told g cs ds ps vs outs told all verdicts lists tells i d at whole =
    let long : length vs ≡ length ps = verdicts_long g ps vs verdicts in
    let lt : i < length ds = slice_get_within ds i d at in
    let m : ℕ = length cs + 1 + i in
    elim (verdict_told vs 0 m m (omega (arith, long, lt, all)) (omega arith)) [
      | inl kept ↦ inl kept
      | inr listed ↦ inr (
        listed.0,
        tells (left_with listed.0 m) (left_with listed.0 i) (subst (λ xs. In xs (left_with listed.0 m)) (sym lists) listed.1)
            (record { header = d; index = refl; at = at; whole = whole; reason = refl }),
      )
    ]

-- what is told of all entries that are left out
pub tells_all : (ds : List DeletedHeader) (first : ℕ) (outs : List LeftOut) (k : ℕ) (told : List LeftOut) → length outs ≤ k
    → TellsDeleted ds first (take k outs) told → TellsDeleted ds first outs told
tells_all ds first outs k told past tells = subst (λ xs. TellsDeleted ds first xs told) (take_all k outs past) tells
