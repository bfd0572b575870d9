-- The tree of what is kept: it has what is kept and nothing else, and each of its entries is that of a proposed one.
use Rattle.std.proofs.Common.{◌≡◌, ◌∙◌, ℕ, ◌+◌, List, [], ◌∷◌, ◌++◌, inl, inr, map, take, drop, arith, refl, ap, subst, zero, suc}
use Rattle.std.proofs.{lemmas.List.Sums.fold_push, lemmas.Grind.common_steps}
use Rattle.std.proofs.lemmas.List.{append-nil}
use Rattle.std.specs.List.{flat_map}
use Rattle.adf_base.specs.declared.hash.Letters.{Letters}
use Rattle.adf_tree.specs.{Additions.Addition, Additions.IsTreeOfBy, Additions.entries_of_additions_by, declared.entry.Entry.Entry}
use Rattle.adf_tree.specs.Tree.{Tree, added_by, last_of, moved_entry, new_entry_by, place_by, rank_by}
use Rattle.adf_tree.proofs.TreeOfAdditions.{grown, nothing_added_by}
use Rattle.adf_volume.specs.Lists.{In}
use Rattle.adf_volume.proofs.Lists.{in_cases, in_left, in_right}
use Rattle.adf_judge.specs.{declared.judgement.Claim.Claim, declared.judgement.DeletedHeader.DeletedHeader, declared.judgement.Reading.Reading}
use Rattle.adf_keep.specs.{Rescued.IsRescued, declared.prepared.Prepared.Prepared, declared.prepared.RescueTerms.RescueTerms}
use Rattle.adf_keep.specs.{Kept.IsOfProposal, declared.proposal.Proposed.Proposed}
use Rattle.adf_keep.specs.Verdicts.{AreVerdicts, AreVerdicts.more, AreVerdicts.none, Setting, IsVerdictFor.is_kept, IsVerdictFor.is_left_out, EntryVerdict, kept_tree, kept_addition}
use Rattle.adf_keep.specs.Verdicts.EntryVerdict.{keeps, leaves}
use Rattle.adf_keep.proofs.KeeperSteps.{additions_more}

-- the tree after one more verdict
pub entries_kept : (g : Setting) (vs : List EntryVerdict) (x : Addition) (claimed : List ℕ) → (kept_tree g (vs ++ keeps x claimed ∷ [])).entries
    ≡ added_by g.tree.letters (kept_tree g vs).entries (new_entry_by g.tree.letters (kept_tree g vs).entries x.path x.meta x.body)
entries_kept g vs x claimed = grind (arith, additions_more, fold_push)

pub entries_same : (g : Setting) (vs : List EntryVerdict) (v : EntryVerdict) → kept_addition v ≡ []
    → (kept_tree g (vs ++ v ∷ [])).entries ≡ (kept_tree g vs).entries
entries_same g vs v nothing = ap (entries_of_additions_by g.tree.letters) (additions_more vs v ∙ (ap (λ xs. flat_map kept_addition vs ++ xs) nothing
    ∙ append-nil (flat_map kept_addition vs)))

-- it has what is kept and nothing else
pub kept_is_tree : (g : Setting) (ps : List Proposed) (vs : List EntryVerdict) → AreVerdicts g ps vs
    → IsTreeOfBy g.tree.letters (kept_tree g vs).entries (flat_map kept_addition vs)
kept_is_tree g _ _ none = nothing_added_by g.tree.letters
kept_is_tree g _ _ (more ps vs p v before (is_kept x claimed found)) =
    rw (entries_kept g vs x claimed, additions_more vs (keeps x claimed))
    (grown (kept_tree g vs).entries (flat_map kept_addition vs) x (kept_is_tree g ps vs before) found.room)
kept_is_tree g _ _ (more ps vs p v before (is_left_out why reason)) =
    rw (entries_same g vs (leaves why) refl, additions_more vs (leaves why), append-nil (flat_map kept_addition vs)) (kept_is_tree g ps vs before)

-- members of lists

in_take : {X : Type 0} (n : ℕ) (xs : List X) (x : X) → In (take n xs) x → In xs x
in_take zero [] x h = absurd h
in_take zero (y ∷ ys) x h = absurd h
in_take (suc n) [] x h = absurd h
in_take (suc n) (y ∷ ys) x (inl e) = inl e
in_take (suc n) (y ∷ ys) x (inr h) = inr (in_take n ys x h)

in_drop : {X : Type 0} (n : ℕ) (xs : List X) (x : X) → In (drop n xs) x → In xs x
in_drop zero xs x h = h
in_drop (suc n) [] x h = absurd h
in_drop (suc n) (y ∷ ys) x h = inr (in_drop n ys x h)

in_unmap : {X Y : Type 0} (f : X → Y) (xs : List X) (y : Y) → In (map f xs) y → (x : X) × In xs x × (f x ≡ y)
in_unmap f [] y h = absurd h
in_unmap f (z ∷ zs) y (inl e) = (z, inl refl, e)
in_unmap f (z ∷ zs) y (inr h) = let r = in_unmap f zs y h in (r.0, inr r.1, r.2)

-- each entry is that of a proposed one, with one more
module _ (g : Setting) (ps : List Proposed) where
  moved_of : (n : ℕ) (e : Entry) → IsOfProposal g ps e → IsOfProposal g ps (moved_entry n e)
  moved_of n e is = record { from = is.from; proposed = is.proposed; name = is.name; claimed = is.claimed; entry = is.entry }

  added_of : (letters : Letters) (es : List Entry) (new e : Entry) → ((x : Entry) → In es x → IsOfProposal g ps x) → IsOfProposal g ps new
      → In (added_by letters es new) e → IsOfProposal g ps e
  added_of letters es new e old here at =
      let i : ℕ = place_by letters es (rank_by letters new) in
      elim (in_cases (take i es) (new ∷ map (moved_entry (i + 1)) (drop i es)) e at) [
        | inl before ↦ old e (in_take i es e before)
        | inr (inl same) ↦ subst (IsOfProposal g ps) same here
        | inr (inr behind) ↦
            let r = in_unmap (moved_entry (i + 1)) (drop i es) e behind in
            subst (IsOfProposal g ps) r.2 (moved_of (i + 1) r.0 (old r.0 (in_drop i es r.0 r.1)))
      ]

widened : (g : Setting) (ps : List Proposed) (p : Proposed) (e : Entry) → IsOfProposal g ps e → IsOfProposal g (ps ++ p ∷ []) e
widened g ps p e is = record {
  from = is.from;
  proposed = in_left ps (p ∷ []) is.from is.proposed;
  name = is.name;
  claimed = is.claimed;
  entry = is.entry;
}

last_name : (dir : List (List ℕ)) (name : List ℕ) → last_of (dir ++ name ∷ []) ≡ name
last_name dir name = grind (arith, common_steps)

pub kept_is_proposed : (g : Setting) (ps : List Proposed) (vs : List EntryVerdict) → AreVerdicts g ps vs → (e : Entry) → In (kept_tree g vs).entries e
    → IsOfProposal g ps e
kept_is_proposed g _ _ none e at = absurd at
kept_is_proposed g _ _ (more ps vs p v before (is_kept x claimed found)) e at =
    let es : List Entry = (kept_tree g vs).entries in
    let new : Entry = new_entry_by g.tree.letters es x.path x.meta x.body in
    added_of g (ps ++ p ∷ []) g.tree.letters es new e (λ y there. widened g ps p y (kept_is_proposed g ps vs before y there))
    (record {
      from = p;
      proposed = in_right ps (p ∷ []) p (inl refl);
      name = ap last_of found.path ∙ last_name found.dir p.name;
      claimed = claimed;
      entry = found.entry;
    }) (subst (λ (es : List Entry). In es e) (entries_kept g vs x claimed) at)
kept_is_proposed g _ _ (more ps vs p v before (is_left_out why reason)) e at =
    widened g ps p e (kept_is_proposed g ps vs before e (subst (λ (es : List Entry). In es e) (entries_same g vs (leaves why) refl) at))

-- so is each entry of a rescue
pub rescued_is_proposed : (input : List ℕ) (reading : Reading) (cs : List Claim) (ds : List DeletedHeader) (terms : RescueTerms) (p : Prepared)
    → (r : IsRescued input reading cs ds terms p) → (e : Entry) → In p.tree.entries e → IsOfProposal r.setting r.ps e
rescued_is_proposed input reading cs ds terms p r e listed =
    kept_is_proposed r.setting r.ps r.vs r.verdicts e (subst (λ (t : Tree). In t.entries e) r.tree listed)
