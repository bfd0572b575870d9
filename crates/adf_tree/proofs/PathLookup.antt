-- Where paths lead after an addition.
-- Letters: l the letters whose case is ignored.
use Rattle.std.proofs.Common.{◌≡◌, ◌≢◌, ℕ, ◌+◌, ◌⊎◌, inl, inr, List, [], ◌∷◌, ◌++◌, Option, Some, None, sym, refl, ◌∙◌, ap, arith, option_map}
use Rattle.std.specs.Str.{bytes_eq}
use Rattle.std.proofs.lemmas.Bool.{cases_Bool, cases_eq, both_ways, false_from_ne_true}
use Rattle.std.proofs.{lemmas.Slice.Eq.bytes_eq-Decides, lemmas.Grind.common_steps}
use Rattle.adf_base.specs.declared.hash.Letters.{Letters, TheVariants.Ascii}
use Rattle.adf_tree.specs.declared.entry.Entry.{Entry}
use Rattle.adf_names.specs.Texts.{uppers_by}
use Rattle.adf_tree.specs.Tree.{place_by, rank_by, moved, added_by, child_by, find_from_by, IsTreeBy, MayAddBy}
use Rattle.adf_tree.proofs.ChildLookup.{child_new, child_of_new, child_other, child_says_by, no_children_by, parent_stays}

-- one name more
abbrev pub then_find_by : Letters → List Entry → List (List ℕ) → Option ℕ → Option ℕ
then_find_by l es names o = elim o [ None ↦ None | Some n ↦ find_from_by l es n names ]

-- a path goes to the new entry: its names before the last lead to the parent, and the last one is its name
pub record GoesToNew (l : Letters) (es : List Entry) (e : Entry) (p : ℕ) (q : List (List ℕ)) : Type 0 where
  pub front : List (List ℕ)
  pub last : List ℕ
  pub is : q ≡ front ++ last ∷ []
  pub leads : find_from_by l es p front ≡ Some e.parent
  pub same : uppers_by l e.name ≡ uppers_by l last
  pub new : find_from_by l (added_by l es e) (moved (place_by l es (rank_by l e) + 1) p) q ≡ Some (place_by l es (rank_by l e) + 1)
  pub old : find_from_by l es p q ≡ None

-- a path leads where it led, or to the new entry
abbrev pub Leads : Letters → List Entry → Entry → ℕ → List (List ℕ) → Type 0
Leads l es e p q =
    let n : ℕ = place_by l es (rank_by l e) + 1 in
    (find_from_by l (added_by l es e) (moved n p) q ≡ option_map (moved n) (find_from_by l es p q)) ⊎ GoesToNew l es e p q

-- the parent has no child of the new entry's name yet
nothing_yet : (l : Letters) (es : List Entry) (e : Entry) (p : ℕ) (x : List ℕ) → MayAddBy l es e → p ≡ e.parent → uppers_by l e.name ≡ uppers_by l x
    → child_by l es p x ≡ None
nothing_yet l es e p x may here same = grind (arith, common_steps, no_children_by, false_from_ne_true, child_says_by)

new_there : (l : Letters) (es : List Entry) (e : Entry) (p : ℕ) (x : List ℕ) → IsTreeBy l es → MayAddBy l es e → p ≡ e.parent
    → uppers_by l e.name ≡ uppers_by l x
    → child_by l (added_by l es e) (moved (place_by l es (rank_by l e) + 1) p) x ≡ Some (place_by l es (rank_by l e) + 1)
new_there l es e p x t may here same = rw (here, parent_stays es e t may.parent) (child_new es e x t may same)

at_new : (l : Letters) (es : List Entry) (e : Entry) (p : ℕ) (x : List ℕ) (xs : List (List ℕ)) → IsTreeBy l es → MayAddBy l es e → p ≡ e.parent
    → uppers_by l e.name ≡ uppers_by l x
    → Leads l es e p (x ∷ xs)
at_new l es e p x [] t may here same =
    inr (record {
      front = [];
      last = x;
      is = refl;
      leads = ap Some here;
      same = same;
      new = ap (then_find_by l (added_by l es e) []) (new_there l es e p x t may here same);
      old = ap (then_find_by l es []) (nothing_yet l es e p x may here same);
    })
at_new l es e p x (y ∷ ys) t may here same = grind (arith, common_steps, new_there, option_map, nothing_yet, child_of_new es e y t may.parent)

pub leads : (l : Letters) (es : List Entry) (e : Entry) (p : ℕ) (q : List (List ℕ)) → IsTreeBy l es → MayAddBy l es e → Leads l es e p q
leads l es e p [] t may = inl refl
leads l es e p (x ∷ xs) t may =
    let go : (p ≡ e.parent → uppers_by l e.name ≢ uppers_by l x) → Leads l es e p (x ∷ xs) =
    λ other.
    let n : ℕ = place_by l es (rank_by l e) + 1 in
    (elim (child_by l es p x) as (λ o. child_by l es p x ≡ o → child_by l (added_by l es e) (moved n p) x ≡ option_map (moved n) o
    → Leads l es e p (x ∷ xs)) [
      | None ↦ λ was at. inl (ap (then_find_by l (added_by l es e) xs) at ∙ sym (ap (λ o. option_map (moved n) (then_find_by l es xs o)) was))
      | Some m ↦ λ was at.
          elim (leads l es e m xs t may) [
            | inl h ↦ inl (ap (then_find_by l (added_by l es e) xs) at ∙ (h ∙ sym (ap (λ o. option_map (moved n) (then_find_by l es xs o)) was)))
            | inr g ↦ inr (record {
              front = x ∷ g.front;
              last = g.last;
              is = ap (λ zs. x ∷ zs) g.is;
              leads = ap (then_find_by l es g.front) was ∙ g.leads;
              same = g.same;
              new = ap (then_find_by l (added_by l es e) xs) at ∙ g.new;
              old = ap (then_find_by l es xs) was ∙ g.old;
            })
          ]
    ]) refl (child_other es e p x t may other) in
    elim (cases_eq p e.parent) [
      | inr far ↦ go (λ h. absurd (far h))
      | inl here ↦
          elim (cases_Bool (bytes_eq (uppers_by l e.name) (uppers_by l x))) [
            | inl same ↦ at_new l es e p x xs t may here ((bytes_eq-Decides (uppers_by l e.name) (uppers_by l x)).0 same)
            | inr other ↦ go (λ _ h. both_ways (bytes_eq (uppers_by l e.name) (uppers_by l x)) other
                ((bytes_eq-Decides (uppers_by l e.name) (uppers_by l x)).1 h))
          ]
    ]

-- by ASCII letters
abbrev pub then_find : List Entry → List (List ℕ) → Option ℕ → Option ℕ
then_find = then_find_by Ascii
