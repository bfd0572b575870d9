-- Where paths lead in a draft.
-- Letters: l the letters whose case is ignored.
use Rattle.std.proofs.Common.{◌≡◌, ℕ, ◌+◌, ◌-◌, ◌<◌, ◌≤◌, inl, inr, List, length, get_or, drop, Bool, Option, Some, None, Result, Err, arith, ap, if◌then◌else◌}
use Rattle.std.proofs.{Common.option_map, lemmas.Bool.cases_eq, lemmas.Bool.ne_eqb, lemmas.List.drop_more}
use Rattle.adf_base.specs.declared.hash.Letters.{Letters, TheVariants.Ascii}
use Rattle.adf_tree.specs.{declared.entry.Entry.Entry, Tree.directory_from_by, Tree.is_dir, Tree.is_dir_body}
use Rattle.adf_tree.specs.declared.tree.RoomFault.{RoomFault, TheVariants.NoParent, TheVariants.ParentIsFile}
use Rattle.adf_names.specs.Texts.{uppers_by}
use Rattle.adf_drafts.specs.{ChildMap.number_in, ChildMap.Numbers, Draft.addition_node, Draft.built, Draft.IsDraft, Draft.IsNumberedTree, Draft.NumberedTree}
use Rattle.adf_drafts.proofs.DraftInvariant.{some_node}
use Rattle.adf_tree.proofs.{Lists.some_in, PathContents.entry_at}

-- an addition is a directory where its entry in the tree is one
pub dir_at : (es : List Entry) (n : ℕ) (d : Entry) → 0 < n → n ≤ length es → is_dir es n ≡ is_dir_body (get_or es (n - 1) d).body
dir_at es n d some le = rw (entry_at es n d some le, ne_eqb n 0 (omega arith))

pub dir_same : {l : Letters} (drafts : List Entry) (w : NumberedTree) (m : ℕ) → IsNumberedTree l drafts w → m ≤ length drafts
    → is_dir w.entries (addition_node w.nodes m) ≡ is_dir drafts m
dir_same {l} drafts w m h le =
    elim (cases_eq m 0) [
      | inl z ↦ rw z
      | inr nz ↦
          let d : Entry = some_in drafts (omega arith) in
          let some = some_node drafts w m h (omega arith) le in
          rw (dir_at w.entries (addition_node w.nodes m) d some (omega (arith, h.within m le, h.count)), h.entries m d (omega arith) le)
          (rw (dir_at drafts m d (omega arith) le))
    ]

-- one name of a path
abbrev pub past_by : Letters → List Entry → List (List ℕ) → Option ℕ → Result ℕ RoomFault
past_by l es names o = elim o [ None ↦ Err NoParent | Some n ↦ if is_dir es n then directory_from_by l es n names else Err ParentIsFile ]

-- what a look-up says of the next name of a path
module _ {l : Letters} {drafts : List Entry} {numbers : Numbers} (path : List (List ℕ)) (i : ℕ) {m : ℕ} {name : List ℕ} (h : IsDraft l drafts numbers)
    (le : m ≤ length drafts) (lt : i < length path) (is : name ≡ get_or path i name) where
  step_is : {o : Option ℕ} → number_in numbers m (uppers_by l name) ≡ o
      → directory_from_by l (built l drafts).entries (addition_node (built l drafts).nodes m) (drop i path)
      ≡ past_by l (built l drafts).entries (drop (i + 1) path) (option_map (addition_node (built l drafts).nodes) o)
  step_is at = rw (drop_more path i name lt, ← is) (ap (past_by l (built l drafts).entries (drop (i + 1) path)) (rw at at (h.found.found m name le)))

  pub step_none : number_in numbers m (uppers_by l name) ≡ None
      → directory_from_by l (built l drafts).entries (addition_node (built l drafts).nodes m) (drop i path) ≡ Err NoParent
  step_none at = step_is at

  pub step_within : {n : ℕ} → number_in numbers m (uppers_by l name) ≡ Some n → n ≤ length drafts
  step_within {n} at = (h.found.within m n (uppers_by l name) at).1

  pub step_to : {n : ℕ} {b : Bool} → number_in numbers m (uppers_by l name) ≡ Some n → is_dir drafts n ≡ b
      → directory_from_by l (built l drafts).entries (addition_node (built l drafts).nodes m) (drop i path)
      ≡ (if b then directory_from_by l (built l drafts).entries (addition_node (built l drafts).nodes n) (drop (i + 1) path) else Err ParentIsFile)
  step_to {n} at is_one = rw (step_is at, dir_same drafts (built l drafts) n h.gives (step_within at), is_one)

-- by ASCII letters
abbrev pub past : List Entry → List (List ℕ) → Option ℕ → Result ℕ RoomFault
past = past_by Ascii
