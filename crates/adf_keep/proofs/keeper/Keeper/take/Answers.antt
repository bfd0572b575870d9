use Rattle.std.proofs.Common.{◌≡◌, ◌∷◌, ◌++◌, ◌∙◌, [], List, ℕ, refl, subst, sym, ap, is_some, false}
use Rattle.std.proofs.lemmas.Result.{on_ok_weaker}
use Rattle.adf_tree.specs.Additions.{Addition}
use Rattle.adf_blocks.specs.Sizes.{blocks}
use Rattle.adf_keep.specs.{Marks.AreClaimed, Entry.IsEntryOf, Reasons.IsEntryFault, State.IsPlaceOf}
use Rattle.adf_keep.specs.declared.proposal.Why.TheVariants.{NameTaken, NoDirectory}
use Rattle.adf_keep.specs.Verdicts.{kept_blocks, dir_path, IsVerdictFor.is_left_out, EntryVerdict.leaves}
use Rattle.adf_keep.proofs.FileForms.{at_err, at_none, at_ok}
use Rattle.adf_keep.proofs.KeeperSteps.{fault_reason, has_room, name_taken, place_none, place_some, settled, with_marks}
use Rattle.adf_keep.proofs.keeper.Keeper.take.Goals as goal

pub returns-in_default : goal.returns-in_default
returns-in_default c = λ g vs is.
    let place = subst (IsPlaceOf c.args.self.now.draft (dir_path vs c.args.p.now.directory)) (sym c.place_of.ensures ∙ c.in_default.is)
    (is.keeper.places c.args.p.now.directory) in
    let none = place_none c.args.self.now.draft (dir_path vs c.args.p.now.directory) place in
    on_ok_weaker c.leave.result (λ s. (leaves NoDirectory, is_left_out NoDirectory none, s)) (c.leave.ensures g vs is)

pub returns-in_default-room_in : goal.returns-in_default-room_in
returns-in_default-room_in c = λ g vs is.
    let place = subst (IsPlaceOf c.args.self.now.draft (dir_path vs c.args.p.now.directory)) (sym c.place_of.ensures ∙ c.in-Some.is)
    (is.keeper.places c.args.p.now.directory) in
    let at = place_some c.args.self.now.draft (dir_path vs c.args.p.now.directory) c.in-Some.directory place in
    let none : is_some c.room_in.result ≡ false = ap is_some c.in_default-room_in.is in
    let taken = name_taken g vs c.args.self.now.draft (at.0 ++ c.args.p.now.name ∷ []) is.keeper.tree
    (at_none c.room_in.result _ none (c.room_in.ensures.none at.0 at.2)) in
    on_ok_weaker c.leave-in_default-room_in.result (λ s. (leaves NameTaken, is_left_out NameTaken (at.0, at.1, taken), s))
    (c.leave-in_default-room_in.ensures g vs is)

pub put-requires-clause-room : goal.put-requires-clause-room
put-requires-clause-room c =
    let g = c.requires.0 in
    let vs = c.requires.1 in
    let is = c.requires.2 in
    let place = subst (IsPlaceOf c.args.self.now.draft (dir_path vs c.args.p.now.directory)) (sym c.place_of.ensures ∙ c.in-Some.is)
    (is.keeper.places c.args.p.now.directory) in
    let at = place_some c.args.self.now.draft (dir_path vs c.args.p.now.directory) c.in-Some.directory place in
    (at.0 ++ c.args.p.now.name ∷ [], c.in-Some-room_in.ensures.some at.0 at.2)

pub returns-in-Ok : goal.returns-in-Ok
returns-in-Ok c = λ g vs is.
    let place = subst (IsPlaceOf c.args.self.now.draft (dir_path vs c.args.p.now.directory)) (sym c.place_of.ensures ∙ c.in-Some.is)
    (is.keeper.places c.args.p.now.directory) in
    let at = place_some c.args.self.now.draft (dir_path vs c.args.p.now.directory) c.in-Some.directory place in
    let path : List (List ℕ) = at.0 ++ c.args.p.now.name ∷ [] in
    let room = c.in-Some-room_in.ensures.some at.0 at.2 in
    let given = subst (λ i. AreClaimed (blocks i) c.args.self.now.marks.items (kept_blocks vs)) (sym is.keeper.image) is.claims in
    let found = at_ok c.in_ok-found.field-0 c.in-Ok.found _ _ c.in-Ok.is (c.in_ok-found.ensures (kept_blocks vs) given) in
    let x : Addition = record { path = path; meta = c.in-Ok.found.meta; body = c.in-Ok.found.body } in
    let of_kind = subst (λ k. IsEntryOf k c.args.self.now.image c.args.p.now.head x.meta x.body c.in-Ok.found.claimed.items) is.keeper.kind found.0 in
    let entry = subst (λ i. IsEntryOf g.tree.kind i c.args.p.now.head x.meta x.body c.in-Ok.found.claimed.items) is.keeper.image of_kind in
    let claims = subst (λ i. AreClaimed (blocks i) c.read_entry.new.marks.items (kept_blocks vs ++ c.in-Ok.found.claimed.items)) is.keeper.image found.1 in
    on_ok_weaker c.put.result
    (λ done. settled g vs c.args.p.now c.put.new.self x c.in-Ok.found.claimed.items
    (record { dir = at.0; directory = at.1; path = refl; room = has_room g vs c.args.self.now.draft path c.in-Some-room_in.room is.keeper.tree room; entry = entry }) done.0 done.1 done.2)
    (c.put.ensures g vs path (with_marks g vs c.args.self.now _ is.keeper refl refl refl refl refl refl) claims room)

pub returns-in-Err : goal.returns-in-Err
returns-in-Err c = λ g vs is.
    let given = subst (λ i. AreClaimed (blocks i) c.args.self.now.marks.items (kept_blocks vs)) (sym is.keeper.image) is.claims in
    let found = at_err c.in_ok-found.field-0 c.in-Err.why _ _ c.in-Err.is (c.in_ok-found.ensures (kept_blocks vs) given) in
    let of_kind = subst (λ k. IsEntryFault k c.args.self.now.image (kept_blocks vs) c.args.p.now.head c.in-Err.why) is.keeper.kind found.0 in
    let fault = subst (λ i. IsEntryFault g.tree.kind i (kept_blocks vs) c.args.p.now.head c.in-Err.why) is.keeper.image of_kind in
    let reason = fault_reason g vs c.args.p.now c.in-Err.why fault in
    on_ok_weaker c.leave-in-Err.result (λ s. (leaves c.in-Err.why, is_left_out c.in-Err.why reason, s)) (c.leave-in-Err.ensures g vs (record {
      keeper = with_marks g vs c.args.self.now _ is.keeper refl refl refl refl refl refl;
      claims = subst (λ i. AreClaimed (blocks i) c.read_entry.new.marks.items (kept_blocks vs)) is.keeper.image found.1;
    }))
