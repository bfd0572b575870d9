-- Each edit that is applied keeps room.
use Rattle.std.proofs.Common.{◌≡◌, ℕ, List, Option, Some, arith}
use Rattle.std.proofs.lemmas.Grind.{common_steps}
use Rattle.adf_tree.specs.Additions.{Addition, AllHaveRoom}
use Rattle.adf_edits.specs.Outline.{OutlineValue}
use Rattle.adf_edits.specs.Edits.{EditValue, edited, edited_additions, with_additions}
use Rattle.adf_edits.proofs.{MovesKept.move_kept, RoomKept.change_kept, RoomKept.label_kept, RoomKept.new_kept, RoomKept.remove_kept, RoomKept.replace_kept}

pub edit_kept : (edit : EditValue) (given : List ℕ) (xs ys : List Addition) → AllHaveRoom xs → edited_additions edit given xs ≡ Some ys
    → AllHaveRoom ys
edit_kept edit given xs ys h k = grind (arith, common_steps, remove_kept, move_kept, new_kept, replace_kept, change_kept, label_kept)

additions_made : (o p : OutlineValue) (text : List ℕ) (r : Option (List Addition)) → with_additions o text r ≡ Some p
    → r ≡ Some p.additions
additions_made o p text r h = grind (arith, common_steps)

pub outline_kept : (edit : EditValue) (given : List ℕ) (o p : OutlineValue) → AllHaveRoom o.additions → edited edit given o ≡ Some p
    → AllHaveRoom p.additions
outline_kept edit given o p room h = grind (arith, common_steps, edit_kept, additions_made)
