use Rattle.std.proofs.Common.{◌≡◌, ◌∙◌, ℕ, Bool, false, List, [], ◌∷◌, inr, refl, sym}
use Rattle.adf_shelf_cmd.specs.{declared.batch.Stop.TheVariants.NoMemory, Names.are_unread}
use Rattle.adf_shelf_cmd.proofs.Progress.{nothing_written}
use Rattle.adf_shelf_cmd.proofs.runner.run.Goals as goal

-- names are read where nothing has failed
unfailed : (names : List (List ℕ)) (failed : Bool) → failed ≡ false → are_unread names failed ≡ false
unfailed [] failed e = e
unfailed (name ∷ names) failed e = refl

pub returns-in-Err-NoMemory-clause-ends : goal.returns-in-Err-NoMemory-clause-ends
returns-in-Err-NoMemory-clause-ends g c = λ order asks. (
  false,
  λ reads. sym (unfailed order.files _ reads),
  inr (NoMemory, refl, refl, c.requires.writes, nothing_written _ _ _ _ c.requires.writes),
)

pub returns-in-Ok-clause-ends : goal.returns-in-Ok-clause-ends
returns-in-Ok-clause-ends g c = λ order asks.
    let same : order ≡ c.in-Ok.order = sym (asks.1) ∙ c.in-Ok.ensures.ok.1 in
    (are_unread order.files c.run_order.new.input.failed, λ reads. refl, rw same c.run_order.ensures.ends)
