use Rattle.adf_edit_cmd.proofs.ListedDates.{other_listed, same_listed}
use Rattle.adf_edit_cmd.proofs.dates.is_listed.Goals as goal

pub returns-clause-yes : goal.returns-clause-yes
returns-clause-yes c =
    same_listed c.args.stamp c.push_stamp.new.text.items c.as_slice.result.now c.args.text.now c.eq.result
    (rw c.new-written.ensures.items at c.in_ok-push_stamp.ensures) c.as_slice.ensures.value c.eq.ensures

pub returns-clause-no : goal.returns-clause-no
returns-clause-no c =
    other_listed c.args.stamp c.push_stamp.new.text.items c.as_slice.result.now c.args.text.now c.eq.result
    (rw c.new-written.ensures.items at c.in_ok-push_stamp.ensures) c.as_slice.ensures.value c.eq.ensures
