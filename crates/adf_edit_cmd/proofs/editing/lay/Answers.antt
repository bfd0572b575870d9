use Rattle.std.proofs.Common.{◌≡◌, length, drop, arith}
use Rattle.adf_edit_cmd.proofs.EditSteps.{laid_over, whole_block}
use Rattle.adf_edit_cmd.proofs.editing.lay.Goals as goal

pub returns-in-Ok : goal.returns-in-Ok
returns-in-Ok c =
    let other = rw c.deref_mut.ensures.value at c.put_boot.ensures.other in
    let put = rw (c.deref_mut.ensures.value) at c.put_boot.ensures.exact in
    let starts = rw (c.deref_mut.ensures.value) at c.put_boot.ensures.starts in
    let long : c.in-Ok.new.len ≡ length c.put_boot.new.volume = omega (arith, other.long, c.deref_mut.ensures.len) in
    rw (whole_block c.in-Ok.new.len c.put_boot.new.volume (drop (length c.put_boot.new.volume) c.in-Ok.new.items) long)
    (laid_over c.args.boot c.args.tree.now c.args.blocks c.args.image.now c.in-Ok.new.items c.put_boot.new.volume c.in-Ok.ensures.room c.in-Ok.ensures.bytes
    c.in-Ok.ensures.fits other put starts)
