use Rattle.std.proofs.Common.{All, List, arith, ap, length, subst, sym, ◌∙◌, ◌≡◌, ℕ}
use Rattle.std.proofs.lemmas.Grind.{common_steps}
use Rattle.adf_memory.specs.{Rescuing.IsVolumeOf, Rescuing.IsPathWithin, Rooms.filled, declared.losses.TableLoss.TableLoss}
use Rattle.adf_memory.proofs.rescuing.put_rescue.Goals as goal

pub returns-clause-volume : goal.returns-clause-volume
returns-clause-volume c =
    let (image, is, room) = c.in_ok-lay_in_front.ensures.volume in
    let x = c.args.ready.now.prepared in
    let table = c.in-Ok.table in
    let count : c.len.result ≡ length table.rows.items = grind (arith, common_steps) in
    let bytes : c.len-2.result ≡ length table.paths.items = grind (arith, common_steps) in
    record {
      volume = image;
      is_given = subst (λ (boot : List ℕ). IsVolumeOf x.tree x.blocks boot image) c.deref-2.ensures.value is;
      size = sym is.4;
      room = room;
      rows = (
        table.rows.items,
        subst (λ (n : ℕ). All (IsPathWithin n) table.rows.items) (sym bytes) c.in-Ok.ensures,
        count,
        c.put_all.ensures ∙ ap (λ (rows : List TableLoss). filled rows c.args.losses.now) c.deref-3.ensures.value,
      );
      paths = (
        table.paths.items,
        λ i d lt. tt,
        bytes,
        c.put_all-2.ensures ∙ ap (λ (text : List ℕ). filled text c.args.paths.now) c.deref-4.ensures.value,
      );
    }
