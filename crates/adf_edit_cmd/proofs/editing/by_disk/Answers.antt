use Rattle.adf_edit_cmd.proofs.editing.by_disk.Goals as goal

pub returns : goal.returns
returns c = (
  c.in_ok-plain.plain.items,
  c.in_ok-plain.ensures,
  rw (← c.script.view_is, ← c.caches_after-has_caches.ensures) c.in_ok-new.ensures,
)
