use Rattle.std.proofs.Common.{◌≡◌, drop}
use Rattle.std.specs.List.{find}
use Rattle.adf_disk_cmd.specs.HeldChecks.{lies_at}
use Rattle.adf_disk_cmd.proofs.checking.volume_checked.Given as goal

abbrev pub invariant-loop-volume : goal.invariant-loop-volume
invariant-loop-volume l = find (lies_at l.place) l.checked ≡ find (lies_at l.place) (drop l.volume-index l.checked)
