use Rattle.std.proofs.Common.{ℕ, arith, length-take}
use Rattle.adf_runs.proofs.KnownBytes.{more_counted}
use Rattle.adf_disk_cmd.proofs.Stretches.{count_of}
use Rattle.adf_disk_cmd.proofs.stretch.read_behind.Goals as goal

pub returns-in_err-extend_from_slice-clause-at_most : goal.returns-in_err-extend_from_slice-clause-at_most
returns-in_err-extend_from_slice-clause-at_most g c =
    let before = count_of c.loop-done.done _ _ _ _ c.loop-done.invariant.taken in
    let both = more_counted c.loop-done.done c.in_ok-got.got _ _ _ _ before (omega (arith, c.in_ok-got.ensures.count)) c.in_ok-got.ensures.bytes.0 in
    (both.0, omega (arith, both.1, c.in_ok-got.ensures.count, c.read.auto.buf, length-take {A = ℕ}), both.2)
