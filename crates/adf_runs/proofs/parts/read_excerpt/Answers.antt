use Rattle.std.proofs.Common.{◌+◌, ◌-◌, arith}
use Rattle.adf_runs.proofs.KnownBytes.{fewer_at_most, part_read, two_at_most}
use Rattle.adf_runs.proofs.parts.read_excerpt.Goals as goal

pub returns-in_err-before-clause-at_most : goal.returns-in_err-before-clause-at_most
returns-in_err-before-clause-at_most g c = fewer_at_most c.args.from (c.args.limit + 1) _ _ (omega arith) c.skip.ensures.at_most

pub returns-in_err-bytes-clause-at_most : goal.returns-in_err-bytes-clause-at_most
returns-in_err-bytes-clause-at_most g c =
    two_at_most c.args.from (c.args.to - c.args.from) (c.args.limit + 1) _ _ _ (omega arith) c.skip.ensures.at_most c.read_first.ensures.at_most

pub returns-in_err-after-clause-at_most : goal.returns-in_err-after-clause-at_most
returns-in_err-after-clause-at_most g c =
    two_at_most c.args.to (c.args.limit + 1 - c.args.to) (c.args.limit + 1) _ _ _ (omega arith)
    (two_at_most c.args.from (c.args.to - c.args.from) c.args.to _ _ _ (omega arith) c.skip.ensures.at_most c.read_first.ensures.at_most)
    c.skip-2.ensures.at_most

pub returns-clause-at_most : goal.returns-clause-at_most
returns-clause-at_most g c =
    two_at_most c.args.to (c.args.limit + 1 - c.args.to) (c.args.limit + 1) _ _ _ (omega arith)
    (two_at_most c.args.from (c.args.to - c.args.from) c.args.to _ _ _ (omega arith) c.skip.ensures.at_most c.read_first.ensures.at_most)
    c.skip-2.ensures.at_most

pub returns-clause-part : goal.returns-clause-part
returns-clause-part g c =
    part_read c.args.from c.args.to (c.args.limit + 1) _ _ _ _ c.in_ok-before.before _ c.in_ok-after.after c.in_ok-bytes.bytes.items
    (omega (arith, c.len.ensures)) c.requires.order (omega arith) c.in_ok-before.ensures.passed c.in_ok-bytes.ensures.first
    c.in_ok-after.ensures.passed
