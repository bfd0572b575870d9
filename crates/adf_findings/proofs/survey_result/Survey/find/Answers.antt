use Rattle.std.proofs.Common.{drop, ℕ, List, ◌+◌}
use Rattle.adf_findings.proofs.Lookups.{leads_on, split_at}
use Rattle.adf_findings.proofs.survey_result.Survey.find.Goals as goal

pub returns-in-None-clause-none : goal.returns-in-None-clause-none
returns-in-None-clause-none c = λ w fs h n y.
    let split = split_at c.args.path.now c.loop-name.name-index c.name-item.result c.loop-name-test.true c.name-item.is in
    let z = rw split at ((c.loop-name.invariant w fs h n).0 y) in
    c.in-None.ensures.none w fs h z.0 z.1.0

pub loop-name-preserved : goal.loop-name-preserved
loop-name-preserved c = λ w fs h n.
    let image : List ℕ = c.args.self.now.image in
    let rest : List (List ℕ) = drop (c.loop-name.name-index + 1) c.args.path.now in
    let split = split_at c.args.path.now c.loop-name.name-index c.name-item.result c.loop-name-test.true c.name-item.is in
    let first = c.in-Some.ensures.first w fs h in
    let before = c.loop-name.invariant w fs h n in (
      (λ y. leads_on image w c.loop-name.node c.in-Some.n n c.name-item.result rest first (rw split at (before.0 y))),
      (λ y. before.1 (rw split (c.in-Some.n, first, y))),
    )
