use Rattle.std.proofs.Common.{◌+◌, subst, arith}
use native.Mathlib.Decide.{ℕ_discrete}
use Rattle.adf_findings.specs.Lookup.{IsNamedChild}
use Rattle.adf_findings.proofs.Lookups.{child_between}
use Rattle.adf_findings.proofs.lookup.child.Goals as goal

pub loop-before-init : goal.loop-before-init
loop-before-init c = λ w fs h m le k.
    let b = child_between c.args.survey.now.image w fs h c.args.parent m c.args.name.now k in
    omega (arith, b.0, c.parent.view_is)

pub returns-then-is_child-clause-first : goal.returns-then-is_child-clause-first
returns-then-is_child-clause-first c = λ w fs h.
    ((c.is_child.ensures w fs h).0 c.if-is_child.true, (λ m lt. c.loop-before.invariant w fs h m (omega arith)))

pub loop-before-preserved : goal.loop-before-preserved
loop-before-preserved c = λ w fs h m le k.
    elim (ℕ_discrete m (c.loop-before.before + 1)) [
      | yes e ↦
          let x = (c.is_child.ensures w fs h).1 (subst (IsNamedChild c.args.survey.now.image w c.args.parent c.args.name.now) e k) in cc
      | no ne ↦ c.loop-before.invariant w fs h m (omega arith) k
    ]

pub returns-clause-none : goal.returns-clause-none
returns-clause-none c = λ w fs h n k.
    let b = child_between c.args.survey.now.image w fs h c.args.parent n c.args.name.now k in
    let len = c.len-before-end.ensures w fs h in
    c.loop-before.invariant w fs h n (omega (arith, b.1, len, c.loop-before-test.false)) k
