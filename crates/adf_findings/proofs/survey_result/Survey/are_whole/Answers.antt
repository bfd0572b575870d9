use Rattle.std.proofs.Common.{◌≡◌, ◌+◌, inl, inr, subst, arith}
use Rattle.std.proofs.lemmas.Bool.{cases_lt}
use Rattle.adf_volume.specs.Walk.{node_block}
use Rattle.adf_findings.specs.{Files.grave, Sound.IsSound}
use Rattle.adf_findings.proofs.survey_result.Survey.are_whole.Goals as goal

pub loop-n-init : goal.loop-n-init
loop-n-init c = record { so_far = λ w fs h n lo hi. absurd (omega arith) }

pub loop-n-preserved : goal.loop-n-preserved
loop-n-preserved c = record {
  so_far = λ w fs h n lo hi.
      elim (cases_lt c.loop-n.n n) [
        | inl gt ↦
            let same : c.loop-n.n + 1 ≡ n = omega arith in
            subst (λ n. IsSound c.args.self.now.image w (grave fs) n (node_block w n)) same
            ((c.is_clear.ensures w fs h).0 c.if-not-is_clear.false)
        | inr le ↦ c.loop-n.invariant.so_far w fs h n lo le
      ];
}

pub returns : goal.returns
returns c = λ w fs h t n lo hi. c.loop-n.invariant.so_far w fs h n lo (omega (arith, c.len-n-end.ensures w fs h))
