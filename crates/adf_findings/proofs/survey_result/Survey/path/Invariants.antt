use Rattle.std.proofs.Common.{◌≡◌, map, reverse, ◌++◌}
use Rattle.adf_findings.specs.{Lookup.path_to, Survey.OnSurvey}
use Rattle.adf_findings.proofs.survey_result.Survey.path.Given as goal

abbrev pub invariant-loop-name : goal.invariant-loop-name
invariant-loop-name l =
    OnSurvey l.self.image (λ w _.
    path_to l.self.image w l.fn.n ≡ path_to l.self.image w l.node ++ reverse (map (λ x. x.now) l.path.items))

abbrev pub decreases-loop-name : goal.decreases-loop-name
decreases-loop-name l = l.node
