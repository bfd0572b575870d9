-- The outcome for a part that is next.
use Rattle.std.proofs.Common.{Some, None, ◌≡◌, ℕ, List, [], ◌∷◌, ◌++◌, map, sym, subst, ap, ◌∙◌, arith}
use Rattle.std.specs.Global.{Vec}
use Rattle.std.proofs.lemmas.Grind.{common_steps}
use Rattle.adf_blocks.specs.declared.cause.Cause.{Cause}
use Rattle.adf_volume.specs.{Walk.Role, declared.part.Part.Part, Parts.role_of}
use Rattle.adf_findings.specs.{Demands.demands_in, declared.finding.Finding.Finding, declared.course.Reference.Reference, declared.found.Found.Found}
use Rattle.adf_findings.specs.{declared.progress.Progress.Progress, Survey.IsCourse.step, Forms.judgement_value, Found.IsBlockSkipped, Found.Stands}
use Rattle.adf_findings.specs.{Parts.finding_value, Courses.IsNextReference, Courses.IsOutcome, Courses.KeepsNameBy, Courses.noted, Courses.role_asked}
use Rattle.adf_findings.specs.declared.judge.Judgement.{Judgement, TheVariants.Clean, TheVariants.Reported, TheVariants.Skipped}
use Rattle.adf_findings.specs.Survey.{Course, FindingValue, IsCourse, Judged, JudgementValue, after, finding, JudgementValue.reported, JudgementValue.skipped}
use Rattle.adf_volume.proofs.PartDemands.{part_holds_by}
use Rattle.adf_findings.proofs.{JudgementTests.itself_holds, Known.no_owner, Taking.stands_but, Taking.stands_skipped}

module _ {image : List ℕ} {f : Progress} {s : Course} (x : Reference) (v : IsCourse image s) (st : Stands image f.found s)
    (heard : s.findings ≡ noted f) (n : IsNextReference image s x) (part : Part) (is : role_of part ≡ role_asked s x.due.part) (j : Judgement)
    (told : Judged (role_of part) (demands_in image s.walk (role_of part) x.holder x.block) (judgement_value j))
    {g : Progress} (rest : g ≡ record f { found = record f.found { names = g.found.names } })
    (named : KeepsNameBy image part x.block j f.found.names g.found.names) where
  abbrev role : Role
  role = role_asked s x.due.part

  judgement : (k : Judgement) → j ≡ k → Judged role (demands_in image s.walk role x.holder x.block) (judgement_value k)
  judgement k e = grind (arith, common_steps)

  kept : (k : Judgement) → j ≡ k → KeepsNameBy image part x.block k f.found.names g.found.names
  kept k e = subst (λ k. KeepsNameBy image part x.block k f.found.names g.found.names) e named

  same_noted : noted g ≡ s.findings
  same_noted = ap noted rest ∙ sym heard

  -- the findings are no part of what is found
  named_with : (fs : List FindingValue) → Stands image g.found (record { walk = s.walk; skipped = s.skipped; findings = fs })
  named_with fs = grind (arith, common_steps, stands_but)

  skipped_with : (fs : List FindingValue) (h : Found) → IsBlockSkipped x.block g.found h
      → Stands image h (record { walk = s.walk; skipped = (role, x.block) ∷ s.skipped; findings = fs })
  skipped_with fs h over = stands_skipped image g.found h (record { walk = s.walk; skipped = s.skipped; findings = fs }) x.block (named_with fs) role over

  stepped : (j : JudgementValue) → Judged role (demands_in image s.walk role x.holder x.block) j → IsCourse image (after s role x.block j)
  stepped j h =
      subst (λ b. IsCourse image (after s role b j)) n.2
      (step j v n.1 (subst (λ b. Judged role (demands_in image s.walk role x.holder b) j) (sym n.2) h))

  -- the course after the part, with these findings
  abbrev to_take : List FindingValue → Course
  to_take fs = record { walk = (role, x.block) ∷ s.walk; skipped = s.skipped; findings = fs }

  abbrev to_skip : List FindingValue → Course
  to_skip fs = record { walk = s.walk; skipped = (role, x.block) ∷ s.skipped; findings = fs }

  pub clean_outcome : j ≡ Clean → IsOutcome image s x f g (Some part)
  clean_outcome is_clean = grind (arith, common_steps, judgement, part_holds_by, no_owner, same_noted, stepped, named_with, kept)

  -- the findings with that of the part
  module _ (at : ℕ) (c : Cause) (y : Finding) (one : y ≡ record { part = Some part; block = at; cause = c }) (findings : Vec Finding)
      (more : map finding_value findings.items ≡ noted g ++ finding_value y ∷ []) where
    told_is : s.findings ++ finding (Some role) at c ∷ [] ≡ map finding_value findings.items
    told_is = grind (arith, common_steps, same_noted)

    pub reported_outcome : j ≡ Reported at c → IsOutcome image s x f (record { found = g.found; findings = findings }) (Some part)
    reported_outcome is_reported =
        let d = judgement (Reported at c) is_reported in
        let holds = itself_holds image s.walk role x.holder x.block d.1 in
        record {
          role = is;
          past_boot = holds.past_boot;
          inside = holds.inside;
          free = no_owner s.walk x.block holds.unowned;
          course = subst (λ fs. IsCourse image (to_take fs)) told_is (stepped (reported at c) d);
          stands = named_with (map finding_value findings.items);
          left = ap (λ p. p.found.left) rest;
          names = kept (Reported at c) is_reported;
        }

    pub skipped_outcome : (h : Found) → j ≡ Skipped at c → IsBlockSkipped x.block g.found h
        → IsOutcome image s x f (record { found = h; findings = findings }) None
    skipped_outcome h is_skipped over = record {
      course = subst (λ fs. IsCourse image (to_skip fs)) told_is (stepped (skipped at c) (judgement (Skipped at c) is_skipped));
      stands = skipped_with (map finding_value findings.items) h over;
      left = ap (λ f. f.left) over.rest ∙ ap (λ p. p.found.left) rest;
      names = ap (λ f. f.names) over.rest ∙ kept (Skipped at c) is_skipped;
    }
