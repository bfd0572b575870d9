use Rattle.std.proofs.Common.{None, map, ◌≡◌, ℕ, List, [], ◌∷◌, ◌++◌, arith}
use Rattle.std.proofs.lemmas.Grind.{common_steps}
use Rattle.adf_findings.specs.{declared.finding.Finding.Finding, Parts.finding_value, Start.boot_findings, Start.unread_findings, declared.start.Unread.Unread}
use Rattle.adf_findings.specs.Survey.{UnreadTells, finding, IsSurvey.unread}
use Rattle.adf_findings.proofs.Keeping.{unread_kept}
use Rattle.adf_findings.proofs.surveyor.only.Goals as goal

-- the findings of an image of which nothing is taken, one after another
told : (image : List ℕ) (u : Unread) (none boot all : List Finding) → none ≡ []
    → map finding_value boot ≡ map finding_value none ++ boot_findings u.boot
    → map finding_value all ≡ map finding_value boot ++ finding None u.last.block u.last.cause ∷ []
    → UnreadTells image (unread_findings u) → UnreadTells image (map finding_value all)
told image u none boot all empty reported last t = grind (arith, common_steps)

pub invariant_of-result : goal.invariant_of-result
invariant_of-result c = grind (arith, common_steps, unread_kept, told)

pub returns-clause-findings : goal.returns-clause-findings
returns-clause-findings c = (
  [],
  unread (told c.args.image.now c.args.unread _ _ c.note.new.findings.items c.new-findings.ensures.items c.in_ok-report_boot.ensures
      c.in_ok-note.ensures c.requires),
)
