use Rattle.std.proofs.Common.{◌∙◌, sym}
use Rattle.adf_manifest.specs.Manifest.{lines}
use Rattle.adf_manifest.proofs.{Faults.faultless, Faults.one_fault, TreesOfLines.one_tree_of, Verdicts.one_told}
use Rattle.adf_manifest.proofs.manifest.one_verdict.Goals as goal

pub returns-clause-one_tree : goal.returns-clause-one_tree
returns-clause-one_tree c = λ bytes tree tree' n n' m w.
    let one = one_told m.1.0 w.1.0 m.1.1 w.1.1 (sym m.1.2 ∙ w.1.2) in (
      one_tree_of w.1.0 tree tree' (rw one at m.1.3) w.1.3,
      rw (m.1.4, one, w.1.4),
    )

pub returns-clause-faultless : goal.returns-clause-faultless
returns-clause-faultless c = λ bytes tree n number kind m f. faultless m.1.0 (lines bytes) number kind m.1.1 m.1.2 f

pub returns-clause-one_fault : goal.returns-clause-one_fault
returns-clause-one_fault c = one_fault
