use Rattle.adf_manifest.proofs.ManifestLaws.{parts_cut, parts_whole}
use Rattle.adf_manifest.proofs.manifest.next_line.Goals as goal

pub returns-in-Some : goal.returns-in-Some
returns-in-Some c = parts_cut c.args.text.now c.in-Some.line.now c.in-Some.rest.now c.in-Some.ensures.some.0 c.in-Some.ensures.some.1

pub returns-in-None : goal.returns-in-None
returns-in-None c = parts_whole c.args.text.now c.in-None.ensures.none
