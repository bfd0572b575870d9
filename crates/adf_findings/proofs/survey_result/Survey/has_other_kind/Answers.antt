use Rattle.std.proofs.Common.{◌≡◌, arith}
use Rattle.std.proofs.lemmas.Grind.{common_steps}
use Rattle.adf_names.specs.declared.kind.Kind.TheVariants.{Ffs}
use Rattle.adf_volume.specs.Image.{kind_of}
use Rattle.adf_findings.specs.Files.{grave}
use Rattle.adf_findings.proofs.OwnKinds.{sound_kind}
use Rattle.adf_findings.proofs.survey_result.Survey.has_other_kind.Goals as goal

pub returns-then-are_whole : goal.returns-then-are_whole
returns-then-are_whole c = λ w fs h.
    let ffs : kind_of c.args.self.now.image ≡ Ffs = grind (arith, common_steps) in
    sound_kind c.args.self.now.image w fs (grave fs) h (c.are_whole.ensures w fs h c.if-are_whole.true) ffs
