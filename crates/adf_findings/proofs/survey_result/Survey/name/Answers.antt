use Rattle.std.proofs.Common.{min, slice_index, slice_range, ◌+◌, refl, ap, ◌∙◌}
use Rattle.adf_blocks.specs.declared.layout.TheConstants.{NAME}
use Rattle.adf_volume.specs.Walk.{node_block}
use Rattle.adf_findings.proofs.{Keeping.header_inside, Names.cut_name}
use Rattle.adf_findings.proofs.survey_result.Survey.name.Goals as goal

pub returns-in-Some-clause-name : goal.returns-in-Some-clause-name
returns-in-Some-clause-name c = λ w fs h.
    let k = (c.in-Some.ensures.some w fs h).0 refl in
    let fits = header_inside c.args.self.now.image w fs h c.args.n k.0 k.1 in
    c.name_in.ensures
    ∙ (ap (λ b. slice_range b (NAME + 1) (NAME + 1 + min (slice_index b NAME) 79)) (c.in-Some.ensures.block w fs h)
    ∙ cut_name c.args.self.now.image (node_block w c.args.n) fits.0 fits.1)
