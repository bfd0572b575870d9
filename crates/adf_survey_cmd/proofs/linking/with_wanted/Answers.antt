use Rattle.std.proofs.Common.{inl, refl}
use Rattle.adf_survey_cmd.proofs.linking.with_wanted.Goals as goal

pub returns : goal.returns
returns c = inl (_, _, c.in_ok-image.field-0, c.in_ok-image.ensures, refl)
