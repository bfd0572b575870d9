use Rattle.std.proofs.Common.{◌≡◌, arith}
use Rattle.std.proofs.{lemmas.Result.IfOk-weaker, lemmas.Result.on_ok_weaker, lemmas.Grind.common_steps}
use Rattle.adf_names.specs.Texts.{uppers_by}
use Rattle.adf_volume.specs.Image.{name_of}
use Rattle.adf_findings.specs.Demands.{uppers_in}
use Rattle.adf_findings.proofs.Known.{kept_name, name_is_new}
use Rattle.adf_findings.proofs.found.Found.keep_header_name.Goals as goal

pub returns-in-Some-clause-new : goal.returns-in-Some-clause-new
returns-in-Some-clause-new c =
    let own : uppers_by c.letters.result c.in-Some.name ≡ uppers_in c.args.image.now (name_of c.args.image.now c.args.b) =
    λ t. uppers_by (c.letters.ensures t) (c.in-Some.ensures.name t) in
    IfOk-weaker c.put_by.result _ _
    (λ t told w named chain valid.
    name_is_new c.args.image.now c.args.b _ _ c.in-Head.is c.begin_names.ensures.names _ own w t told named chain valid)
    c.put_by.ensures.new

pub returns-in-Some-clause-names : goal.returns-in-Some-clause-names
returns-in-Some-clause-names c = grind (arith, common_steps, on_ok_weaker, kept_name)
