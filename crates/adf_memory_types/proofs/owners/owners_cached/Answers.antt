use Rattle.std.proofs.Common.{◌∙◌, refl, sym}
use Rattle.adf_memory.proofs.ToldCauses.{some_number}
use Rattle.adf_memory_types.proofs.KeptImages.{first_at, refused_told, told_at, told_none, told_other}
use Rattle.adf_memory_types.proofs.owners.owners_cached.Goals as goal

pub returns-in-Ok : goal.returns-in-Ok
returns-in-Ok c = c.owners_right.ensures c.args.image.now c.in-Ok.ensures.kept

pub returns-in-Err : goal.returns-in-Err
returns-in-Err c =
    let image = c.args.image.now in
    let f = c.in-Err.fault in
    let b = told_at f.cause f.block in
    let checked = refused_told image f.cause b c.number.result c.number.ensures
    (first_at image f.cause f.block b c.in-Err.ensures.first (told_other f.cause f.block)) (told_none f.cause f.block) in
    record {
      checked = (b, checked);
      roles = λ zero. absurd (some_number f.cause (sym c.number.ensures ∙ zero));
      unchanged = λ some. refl;
    }
