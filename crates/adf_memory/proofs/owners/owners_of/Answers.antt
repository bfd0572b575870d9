use Rattle.std.proofs.Common.{◌∙◌, refl, rules, sym}
use Rattle.adf_memory.proofs.{CheckedVolumes.acceptance_told, ToldCauses.refusal_told, ToldCauses.some_number}
use Rattle.adf_memory.proofs.owners.owners_of.Goals as goal

pub returns-in-Ok : goal.returns-in-Ok
returns-in-Ok c = record {
  checked = (0, acceptance_told c.in-Ok.volume c.args.image.now 0 c.in-Ok.ensures.image c.in-Ok.ensures.fits);
  roles = search rules;
  behind = search rules;
  unchanged = λ some. absurd (some refl);
}

pub returns-in-Err : goal.returns-in-Err
returns-in-Err c =
    let f = c.in-Err.fault in
    let e = c.in-Err.ensures in
    record {
      checked = (f.block, refusal_told c.args.image.now f.cause f.block c.number.result c.number.ensures e.first e.none e.memory e.begun);
      roles = λ zero. absurd (some_number f.cause (sym c.number.ensures ∙ zero));
      behind = search rules;
      unchanged = search rules;
    }
