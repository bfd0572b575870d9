use Rattle.std.proofs.Common.{◌∙◌, ◌≡◌, arith, refl, subst, sym, ℕ, List}
use Rattle.std.proofs.lemmas.Grind.{common_steps}
use Rattle.adf_names.specs.VolumeTypes.{type_number}
use Rattle.adf_volume.specs.{Fits.FitsBy, Types.letters_for}
use Rattle.adf_memory.specs.Verdicts.{accepted_by}
use Rattle.adf_memory.proofs.{CheckedVolumes.acceptance_told, CheckedVolumes.counts_stand, ToldCauses.refusal_told, ToldCauses.some_number}
use Rattle.adf_memory.proofs.verdict.check_image.Goals as goal

pub returns-in-Ok : goal.returns-in-Ok
returns-in-Ok c =
    let v = c.in-Ok.volume in
    let image = c.args.image.now in
    let is = c.in-Ok.ensures.image in
    let (u, m, own) = c.in-Ok.ensures.fits in
    let by : FitsBy (letters_for c.args.types image) v u m = subst (λ (i : List ℕ). FitsBy (letters_for c.args.types i) v u m) is own.1 in
    let letters = c.letters.ensures.tree (letters_for c.args.types image) u m by ∙ by.letters in
    let n = c.counts-counts.result in
    let kind : c.from.result ≡ type_number c.letters.result n.kind = grind (arith, common_steps) in
    record {
      checked = acceptance_told v image 0 is (u, m, own);
      counts = λ zero t l fits.
          (λ i. record { kind = kind i; blocks = n.blocks; used = n.used; free = n.free; dirs = n.dirs; files = n.files; block = 0 })
          ∙ (λ i. accepted_by (letters i) (counts_stand v image n is c.counts-counts.ensures.exact t l fits.1 i));
      refused = λ some. absurd (some refl);
    }

pub returns-in-Err : goal.returns-in-Err
returns-in-Err c =
    let f = c.in-Err.fault in
    let e = c.in-Err.ensures in
    let image = c.args.image.now in
    let told = refusal_told image f.cause f.block c.number.result c.number.ensures e.first e.none e.memory e.begun in
    record {
      checked = told;
      counts = λ zero. absurd (some_number f.cause (sym c.number.ensures ∙ zero));
      refused = λ some. refl;
    }
