use Rattle.std.proofs.Common.{◌≡◌, refl, sym, arith, length, ◌∙◌}
use Rattle.std.proofs.lemmas.Bool.Decides.{nat_tests}
use Rattle.adf_manifest.proofs.StateLaws.{is_none, note_step}
use Rattle.adf_manifest.proofs.reader.take_note.Goals as goal

pub returns-in-Some-clause-lines : goal.returns-in-Some-clause-lines
returns-in-Some-clause-lines c = λ m e w g.
    let empty : length c.args.reading.now.last.bytes.items ≡ 0 = grind (arith, nat_tests) in
    note_step c.args.reading.now _ m e c.args.text.now c.in-Some.note w g
    (is_none c.args.reading.now.last.note (sym c.is_some.ensures ∙ c.if-is_some.false)) empty c.requires.form c.in-Some.ensures.some
    (record { sort = g.last.sort; stamp = g.last.stamp; protect = g.last.protect; note = refl; bytes = g.last.bytes }) refl
