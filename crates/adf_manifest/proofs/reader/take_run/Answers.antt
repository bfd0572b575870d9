use Rattle.std.proofs.Common.{◌++◌, ◌∙◌, sym, ap, refl}
use Rattle.adf_manifest.specs.{Lines.run_value, Items.run_bytes}
use Rattle.adf_manifest.proofs.{Growth.with_run_bytes, StateLaws.run_step}
use Rattle.adf_manifest.proofs.reader.take_run.Goals as goal

pub returns-in-Ok-clause-lines : goal.returns-in-Ok-clause-lines
returns-in-Ok-clause-lines c = λ m e w g.
    let run = run_value c.args.run in
    let bytes = c.in-Ok.ensures ∙ ap (λ l. l ++ run_bytes run) g.last.bytes ∙ sym (with_run_bytes e.last run) in
    run_step c.args.reading.now _ m e run w g c.in-File.is c.requires.form
    (record { sort = g.last.sort; stamp = g.last.stamp; protect = g.last.protect; note = g.last.note; bytes = bytes }) refl
