use Rattle.std.proofs.Common.{rules, ◌≡◌, ◌∙◌, ◌+◌, ◌++◌, ◌<◌, [], ◌∷◌, ℕ, List, Option, ap, sym, subst, if◌then◌else◌, length, take}
use Rattle.adf_words.specs.CommandLine.{texts_of}
use Rattle.adf_merge_cmd.specs.Answers.{AreReadings}
use Rattle.adf_merge_cmd.proofs.Readings.{read_more}
use Rattle.adf_merge_cmd.proofs.names.read_names.Goals as goal

pub loop-i-preserved : goal.loop-i-preserved
loop-i-preserved g c =
    let files : List ℕ → Option (List ℕ) = g.F.Files.bytes_of c.args.files.now in
    let within : c.loop-i.i < length c.args.names.now = search rules in
    let old : List (List ℕ) = c.loop-i.readings.items in
    let new : List ℕ = c.in_ok-bytes.bytes.items in
    let pushed : c.push.new.self.items ≡ old ++ new ∷ [] = c.push.ensures.items
    ∙ (ap (λ b. if b then old ++ c.new.result ∷ [] else old) c.if-is_err.ensures.negation ∙ ap (λ r. old ++ r ∷ []) c.new.ensures) in
    subst (AreReadings files (take (c.loop-i.i + 1) (texts_of c.args.names.now))) (sym pushed)
    (read_more files c.args.names.now c.loop-i.i (record { ref_ptr = (0, 0); now = [] }) old new within c.loop-i.invariant c.in_ok-bytes.ensures)
