use Rattle.std.proofs.Common.{sym, ◌∙◌, []}
use Rattle.adf_names.proofs.PathParts.{empty_is_path}
use Rattle.adf_names.proofs.path_texts.read_path.Goals as goal

pub returns-then-is_empty-clause-bad_text : goal.returns-then-is_empty-clause-bad_text
returns-then-is_empty-clause-bad_text c =
    (λ h. cc, λ none. absurd (none [] (empty_is_path c.args.text.now (sym c.is_empty.ensures ∙ c.if-is_empty.true))))
