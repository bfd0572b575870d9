use Rattle.std.proofs.Common.{string_bytes, ◌∙◌, ap, ◌++◌}
use Rattle.adf_fields.proofs.date_texts.stamp_text.Goals as goal

pub returns-clause-ok : goal.returns-clause-ok
returns-clause-ok c = (
  string_bytes c.in_ok-text.text,
  c.in_ok-text.ensures,
  c.in_ok-push_str.ensures.bytes
      ∙ ap (λ t. string_bytes c.args.out.now ++ t) c.as_str.ensures.value,
)
