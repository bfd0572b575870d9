use Rattle.adf_fields.proofs.DateTexts.{one_text, some_text}
use Rattle.adf_fields.proofs.date_texts.dates_have_one_text.Goals as goal

pub returns : goal.returns
returns c = λ s. (some_text s, λ t u p q. one_text s t u p q)
