use Rattle.std.proofs.lemmas.Result.{on_ok_weaker}
use Rattle.adf_fields.specs.Dates.{AppendsStampText}
use Rattle.adf_fields.proofs.DateTexts.{one_text}
use Rattle.adf_texts.proofs.volume_lines.push_date.Goals as goal

pub returns : goal.returns
returns c = λ date dates.
    let appends = AppendsStampText c.args.s c.args.text.now.items c.push_stamp.new.text.items in
    on_ok_weaker c.push_stamp.result (λ (h : appends). rw (h.2, one_text c.args.s h.0 (date c.args.s) h.1 (dates c.args.s))) c.push_stamp.ensures
