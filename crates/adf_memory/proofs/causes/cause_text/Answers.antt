use Rattle.std.proofs.Common.{◌∙◌, ap, length, rules, sym}
use Rattle.adf_blocks.specs.Causes.{cause_text}
use Rattle.adf_memory.specs.Rooms.{filled}
use Rattle.adf_memory.proofs.ToldCauses.{same_cause}
use Rattle.adf_memory.proofs.causes.cause_text.Goals as goal

pub returns-in-Some : goal.returns-in-Some
returns-in-Some c = record {
  cause = λ other is.
      let told = c.text.ensures ∙ ap cause_text (same_cause c.in-Some.named other (c.in-Some.ensures.some ∙ sym is)) in
      record {
        text = c.put_text.ensures.text ∙ ap (λ text. filled text c.args.room.now) told;
        length = c.put_text.ensures.length ∙ ap length told;
      };
  other = search rules;
}
