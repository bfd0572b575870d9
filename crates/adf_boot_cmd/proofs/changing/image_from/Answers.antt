use Rattle.std.proofs.Common.{◌∙◌, inl, inr, sym}
use Rattle.adf_boot_cmd.specs.Work.{order_of}
use Rattle.adf_boot_cmd.proofs.Replies.{refusal_answer, whole_answers, writes_answer}
use Rattle.adf_boot_cmd.proofs.changing.image_from.Goals as goal

pub returns-in-Ok-new_image-clause-new : goal.returns-in-Ok-new_image-clause-new
returns-in-Ok-new_image-clause-new g c =
    whole_answers (order_of c.args.work.now) c.deref.result.now _ 0 c.in-Ok-new_image.new.items (rw (← c.deref.ensures.value) at c.in-Ok.ensures.all)
    (writes_answer (order_of c.args.work.now) c.deref.result.now _ c.requires.writes c.in-Ok-new_image.ensures.new)

pub returns-clause-refused : goal.returns-clause-refused
returns-clause-refused g c = elim c.in-Err-new_image.ensures.refused [
  | inl three ↦ inl three
  | inr h ↦ inr (
    h.0,
    whole_answers (order_of c.args.work.now) c.deref.result.now _ 1 _ (rw (← c.deref.ensures.value) at c.in-Ok.ensures.all)
        (refusal_answer (order_of c.args.work.now) c.deref.result.now c.requires.writes h.1),
  )
]
