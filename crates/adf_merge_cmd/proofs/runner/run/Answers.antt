use Rattle.std.proofs.Common.{◌≡◌, ◌∙◌, ◌≤◌, ℕ, List, true, ap, arith, inl, inr, length, subst, sym}
use Rattle.std.proofs.lemmas.Grind.{common_steps}
use Rattle.adf_readings.specs.declared.choice.TheConstants.{MOST_READINGS}
use Rattle.adf_runs.proofs.PendingText.{appends_nil}
use Rattle.adf_runs.specs.{Outcomes.Does, Streams.seen, WorkFaults.refusal_status}
use Rattle.adf_words.specs.CommandLine.{texts_of}
use Rattle.adf_merge_cmd.specs.{Answers.AreReadings, Answers.MergeReply, Answers.map_bytes, CommandLine.are_enough}
use Rattle.adf_merge_cmd.specs.{CommandLine.MergeOrder}
use Rattle.adf_merge_cmd.proofs.Readings.{as_many}
use Rattle.adf_merge_cmd.proofs.runner.run.Goals as goal

enough : (o : MergeOrder) → are_enough o ≡ true → (2 ≤ length o.readings) × (length o.readings ≤ MOST_READINGS)
enough o e = grind (arith, common_steps)

pub returns-in-Err-clause-ends : goal.returns-in-Err-clause-ends
returns-in-Err-clause-ends g c = inr (inr (
  c.in-Err.fault,
  c.in-Err.ensures.refused,
  c.refuse.ensures.status ∙ ap refusal_status c.from.ensures,
  appends_nil (g.W.Sink.held c.args.output.now),
))

pub returns-in-Err-read_names-clause-ends : goal.returns-in-Err-read_names-clause-ends
returns-in-Err-read_names-clause-ends g c =
    inr (inl (c.in-Ok.order, c.in-Ok.ensures.ok, c.refuse-in-Err-read_names.ensures, appends_nil (g.W.Sink.held c.args.output.now)))

pub answer-requires-clause-named : goal.answer-requires-clause-named
answer-requires-clause-named g c =
    let read = as_many (g.F.Files.bytes_of c.args.files.now) (texts_of c.deref.result.now) c.in-Ok-read_names.readings.items c.in-Ok-read_names.ensures in
    let names = ap (λ ws. length (texts_of ws)) c.deref.ensures.value in
    let view = ap (λ (o : MergeOrder). length o.readings) c.order.view_is in
    let items = ap length c.deref-in-Ok-read_map_texts.ensures.value in
    omega (arith, read, names, view, items)

pub answer-requires-clause-maps : goal.answer-requires-clause-maps
answer-requires-clause-maps g c =
    let read = as_many (map_bytes (g.F.Files.bytes_of c.args.files.now)) (texts_of c.deref-2.result.now) c.in-Ok-read_map_texts.texts.items
    c.in-Ok-read_map_texts.ensures in
    let names = ap (λ ws. length (texts_of ws)) c.deref-2.ensures.value in
    let view = ap (λ (o : MergeOrder). length o.maps) c.order.view_is in
    let items = ap length c.deref-in-Ok-read_map_texts-2.ensures.value in
    omega (arith, read, names, view, items)

pub answer-requires-clause-some : goal.answer-requires-clause-some
answer-requires-clause-some g c =
    let read = as_many (g.F.Files.bytes_of c.args.files.now) (texts_of c.deref.result.now) c.in-Ok-read_names.readings.items c.in-Ok-read_names.ensures in
    let names = ap (λ ws. length (texts_of ws)) c.deref.ensures.value in
    let view = ap (λ (o : MergeOrder). length o.readings) c.order.view_is in
    let items = ap length c.deref-in-Ok-read_map_texts.ensures.value in
    omega (arith, read, names, view, items, (enough c.in-Ok.order c.in-Ok.ensures.ok.2).0)

pub answer-requires-clause-few : goal.answer-requires-clause-few
answer-requires-clause-few g c =
    let read = as_many (g.F.Files.bytes_of c.args.files.now) (texts_of c.deref.result.now) c.in-Ok-read_names.readings.items c.in-Ok-read_names.ensures in
    let names = ap (λ ws. length (texts_of ws)) c.deref.ensures.value in
    let view = ap (λ (o : MergeOrder). length o.readings) c.order.view_is in
    let items = ap length c.deref-in-Ok-read_map_texts.ensures.value in
    omega (arith, read, names, view, items, (enough c.in-Ok.order c.in-Ok.ensures.ok.2).1)

pub returns-in-Ok-read_map_texts-clause-ends : goal.returns-in-Ok-read_map_texts-clause-ends
returns-in-Ok-read_map_texts-clause-ends g c =
    let rs : List (List ℕ) = c.in-Ok-read_names.readings.items in
    let texts : List (List ℕ) = c.in-Ok-read_map_texts.texts.items in
    inl (
      c.in-Ok.order,
      c.in-Ok.ensures.ok,
      rs,
      subst (λ ns. AreReadings (g.F.Files.bytes_of c.args.files.now) ns rs)
          (ap texts_of c.deref.ensures.value ∙ ap (λ (o : MergeOrder). o.readings) c.order.view_is)
          c.in-Ok-read_names.ensures,
      texts,
      subst (λ ns. AreReadings (map_bytes (g.F.Files.bytes_of c.args.files.now)) ns texts)
          (ap texts_of c.deref-2.ensures.value ∙ ap (λ (o : MergeOrder). o.maps) c.order.view_is) c.in-Ok-read_map_texts.ensures,
      c.answer.result,
      subst (λ xs. Does (MergeReply c.in-Ok.order xs texts) c.answer.result (seen g.W.Sink.held g.W.Sink.has_failed c.args.output.now c.answer.new.output)) c.deref-in-Ok-read_map_texts.ensures.value
          (subst (λ ts. Does (MergeReply c.in-Ok.order c.deref-in-Ok-read_map_texts.result.now ts) c.answer.result (seen g.W.Sink.held g.W.Sink.has_failed c.args.output.now c.answer.new.output))
          c.deref-in-Ok-read_map_texts-2.ensures.value c.answer.ensures),
      c.finish.ensures.status,
      c.finish.ensures.said,
    )

pub returns-clause-ends : goal.returns-clause-ends
returns-clause-ends g c =
    inr (inl (c.in-Ok.order, c.in-Ok.ensures.ok, c.refuse-in-Err-read_map_texts.ensures, appends_nil (g.W.Sink.held c.args.output.now)))
