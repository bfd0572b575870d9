use Rattle.std.proofs.Common.{◌≡◌, ◌++◌, codes, append_assoc}
use Rattle.std.proofs.lemmas.Result.{on_ok_weaker}
use Rattle.adf_texts.specs.VolumeLines.{escaped_line}
use Rattle.adf_texts.proofs.volume_lines.push_head_lines.Goals as goal

pub returns : goal.returns
returns c = λ date dates.
    let text = c.push_line_end.new.text.items in
    let front = c.extend_from_slice.new.self.items in
    let end = codes "\n" ++ escaped_line (codes "note ") c.args.meta.now.comment in
    on_ok_weaker c.push_line_end.result (λ (e : text ≡ front ++ end). rw (
      e,
      c.in_ok-extend_from_slice.ensures.items,
      c.in_ok-push_columns.ensures date dates,
      c.of.ensures,
    ) (simp append_assoc)) c.push_line_end.ensures
