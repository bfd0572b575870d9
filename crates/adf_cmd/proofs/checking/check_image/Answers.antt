use Rattle.std.proofs.Common.{refl, string_bytes}
use Rattle.adf_cmd.proofs.checking.check_image.Goals as goal

pub returns-in-Ok-write_all : goal.returns-in-Ok-write_all
returns-in-Ok-write_all g c = record {
  ends = (string_bytes c.in-Ok.answer.line, rw c.if-answer.true at c.in-Ok.ensures, rw c.as_bytes.ensures.value at c.in-Ok-write_all.ensures.ok);
  read = refl;
  written = c.in-Ok-write_all.ensures.failed;
}

pub returns-in-Ok-2 : goal.returns-in-Ok-2
returns-in-Ok-2 g c = record {
  ends = (string_bytes c.in-Ok.answer.line, rw c.if-answer.false at c.in-Ok.ensures, rw c.as_bytes.ensures.value at c.in-Ok-write_all.ensures.ok);
  read = refl;
  written = c.in-Ok-write_all.ensures.failed;
}
