use Rattle.std.proofs.Common.{string_bytes, take}
use Rattle.adf_verdicts.proofs.LongInputs.{read_verdict}
use Rattle.adf_verdicts.proofs.verdicts.verdict_of_input.Goals as goal

pub returns-clause-verdict : goal.returns-clause-verdict
returns-clause-verdict g c =
    read_verdict c.args.types c.in_ok-verdict.verdict.sound (string_bytes c.in_ok-verdict.verdict.line) (take c.in_ok-count.count c.read_into.new.buffer.items) _
    (rw c.most_image_bytes.ensures at c.in_ok-count.ensures.all)
    (rw c.deref.ensures.value at c.in_ok-verdict.ensures)
