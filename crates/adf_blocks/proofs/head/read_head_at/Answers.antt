use Rattle.std.proofs.{lemmas.Grind.common_steps, Common.arith}
use Rattle.adf_blocks.proofs.head.read_head_at.Goals as goal

pub returns-then-not-has_head_type : goal.returns-then-not-has_head_type
returns-then-not-has_head_type c = grind (arith, common_steps)

pub returns-then-tells_link : goal.returns-then-tells_link
returns-then-tells_link c = grind (arith, common_steps)

pub returns-then-word-place : goal.returns-then-word-place
returns-then-word-place c = grind (arith, common_steps)

pub returns-then-word-place-2 : goal.returns-then-word-place-2
returns-then-word-place-2 c = grind (arith, common_steps)

pub returns-then-not-name_holds : goal.returns-then-not-name_holds
returns-then-not-name_holds c = grind (arith, common_steps)

pub returns-then-byte-gt79 : goal.returns-then-byte-gt79
returns-then-byte-gt79 c = grind (arith, common_steps)

pub returns-then-not-slot_holds : goal.returns-then-not-slot_holds
returns-then-not-slot_holds c = grind (arith, common_steps)

pub returns-then-not-first_holds : goal.returns-then-not-first_holds
returns-then-not-first_holds c = grind (arith, common_steps)

pub returns : goal.returns
returns c = grind (arith, common_steps)
