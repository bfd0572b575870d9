use Rattle.std.proofs.Common.{◌≡◌, ◌<◌, ◌+◌, ◌++◌, ℕ, List, arith, get_or, length, take}
use Rattle.std.proofs.{Math.Seq.take-suc, lemmas.Grind.common_steps}
use Rattle.adf_names.specs.Written.{name_byte, name_bytes}
use Rattle.adf_names.proofs.written.push_name_bytes.Goals as goal

-- one byte more
one_more : (bytes : List ℕ) (i : ℕ) → i < length bytes → name_bytes (take (i + 1) bytes) ≡ name_bytes (take i bytes) ++ name_byte (get_or bytes i 0)
one_more bytes i lt = grind (arith, common_steps, take-suc)

next_bytes : (old now new bytes : List ℕ) (i : ℕ) → i < length bytes → now ≡ old ++ name_bytes (take i bytes)
    → new ≡ now ++ name_byte (get_or bytes i 0) → new ≡ old ++ name_bytes (take (i + 1) bytes)
next_bytes old now new bytes i lt is more = rw (more, is, one_more bytes i lt) (grind (arith, common_steps))

pub loop-c-preserved : goal.loop-c-preserved
loop-c-preserved c =
    next_bytes c.args.text.now.items c.loop-c.text.items c.push_name_byte.new.text.items c.args.bytes.now c.loop-c.c-index (omega arith)
    c.loop-c.invariant c.in_ok-push_name_byte.ensures
