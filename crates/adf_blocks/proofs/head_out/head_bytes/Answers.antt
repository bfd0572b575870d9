use Rattle.std.proofs.Common.{refl}
use Rattle.adf_blocks.specs.HeadBlock.{head_block}
use Rattle.adf_blocks.proofs.head_out.head_bytes.Goals as goal

-- the calls, the last first
pub returns-clause-exact : goal.returns-clause-exact
unfolding head_block
returns-clause-exact c = rw (
  c.seal_block.ensures,
  c.put_word-10.ensures,
  c.secondary.ensures,
  c.put_word-9.ensures,
  c.ext.ensures,
  c.put_word-8.ensures,
  c.put_word-7.ensures,
  c.put_text-2.ensures,
  c.bytes-2.ensures.bytes,
  c.put_stamp.ensures.exact,
  c.put_text.ensures,
  c.bytes.ensures.bytes,
  c.put_word-6.ensures,
  c.size.ensures,
  c.put_word-5.ensures,
  c.put_table.ensures.exact,
  c.put_word-4.ensures,
  c.first.ensures,
  c.put_word-3.ensures,
  c.count.ensures,
  c.put_word-2.ensures,
  c.put_word.ensures,
) refl
