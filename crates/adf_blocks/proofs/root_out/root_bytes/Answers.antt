use Rattle.std.proofs.Common.{refl}
use Rattle.adf_blocks.specs.RootBlock.{root_block}
use Rattle.adf_blocks.proofs.root_out.root_bytes.Goals as goal

-- the calls, the last first
pub returns-clause-exact : goal.returns-clause-exact
unfolding root_block
returns-clause-exact c = rw (
  c.seal_block.ensures,
  c.put_word-5.ensures,
  c.put_stamp-3.ensures.exact,
  c.put_stamp-2.ensures.exact,
  c.put_text.ensures,
  c.bytes.ensures.bytes,
  c.put_stamp.ensures.exact,
  c.put_word-4.ensures,
  c.put_words-2.ensures,
  c.put_word-3.ensures,
  c.put_words.ensures,
  c.put_word-2.ensures,
  c.put_word.ensures,
) refl
