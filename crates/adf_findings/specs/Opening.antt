-- The facts of an image whose root is taken.
use Rattle.std.specs.Prelude.{List, ℕ}
use Rattle.adf_base.specs.Words.{block}
use Rattle.adf_blocks.specs.{RootBlock.label_stated, RootBlock.stamps_at, Sizes.blocks}
use Rattle.adf_volume.specs.Image.{kind_of, root_of}
use Rattle.adf_findings.specs.declared.opening.Opening.{Opening}

-- the facts in the size, the boot bytes and the root
abbrev pub opening_in : List ℕ → Opening
opening_in image = record {
  kind = kind_of image;
  blocks = blocks image;
  label = label_stated (block image (root_of image));
  stamps = stamps_at (block image (root_of image));
}
