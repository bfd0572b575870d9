use Rattle.std.proofs.Common.{refl}
use Rattle.adf_keep.proofs.LinksBeside.{header_beside}
use Rattle.adf_keep.proofs.links_beside.is_header_beside.Goals as goal

pub returns : goal.returns
returns c = λ are yes.
    header_beside c.args.x.now.volume.now c.args.x.now.image.now c.args.b c.args.one.now c.args.other.now c.args.x.now.links.now c.requires.one c.requires.other
    (c.if-not-is_header.ensures are refl) (c.if-not-says_the_same.ensures.sum refl) (c.if-not-says_the_same.ensures.name refl)
    (c.if-not-says_the_same.ensures.meta refl) (c.are_words_beside.ensures yes)
