use Rattle.adf_keep.proofs.DataForms.{file_found}
use Rattle.adf_keep.proofs.acceptance.file_says.Goals as goal

pub returns-in-Some : goal.returns-in-Some
returns-in-Some c = λ letters t l fits yes.
    file_found c.args.image.now c.args.volume.now l c.args.n c.in-Some.head c.blocks_of.result.now c.requires (c.blocks_of.ensures letters t l fits)
    (c.in-Some.ensures.block letters t l fits) (c.one_says.ensures yes)
