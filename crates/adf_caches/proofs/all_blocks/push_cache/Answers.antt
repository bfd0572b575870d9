use Rattle.std.proofs.Common.{◌∙◌, ap, sym}
use Rattle.adf_base.specs.Words.{word}
use Rattle.adf_blocks.specs.{Sizes.blocks, declared.layout.TheConstants.EXTENSION}
use Rattle.adf_caches.specs.{Blocks.blocks_of_cache, Caches.is_cache_block, Caches.next_cache, Paths.way_by}
use Rattle.adf_caches.proofs.BlockSteps.{chain_is, none_of}
use Rattle.adf_caches.proofs.all_blocks.push_cache.Goals as goal

pub returns-in-Some : goal.returns-in-Some
returns-in-Some c = λ w fs survey chains.
    let image = c.args.survey.now.image in
    let d = c.args.d in
    let first = c.word.ensures ∙ ap (λ b. word b EXTENSION) (c.in-Some.ensures.block w fs survey) in
    c.push_chain.ensures w fs survey d (blocks_of_cache image w d)
    (ap (λ n. way_by (is_cache_block image w d) (next_cache image) (blocks image) n) first
    ∙ chain_is image w d chains (sym (c.in-Some.ensures.some w fs survey)))

pub returns-in-None : goal.returns-in-None
returns-in-None c = λ w fs survey chains.
    none_of c.args.survey.now.image w c.args.d c.args.list.now.items (sym (c.in-None.ensures.some w fs survey))
