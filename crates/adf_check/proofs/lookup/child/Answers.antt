use Rattle.std.proofs.Common.{◌≡◌, ◌≢◌, map, ap, subst, sym, ◌∙◌, arith}
use Rattle.std.proofs.lemmas.Grind.{common_steps}
use Rattle.adf_blocks.specs.{declared.layout.TheConstants.NEXT_IN_CHAIN, HeadBlock.IsHead}
use Rattle.adf_base.specs.{Hash.slot_by, Words.word, declared.hash.Letters.Letters}
use Rattle.adf_names.specs.Texts.{uppers_by}
use Rattle.adf_volume.specs.{Image.name_of, Image.word_in, Fits.FitsBy, Layout.Layout, Layout.at_node, Layout.chain_nodes_by, Lists.Spelled}
use Rattle.adf_tree.specs.Tree.{Tree}
use Rattle.adf_check.proofs.ChainLookups.{OnChain, chain_begins, chain_ended, chain_found, chain_left, chain_next, child_within, on_head, on_inside, on_smaller}
use Rattle.adf_check.proofs.{ChainLookups.other_name, ChainLookups.same_name, StoreStands.own_are, StoreStands.stands}
use Rattle.adf_check.proofs.lookup.child.Goals as goal

pub loop-b-init : goal.loop-b-init
loop-b-init c = λ letters t l fits.
    let image = c.args.image.now in
    let slot : c.slot_by.result ≡ slot_by t.letters c.args.name.now =
    c.slot_by.ensures.exact ∙ (λ i. slot_by ((c.letters-letters.ensures ∙ own_are fits) i) (c.bytes.ensures.bytes i)) in
    chain_begins (stands c.requires.tells fits) c.first_of-b.result
    (subst (λ s. Spelled (λ b. word_in image b NEXT_IN_CHAIN) c.first_of-b.result (map (at_node image l) (chain_nodes_by t.letters t c.args.parent s))) slot
    (c.first_of-b.ensures letters t l fits))

pub block-requires : goal.block-requires
block-requires c = on_inside c.requires.tells c.loop-b.invariant c.loop-b-test.true

pub over-head-requires : goal.over-head-requires
over-head-requires c = subst IsHead (sym c.block.ensures.block) (on_head c.requires.tells c.loop-b.invariant c.loop-b-test.true)

pub node_at-requires : goal.node_at-requires
node_at-requires c = grind (arith, common_steps, on_inside c.requires.tells c.loop-b.invariant c.loop-b-test.true)

pub returns-then-same_by : goal.returns-then-same_by
returns-then-same_by c =
    let same = same_name c.letters-letters.result c.args.image.now c.loop-b.b c.args.name.now c.name.ensures c.over-head.ensures
    c.block.ensures.block c.same_by.ensures c.if-same_by.true in
    let found = λ (letters : Letters) (t : Tree) (l : Layout) (fits : FitsBy letters c.args.image.now t l).
    c.node_at.ensures ∙ chain_found (stands c.requires.tells fits) (c.loop-b.invariant letters t l fits) c.loop-b-test.true
    (subst (λ x. uppers_by x (name_of c.args.image.now c.loop-b.b) ≡ uppers_by x c.args.name.now) (c.letters-letters.ensures ∙ own_are fits) same) in
    record { found = found; node = child_within c.requires.tells c.args.parent c.args.name.now c.node_at.result found }

pub loop-b-smaller : goal.loop-b-smaller
loop-b-smaller c = grind (arith, common_steps, chain_left, on_smaller c.requires.tells c.loop-b.invariant c.loop-b-test.true)

pub loop-b-preserved : goal.loop-b-preserved
loop-b-preserved c = λ letters t l fits.
    let image = c.args.image.now in
    let name = c.args.name.now in
    let next : c.next-b.result ≡ word_in image c.loop-b.b NEXT_IN_CHAIN =
    c.next-b.ensures ∙ ap (λ x. word x NEXT_IN_CHAIN) (c.over-head.ensures ∙ c.block.ensures.block) in
    let read = other_name c.letters-letters.result image c.loop-b.b name c.name.ensures c.over-head.ensures c.block.ensures.block c.same_by.ensures
    c.if-same_by.false in
    let other = subst (λ x. uppers_by x (name_of image c.loop-b.b) ≢ uppers_by x name) (c.letters-letters.ensures ∙ own_are fits) read in
    subst (OnChain t.letters image t l c.args.parent name) (sym next)
    (chain_next (stands c.requires.tells fits) (c.loop-b.invariant letters t l fits) c.loop-b-test.true other)

pub returns-clause-found : goal.returns-clause-found
returns-clause-found c = λ letters t l fits. sym (chain_ended (stands c.requires.tells fits)
    (subst (OnChain t.letters c.args.image.now t l c.args.parent c.args.name.now) c.loop-b-test.false (c.loop-b.invariant letters t l fits)))
