use Rattle.std.specs.Prelude.{Some, slice_get}
use Rattle.std.proofs.Common.{◌≡◌, ◌<◌, ◌≤◌, arith, below_more, get_or, length, refl, subst}
use Rattle.std.proofs.lemmas.Option.{slice_get_within}
use Rattle.adf_keep.specs.Links.{IsWanted}
use Rattle.adf_keep.specs.declared.links.WantedLink.{WantedLink}
use Rattle.adf_keep.proofs.LinksKept.{read_item}
use Rattle.adf_keep.proofs.links_kept.are_kept.Goals as goal

pub loop-k-preserved : goal.loop-k-preserved
loop-k-preserved c = λ are led k lt want is low.
    let image = c.args.x.now.image.now in
    let letters = c.args.x.now.letters in
    let owns = c.args.owns.now in
    below_more
    (λ j. (w : WantedLink) → slice_get c.args.wanted.now j ≡ Some w → 1 ≤ get_or owns j 0 → IsWanted image letters w (get_or owns j 0)) c.loop-k.k
    (c.loop-k.invariant are led)
    (λ w there some.
    let same = read_item c.args.wanted.now c.loop-k.k c.index-wanted-k.result w c.index-wanted-k.is there in
    let own = subst (λ o. 1 ≤ o → IsWanted image letters c.index-wanted-k.result o) c.own_at.ensures (c.if-not-is_kept.ensures are led refl) in
    subst (λ v. IsWanted image letters v (get_or owns c.loop-k.k 0)) same (own some))
    k lt want is low

pub returns : goal.returns
returns c = λ are led yes k want is low.
    let within : k < length c.args.wanted.now = slice_get_within c.args.wanted.now k want is in
    c.loop-k.invariant are led k (omega arith) want is low
