use Rattle.std.proofs.Common.{◌≡◌, ◌<◌, ◌≤◌, ◌-◌, ◌++◌, ◌∷◌, [], refl, ap, subst, ◌∙◌, arith, replicate}
use Rattle.adf_blocks.specs.Sizes.{blocks}
use Rattle.adf_volume.specs.declared.owner.Owner.TheVariants.{Free, Boot}
use Rattle.adf_findings.specs.{declared.found.Found.Found, Found.IsOwned}
use Rattle.adf_volume.specs.declared.part.Part.TheVariants.{Root as RootPart}
use Rattle.adf_findings.proofs.Begun.{root_next, stands_begun}
use Rattle.adf_findings.proofs.found.Found.begin.Goals as goal

pub own-requires : goal.own-requires
own-requires c =
    let f : Found = record {
      pages = c.new-2.result;
      owners = c.in_ok-owners.owners;
      skipped = c.new-3.result;
      left = c.blocks-blocks.result;
      nodes = c.new-4.result;
      names = c.new-5.result;
      parents = c.in_ok-parents.parents;
      places = c.new-6.result;
    } in
    let size = c.blocks-blocks.ensures.blocks in
    let many : 4 ≤ blocks c.args.image.now = omega (arith, c.blocks-blocks.ensures.many, size) in
    let new = c.in_ok-owners.ensures.owners ∙ ap (λ n. Boot ∷ Boot ∷ replicate (n - 2) Free) size in
    record { next = root_next c.args.image.now f c.root-root.result many c.root-root.ensures.root new c.in_ok-owners.ensures.node size }

pub returns-clause-stands : goal.returns-clause-stands
returns-clause-stands c =
    let f : Found = record {
      pages = c.new-2.result;
      owners = c.in_ok-owners.owners;
      skipped = c.new-3.result;
      left = c.blocks-blocks.result;
      nodes = c.new-4.result;
      names = c.new-5.result;
      parents = c.in_ok-parents.parents;
      places = c.new-6.result;
    } in
    let size = c.blocks-blocks.ensures.blocks in
    let many : 4 ≤ blocks c.args.image.now = omega (arith, c.blocks-blocks.ensures.many, size) in
    let new = c.in_ok-owners.ensures.owners ∙ ap (λ n. Boot ∷ Boot ∷ replicate (n - 2) Free) size in
    stands_begun c.args.image.now f c.own.new.self (record c.own.new.self { nodes = c.push.new.self }) many c.new-2.ensures.empty new
    c.in_ok-owners.ensures.node c.new-3.ensures.items size c.new-4.ensures.items
    (c.in_ok-parents.ensures.items_if_clones_equal (λ y h. h)) c.new-6.ensures.items
    (subst (λ r. IsOwned RootPart r f c.own.new.self) c.root-root.ensures.root c.in_ok-own.ensures.owned) c.in_ok-own.ensures.rest refl
    (subst (λ r. c.push.new.self.items ≡ c.own.new.self.nodes.items ++ r ∷ []) c.root-root.ensures.root c.in_ok-push.ensures.items)
    (subst (λ r. r < blocks c.args.image.now) c.root-root.ensures.root c.root-root.ensures.inside)
