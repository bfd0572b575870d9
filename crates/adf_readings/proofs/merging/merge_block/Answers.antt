use Rattle.std.proofs.Common.{◌≡◌, ◌≤◌, ◌<◌, ◌+◌, ◌*◌, ◌∙◌, ℕ, All, ap, sym, subst, length, arith}
use Rattle.adf_readings.proofs.Sources.{sources_few, sources_reach, version_added}
use Rattle.adf_readings.proofs.merging.merge_block.Goals as goal
use Rattle.adf_readings.proofs.merging.merge_block.Goals.{then-differing-gt0+in_ok-push-2, else-differing-gt0}

pub taken-i-requires-clause-whole : goal.taken-i-requires-clause-whole
taken-i-requires-clause-whole c =
    let b : ℕ = c.args.block in
    subst (All (λ r. b * 512 + 512 ≤ length r)) (sym (c.deref.ensures.value ∙ c.in_ok-images.ensures.sources))
    (sources_reach c.args.blocks c.args.readings.now b c.requires.whole c.requires.within)

pub taken-i-requires-clause-few : goal.taken-i-requires-clause-few
taken-i-requires-clause-few c = omega (arith, ap length (c.deref.ensures.value ∙ c.in_ok-images.ensures.sources), sources_few c.args.readings.now c.args.block)

pub version-requires : goal.version-requires
version-requires c =
    let b : ℕ = c.args.block in
    let whole : All (λ r. b * 512 + 512 ≤ length r) c.in_ok-images.images.items = subst (All (λ r. b * 512 + 512 ≤ length r))
    (sym c.in_ok-images.ensures.sources) (sources_reach c.args.blocks c.args.readings.now b c.requires.whole c.requires.within) in
    let inside : c.taken-i.result < length c.in_ok-images.images.items = omega (arith, ap length c.deref.ensures.value) in
    subst (λ r. b * 512 + 512 ≤ length r) (sym c.index.ensures) (whole c.taken-i.result c.index.result.now inside)

pub doubtful-differing-requires-clause-whole : goal.doubtful-differing-requires-clause-whole
doubtful-differing-requires-clause-whole c =
    let b : ℕ = c.args.block in
    subst (All (λ r. b * 512 + 512 ≤ length r)) (sym (c.deref-2.ensures.value ∙ c.in_ok-images.ensures.sources))
    (sources_reach c.args.blocks c.args.readings.now b c.requires.whole c.requires.within)

pub doubtful-differing-requires-clause-few : goal.doubtful-differing-requires-clause-few
doubtful-differing-requires-clause-few c =
    omega (arith, ap length (c.deref-2.ensures.value ∙ c.in_ok-images.ensures.sources), sources_few c.args.readings.now c.args.block)

pub returns-then-lacked-clause-image : goal.returns-then-lacked-clause-image
returns-then-lacked-clause-image c =
    let inside : c.taken-i.result < length c.in_ok-images.images.items = omega (arith, ap length c.deref.ensures.value) in
    version_added c.args.blocks c.args.readings.now c.args.block c.in_ok-images.images.items c.taken-i.result c.index.result.now c.version.result.now _ _
    c.requires.whole c.requires.within c.in_ok-images.ensures.sources inside c.index.ensures c.version.ensures c.in_ok-extend_from_slice.ensures.items

pub returns-clause-image : goal.returns-clause-image
returns-clause-image c =
    let inside : c.taken-i.result < length c.in_ok-images.images.items = omega (arith, ap length c.deref.ensures.value) in
    let kept : c.if-differing-gt0.merged.image.items ≡ c.extend_from_slice.new.self.items = elim c.if-differing-gt0.branch [
      | then-differing-gt0+in_ok-push-2 w ↦ ap (λ m. m.image.items) w.merged-is
      | else-differing-gt0 w ↦ ap (λ m. m.image.items) w.merged-is
    ] in
    version_added c.args.blocks c.args.readings.now c.args.block c.in_ok-images.images.items c.taken-i.result c.index.result.now c.version.result.now _ _
    c.requires.whole c.requires.within c.in_ok-images.ensures.sources inside c.index.ensures c.version.ensures
    (kept ∙ c.in_ok-extend_from_slice.ensures.items)
