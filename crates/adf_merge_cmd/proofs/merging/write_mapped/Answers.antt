use Rattle.std.proofs.Common.{◌≡◌, ◌*◌, ◌∙◌, ap, arith, length, subst, sym}
use Rattle.adf_readings.specs.Merge.{HaveBlocks}
use Rattle.adf_merge_cmd.proofs.NamedMaps.{mapped_each, mapped_long}
use Rattle.adf_merge_cmd.proofs.merging.write_mapped.Goals as goal

pub write_merged-requires-clause-whole : goal.write_merged-requires-clause-whole
write_merged-requires-clause-whole g c = subst (HaveBlocks c.args.blocks) (sym (c.deref.ensures.value ∙ c.in-Ok.ensures))
    (mapped_each (λ r. length r ≡ c.args.blocks * 512) c.args.readings.now c.args.maps.now c.requires.whole)

pub write_merged-requires-clause-some : goal.write_merged-requires-clause-some
write_merged-requires-clause-some g c =
    let long = ap length (c.deref.ensures.value ∙ c.in-Ok.ensures) ∙ mapped_long c.args.readings.now c.args.maps.now in
    omega (arith, long, c.requires.some)

pub write_merged-requires-clause-few : goal.write_merged-requires-clause-few
write_merged-requires-clause-few g c =
    let long = ap length (c.deref.ensures.value ∙ c.in-Ok.ensures) ∙ mapped_long c.args.readings.now c.args.maps.now in
    omega (arith, long, c.requires.few)
