use Rattle.std.proofs.Common.{◌≡◌, ◌<◌, ◌+◌, ◌∙◌, ◌++◌, ◌∷◌, [], ℕ, List, Option, ap, length, rules, drop, get_or}
use Rattle.std.specs.Prelude.{option_map}
use Rattle.std.proofs.lemmas.List.{get_or_default}
use Rattle.adf_maps.specs.Maps.{MapValue}
use Rattle.adf_readings.specs.Mapped.{MappedValue}
use Rattle.adf_merge_cmd.specs.Answers.{mapped}
use Rattle.adf_merge_cmd.proofs.NamedMaps.{mapped_end, mapped_next}
use Rattle.adf_merge_cmd.proofs.maps.mapped.Goals as goal

pub loop-i-preserved : goal.loop-i-preserved
loop-i-preserved c =
    let rs : List (List ℕ) = c.args.readings.now in
    let maps : List (Option MapValue) = c.args.maps.now in
    let i : ℕ = c.loop-i.i in
    let within : i < length rs = search rules in
    let r : List ℕ = c.bytes.result.now in
    let at : r ≡ get_or rs i r = c.bytes.ensures ∙ (c.index-readings-i.is ∙ get_or_default rs i c.index-readings-i.result r within) in
    ap (λ ms. ms ++ mapped (drop (i + 1) rs) (drop (i + 1) maps))
    (c.in_ok-push.ensures.items ∙ ap (λ (m : MappedValue). c.loop-i.all.items ++ m ∷ []) c.new.ensures)
    ∙ mapped_next rs maps i r (option_map (λ m. m.now) c.map_at.result) c.loop-i.all.items _ within at c.map_at.ensures c.loop-i.invariant

pub returns : goal.returns
returns c = mapped_end c.args.readings.now c.args.maps.now c.loop-i.i c.loop-i.all.items _ (search rules) c.loop-i.invariant
