use Rattle.std.proofs.Common.{◌≡◌, ◌≤◌, ◌<◌, ◌+◌, ◌∙◌, ◌++◌, ◌∷◌, [], ℕ, List, Bor, arith, ap, get_or, length, rules, drop, if◌then◌else◌}
use Rattle.std.proofs.lemmas.List.{get_or_default}
use Rattle.adf_words.specs.CommandLine.{texts_of}
use Rattle.adf_merge_cmd.specs.Answers.{named_maps}
use Rattle.adf_merge_cmd.proofs.{NamedMaps.behind, NamedMaps.map_stopped, NamedMaps.map_taken, NamedMaps.maps_end, NamedMaps.stop_is, Readings.named}
use Rattle.adf_merge_cmd.proofs.{Readings.texts_long}
use Rattle.adf_merge_cmd.proofs.maps.named_maps.Goals as goal

pub returns-in_err-map-clause-stop : goal.returns-in_err-map-clause-stop
returns-in_err-map-clause-stop c =
    let words : List (Bor (List ℕ)) = c.args.names.now in
    let i : ℕ = c.loop-i.i in
    let none : Bor (List ℕ) = record { ref_ptr = (0, 0); now = [] } in
    let word : Bor (List ℕ) = get_or words i none in
    let less : i < length words = search rules in
    let within : i < length c.args.texts.now = omega (arith, less, c.requires) in
    let text : c.bytes.result.now ≡ get_or c.args.texts.now i c.bytes.result.now =
    c.bytes.ensures ∙ (c.index-texts-i.is ∙ get_or_default c.args.texts.now i c.index-texts-i.result c.bytes.result.now within) in
    stop_is _ _ _ c.from_residual.ensures.1
    (map_stopped c.args.size (texts_of words) c.args.texts.now i word.now c.bytes.result.now (omega (arith, less, texts_long words)) within
    (named words i word less (get_or_default words i none word less)) text c.loop-i.maps.items _ c.in_err-map.field-0.0
    (c.in_err-map.ensures.stop _) c.loop-i.invariant)

pub loop-i-preserved : goal.loop-i-preserved
loop-i-preserved c =
    let words : List (Bor (List ℕ)) = c.args.names.now in
    let i : ℕ = c.loop-i.i in
    let none : Bor (List ℕ) = record { ref_ptr = (0, 0); now = [] } in
    let word : Bor (List ℕ) = get_or words i none in
    let less : i < length words = search rules in
    let within : i < length c.args.texts.now = omega (arith, less, c.requires) in
    let text : c.bytes.result.now ≡ get_or c.args.texts.now i c.bytes.result.now =
    c.bytes.ensures ∙ (c.index-texts-i.is ∙ get_or_default c.args.texts.now i c.index-texts-i.result c.bytes.result.now within) in
    let pushed : c.push.new.self.items ≡ c.loop-i.maps.items ++ c.in_ok-map.map ∷ [] = c.push.ensures.items
    ∙ ap (λ b. if b then c.loop-i.maps.items ++ c.in_ok-map.map ∷ [] else c.loop-i.maps.items) c.if-is_err.ensures.negation in
    ap (λ ms. behind ms (named_maps c.args.size (drop (i + 1) (texts_of words)) (drop (i + 1) c.args.texts.now))) pushed
    ∙ map_taken c.args.size (texts_of words) c.args.texts.now i word.now c.bytes.result.now (omega (arith, less, texts_long words)) within
    (named words i word less (get_or_default words i none word less)) text c.loop-i.maps.items _ c.in_ok-map.map
    c.in_ok-map.ensures.ok c.loop-i.invariant

pub returns-clause-ok : goal.returns-clause-ok
returns-clause-ok c =
    let past : length c.args.names.now ≤ c.loop-i.i = search rules in
    maps_end c.args.size (texts_of c.args.names.now) c.args.texts.now c.loop-i.i c.loop-i.maps.items _
    (omega (arith, past, texts_long c.args.names.now)) c.loop-i.invariant
