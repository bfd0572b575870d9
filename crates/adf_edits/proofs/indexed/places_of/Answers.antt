use Rattle.std.proofs.Common.{◌∙◌, ◌++◌, ◌∷◌, [], List, ap, append_assoc, arith}
use Rattle.std.proofs.lemmas.Grind.{common_steps}
use Rattle.adf_tree.specs.Additions.{Addition}
use Rattle.adf_edits.specs.Index.{standing}
use Rattle.adf_edits.proofs.StandingPlaces.{pushed}
use Rattle.adf_edits.proofs.indexed.places_of.Goals as goal

pub push-requires-clause-sound : goal.push-requires-clause-sound
push-requires-clause-sound c = c.loop-item.invariant.sound

pub loop-item-preserved : goal.loop-item-preserved
loop-item-preserved c = record {
  items = ap standing c.in_ok-push.ensures.entry ∙ (pushed c.loop-item.places.entries.items c.in-Some.item
      ∙ ap (λ (xs : List Addition). xs ++ c.in-Some.item ∷ []) c.loop-item.invariant.items);
  sound = c.in_ok-push.ensures.sound;
  all = grind (arith, common_steps, append_assoc);
}
