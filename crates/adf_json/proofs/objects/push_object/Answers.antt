use Rattle.std.proofs.Common.{[], append_assoc, arith}
use Rattle.std.proofs.lemmas.Grind.{common_steps}
use Rattle.std.proofs.lemmas.Simd.{map-map}
use Rattle.adf_json.specs.{Objects.member_text, Objects.member_value, declared.objects.Member.Member, declared.objects.Value.TheVariants.Nothing}
use Rattle.adf_json.proofs.JoinSteps.{joined_step}
use Rattle.adf_json.proofs.objects.push_object.Goals as goal

pub loop-i-preserved : goal.loop-i-preserved
loop-i-preserved c =
    let none : Member = record { name = record { ref_ptr = (0, 0); now = [] }; value = Nothing } in
    rw (
      c.in_ok-push_member.ensures,
      c.loop-i.invariant,
      joined_step 44 (λ m. member_text (member_value m)) c.args.members.now c.loop-i.i none (omega arith),
      append_assoc,
    )

pub returns : goal.returns
returns c = grind (arith, common_steps, append_assoc, map-map)
