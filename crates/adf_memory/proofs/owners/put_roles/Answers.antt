use Rattle.std.proofs.Common.{◌∙◌, arith}
use Rattle.adf_memory.specs.OwnerNumbers.{IsOwnerNumber}
use Rattle.adf_memory.proofs.Rooms.{put_more, put_keeps}
use Rattle.adf_memory.proofs.owners.put_roles.Goals as goal

pub loop-b-preserved : goal.loop-b-preserved
loop-b-preserved c =
    let roles = c.loop-b.roles in
    let b = c.loop-b.b in
    let r = c.role_of.result in
    record {
      roles = put_more (IsOwnerNumber c.args.volume.now) roles b r c.if-at-roles.false c.role_of.ensures c.loop-b.invariant.roles;
      behind = λ k far. put_keeps roles b r k far ∙ c.loop-b.invariant.behind k (omega arith);
    }

pub returns-clause-roles : goal.returns-clause-roles
returns-clause-roles c = λ b low inside. c.loop-b.invariant.roles b (omega (arith, c.counts-b-end.ensures.blocks, inside)) low
