use Rattle.adf_memory.proofs.CheckedVolumes.{role_told}
use Rattle.adf_memory.proofs.owners.role_of.Goals as goal

pub returns : goal.returns
returns c = role_told c.args.volume.now c.args.b c.number.result c.owner_class.result c.unwrap.result c.unwrap.ensures
    c.number.ensures.number c.owner_class.ensures.part c.owner_class.ensures.boot c.owner_class.ensures.free c.requires
