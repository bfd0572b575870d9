use Rattle.std.proofs.{Common.◌∙◌, lemmas.Result.IfOk-weaker}
use Rattle.adf_disk_cmd.proofs.NewVolumes.{MayBeNew, cached_of, has_boot, long_new, plain_of}
use Rattle.adf_disk_cmd.proofs.new_volumes.new_volume.Goals as goal

pub returns-in-WithoutCaches-clause-long : goal.returns-in-WithoutCaches-clause-long
returns-in-WithoutCaches-clause-long c =
    let may : MayBeNew c.args.blocks c.args.partition.now.name = record { size = c.requires.size; label = c.requires.label } in
    long_new c.args.blocks c.args.partition.now.system c.args.partition.now.name _ may c.in_ok-volume.ensures

pub returns-in-WithoutCaches-clause-new : goal.returns-in-WithoutCaches-clause-new
returns-in-WithoutCaches-clause-new c =
    let may : MayBeNew c.args.blocks c.args.partition.now.name = record { size = c.requires.size; label = c.requires.label } in
    plain_of c.args.blocks c.args.partition.now.system c.args.partition.now.name c.in_ok-volume.volume.items may c.in_ok-volume.ensures _ _
    c.in-WithoutCaches.is

pub with_caches-requires : goal.with_caches-requires
with_caches-requires c =
    let may : MayBeNew c.args.blocks c.args.partition.now.name = record { size = c.requires.size; label = c.requires.label } in
    rw c.deref.ensures.value
    (has_boot c.args.blocks c.args.partition.now.system c.args.partition.now.name c.in_ok-volume.volume.items may c.in_ok-volume.ensures)

pub returns-in-WithCaches-clause-long : goal.returns-in-WithCaches-clause-long
returns-in-WithCaches-clause-long c =
    let may : MayBeNew c.args.blocks c.args.partition.now.name = record { size = c.requires.size; label = c.requires.label } in
    let long = long_new c.args.blocks c.args.partition.now.system c.args.partition.now.name c.in_ok-volume.volume.items may c.in_ok-volume.ensures in
    IfOk-weaker c.with_caches.result _ _ (λ image h. h.0.long ∙ long) (rw c.deref.ensures.value at c.with_caches.ensures)

pub returns-in-WithCaches-clause-new : goal.returns-in-WithCaches-clause-new
returns-in-WithCaches-clause-new c =
    let may : MayBeNew c.args.blocks c.args.partition.now.name = record { size = c.requires.size; label = c.requires.label } in
    IfOk-weaker c.with_caches.result _ _
    (λ image h. cached_of c.args.blocks c.args.partition.now.system c.args.partition.now.name c.in_ok-volume.volume.items may c.in_ok-volume.ensures _
    image.items c.in-WithCaches.is h.0 h.1) (rw (c.deref.ensures.value, c.planned_type.ensures) at c.with_caches.ensures)
