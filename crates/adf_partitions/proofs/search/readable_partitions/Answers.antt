use Rattle.std.proofs.{Common.ap, Common.inl, Common.inr, Common.subst, Common.sym, lemmas.Result.IfOk-weaker, lemmas.Result.on_err_weaker}
use Rattle.adf_partitions.specs.Searches.{AreReadable, bare_partitions, AreReadable.bare, AreReadable.other}
use Rattle.adf_partitions.specs.declared.fault.DiskFault.{DiskFault}
use Rattle.adf_partitions.proofs.search.readable_partitions.Goals as goal

pub returns-in-NoRigidDisk-clause-readable : goal.returns-in-NoRigidDisk-clause-readable
returns-in-NoRigidDisk-clause-readable c = elim c.in-Err.ensures.fault [
  | inl h ↦
      let stands = AreReadable c.args.bytes.now c.args.blocks in
      IfOk-weaker c.bare_partitions.result _ _ (λ v e. subst stands (sym e) (bare h.0)) c.bare_partitions.ensures.all
  | inr h ↦ let x = c.in-NoRigidDisk.is in let y = h.2 in absurd cc
]

pub returns-in_default-clause-readable : goal.returns-in_default-clause-readable
returns-in_default-clause-readable c = elim c.in-Err.ensures.fault [
  | inl h ↦ absurd (c.in_default.not-NoRigidDisk (ap (λ (f : DiskFault). f.cause) h.1))
  | inr h ↦ subst (AreReadable c.args.bytes.now c.args.blocks) (sym c.new.ensures.items) (other h.0 h.1)
]

pub returns-in-NoRigidDisk-clause-begun : goal.returns-in-NoRigidDisk-clause-begun
returns-in-NoRigidDisk-clause-begun c = elim c.in-Err.ensures.fault [
  | inl h ↦
      let all = bare_partitions c.args.bytes.now c.args.blocks in
      on_err_weaker c.bare_partitions.result (λ some. (all, bare h.0, some)) c.bare_partitions.ensures.begun
  | inr h ↦ let x = c.in-NoRigidDisk.is in let y = h.2 in absurd cc
]
