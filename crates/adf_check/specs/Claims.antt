-- Claims of blocks that a word points to.
use Rattle.std.specs.Prelude.{◌≡◌, ◌≢◌, ◌⊎◌, ◌≤◌, ◌<◌, ℕ, List, length}
use Rattle.adf_blocks.specs.declared.cause.Cause.TheVariants.{OutOfRange, Taken}
use Rattle.adf_volume.specs.{KeptOwner.kept_at, KeptOwner.no_owner, declared.kept_owner.KeptOwner.KeptOwner}
use Rattle.adf_volume.specs.{Fault.fault, declared.fault.Fault.Fault}

-- block b may belong to a part of a volume of n blocks
abbrev pub InRange : ℕ → ℕ → Type 0
InRange n b = (2 ≤ b) × (b < n)

-- why block b, which a word of block `holder` points to, cannot be claimed: it is out of range, or it has an owner
abbrev pub IsClaimFault : List KeptOwner → ℕ → ℕ → Fault → Type 0
IsClaimFault owners holder b f =
    ((InRange (length owners) b → ⊥) × (f ≡ fault holder OutOfRange))
    ⊎ (InRange (length owners) b × (kept_at owners b ≢ no_owner) × (f ≡ fault b Taken))
