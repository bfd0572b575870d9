-- Look-up along the chains of an image.
use Rattle.std.specs.Prelude.{ℕ, Option, Some, None}
use Rattle.adf_volume.specs.declared.kept_owner.KeptOwner.{KeptOwner}
use Rattle.adf_volume.specs.declared.owner_class.OwnerClass.{OwnerClass, TheVariants.Head}

-- the node of a header, by the class of its owner and its place
abbrev pub headed_by : OwnerClass → ℕ → Option ℕ
headed_by Head n = Some n
headed_by _ n = None

-- the node of the header that the owner of a block is
abbrev pub headed : KeptOwner → Option ℕ
headed o = headed_by o.class o.place
