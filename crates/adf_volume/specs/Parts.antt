-- Parts as roles, and the entries that owners are parts of.
use Rattle.std.specs.Prelude.{ℕ}
use Rattle.adf_volume.specs.Walk.{Role, Role.Root, Role.Page, Role.MapExt, Role.Head, Role.Ext, Role.Data}
use Rattle.adf_volume.specs.{declared.owner.Owner.Owner, declared.part.Part.Part}
use Rattle.adf_volume.specs.declared.owner.Owner.TheVariants as owner
use Rattle.adf_volume.specs.declared.part.Part.TheVariants as part

-- the part as a role
abbrev pub role_of : Part → Role
role_of part.Root = Root
role_of (part.Page i) = Page i
role_of (part.MapExt j) = MapExt j
role_of (part.Head n p s j) = Head n p s j
role_of (part.Ext n k) = Ext n k
role_of (part.Data n k) = Data n k

-- the role, with this number if it is a header's
abbrev pub renumbered : ℕ → Role → Role
renumbered m (Head n p s j) = Head m p s j
renumbered m r = r

-- the entry that an owner is a part of; 0 of the root and the bitmap, and where there is none
abbrev pub entry_of : Owner → ℕ
entry_of (owner.Head n) = n
entry_of (owner.Ext n k) = n
entry_of (owner.Data n k) = n
entry_of _ = 0
