-- The classes of owners, and their numbers.
use Rattle.std.specs.Prelude.{◌==◌, ℕ, Bool, true, false, cond}
use Rattle.adf_volume.specs.declared.owner.Owner.{Owner}
use Rattle.adf_volume.specs.declared.owner.Owner.TheVariants as owner
use Rattle.adf_volume.specs.declared.owner_class.OwnerClass.{OwnerClass}
use Rattle.adf_volume.specs.declared.owner_class.OwnerClass.TheVariants.{Free, Boot, Root, Page, MapExt, Head, Ext, Data}

-- the class of an owner
abbrev pub class_of : Owner → OwnerClass
class_of owner.Free = Free
class_of owner.Boot = Boot
class_of owner.Root = Root
class_of (owner.Page k) = Page
class_of (owner.MapExt k) = MapExt
class_of (owner.Head n) = Head
class_of (owner.Ext n k) = Ext
class_of (owner.Data n k) = Data

-- the number of a class
abbrev pub class_number : OwnerClass → ℕ
class_number Free = 0
class_number Boot = 1
class_number Root = 2
class_number Page = 3
class_number MapExt = 4
class_number Head = 5
class_number Ext = 6
class_number Data = 7

-- the class with a number; Data past the last
abbrev pub class_numbered : ℕ → OwnerClass
class_numbered n =
    cond (n == 0) Free
    (cond (n == 1) Boot
    (cond (n == 2) Root (cond (n == 3) Page (cond (n == 4) MapExt (cond (n == 5) Head (cond (n == 6) Ext Data))))))

-- whether a class is that of a part of a volume
abbrev pub is_part_class : OwnerClass → Bool
is_part_class Free = false
is_part_class Boot = false
is_part_class _ = true
