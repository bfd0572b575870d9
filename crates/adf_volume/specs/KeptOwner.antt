-- Owners as a check keeps them.
use Rattle.std.specs.Prelude.{◌/◌, ◌%◌, ℕ, Bool, List, count_by, slice_index_or}
use Rattle.adf_volume.specs.{declared.kept_owner.KeptOwner.KeptOwner, declared.kept_owner.PackedOwner.PackedOwner}
use Rattle.adf_volume.specs.declared.owner_class.OwnerClass.TheVariants.{Free, Boot}
use Rattle.adf_volume.specs.OwnerClass.{class_numbered, is_part_class}

-- what is kept of a free block
abbrev pub no_owner : KeptOwner
no_owner = record { class = Free; place = 0 }

-- what is kept of a boot block
abbrev pub boot_owner : KeptOwner
boot_owner = record { class = Boot; place = 0 }

-- the owner that is packed in one number
abbrev pub unpacked : PackedOwner → KeptOwner
unpacked p = record { class = class_numbered (p.0 % 8); place = p.0 / 8 }

-- the kept owner of block b
abbrev pub kept_at : List KeptOwner → ℕ → KeptOwner
kept_at owners b = slice_index_or owners b no_owner

-- a part of the volume has claimed the block
abbrev pub is_claimed : KeptOwner → Bool
is_claimed o = is_part_class o.class

-- the number of blocks that parts of the volume have claimed
abbrev pub claimed_count : List KeptOwner → ℕ
claimed_count owners = count_by is_claimed owners
