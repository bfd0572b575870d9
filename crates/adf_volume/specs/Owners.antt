-- The owners of blocks.
use Rattle.std.specs.Prelude.{ℕ, Bool, List, count_by, slice_index_or}
use Rattle.adf_volume.specs.declared.owner.Owner.{Owner, TheVariants.Free}
use Rattle.adf_volume.specs.OwnerClass.{class_of, is_part_class}

-- the owner of block b
abbrev pub owner_at : List Owner → ℕ → Owner
owner_at owners b = slice_index_or owners b Free

-- a part of the volume owns the block
abbrev pub is_part : Owner → Bool
is_part o = is_part_class (class_of o)

-- the number of blocks that parts of the volume own
abbrev pub owned_count : List Owner → ℕ
owned_count owners = count_by is_part owners
