-- The sizes of volumes and files, and the numbers of blocks that follow.
use Rattle.std.specs.Prelude.{ℕ, ◌+◌, ◌-◌, ◌/◌, ◌%◌, ◌==◌, ◌&&◌, nat_le, nat_lt, Bool, List, length}
use Rattle.adf_names.specs.declared.kind.Kind.{Kind, TheVariants.Ofs, TheVariants.Ffs}
use Rattle.adf_blocks.specs.declared.layout.TheConstants.{DATA_ROOM, MOST_BLOCKS, MOST_PLAIN_BLOCKS, PAGE_BITS}

-- an allowed size, in blocks: even, 4 to MOST_BLOCKS
abbrev pub is_allowed : ℕ → Bool
is_allowed n = nat_le 4 n && nat_le n MOST_BLOCKS && (n % 2 == 0)

-- an allowed size of a volume of plain types: even, 4 to MOST_PLAIN_BLOCKS
abbrev pub is_plain_size : ℕ → Bool
is_plain_size n = is_allowed n && nat_le n MOST_PLAIN_BLOCKS

-- the number of blocks of an image
abbrev pub blocks : List ℕ → ℕ
blocks image = length image / 512

-- block b is in range: after the boot blocks, and in the image
abbrev pub in_range : List ℕ → ℕ → Bool
in_range image b = nat_le 2 b && nat_lt b (blocks image)

-- the root's block in a volume of n blocks
abbrev pub middle : ℕ → ℕ
middle n = n / 2

-- the number of bitmap pages for n blocks: each has bits for PAGE_BITS blocks, and blocks 0 and 1 have none
abbrev pub pages_needed : ℕ → ℕ
pages_needed n = (n - 2 + (PAGE_BITS - 1)) / PAGE_BITS

-- the bytes of a file in a full data block
unfoldable pub chunk : Kind → ℕ
chunk Ofs = DATA_ROOM
chunk Ffs = 512

-- the number of data blocks for this many bytes
unfoldable pub count : Kind → ℕ → ℕ
count kind size = (size + (chunk kind - 1)) / chunk kind
