-- CRC-32, as zip and `cksum -a crc32b` have it: of the polynomial 0x04C11DB7, the lowest bit of a byte first. r is the register.
use Rattle.std.specs.Prelude.{◌==◌, ◌/◌, ◌%◌, ℕ, List, bit_xor, cond}
use Rattle.std.proofs.Common.{zero, suc}
use Rattle.std.specs.List.{fold}

-- the register one bit further
abbrev pub bit_step : ℕ → ℕ
bit_step r = cond (r % 2 == 1) (bit_xor (r / 2) 0xEDB88320) (r / 2)

-- the register n bits further
unfoldable pub bit_steps : ℕ → ℕ → ℕ
bit_steps zero r = r
bit_steps (suc n) r = bit_step (bit_steps n r)

-- the register behind one more byte
unfoldable pub byte_step : ℕ → ℕ → ℕ
byte_step r byte = bit_steps 8 (bit_xor r byte)

-- the CRC-32 of bytes
abbrev pub crc_32 : List ℕ → ℕ
crc_32 bytes = bit_xor (fold byte_step 0xFFFFFFFF bytes) 0xFFFFFFFF
