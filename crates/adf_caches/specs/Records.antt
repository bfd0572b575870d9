-- Records of directory caches.
-- Letters: c the bytes of a cache block; at the byte where a record begins; k a number of records.
use Rattle.std.specs.Prelude.{ℕ, ◌+◌, ◌*◌, ◌%◌, ◌&&◌, Bool, true, nat_le, nat_lt, List, [], ◌∷◌, slice_index, slice_range}
use Rattle.std.proofs.Common.{zero, suc}
use Rattle.adf_caches.specs.declared.records.CacheRecord.{CacheRecord}

-- what a record says: the block of a header, and of that its size, the last byte of its secondary type, and its name
pub record RecordValue : Type 0 where
  pub header : ℕ
  pub size : ℕ
  pub kind : ℕ
  pub name : List ℕ

-- the value of a record in the code
abbrev pub record_value : CacheRecord → RecordValue
record_value r = record { header = r.header; size = r.size; kind = r.kind; name = r.name.now }

-- the number in two bytes, the most significant first
unfoldable pub pair_at : List ℕ → (at : ℕ) → ℕ
pair_at c at = slice_index c at * 256 + slice_index c (at + 1)

-- the number in four bytes
unfoldable pub long_at : List ℕ → (at : ℕ) → ℕ
long_at c at = pair_at c at * 65536 + pair_at c (at + 2)

-- the byte behind the name of a record: that of its comment's length
unfoldable pub comment_at : List ℕ → (at : ℕ) → ℕ
comment_at c at = at + 24 + slice_index c (at + 23)

-- the byte behind a record
unfoldable pub record_end : List ℕ → (at : ℕ) → ℕ
record_end c at = comment_at c at + 1 + slice_index c (comment_at c at)

-- the byte where the next record begins: an even one
unfoldable pub record_next : List ℕ → (at : ℕ) → ℕ
record_next c at = record_end c at + record_end c at % 2

-- the record that begins at a byte
unfoldable pub record_at : List ℕ → (at : ℕ) → RecordValue
record_at c at = record { header = long_at c at; size = long_at c (at + 4); kind = slice_index c (at + 22); name = slice_range c (at + 24) (comment_at c at) }

-- k records, from a byte on
abbrev pub records_from : List ℕ → (k at : ℕ) → List RecordValue
records_from c zero at = []
records_from c (suc k) at = record_at c at ∷ records_from c k (record_next c at)

-- the record is within its block
unfoldable pub record_fits : List ℕ → (at : ℕ) → Bool
record_fits c at = nat_le (at + 24) 512 && (nat_lt (comment_at c at) 512 && nat_le (record_end c at) 512)

-- each of k records is
abbrev pub records_fit : List ℕ → (k at : ℕ) → Bool
records_fit c zero at = true
records_fit c (suc k) at = record_fits c at && records_fit c k (record_next c at)
