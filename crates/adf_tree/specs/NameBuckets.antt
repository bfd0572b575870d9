-- The buckets of a set of names: a hash table with windows of eight.
use Rattle.std.specs.Prelude.{◌≡◌, ℕ, ◌+◌, ◌-◌, ◌*◌, ◌/◌, ◌^◌, ◌++◌, zero, suc, false, List, length, Option, Some, None, if◌then◌else◌, slice_index, nat_lt}
use Rattle.std.specs.{List.slice_get, Ordering.is_eq}
use Rattle.adf_tree.specs.{declared.name_key.NameKey.NameKey, NameKeys.by_words, NameKeys.spread_of, NameSet.Names, NameSet.is_among}
use Rattle.adf_tree.specs.declared.name_set.Probe.{Probe, TheVariants.Stored, TheVariants.Vacant, TheVariants.Full}

-- the first bucket of a name in a table of this size
unfoldable pub first_bucket_in : ℕ → NameKey → ℕ
first_bucket_in count k = spread_of k * count / 2 ^ 64

-- the name in a bucket
abbrev pub holder_of : Names → List ℕ → ℕ → Option NameKey
holder_of names buckets bucket = slice_get names (slice_index buckets bucket)

-- the result of a search at one bucket, given the result at the buckets after it
abbrev pub probe_at : ℕ → NameKey → Option NameKey → Probe → Probe
probe_at bucket k None further = Vacant bucket
probe_at bucket k (Some held) further = if is_eq (by_words k held) then Stored else further

-- the result of a search at n adjacent buckets, from `bucket` on
abbrev pub probe_from : Names → List ℕ → NameKey → ℕ → ℕ → Probe
probe_from names buckets k bucket zero = Full
probe_from names buckets k bucket (suc n) = probe_at bucket k (holder_of names buckets bucket) (probe_from names buckets k (bucket + 1) n)

-- the result of a search at the buckets of a name
unfoldable pub probe_buckets : Names → List ℕ → NameKey → Probe
probe_buckets names buckets k = probe_from names buckets k (first_bucket_in (length buckets - 8) k) 8

-- no bucket counts as vacant once 2^32 names have one
abbrev pub while_few : ℕ → Probe → Probe
while_few count (Vacant bucket) = if nat_lt count (2 ^ 32) then Vacant bucket else Full
while_few count Stored = Stored
while_few count Full = Full

-- how a search in the buckets of a name ends
abbrev pub probe_of : Names → List ℕ → NameKey → Probe
probe_of names buckets k = while_few (length names) (probe_buckets names buckets k)

-- a name with a vacant bucket is not in the set; a name with none vacant is in the overflow or not in the set
pub record AreStored (names : Names) (buckets : List ℕ) (overflow : Names) : Type 0 where
  pub vacant : (k : NameKey) (bucket : ℕ) → probe_of names buckets k ≡ Vacant bucket → is_among (names ++ overflow) k ≡ false
  pub full : (k : NameKey) → probe_of names buckets k ≡ Full → is_among (names ++ overflow) k ≡ is_among overflow k
