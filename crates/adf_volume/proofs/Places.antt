-- The blocks in the places of a layout.
use Rattle.std.proofs.Common.{◌≡◌, ℕ, zero, suc, List, [], ◌∷◌, ◌<◌, length, ap, arith}
use Rattle.adf_volume.specs.{Lists.At, Layout.Place, Layout.head_at, Layout.exts_at, Layout.datas_at}

pub place_parts : (qs : List Place) (i : ℕ) (q : Place) → At qs i q → (head_at qs i ≡ q.head) × (exts_at qs i ≡ q.exts) × (datas_at qs i ≡ q.datas)
place_parts [] i q h = absurd h
place_parts (r ∷ qs) zero q h = (ap (λ (x : Place). x.head) h, ap (λ (x : Place). x.exts) h, ap (λ (x : Place). x.datas) h)
place_parts (r ∷ qs) (suc i) q h = place_parts qs i q h

-- an extension block is that of a place
pub exts_below : (qs : List Place) (i k b : ℕ) → At (exts_at qs i) k b → i < length qs
exts_below [] i k b h = absurd h
exts_below (q ∷ qs) zero k b h = omega arith
exts_below (q ∷ qs) (suc i) k b h = let ih : i < length qs = exts_below qs i k b h in omega arith

-- a data block is that of a place
pub datas_below : (qs : List Place) (i k b : ℕ) → At (datas_at qs i) k b → i < length qs
datas_below [] i k b h = absurd h
datas_below (q ∷ qs) zero k b h = omega arith
datas_below (q ∷ qs) (suc i) k b h = let ih : i < length qs = datas_below qs i k b h in omega arith
