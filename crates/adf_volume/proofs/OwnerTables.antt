-- Tables of owners: a new one, and one after another claim.
use Rattle.std.proofs.Common.{◌≡◌, ℕ, suc, List, ◌∷◌, ◌+◌, ◌-◌, ◌<◌, ◌≤◌, length, get_or, replicate, map, set, true, refl, sym, ap, ◌∙◌, zero, arith}
use Rattle.std.proofs.{lemmas.List.get_or-map, lemmas.List.get_or_default, lemmas.List.length-map, lemmas.List.map-set, lemmas.Grind.common_steps}
use Rattle.adf_volume.specs.{declared.kept_owner.KeptOwner.KeptOwner, declared.kept_owner.PackedOwner.PackedOwner, OwnerTable.IsTable}
use Rattle.adf_volume.specs.KeptOwner.{boot_owner, claimed_count, is_claimed, kept_at, no_owner, unpacked}

-- a table is one still when a free block is claimed
claimed : (t : List KeptOwner) (n m b : ℕ) (o : KeptOwner) → IsTable is_claimed boot_owner t n m → 2 ≤ b → b < length t → is_claimed o ≡ true
    → kept_at t b ≡ no_owner → IsTable is_claimed boot_owner (set t b o) n (m + 1)
claimed t n m b o h lo hi part free =
    record { boot = grind (arith, common_steps); blocks = grind (arith, common_steps); used = grind (arith, common_steps) }

counted : (t : List KeptOwner) (b : ℕ) (o : KeptOwner) → b < length t → is_claimed o ≡ true → kept_at t b ≡ no_owner
    → claimed_count (set t b o) ≡ claimed_count t + 1
counted t b o hi part free = grind (arith, common_steps)

-- the two boot blocks are owned by no part
bounded : (t : List KeptOwner) (n m : ℕ) → IsTable is_claimed boot_owner t n m → claimed_count t + 2 ≤ length t
bounded t n m h = grind (arith, common_steps)

-- the owner that the table tells is the one that is kept
owner_is : (xs : List PackedOwner) (b : ℕ) (x : PackedOwner) → b < length (map unpacked xs) → x ≡ get_or xs b x
    → kept_at (map unpacked xs) b ≡ unpacked x
owner_is xs b x lt e = grind (arith, common_steps, length-map, get_or-map)

-- what holds of the table that is kept when a block was claimed
pub record IsClaimed (old : List KeptOwner) (items : List PackedOwner) (blocks used b : ℕ) (o : KeptOwner) : Type 0 where
  pub table : IsTable is_claimed boot_owner (map unpacked items) blocks (used + 1)
  pub view : map unpacked items ≡ set old b o
  pub count : claimed_count (map unpacked items) ≡ claimed_count old + 1
  pub bound : claimed_count (map unpacked items) + 2 ≤ length (map unpacked items)

-- a free block is claimed in the table that is kept
pub claim_kept : (items : List PackedOwner) (kept : PackedOwner) {old : List KeptOwner} {blocks used b : ℕ} {x : PackedOwner} {o : KeptOwner}
    → unpacked kept ≡ o → map unpacked items ≡ old → IsTable is_claimed boot_owner (map unpacked items) blocks used → 2 ≤ b
    → b < length old → is_claimed o ≡ true → x ≡ get_or items b x
    → unpacked x ≡ no_owner → IsClaimed old (set items b kept) blocks used b o
claim_kept items kept {old = old} {blocks = blocks} {used = used} {b = b} {x = x} {o = o} same view table lo hi part here free =
    grind (arith, common_steps, owner_is, set, map-set, claimed, counted, bounded)

-- what is kept of a new table
pub new_is : (n : ℕ) (xs : List PackedOwner) (free boot : PackedOwner) → 2 ≤ n → xs ≡ replicate n free → unpacked free ≡ no_owner → unpacked boot ≡ boot_owner
    → map unpacked (set (set xs 0 boot) 1 boot) ≡ boot_owner ∷ boot_owner ∷ replicate (n - 2) no_owner
new_is zero xs free boot lo e f b = absurd (omega arith)
new_is (suc zero) xs free boot lo e f b = absurd (omega arith)
new_is (suc (suc m)) xs free boot lo e f b =
    let rest : m ≡ suc (suc m) - 2 = omega arith in
    ap (λ t. map unpacked (set (set t 0 boot) 1 boot)) e ∙ ap (λ o. o ∷ unpacked boot ∷ map unpacked (replicate m free)) b
    ∙ ap (λ o. boot_owner ∷ o ∷ map unpacked (replicate m free)) b ∙ ap (λ t. boot_owner ∷ boot_owner ∷ t) (free_is m ∙ ap (λ k. replicate k no_owner) rest)
  where
    free_is : (m : ℕ) → map unpacked (replicate m free) ≡ replicate m no_owner
    free_is zero = refl
    free_is (suc m) = ap (λ o. o ∷ map unpacked (replicate m free)) f ∙ ap (λ t. no_owner ∷ t) (free_is m)

pub new_table : (n : ℕ) → 2 ≤ n → IsTable is_claimed boot_owner (boot_owner ∷ boot_owner ∷ replicate (n - 2) no_owner) n 0
new_table n lo = record { boot = refl; blocks = grind (arith, common_steps); used = grind (arith, common_steps) }

-- the same of a block that the table tells is free
pub put_kept : (items : List PackedOwner) (kept : PackedOwner) {old : List KeptOwner} {blocks used b : ℕ} {o : KeptOwner}
    → unpacked kept ≡ o → map unpacked items ≡ old → IsTable is_claimed boot_owner (map unpacked items) blocks used → 2 ≤ b
    → b < length old → is_claimed o ≡ true → kept_at old b ≡ no_owner → IsClaimed old (set items b kept) blocks used b o
put_kept items kept {old = old} {blocks = blocks} {used = used} {b = b} {o = o} same view table lo hi part free =
    let many : length (map unpacked items) ≡ length old = ap length view in
    let same_length : length (map unpacked items) ≡ length items = grind (arith, common_steps, length-map) in
    let lt : b < length items = omega (arith, same_length, many, hi) in
    let x : PackedOwner = get_or items b kept in
    let here : x ≡ get_or items b x = get_or_default items b kept x lt in
    let is : unpacked x ≡ no_owner = sym (owner_is items b x (omega (arith, many, hi)) here) ∙ (ap (λ t. kept_at t b) view ∙ free) in
    claim_kept items kept same view table lo hi part here is
