-- The readings whose versions of a block count. Letters: ms readings with their maps, b the number of a block; P what holds of images.
use Rattle.std.proofs.Common.{◌≡◌, ◌≤◌, ◌<◌, ◌+◌, ◌*◌, ◌⊎◌, ◌∙◌, ◌++◌, ℕ, suc, zero, Bool, true, false, not, List, [], ◌∷◌, All, Contains, if◌then◌else◌, length, get_or, inl, inr, refl, subst, sym, ap, arith}
use Rattle.std.proofs.{Common.length-take, lemmas.List.length-drop}
use Rattle.std.proofs.lemmas.{Bool.cond_both, List.length-map, List.Elements.All-filter, List.Elements.All-map, List.Sums.count_by-le-length, List.Sums.length-filter}
use Rattle.std.proofs.lemmas.List.Elements.{Contains-get_or}
use Rattle.adf_base.specs.Words.{block}
use Rattle.adf_readings.specs.Merge.{HasVersion, HaveBlocks}
use Rattle.adf_readings.specs.Mapped.{MappedValue, having, images, is_lacked, is_none, lacks, sources}

-- what holds of both lists holds of the one that counts
pub of_sources : (ms : List MappedValue) (b : ℕ) (P : List (List ℕ) → Type 0) → (is_lacked ms b ≡ true → P (images ms))
    → (is_lacked ms b ≡ false → P (images (having ms b))) → P (sources ms b)
of_sources ms b P none some = cond_both (is_lacked ms b) (images ms) (images (having ms b)) P none some

not_none : (ms : List MappedValue) → is_none ms ≡ false → 0 < length ms
not_none [] e = absurd cc
not_none (m ∷ ms) e = omega arith

pub sources_some : (ms : List MappedValue) (b : ℕ) → 0 < length ms → 0 < length (sources ms b)
sources_some ms b some = of_sources ms b (λ rs. 0 < length rs) (λ _. omega (arith, length-map ms (λ m. m.image)))
    (λ found. omega (arith, length-map (having ms b) (λ m. m.image), not_none (having ms b) found))

pub sources_few : (ms : List MappedValue) (b : ℕ) → length (sources ms b) ≤ length ms
sources_few ms b = of_sources ms b (λ rs. length rs ≤ length ms) (λ _. omega (arith, length-map ms (λ m. m.image)))
    (λ _. omega (arith, length-map (having ms b) (λ m. m.image), length-filter (λ m. not (lacks m b)) ms, count_by-le-length (λ m. not (lacks m b)) ms))

pub sources_whole : (ms : List MappedValue) (b : ℕ) (P : List ℕ → Type 0) → All (λ m. P m.image) ms → All P (sources ms b)
sources_whole ms b P all = of_sources ms b (All P) (λ _. All-map P (λ m. m.image) ms all)
    (λ _. All-map P (λ m. m.image) (having ms b) (All-filter (λ m. not (lacks m b)) (λ m. P m.image) ms all))

-- an image of readings is that of one of them
image_of : (ms : List MappedValue) (r : List ℕ) → Contains (images ms) r → (m : MappedValue) × Contains ms m × (m.image ≡ r)
image_of [] r (i, lt, at) = absurd (omega arith)
image_of (m ∷ ms) r (zero, lt, at) = (m, (0, omega arith, refl), at)
image_of (m ∷ ms) r (suc i, lt, at) =
    let found = image_of ms r (i, omega arith, at) in
    (found.0, (suc found.1.0, omega (arith, found.1.1), found.1.2), found.2)

kept_one : (x : MappedValue) (ms : List MappedValue) (b : ℕ) (m : MappedValue) (t : Bool) → lacks x b ≡ t
    → Contains (if not t then x ∷ having ms b else having ms b) m → (Contains (having ms b) m → Contains ms m × (lacks m b ≡ false))
    → Contains (x ∷ ms) m × (lacks m b ≡ false)
kept_one x ms b m true e found rest = let (one, here) = rest found in ((suc one.0, omega (arith, one.1), one.2), here)
kept_one x ms b m false e (zero, lt, at) rest = ((0, omega arith, at), ap (λ y. lacks y b) (sym at) ∙ e)
kept_one x ms b m false e (suc i, lt, at) rest = let (one, here) = rest (i, omega arith, at) in ((suc one.0, omega (arith, one.1), one.2), here)

-- a reading that has a block is one of them
having_one : (ms : List MappedValue) (b : ℕ) (m : MappedValue) → Contains (having ms b) m → Contains ms m × (lacks m b ≡ false)
having_one [] b m (i, lt, at) = absurd (omega arith)
having_one (x ∷ ms) b m has = kept_one x ms b m (lacks x b) refl has (having_one ms b m)

-- an image that counts is that of a reading that has the block, if any has it
pub source_of : (ms : List MappedValue) (b : ℕ) (r : List ℕ) → Contains (sources ms b) r
    → (m : MappedValue) × Contains ms m × (m.image ≡ r) × ((lacks m b ≡ false) ⊎ (is_lacked ms b ≡ true))
source_of ms b r = of_sources ms b (λ rs. Contains rs r → (m : MappedValue) × Contains ms m × (m.image ≡ r) × ((lacks m b ≡ false) ⊎ (is_lacked ms b ≡ true)))
    (λ none found. let (m, one, is) = image_of ms r found in (m, one, is, inr none))
    (λ _ found. let (m, one, is) = image_of (having ms b) r found in let (here, has) = having_one ms b m one in (m, here, is, inl has))

-- each image that counts has so many blocks
pub sources_reach : (n : ℕ) (ms : List MappedValue) (b : ℕ) → HaveBlocks n ms → b < n → All (λ r. b * 512 + 512 ≤ length r) (sources ms b)
sources_reach n ms b whole lt = sources_whole ms b (λ r. b * 512 + 512 ≤ length r) (λ k d less. let long = whole k d less in omega arith)

-- the version of an image that counts is that of a reading
version_of : (ms : List MappedValue) (b : ℕ) (rs : List (List ℕ)) (i : ℕ) (r v : List ℕ) → rs ≡ sources ms b → i < length rs → r ≡ get_or rs i r
    → v ≡ block r b → HasVersion ms b v
version_of ms b rs i r v same lt at is =
    let found = source_of ms b r (subst (λ xs. Contains xs r) same (subst (Contains rs) (sym at) (Contains-get_or rs i r lt))) in
    record { reading = found.0; one = found.1; version = ap (λ x. block x b) found.2 ∙ sym is; has = found.3 }

block_long : (r : List ℕ) (b : ℕ) → b * 512 + 512 ≤ length r → length (block r b) ≡ 512
unfolding block
block_long r b room = omega (arith, length-take {A = ℕ}, length-drop (b * 512) r)

-- a version that is added to others
pub version_added : (n : ℕ) (ms : List MappedValue) (b : ℕ) (rs : List (List ℕ)) (i : ℕ) (r v old new : List ℕ) → HaveBlocks n ms → b < n
    → rs ≡ sources ms b → i < length rs → r ≡ get_or rs i r → v ≡ block r b → new ≡ old ++ v
    → (x : List ℕ) × (new ≡ old ++ x) × (length x ≡ 512) × HasVersion ms b x
version_added n ms b rs i r v old new whole lt same inside at is added =
    let all : All (λ r. b * 512 + 512 ≤ length r) rs = subst (All (λ r. b * 512 + 512 ≤ length r)) (sym same) (sources_reach n ms b whole lt) in
    let room : b * 512 + 512 ≤ length r = subst (λ x. b * 512 + 512 ≤ length x) (sym at) (all i r inside) in
    (v, added, ap length is ∙ block_long r b room, version_of ms b rs i r v same inside at is)
