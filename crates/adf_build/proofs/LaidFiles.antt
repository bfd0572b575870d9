-- The extension blocks, the data blocks and the content of a built file.
use Rattle.std.proofs.Common.{◌≡◌, ℕ, zero, suc, List, [], ◌∷◌, ◌++◌, inl, inr, ◌+◌, ◌-◌, ◌*◌, ◌<◌, ◌≤◌, length, take, drop, refl, sym, ap, subst, ◌∙◌, arith}
use Rattle.std.proofs.Common.{take_all, length-take, length-drop, length-take-le, slice_index, None, replicate}
use Rattle.std.proofs.{lemmas.Bool.cases_lt, lemmas.Bool.Decides.nat_tests, Math.Seq.take-append-add, lemmas.Grind.common_steps}
use Rattle.std.proofs.lemmas.List.{drop-drop, take-append-le, take-append-drop, take-take}
use Rattle.adf_base.specs.Words.{block, word}
use Rattle.adf_base.proofs.WordLaws.{range-with_bytes_same}
use Rattle.adf_names.specs.declared.kind.Kind.{Kind, TheVariants.Ofs, TheVariants.Ffs}
use Rattle.adf_blocks.specs.declared.layout.TheConstants.{DATA_BYTES, DATA_ROOM, EXTENSION, FIRST_POINTER, POINTERS}
use Rattle.adf_blocks.specs.{Forms.first_cause, ExtBlock.FitsExt, ExtBlock.ext_block, ExtBlock.ext_form, DataBlock.data_form, Sizes.chunk, Sizes.count}
use Rattle.adf_blocks.proofs.{ExtLaws.ext_block-form, ExtLaws.ext_block-next, ExtLaws.ext_block-pointer, DataLaws.data_block-form, DataLaws.data_block-bytes}
use Rattle.adf_volume.specs.{Lists.At, Lists.Spelled, Image.word_in, Image.held, Image.area, Image.joined}
use Rattle.adf_volume.specs.Demands.{AllHold, ext_demands, data_demands}
use Rattle.adf_volume.proofs.{FormDemands.all_demanded, Lists.at_below, Lists.at_index, Lists.index_past}
use Rattle.adf_build.proofs.{AllocatedBlocks.length_allocated, Parts.part_held}
use Rattle.adf_build.specs.{Plan.allocated, Plan.exts_needed, Plan.nth_free, Writes.HoldsBlocks}
use Rattle.adf_build.specs.Laid.{data_bytes, data_part, data_writes, ext_part, ext_writes, nth_free_or_none, planned_data, planned_ext}
use Rattle.adf_build.proofs.WholeBlocks.{HasFree, free_small, next_small, fits_ext, fits_data, data_long, chunk_small, chunk_ofs}

-- block j of a run
pub allocated_index : (n k m j : ℕ) → j < m → slice_index (allocated n k m) j ≡ nth_free n (k + j)
allocated_index n k zero j h = absurd (omega arith)
allocated_index n k (suc m) zero h = let z : k ≡ k + 0 = omega arith in ap (nth_free n) z
allocated_index n k (suc m) (suc j) h = let z : suc k + j ≡ k + suc j = omega arith in allocated_index n (suc k) m j (omega arith) ∙ ap (nth_free n) z

pub allocated_at : (n k m j b : ℕ) → At (allocated n k m) j b → (j < m) × (b ≡ nth_free n (k + j))
allocated_at n k m j b h = grind (arith, common_steps, m, b, at_below, length_allocated, at_index, allocated_index)

next_some : (n k m : ℕ) → 0 < m → nth_free_or_none n k m ≡ nth_free n k
next_some n k m h = grind (arith, nat_tests)

-- what names block j of a run
run_named : (n k m j i d : ℕ) → i ≡ k + j → d ≡ m - j → nth_free_or_none n i d ≡ slice_index (allocated n k m) j
run_named n k m j i d e f = grind (arith, common_steps, m, cases_lt, next_some, allocated_index, index_past, length_allocated)

-- a list each of whose members names the next one, or 0 behind the last
spelled_by : (link : ℕ → ℕ) (bs : List ℕ) → ((j b : ℕ) → At bs j b → link b ≡ slice_index bs (suc j)) → Spelled link (slice_index bs 0) bs
spelled_by link [] f = refl
spelled_by link (b ∷ bs) f = (refl, subst (λ w. Spelled link w bs) (sym (f 0 b refl)) (spelled_by link bs (λ j c h. f (suc j) c h)))

area_long : (kind : Kind) (bs : List ℕ) → length bs ≡ 512 → length (area kind bs) ≡ chunk kind
unfolding area chunk
area_long Ofs bs h = simp (length-take, length-drop) (omega arith)
area_long Ffs bs h = simp (length-take, length-drop) (omega arith)

no_bytes : (bytes : List ℕ) → length bytes ≤ 0 → take (length bytes) [] ≡ bytes
no_bytes [] h = refl
no_bytes (b ∷ bs) h = absurd (omega arith)

-- block j of a run holds its share of the bytes at the front of its area
abbrev HoldsShare : List ℕ → Kind → List ℕ → ℕ → ℕ → Type 0
HoldsShare v kind bytes b j =
    let share = take (chunk kind) (drop (chunk kind * j) bytes) in
    (length (block v b) ≡ 512) × (take (length share) (area kind (block v b)) ≡ share)

-- the areas of the data blocks joined and cut are the bytes
shares_joined : (v : List ℕ) (kind : Kind) (n k : ℕ) (bytes : List ℕ) (m : ℕ) → ((j : ℕ) → j < m → HoldsShare v kind bytes (nth_free n (k + j)) j)
    → length bytes ≤ m * chunk kind → take (length bytes) (joined v kind (allocated n k m)) ≡ bytes
shares_joined v kind n k bytes zero h f = no_bytes bytes (let e : 0 * chunk kind ≡ 0 = omega arith in omega arith)
shares_joined v kind n k bytes (suc m) h f =
    let held : List ℕ = take (chunk kind) bytes in
    let first : List ℕ = area kind (block v (nth_free n k)) in
    let rest : List ℕ = joined v kind (allocated n (suc k) m) in
    let z : k + 0 ≡ k = omega arith in
    let y : chunk kind * 0 ≡ 0 = omega arith in
    let here : HoldsShare v kind bytes (nth_free n k) 0 = subst (λ i. HoldsShare v kind bytes (nth_free n i) 0) z (h 0 (omega arith)) in
    let part : take (length held) first ≡ held = rw y at here.1 in
    let n-first : length first ≡ chunk kind = area_long kind (block v (nth_free n k)) here.0 in
    elim (cases_lt (chunk kind) (length bytes)) [
      | inl more ↦
          let n-held : length held ≡ chunk kind = length-take-le (chunk kind) bytes (omega arith) in
          let same : first ≡ held = sym (take_all (length held) first (omega arith)) ∙ part in
          let n-rest : length (drop (chunk kind) bytes) ≡ length bytes - chunk kind = length-drop (chunk kind) bytes in
          let split : length bytes ≡ length held + length (drop (chunk kind) bytes) = omega arith in
          let room : length (drop (chunk kind) bytes) ≤ m * chunk kind =
          (let e : suc m * chunk kind ≡ chunk kind + m * chunk kind = omega arith in omega arith) in
          let later : (j : ℕ) → j < m → HoldsShare v kind (drop (chunk kind) bytes) (nth_free n (suc k + j)) j =
          (λ j l.
          let u : k + suc j ≡ suc k + j = omega arith in
          let w : chunk kind * suc j ≡ chunk kind + chunk kind * j = omega arith in
          rw (drop-drop (chunk kind * j) (chunk kind) bytes, ← w, ← u) (h (suc j) (omega arith))) in
          ap (λ l. take l (first ++ rest)) split
          ∙ (ap (λ f. take (length held + length (drop (chunk kind) bytes)) (f ++ rest)) same
          ∙ (take-append-add held rest (length (drop (chunk kind) bytes))
          ∙ (ap (λ l. held ++ l) (shares_joined v kind n (suc k) (drop (chunk kind) bytes) m later room) ∙ take-append-drop (chunk kind) bytes)))
      | inr last ↦
          let all : held ≡ bytes = take_all (chunk kind) bytes last in
          let n-held : length held ≡ length bytes = ap length all in
          take-append-le (length bytes) first rest (omega arith) ∙ (ap (λ l. take l first) (sym n-held) ∙ (part ∙ all))
    ]

-- what a data block holds of its file
area_holds : {n total : ℕ} → HasFree n total → (kind : Kind) (k : ℕ) (bytes : List ℕ) (j : ℕ)
    → let c = count kind (length bytes) in k + (1 + exts_needed c + c) ≤ total → j < c
    → let d = planned_data n kind k bytes j in take (length d.bytes) (area kind (data_bytes kind d)) ≡ d.bytes
unfolding area
area_holds {n = n} free Ofs k bytes j l lt =
    let d = planned_data n Ofs k bytes j in
    let t = length-take (chunk Ofs) (drop (chunk Ofs * j) bytes) in
    let c = chunk_ofs in
    let z : 24 + length d.bytes - 24 ≡ length d.bytes = omega arith in
    let bs : List ℕ = data_bytes Ofs d in
    take-take (length d.bytes) DATA_ROOM (drop DATA_BYTES bs) (omega (arith, t, c))
    ∙ (ap (λ m. take m (drop DATA_BYTES bs)) (sym z) ∙ data_block-bytes d (fits_data free k bytes j l lt))
area_holds {n = n} free Ffs k bytes j l lt =
    let xs : List ℕ = take (chunk Ffs) (drop (chunk Ffs * j) bytes) in
    let t = length-take (chunk Ffs) (drop (chunk Ffs * j) bytes) in
    let c = chunk_small Ffs in
    let z : length xs - 0 ≡ length xs = omega arith in
    let bs : List ℕ = data_bytes Ffs (planned_data n Ffs k bytes j) in
    take-take (length xs) 512 (drop 0 bs) (omega (arith, t, c))
    ∙ (ap (λ m. take m (drop 0 bs)) (sym z) ∙ range-with_bytes_same (replicate 512 0) 0 xs (length xs) (omega arith) (omega (arith, t, c)))

-- a file of c data blocks whose header is the k-th free block, in an image that holds its parts
module _ (v : List ℕ) {n total : ℕ} (free : HasFree n total) (k : ℕ) where
  module _ (c : ℕ) (room : k + (1 + exts_needed c + c) ≤ total) (hold : HoldsBlocks v (ext_writes n k c)) where
    ext_held : (j : ℕ) → j < exts_needed c → block v (nth_free n (suc k + j)) ≡ ext_block (planned_ext n k c j)
    ext_held j lt = part_held v (ext_part n k c) 0 (exts_needed c) j hold (omega arith) (omega arith)

    ext_fits : (j : ℕ) → j < exts_needed c → FitsExt (planned_ext n k c j)
    ext_fits j lt = fits_ext free k c j room lt

    -- the extension blocks are spelled
    pub exts_linked : Spelled (λ b. word_in v b EXTENSION) (nth_free_or_none n (suc k) (exts_needed c)) (allocated n (suc k) (exts_needed c))
    exts_linked =
        let m : ℕ = exts_needed c in
        subst (λ w. Spelled (λ b. word_in v b EXTENSION) w (allocated n (suc k) m))
        (sym (run_named n (suc k) m 0 (suc k) m (omega arith) (omega arith)))
        (spelled_by (λ b. word_in v b EXTENSION) (allocated n (suc k) m) (λ j b a.
        let place = allocated_at n (suc k) m j b a in
        rw place.1 (ap (λ bs. word bs EXTENSION) (ext_held j place.0)
        ∙ ext_block-next (planned_ext n k c j) (ext_fits j place.0) (next_small free _ _ (omega arith))
        ∙ run_named n (suc k) m (suc j) (suc k + suc j) (m - suc j) refl refl)))

    -- and have their form
    pub exts_formed : (j b : ℕ) → At (allocated n (suc k) (exts_needed c)) j b → AllHold (ext_demands v b (nth_free n k))
    exts_formed j b a =
        let place = allocated_at n (suc k) (exts_needed c) j b a in
        rw place.1 (all_demanded (nth_free n (suc k + j)) (ext_form (nth_free n (suc k + j)) (nth_free n k) (block v (nth_free n (suc k + j))))
        (rw (ext_held j place.0) (ext_block-form (planned_ext n k c j) (ext_fits j place.0))))

    -- pointer q of extension block j names a data block
    pub exts_point : (j b q : ℕ) → At (allocated n (suc k) (exts_needed c)) j b → q < POINTERS → POINTERS * suc j + q < c
        → word_in v b (FIRST_POINTER - q) ≡ nth_free n (suc k + exts_needed c + (POINTERS * suc j + q))
    exts_point j b q a lt le = grind (arith, common_steps, b, allocated_at, c, allocated_index, free_small, ext_held, ext_block-pointer, ext_fits)

  module _ (kind : Kind) (bytes : List ℕ) (room : k + (1 + exts_needed (count kind (length bytes)) + count kind (length bytes)) ≤ total)
      (hold : HoldsBlocks v (data_writes n kind k bytes)) where
    abbrev many : ℕ
    many = count kind (length bytes)

    abbrev first_data : ℕ
    first_data = suc k + exts_needed many

    data_held : (j : ℕ) → j < many → block v (nth_free n (first_data + j)) ≡ data_bytes kind (planned_data n kind k bytes j)
    data_held j lt = part_held v (data_part n kind k bytes) 0 many j hold (omega arith) (omega arith)

    share_held : (j : ℕ) → j < many → HoldsShare v kind bytes (nth_free n (first_data + j)) j
    share_held j lt = rw (data_held j lt) (data_long free kind k bytes j room lt, area_holds free kind k bytes j room lt)

    -- the content of the data blocks is the bytes
    pub bytes_held : length bytes ≤ many * chunk kind → take (length bytes) (joined v kind (allocated n first_data many)) ≡ bytes
    bytes_held enough = shares_joined v kind n first_data bytes many share_held enough

-- the data blocks of an OFS file have their form
pub datas_formed : (v : List ℕ) {n total : ℕ} → HasFree n total → (k : ℕ) (bytes : List ℕ)
    → let c = count Ofs (length bytes) in k + (1 + exts_needed c + c) ≤ total → HoldsBlocks v (data_writes n Ofs k bytes)
    → (j b : ℕ) → let run = allocated n (suc k + exts_needed c) c in At run j b
    → AllHold (data_demands v Ofs b (nth_free n k) (suc j) (length (take (chunk Ofs) (drop (chunk Ofs * j) bytes))) (slice_index run (suc j)))
datas_formed v {n = n} free k bytes room hold j b a =
    let c : ℕ = count Ofs (length bytes) in
    let first : ℕ = suc k + exts_needed c in
    let place = allocated_at n first c j b a in
    let d = planned_data n Ofs k bytes j in
    let form : first_cause (data_form d.head d.number (length d.bytes) d.next (block v (nth_free n (first + j)))) ≡ None =
    rw (data_held v free k Ofs bytes room hold j place.0) (data_block-form d (fits_data free k bytes j room place.0)) in
    rw (place.1, ← run_named n first c (suc j) (first + suc j) (c - suc j) refl refl) (all_demanded (nth_free n (first + j))
    (data_form d.head d.number (length d.bytes) d.next (block v (nth_free n (first + j)))) form)

-- what data block j holds of the bytes
pub held_long : (bytes : List ℕ) (j : ℕ) → length (take (chunk Ofs) (drop (chunk Ofs * j) bytes)) ≡ held Ofs (length bytes) (suc j)
unfolding held
held_long bytes j = grind (arith, common_steps, length-take, length-drop, nat_tests)
