-- Each built part is a whole block in the volume.
use Rattle.std.proofs.Common.{◌≡◌, ℕ, suc, List, [], ◌∷◌, ◌++◌, ◌+◌, ◌*◌, ◌^◌, ◌<◌, ◌≤◌, length, take, drop, refl, arith, true, length-take, slice_index}
use Rattle.std.proofs.{lemmas.Bool.Decides.nat_tests, lemmas.List.FromFn.length-map-range_with_len, lemmas.Grind.common_steps}
use Rattle.adf_names.specs.{Texts.is_name, declared.kind.Kind.Kind, declared.kind.Kind.TheVariants.Ofs, declared.kind.Kind.TheVariants.Ffs}
use Rattle.adf_tree.specs.declared.entry.Body.{Body, TheVariants.Dir, TheVariants.File}
use Rattle.adf_tree.specs.{declared.entry.Entry.Entry, Tree.Tree}
use Rattle.adf_blocks.specs.declared.layout.TheConstants.{DATA_ROOM, SLOTS}
use Rattle.adf_blocks.specs.{HeadBlock.FitsHead, HeadBlock.FitsBody, HeadBlock.HeadFields, ExtBlock.FitsExt, DataBlock.FitsData, Sizes.chunk, Sizes.count}
use Rattle.adf_blocks.proofs.{FieldLaws.length-block_of_fields, HeadLaws.length_head_block, ExtLaws.length_ext_block, DataLaws.length_data_block}
use Rattle.adf_volume.specs.Lists.{At}
use Rattle.adf_build.specs.{Plan.exts_needed, Plan.data_blocks, Plan.entry_blocks, Plan.entries_blocks, Plan.nth_free, Writes.AreBlocks}
use Rattle.adf_build.specs.Laid.{body_writes, data_bytes, data_part, data_writes, entries_writes, ext_part, ext_writes, node_blocks, nth_free_or_none}
use Rattle.adf_build.specs.Laid.{planned_body, planned_data, planned_ext, planned_head, planned_spot, slots_by}
use Rattle.adf_build.proofs.{Parts.are_parts, AllocatedBlocks.free_from, AllocatedBlocks.length_allocated}

pub chunk_small : (kind : Kind) → chunk kind ≤ 512
unfolding chunk
chunk_small Ofs = omega arith
chunk_small Ffs = omega arith

pub chunk_ofs : chunk Ofs ≡ DATA_ROOM
unfolding chunk
chunk_ofs = refl

-- the fields of the header of entry i
abbrev pub entry_head : ℕ → Tree → ℕ → ℕ → Entry → List Entry → HeadFields
entry_head n t i k e es = planned_head n (planned_spot n t i k e es)
    (planned_body n k t.kind (slots_by t.letters (node_blocks t n) t.entries i) e.body) e

pub are-append : (n : ℕ) (ps qs : List (ℕ × List ℕ)) → AreBlocks n ps → AreBlocks n qs → AreBlocks n (ps ++ qs)
are-append n [] qs a b = b
are-append n (p ∷ ps) qs a b = (a.0, a.1, are-append n ps qs a.2 b)

-- a volume of n blocks, each numbered by a word, has its first `total` free blocks
pub record HasFree (n total : ℕ) : Type 0 where
  pub small : n < 2 ^ 32
  pub below : (k : ℕ) → k < total → nth_free n k < n

module _ {n total : ℕ} (free : HasFree n total) where
  pub free_small : (k : ℕ) → k < total → nth_free n k < 2 ^ 32
  free_small k l = omega (arith, free.small, free.below k l)

  pub next_small : (k m : ℕ) → k + m ≤ total → nth_free_or_none n k m < 2 ^ 32
  next_small k m h = grind (arith, common_steps, nat_tests, free_small)

  -- the blocks of a file of c data blocks whose header is the k-th free block
  pub fits_ext : (k c j : ℕ) → k + (1 + exts_needed c + c) ≤ total → j < exts_needed c → FitsExt (planned_ext n k c j)
  fits_ext k c j l lt = grind (arith, common_steps, length_allocated, free_small)

  pub fits_data : (k : ℕ) (bytes : List ℕ) (j : ℕ) → let c = count Ofs (length bytes) in k + (1 + exts_needed c + c) ≤ total → j < c
      → FitsData (planned_data n Ofs k bytes j)
  fits_data k bytes j l lt = grind (arith, common_steps, length-take, chunk_ofs, free_from, free_small, next_small)

  pub data_long : (kind : Kind) (k : ℕ) (bytes : List ℕ) (j : ℕ) → let c = count kind (length bytes) in k + (1 + exts_needed c + c) ≤ total → j < c
      → length (data_bytes kind (planned_data n kind k bytes j)) ≡ 512
  data_long Ofs k bytes j l lt = length_data_block (planned_data n Ofs k bytes j) (fits_data k bytes j l lt)
  data_long Ffs k bytes j l lt =
      let t = length-take (chunk Ffs) (drop (chunk Ffs * j) bytes) in
      let c = chunk_small Ffs in
      length-block_of_fields 512 ((0, take (chunk Ffs) (drop (chunk Ffs * j) bytes)) ∷ []) (omega (arith, t, c)) (omega arith, tt)

  pub are_body : (kind : Kind) (k : ℕ) (body : Body) → k + (1 + exts_needed (data_blocks kind body) + data_blocks kind body) ≤ total
      → AreBlocks n (body_writes n kind k body)
  are_body kind k Dir l = tt
  are_body kind k (File bytes) l =
      let c : ℕ = count kind (length bytes) in
      are-append n (ext_writes n k c) (data_writes n kind k bytes)
      (are_parts n (ext_part n k c) 0 (exts_needed c)
      (λ j lt. (free.below (suc k + j) (omega arith), length_ext_block (planned_ext n k c j) (fits_ext k c j l (omega arith)))))
      (are_parts n (data_part n kind k bytes) 0 c
      (λ j lt. (free.below (suc k + exts_needed c + j) (omega arith), data_long kind k bytes j l (omega arith))))

  pub fits_body : (k : ℕ) (kind : Kind) (slots : List ℕ) (body : Body) → length slots ≡ SLOTS → FitsBody (planned_body n k kind slots body)
  fits_body k kind slots Dir h = h
  fits_body k kind slots (File bytes) h = grind (arith, common_steps, length_allocated)

  pub fits_head : (t : Tree) (i k : ℕ) (e : Entry) (es : List Entry) → ((j : ℕ) → slice_index (node_blocks t n) j < 2 ^ 32)
      → k < total → is_name e.name ≡ true → length e.meta.comment ≤ 79 → FitsHead (entry_head n t i k e es)
  fits_head t i k e es near l name comment = grind (arith, common_steps, free_small, fits_body, length-map-range_with_len)

  pub are_entries : (t : Tree) (i k : ℕ) (es : List Entry) → ((j : ℕ) → slice_index (node_blocks t n) j < 2 ^ 32)
      → k + entries_blocks t.kind es ≤ total
      → ((j : ℕ) (e : Entry) → At es j e → (is_name e.name ≡ true) × (length e.meta.comment ≤ 79)) → AreBlocks n (entries_writes n t i k es)
  are_entries t i k [] near l f = tt
  are_entries t i k (e ∷ es) near l f =
      let g = f 0 e refl in
      let b : k < total = omega arith in (
        free.below k b,
        length_head_block (entry_head n t i k e es) (fits_head t i k e es near b g.0 g.1),
        are-append n (body_writes n t.kind k e.body) (entries_writes n t (suc i) (k + entry_blocks t.kind e) es)
            (are_body t.kind k e.body (omega arith))
            (are_entries t (suc i) (k + entry_blocks t.kind e) es near (omega arith) (λ j d h. f (suc j) d h)),
      )
