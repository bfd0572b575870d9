-- By the tables of a volume with directory caches, what is read of the image as it is are the bytes of its files.
-- Letters: copy the image as one without caches; t a tree; l its layout; b a block, bs blocks; qs places; n a node, i its index; at a place in a file.
use Rattle.std.specs.Prelude.{◌++◌, ◌-◌, ◌/◌, ◌%◌, Option, Some, None, cond, drop, nat_lt, slice_get, take}
use Rattle.std.proofs.Common.{◌≡◌, ◌∙◌, ℕ, zero, suc, Bool, true, false, List, [], ◌∷◌, ap, inl, inr, refl, subst}
use Rattle.std.proofs.lemmas.List.{take-append-drop}
use Rattle.adf_base.specs.{Words.block, declared.hash.Letters.Letters}
use Rattle.adf_names.specs.declared.kind.Kind.{Kind}
use Rattle.adf_tree.specs.Tree.{Tree}
use Rattle.adf_blocks.specs.Sizes.{blocks, chunk}
use Rattle.adf_volume.specs.{Fits.FitsBy, Image.area, Image.joined, Image.kind_of, Lists.At, Lists.In}
use Rattle.adf_volume.specs.Layout.{Layout, Place, datas_at}
use Rattle.adf_volume.proofs.Lists.{in_cases, in_right}
use Rattle.adf_uncached.specs.Uncached.{uncached}
use Rattle.adf_cached_files.specs.{Sameness.IsSameButBitmap}
use Rattle.adf_cached_files.proofs.SameParts.{data_same, in_at}
use Rattle.adf_memory.specs.Areas.{bytes_from, entry_from, file_bytes_from, front_blocks, node_from}
use Rattle.adf_memory.specs.Tables.{all_datas, block_table, bytes_at, entry_table}
use Rattle.adf_memory.specs.declared.tables.TableEntry.{TableEntry}
use Rattle.adf_memory.proofs.Readings.{node_read}
use Rattle.adf_memory_types.specs.CachedFiles.{AreTablesInPlace}

-- what is in the rest of a list is in the list
in_rest : {X : Type 0} (n : ℕ) (xs : List X) (x : X) → In (drop n xs) x → In xs x
in_rest n xs x h = subst (λ ys. In ys x) (take-append-drop n xs) (in_right (take n xs) (drop n xs) x h)

-- each block in the table of blocks is a data block of an entry
in_datas : (qs : List Place) (b : ℕ) → In (all_datas qs) b → (i : ℕ) × (k : ℕ) × At (datas_at qs i) k b
in_datas [] b h = absurd h
in_datas (q ∷ qs) b h = elim (in_cases q.datas (all_datas qs) b h) [
  | inl y ↦ let (k, at) = in_at q.datas b y in (0, k, at)
  | inr y ↦ let (i, k, at) = in_datas qs b y in (suc i, k, at)
]

module _ (image copy : List ℕ) (size : blocks image ≡ blocks copy) (kind : kind_of image ≡ kind_of copy) where
  -- blocks that are the same hold the same bytes
  front_same : (k : Kind) (bs : List ℕ) → ((b : ℕ) → In bs b → block image b ≡ block copy b)
      → joined image k (front_blocks image bs) ≡ joined copy k (front_blocks copy bs)
  front_same k [] same = refl
  front_same k (b ∷ bs) same =
      ap (λ n. joined image k (cond (nat_lt b n) (b ∷ front_blocks image bs) [])) size
      ∙ go (front_same k bs (λ c h. same c (inr h))) (nat_lt b (blocks copy))
    where
      go : joined image k (front_blocks image bs) ≡ joined copy k (front_blocks copy bs) → (t : Bool)
          → joined image k (cond t (b ∷ front_blocks image bs) []) ≡ joined copy k (cond t (b ∷ front_blocks copy bs) [])
      go rest false = refl
      go rest true =
          ap (λ (x : List ℕ). area k x ++ joined image k (front_blocks image bs)) (same b (inl refl))
          ∙ ap (λ (xs : List ℕ). area k (block copy b) ++ xs) rest

  module _ (table : List ℕ) (same : (b : ℕ) → In table b → block image b ≡ block copy b) where
    file_same : (file : TableEntry) (at : ℕ) → file_bytes_from image file table at ≡ file_bytes_from copy file table at
    file_same file at =
        let rest = drop file.first table in
        ap (λ (k : Kind). take (file.size - at) (bytes_from image k rest at)) kind
        ∙ ap (λ (xs : List ℕ). take (file.size - at) (drop (at % chunk (kind_of copy)) xs))
        (front_same (kind_of copy) (drop (at / chunk (kind_of copy)) rest)
        (λ b h. same b (in_rest file.first table b (in_rest (at / chunk (kind_of copy)) rest b h))))

    entry_same : (file : Option TableEntry) (at : ℕ) → entry_from image file table at ≡ entry_from copy file table at
    entry_same None at = refl
    entry_same (Some file) at = file_same file at

    node_same : (entries : List TableEntry) (n at : ℕ) → node_from image entries table n at ≡ node_from copy entries table n at
    node_same entries zero at = refl
    node_same entries (suc i) at = entry_same (slice_get entries i) at

-- a file of a volume that is the same but for the bitmap
copy_read : {ls : Letters} (image copy : List ℕ) (t : Tree) (l : Layout) (n at : ℕ) → FitsBy ls copy t l → IsSameButBitmap image copy l
    → node_from image (entry_table t l) (block_table l) n at ≡ drop at (bytes_at t n)
copy_read image copy t l n at fits same =
    node_same image copy (ap (λ m. m / 512) same.size) same.kind (block_table l)
    (λ b h. let (i, k, here) = in_datas l.places b h in data_same image copy t l (suc i) k b fits same.parts here)
    (entry_table t l) n at
    ∙ node_read copy (block_table l) t l (entry_table t l) n at fits refl refl

-- so a file is read by the tables of a volume with directory caches
pub node_in_place : (image : List ℕ) (table : List TableEntry) (datas : List ℕ) (t : Tree) (n at : ℕ) → AreTablesInPlace image table datas t
    → node_from image table datas n at ≡ drop at (bytes_at t n)
node_in_place image table datas t n at (l, fits, told, listed) =
    ap (λ (xs : List TableEntry). node_from image xs datas n at) told
    ∙ ap (λ (bs : List ℕ). node_from image (entry_table t l) bs n at) listed
    ∙ copy_read image (uncached image fits.cached.walk) t l n at fits.cached.fits.fits.1 fits.same
