-- What data blocks say of themselves.
use Rattle.std.proofs.Common.{◌≡◌, ◌∙◌, ◌==◌, ◌&&◌, ◌+◌, ◌*◌, ◌<◌, ◌≤◌, ℕ, false, true, List, add-one, ap, get_or, length, subst, suc, sym}
use Rattle.adf_base.specs.Words.{block, long_sum, word}
use Rattle.adf_blocks.specs.{Sizes.blocks, declared.layout.TheConstants.DATA_HEAD, declared.layout.TheConstants.DATA_NUMBER}
use Rattle.adf_blocks.specs.declared.layout.TheConstants.{TYPE, T_DATA}
use Rattle.adf_volume.specs.{Layout.Layout, Layout.at_node, Layout.datas_of, Lists.At}
use Rattle.adf_volume.proofs.{Lists.at_index_or, Lists.at_some, WordsPast.past_word}
use Rattle.adf_keep.specs.{File.says_ofs_data, Rescued.FileSaysOfs}

-- a block past the end says nothing
pub says_none : (image : List ℕ) (h k b : ℕ) → length image ≡ 512 * blocks image → (b * 512 + 512 ≤ length image → ⊥) → false ≡ says_ofs_data image h k b
says_none image h k b whole past =
    ap (λ (w : ℕ). (w == T_DATA) && (word (block image b) DATA_HEAD == h) && (word (block image b) DATA_NUMBER == k) && (long_sum (block image b) == 0))
    (past_word image b TYPE whole past)

-- a data block that says so, by its index
pub says_found : (image : List ℕ) (h : ℕ) (datas : List ℕ) (i number : ℕ) → i < length datas → number ≡ i + 1
    → says_ofs_data image h number (get_or datas i 0) ≡ true
    → (k : ℕ) × (b : ℕ) × At datas k b × (says_ofs_data image h (suc k) b ≡ true)
says_found image h datas i number lt at says =
    let there = at_some datas i lt in
    let same : get_or datas i 0 ≡ there.0 = at_index_or datas i there.0 0 there.1 in
    let by_number = subst (λ (k : ℕ). says_ofs_data image h k (get_or datas i 0) ≡ true) (at ∙ add-one i) says in
    (i, there.0, there.1, subst (λ (b : ℕ). says_ofs_data image h (suc i) b ≡ true) same by_number)

-- so it is of the file at a node
pub file_found : (image v : List ℕ) (l : Layout) (n h : ℕ) (datas : List ℕ) → v ≡ image → datas ≡ datas_of l n → h ≡ at_node v l n
    → (k : ℕ) × (b : ℕ) × At datas k b × (says_ofs_data image h (suc k) b ≡ true) → FileSaysOfs v l n
file_found image v l n h datas same all head (k, b, at, says) =
    let by_head = subst (λ (x : ℕ). says_ofs_data image x (suc k) b ≡ true) head says in
    (k, b, subst (λ xs. At xs k b) all at, subst (λ (x : List ℕ). says_ofs_data x (at_node v l n) (suc k) b ≡ true) (sym same) by_head)
