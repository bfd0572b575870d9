-- Fits holds of a small volume with a file.
-- Letters: n an entry's number; e an entry; p a directory's node; s a slot; k, i indices; b, a blocks.
use Rattle.std.proofs.Common.{◌≡◌, ◌≢◌, ℕ, zero, suc, List, [], ◌∷◌, inl, inr, ◌+◌, ◌-◌, ◌/◌, ◌%◌, ◌<◌, ◌≤◌, refl, sym, ap, subst, ◌∙◌, arith, false, map}
use Rattle.std.specs.Prelude.{◌==◌, slice_index, slice_index_or}
use Rattle.std.proofs.{lemmas.Bool.cases_lt, lemmas.Bool.Decides.eqb_tells, lemmas.Grind.common_steps, lemmas.List.Sorted.IsNonDecreasingBy-short}
use Rattle.adf_base.specs.declared.hash.Letters.TheVariants.{Ascii}
use Rattle.adf_base.specs.{Hash.slot_of, Words.block, Words.word, Words.words, Words.with_bytes}
use Rattle.adf_tree.specs.declared.entry.Body.{Body, TheVariants.Dir, TheVariants.File}
use Rattle.adf_tree.specs.{declared.entry.Entry.Entry, Tree.IsDir, Tree.IsTree}
use Rattle.adf_volume.specs.{declared.owner.Owner.Owner, Lists.At, Lists.In, Lists.Spelled, Lists.NoBlockTwice, Layout.EntryAt, Layout.at_node}
use Rattle.adf_volume.specs.{Layout.chain_nodes, Layout.owned, Fits.Fits, Fits.FitsBy, Fits.EntryFits, Fits.FileFits, Fits.IsFree, Fits.TableAt}
use Rattle.adf_blocks.specs.{Sizes.blocks, Sizes.chunk, Sizes.count, DataBlock.data_form, HeadBlock.head_form, PageBlock.page_form, RootBlock.root_form}
use Rattle.adf_volume.specs.Image.{word_in, root_of, kind_of, name_of, meta_of, stamps_of, content, area, held, table_word, map_exts_needed, IsFreeAt}
use Rattle.adf_volume.specs.Demands.{AllHold, boot_demands, boot_form, root_demands, page_demands, head_demands, data_demands}
use Rattle.adf_volume.specs.Samples.{one_file, one_file_tree, one_file_layout, file_a}
use Rattle.adf_volume.proofs.{FormDemands.all_demanded, Zeros.zero_at}

-- the block of a node
abbrev node_at : ℕ → ℕ
node_at n = at_node one_file one_file_layout n

-- the bytes of the file
abbrev bytes_a : List ℕ
bytes_a = 0x41 ∷ []

boots : AllHold (boot_demands one_file)
unfolding one_file block with_bytes
boots = ((refl, refl), all_demanded 0 (boot_form (block one_file 0)) refl)

root_holds : AllHold (root_demands one_file (root_of one_file))
unfolding one_file block word words with_bytes
root_holds = all_demanded (root_of one_file) (root_form (block one_file (root_of one_file))) refl

page_holds : AllHold (page_demands one_file 4)
unfolding one_file block word words with_bytes
page_holds = all_demanded 4 (page_form (block one_file 4)) refl

page_named : word_in one_file (root_of one_file) 79 ≡ 4
unfolding one_file block word with_bytes
page_named = refl

header_holds : AllHold (head_demands one_file one_file_tree.kind 2 (root_of one_file) (slot_of file_a.name))
unfolding one_file block word words with_bytes
header_holds = all_demanded 2 (head_form one_file_tree.kind 2 (root_of one_file) (slot_of file_a.name) (block one_file 2)) refl

bytes_held : bytes_a ≡ content one_file one_file_tree.kind 2 (5 ∷ [])
unfolding one_file block word with_bytes content area
bytes_held = refl

data_holds : AllHold (data_demands one_file one_file_tree.kind 5 2 1 (held one_file_tree.kind 1 1) 0)
unfolding one_file block word words with_bytes held chunk
data_holds = all_demanded 5 (data_form 2 1 (held one_file_tree.kind 1 1) 0 (block one_file 5)) refl

page_at : (k b : ℕ) → At one_file_layout.pages k b → (k ≡ 0) × (4 ≡ b)
page_at zero b h = (refl, h)
page_at (suc k) b h = absurd h

-- the root alone is a directory
no_dir : (p : ℕ) → IsDir one_file_tree.entries p → p ≡ 0
no_dir zero h = refl
no_dir (suc zero) h = let x = h (omega arith) in let z : file_a.body ≡ Dir = x.1 file_a in cc
no_dir (suc (suc p)) h = let x = h (omega arith) in let y : suc (suc p) ≤ 1 = x.0 in absurd (omega arith)

-- each entry is the file
entry_is : (n : ℕ) (e : Entry) → EntryAt one_file_tree n e → (1 ≡ n) × (file_a ≡ e)
entry_is n e h = grind (arith, common_steps)

entry_fits : EntryFits one_file one_file_tree one_file_layout 1 2 file_a
unfolding one_file block word with_bytes name_of meta_of
entry_fits = record { form = header_holds; name = refl; meta = refl; body = (refl, bytes_held, refl) }

entries_fit : (n : ℕ) (e : Entry) → EntryAt one_file_tree n e → EntryFits one_file one_file_tree one_file_layout n (node_at n) e
entries_fit n e h =
    let x = entry_is n e h in
    subst (λ n. EntryFits one_file one_file_tree one_file_layout n (node_at n) e) x.0
    (subst (λ (e : Entry). EntryFits one_file one_file_tree one_file_layout 1 2 e) x.1 entry_fits)

-- it is a tree
only : (i : ℕ) (d : Entry) → i < 1 → file_a ≡ slice_index_or one_file_tree.entries i d
only zero d h = refl
only (suc i) d h = absurd (omega arith)

parents : (i : ℕ) (d : Entry) → i < 1 → 0 ≡ (slice_index_or one_file_tree.entries i d).parent
parents i d h = ap (λ (e : Entry). e.parent) (only i d h)

is_tree : IsTree one_file_tree.entries
is_tree = grind (arith, common_steps, parents, IsNonDecreasingBy-short)

-- the chain of each slot
low_slots : (i : ℕ) → i < 6 → word_in one_file (root_of one_file) (6 + i) ≡ 0
unfolding one_file block word with_bytes
low_slots i l = zero_at (λ s. word_in one_file (root_of one_file) (6 + s)) 6 i refl l

high_slots : (i : ℕ) → i < 65 → word_in one_file (root_of one_file) (13 + i) ≡ 0
unfolding one_file block word with_bytes
high_slots i l = zero_at (λ s. word_in one_file (root_of one_file) (13 + s)) 65 i refl l

slot : word_in one_file (root_of one_file) 12 ≡ 2
unfolding one_file block word with_bytes
slot = refl

no_next : word_in one_file 2 124 ≡ 0
unfolding one_file block word with_bytes
no_next = refl

is_spelled : ℕ → Type 0
is_spelled s = Spelled (λ b. word_in one_file b 124) (word_in one_file (root_of one_file) (6 + s)) (map node_at (chain_nodes one_file_tree 0 s))

empty_slot : (s : ℕ) → (6 == s) ≡ false → word_in one_file (root_of one_file) (6 + s) ≡ 0 → is_spelled s
unfolding is_spelled
empty_slot s n w = grind (arith, common_steps)

named_slot : is_spelled 6
unfolding is_spelled
named_slot = (slot, no_next)

spelled : (s : ℕ) → s < 72 → is_spelled s
spelled s l = elim (eqb_tells 6 s) [
  | inl h ↦ subst is_spelled h.1 named_slot
  | inr h ↦ elim (cases_lt s 6) [
    | inl k ↦ empty_slot s h.0 (low_slots s k)
    | inr k ↦
        let n : 6 ≢ s = h.1 in
        let z : 13 + (s - 7) ≡ 6 + s = omega arith in
        empty_slot s h.0 (ap (word_in one_file (root_of one_file)) (sym z) ∙ high_slots (s - 7) (omega arith))
  ]
]

chains : (p s : ℕ) → p ≡ 0 → s < 72
    → Spelled (λ b. word_in one_file b 124) (word_in one_file (node_at p) (6 + s)) (map node_at (chain_nodes one_file_tree p s))
unfolding is_spelled
chains zero s e l = spelled s l
chains (suc p) s e l = absurd (omega arith)

-- the blocks of the file
data_named : (k b a : ℕ) → At (5 ∷ []) k b → TableAt one_file one_file_layout 1 (k / 72) a → word_in one_file a (table_word k) ≡ b
unfolding one_file block word with_bytes
data_named zero b a h g = ap (λ a. word_in one_file a 77) (sym g) ∙ h
data_named (suc k) b a h g = absurd h

data_formed : (k b : ℕ) → At (5 ∷ []) k b
    → AllHold (data_demands one_file one_file_tree.kind b 2 (suc k) (held one_file_tree.kind 1 (suc k)) (slice_index (5 ∷ []) (suc k)))
data_formed zero b h = subst (λ b. AllHold (data_demands one_file one_file_tree.kind b 2 1 (held one_file_tree.kind 1 1) 0)) h data_holds
data_formed (suc k) b h = absurd h

one_data : 1 ≡ count one_file_tree.kind 1
unfolding count chunk
one_data = refl

no_ext : word_in one_file 2 126 ≡ 0
unfolding one_file block word with_bytes
no_ext = refl

file_fits : FileFits one_file one_file_tree one_file_layout 1 2 bytes_a
file_fits = grind (arith, common_steps, no_ext, one_data, data_named, data_formed)

-- the bytes of a body
bytes_of : Body → List ℕ
bytes_of Dir = []
bytes_of (File bytes) = bytes

files_fit : (n : ℕ) (e : Entry) (bytes : List ℕ) → EntryAt one_file_tree n e → e.body ≡ File bytes
    → FileFits one_file one_file_tree one_file_layout n (node_at n) bytes
unfolding bytes_of
files_fit n e bytes h f = grind (arith, common_steps, entry_is, bytes_of, file_fits)

-- the blocks of its parts: all but the boot blocks
once : NoBlockTwice (owned one_file one_file_layout)
unfolding one_file with_bytes
once = grind (arith, common_steps)

range : (o : Owner) (b : ℕ) → In (owned one_file one_file_layout) (o, b) → (2 ≤ b) × (b < 6)
unfolding one_file with_bytes
range o b h = grind (arith, common_steps)

all_owned : (b : ℕ) → 2 ≤ b → b < 6 → ((o : Owner) → In (owned one_file one_file_layout) (o, b) → ⊥) → ⊥
unfolding one_file with_bytes
all_owned (suc (suc zero)) l u f = f _ (inr (inr (inl refl)))
all_owned (suc (suc (suc zero))) l u f = f _ (inl refl)
all_owned (suc (suc (suc (suc zero)))) l u f = f _ (inr (inl refl))
all_owned (suc (suc (suc (suc (suc zero))))) l u f = f _ (inr (inr (inr (inl refl))))
all_owned _ l u f = omega arith

-- each bit of the page is clear
clear_bit : (b : ℕ) → 2 ≤ b → b < 6 → IsFreeAt one_file 4 ((b - 2) % 4064) → ⊥
unfolding one_file block word with_bytes
clear_bit (suc (suc zero)) l u h = h refl
clear_bit (suc (suc (suc zero))) l u h = h refl
clear_bit (suc (suc (suc (suc zero)))) l u h = h refl
clear_bit (suc (suc (suc (suc (suc zero))))) l u h = h refl
clear_bit _ l u h = omega arith

none_free : (b : ℕ) → 2 ≤ b → b < 6 → IsFree one_file one_file_layout.pages b → ⊥
none_free b l u f = grind (arith, common_steps, page_at, clear_bit)

one_file_fits_by : FitsBy Ascii one_file one_file_tree one_file_layout
unfolding one_file block word with_bytes kind_of name_of stamps_of map_exts_needed
one_file_fits_by = record {
  boots = boots;
  kind = refl;
  letters = refl;
  root = root_holds;
  label = refl;
  stamps = refl;
  tree = is_tree;
  places = refl;
  pages = refl;
  map_exts = refl;
  map_first = (λ b h. absurd h);
  map_next = (λ j a b h. absurd h);
  page_named = (λ k b l h. let x = page_at k b h in ap (λ k. word_in one_file (root_of one_file) (79 + k)) x.0 ∙ page_named ∙ x.1);
  page_listed = (λ j i a b l h. absurd h);
  page_form = (λ k b h. let x = page_at k b h in subst (λ b. AllHold (page_demands one_file b)) x.1 page_holds);
  entries = entries_fit;
  chains = (λ p s d l. chains p s (no_dir p d) l);
  files = files_fit;
  once = once;
  range = range;
  bitmap = (λ b l u. ((λ f. absurd (none_free b l u f)), (λ f. absurd (all_owned b l u f))));
}

pub one_file_fits : Fits one_file one_file_tree one_file_layout
unfolding one_file with_bytes
one_file_fits = (let size : blocks one_file ≡ 6 = refl in omega (arith, size), one_file_fits_by)
