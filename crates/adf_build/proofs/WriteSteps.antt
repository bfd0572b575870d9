-- The steps of the loops that write blocks: the remaining blocks, by the first of them.
use Rattle.std.proofs.Common.{◌≡◌, ◌<◌, ◌+◌, ◌-◌, ◌*◌, ℕ, suc, List, [], ◌∷◌, ◌++◌, refl, ap, ◌∙◌, arith, length, map, take, drop, min, slice_index}
use Rattle.std.specs.List.{range_with_len}
use Rattle.std.proofs.{lemmas.List.drop-drop, lemmas.List.drop_min, lemmas.List.take_min, lemmas.Grind.common_steps}
use Rattle.adf_base.specs.{Hash.slot_by, declared.hash.Letters.Letters, Words.with_block}
use Rattle.adf_tree.specs.{declared.entry.Body.TheVariants.File, declared.entry.Entry.Entry, Tree.Tree}
use Rattle.adf_names.specs.{declared.kind.Kind.Kind, declared.meta.Stamps.Stamps}
use Rattle.adf_blocks.specs.declared.layout.TheConstants.{POINTERS, ROOT_PAGES}
use Rattle.adf_blocks.specs.Sizes.{chunk, count, middle, pages_needed}
use Rattle.adf_blocks.specs.{ExtBlock.ext_block, Fields.block_of_fields, HeadBlock.head_block, HeadBlock.BodyFields.FileFields, RootBlock.root_block}
use Rattle.adf_volume.specs.Layout.{nodes_from_by}
use Rattle.adf_build.specs.{Writes.with_blocks, Laid.planned_spot, Laid.slots_by, Laid.writes, declared.heads.Spot.Spot}
use Rattle.adf_build.specs.Laid.{boot_bytes_by, data_bytes, data_part, data_writes, entries_writes, entry_writes, ext_part, ext_writes, first_block}
use Rattle.adf_build.specs.Laid.{planned_head, heads_from, map_ext_or_none, map_ext_writes, node_blocks, nth_free_or_none, page_writes, planned_root}
use Rattle.adf_build.specs.Plan.{allocated, data_blocks, entries_blocks, entry_blocks, exts_needed, nth_free}
use Rattle.adf_build.proofs.{BlockWrites.with_blocks-append, Parts.part_step}

-- one data block more
pub data_step : (image old all : List ℕ) (n : ℕ) (kind : Kind) (k j c exts first b head next m : ℕ) (bytes left held : List ℕ) → j < c
    → c ≡ count kind (length bytes) → exts ≡ exts_needed c → first ≡ k + 1 + exts → left ≡ drop (chunk kind * j) bytes
    → m ≡ min (chunk kind) (length left) → held ≡ take m left
    → b ≡ nth_free n (first + j) → head ≡ nth_free n k → next ≡ nth_free_or_none n (first + j + 1) (c - (j + 1))
    → with_blocks old (map (data_part n kind k bytes) (range_with_len j (c - j))) ≡ all
    → image ≡ with_block old b (data_bytes kind (record { head = head; number = 1 + j; next = next; bytes = held }))
    → with_blocks image (map (data_part n kind k bytes) (range_with_len (j + 1) (c - (j + 1)))) ≡ all
data_step image old all n kind k j c exts first b head next m bytes left held lt many x f l e g at h after inv w =
    let here : first + j ≡ suc k + exts_needed c + j = omega (arith, x) in
    let behind : first + j + 1 ≡ suc k + exts_needed c + suc j = omega (arith, x) in
    let number : 1 + j ≡ suc j = omega arith in
    let last : c - (j + 1) ≡ c - suc j = omega arith in
    let share : held ≡ take (chunk kind) (drop (chunk kind * j) bytes) =
    g ∙ ap (λ m. take m left) e ∙ take_min (chunk kind) left ∙ ap (take (chunk kind)) l in
    part_step image old all _ (data_part n kind k bytes) j b c lt (cc) (cc) inv w

-- the bytes that are left behind a data block
pub left_step : (kind : Kind) (j m : ℕ) (bytes left rest : List ℕ) → left ≡ drop (chunk kind * j) bytes → m ≡ min (chunk kind) (length left)
    → rest ≡ drop m left → rest ≡ drop (chunk kind * (j + 1)) bytes
left_step kind j m bytes left rest l e g = grind (arith, common_steps, drop_min, drop-drop)

-- one extension block more
pub ext_step : (image old all table : List ℕ) (n k j c exts b head before m next : ℕ) → j < exts → exts ≡ exts_needed c → before ≡ POINTERS * (1 + j)
    → m ≡ min POINTERS (c - before) → table ≡ allocated n (k + 1 + exts + before) m
    → b ≡ nth_free n (k + 1 + j) → head ≡ nth_free n k → next ≡ nth_free_or_none n (k + 1 + (j + 1)) (exts - (j + 1))
    → with_blocks old (map (ext_part n k c) (range_with_len j (exts - j))) ≡ all
    → image ≡ with_block old b (ext_block (record { own = b; head = head; table = table; next = next }))
    → with_blocks image (map (ext_part n k c) (range_with_len (j + 1) (exts - (j + 1)))) ≡ all
ext_step image old all table n k j c exts b head before m next lt x p f t at h after inv w =
    let here : k + 1 + j ≡ suc k + j = omega arith in
    let behind : k + 1 + (j + 1) ≡ suc k + suc j = omega arith in
    let last : exts - (j + 1) ≡ exts - suc j = omega arith in
    let past : before ≡ POINTERS * suc j = omega (arith, p) in
    let first : k + 1 + exts + before ≡ suc k + exts + POINTERS * suc j = omega (arith, p) in
    part_step image old all _ (ext_part n k c) j b exts lt (cc) (cc) inv w

heads_length : (n : ℕ) (kind : Kind) (k : ℕ) (es : List Entry) → length (heads_from n kind k es) ≡ length es
heads_length n kind k [] = refl
heads_length n kind k (e ∷ es) = ap suc (heads_length n kind (k + entry_blocks kind e) es)

-- each node has a block
pub nodes_length : (nodes : List ℕ) (t : Tree) (n : ℕ) → nodes ≡ node_blocks t n → length nodes ≡ 1 + length t.entries
nodes_length nodes t n e = let l = ap length e in let h = heads_length n t.kind 0 t.entries in omega arith

-- the blocks of an entry and of those after it
pub room_step : (kind : Kind) (k j total : ℕ) (left rest : List Entry) (e : Entry) → left ≡ e ∷ rest → j ≡ k + entry_blocks kind e
    → k + entries_blocks kind left ≡ total
    → j + entries_blocks kind rest ≡ total
room_step kind k j total left rest e split skip inv = grind (arith, common_steps)

one_spot : (a b : Spot) → a.k ≡ b.k → a.parent ≡ b.parent → a.next ≡ b.next → a ≡ b
one_spot a b e f g = λ i. record { k = e i; parent = f i; next = g i }

run_step : (image old all : List ℕ) (ps left rest : List (ℕ × List ℕ)) → image ≡ with_blocks old ps → left ≡ rest → with_blocks old (ps ++ rest) ≡ all
    → with_blocks image left ≡ all
run_step image old all ps left rest e f inv = let both = with_blocks-append old ps rest in cc

-- one entry more
pub entry_step : (image old all nodes slots : List ℕ) (n : ℕ) (t : Tree) (kind : Kind) (left rest : List Entry) (i k next p : ℕ) (e : Entry)
    (here : Spot) → left ≡ e ∷ rest → kind ≡ t.kind → p ≡ i + 1 → next ≡ k + entry_blocks t.kind e → nodes ≡ node_blocks t n
    → here.k ≡ k → here.parent ≡ slice_index nodes e.parent
    → here.next ≡ first_block (slice_index nodes) (nodes_from_by t.letters p rest e.parent (slot_by t.letters e.name))
    → slots ≡ slots_by t.letters nodes t.entries i
    → with_blocks old (entries_writes n t i k left) ≡ all
    → image ≡ with_blocks old (entry_writes n kind here slots e)
    → with_blocks image (entries_writes n t (i + 1) next rest) ≡ all
entry_step image old all nodes slots n t kind left rest i k next p e here split same place skip known at parent follow slot inv written =
    let up : i + 1 ≡ suc i = omega arith in
    let spot : here ≡ planned_spot n t i k e rest =
    one_spot here (planned_spot n t i k e rest) at (parent ∙ ap (λ ns. slice_index ns e.parent) known)
    (follow ∙ ap (λ ns. first_block (slice_index ns) (nodes_from_by t.letters p rest e.parent (slot_by t.letters e.name))) known
    ∙ ap (λ p. first_block (slice_index (node_blocks t n)) (nodes_from_by t.letters p rest e.parent (slot_by t.letters e.name))) (place ∙ up)) in
    let mine : image ≡ with_blocks old (entry_writes n t.kind (planned_spot n t i k e rest) (slots_by t.letters (node_blocks t n) t.entries i) e) =
    written ∙ ap (λ kind. with_blocks old (entry_writes n kind here slots e)) same
    ∙ ap (λ here. with_blocks old (entry_writes n t.kind here slots e)) spot
    ∙ ap (λ ls. with_blocks old (entry_writes n t.kind (planned_spot n t i k e rest) ls e))
    (slot ∙ ap (λ ns. slots_by t.letters ns t.entries i) known) in
    run_step image old all (entry_writes n t.kind (planned_spot n t i k e rest) (slots_by t.letters (node_blocks t n) t.entries i) e)
    (entries_writes n t (i + 1) next rest) (entries_writes n t (suc i) (k + entry_blocks t.kind e) rest) mine
    (ap (λ i. entries_writes n t i next rest) up ∙ ap (λ k. entries_writes n t (suc i) k rest) skip) (rw split at inv)

-- the blocks of a file: its header, its extension blocks and its data blocks
pub file_step : (image old head mid bytes slots table : List ℕ) (n : ℕ) (kind : Kind) (here : Spot) (e : Entry) (size c exts m next : ℕ)
    → e.body ≡ File bytes → c ≡ data_blocks kind e.body → exts ≡ exts_needed c → m ≡ min POINTERS c → size ≡ length bytes
    → table ≡ allocated n (here.k + 1 + exts) m → next ≡ nth_free_or_none n (here.k + 1) exts
    → head ≡ with_block old (nth_free n here.k) (head_block (planned_head n here (FileFields size table next) e))
    → mid ≡ with_blocks head (ext_writes n here.k c)
    → image ≡ with_blocks mid (data_writes n kind here.k bytes)
    → image ≡ with_blocks old (entry_writes n kind here slots e)
file_step image old head mid bytes slots table n kind here e size c exts m next b d x f s t a h w i = grind (arith, common_steps, with_blocks-append)

-- the root, with what it names
pub root_step : (image old slots numbers : List ℕ) (label : List ℕ) (stamps : Stamps) (t : Tree) (n root first few next : ℕ)
    → root ≡ middle n → first ≡ middle n + 1 → slots ≡ slots_by t.letters (node_blocks t n) t.entries 0
    → few ≡ min ROOT_PAGES (pages_needed n) → take few numbers ≡ range_with_len first few
    → next ≡ map_ext_or_none n 0 → label ≡ t.label → stamps ≡ t.stamps
    → image ≡ with_block old root (root_block (record { slots = slots; pages = take few numbers; map_ext = next; label = label; stamps = stamps }))
    → image ≡ with_block old (middle n) (root_block (planned_root t n))
root_step image old slots numbers label stamps t n root first few next r j a b d f g h i = cc

-- the blocks of a volume: those of the entries, the pages, the bitmap extension blocks, the root and the boot block
pub volume_step : (image old a b d r boot : List ℕ) (t : Tree) (n total : ℕ) (letters : Letters) (kind : Kind)
    → total ≡ entries_blocks t.kind t.entries → letters ≡ t.letters → kind ≡ t.kind
    → boot ≡ block_of_fields ((0, boot_bytes_by letters kind) ∷ [])
    → a ≡ with_blocks old (entries_writes n t 1 0 t.entries)
    → b ≡ with_blocks a (page_writes n total)
    → d ≡ with_blocks b (map_ext_writes n)
    → r ≡ with_block d (middle n) (root_block (planned_root t n))
    → image ≡ with_block r 0 boot
    → image ≡ with_blocks old (writes t n)
volume_step image old a b d r boot t n total letters kind f l k o p q x y z = simp with_blocks-append (cc)
