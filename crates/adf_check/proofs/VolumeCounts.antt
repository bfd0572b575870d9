-- The counts of a volume are those of its tree and layout.
use Rattle.std.proofs.Common.{◌≡◌, ℕ, suc, List, ◌-◌, ◌<◌, length, count_by, subst, arith, ◌==◌}
use Rattle.std.proofs.lemmas.Grind.{common_steps}
use Rattle.adf_blocks.specs.{declared.layout.TheConstants.SECONDARY_TYPE, declared.layout.TheConstants.ST_DIR, Sizes.blocks}
use Rattle.adf_names.specs.declared.kind.Kind.{Kind}
use Rattle.adf_tree.specs.Tree.{Tree}
use Rattle.adf_volume.specs.{Image.kind_of, Image.word_in, Layout.Layout, Layout.at_node, Lists.At, declared.counts.Counts.Counts}
use Rattle.adf_volume.proofs.{MemberFacts.in_range, Roles.head_role, WalkCounts.others, WalkCounts.same_count}
use Rattle.adf_volume.specs.declared.kept_header.KeptHeader.{KeptHeader}
use Rattle.adf_check.proofs.{StoreStands.StoreStandsForBy, NodeSteps.node_here, NumberBounds.many_blocks, RowLaws.tells_begun, RowLaws.type_told}
use Rattle.adf_check.specs.{Reading.StoreFits, Store.StoreValue, Store.is_dir_at}
use Rattle.adf_volume.specs.Counts.{counts_of, is_directory}
use Rattle.adf_base.specs.declared.hash.Letters.{Letters}

-- the headers of rows are blocks of the image
pub header_inside : {image : List ℕ} {store : StoreValue} → StoreFits image store → (i : ℕ) (r : KeptHeader) → At store.headers i r
    → r.head < blocks image
header_inside {image = image} {store = store} st i r at = grind (arith, common_steps, node_here, in_range, many_blocks, tells_begun, head_role)

-- the directories of the rows are those of the tree
pub dirs_are : (image : List ℕ) (store : StoreValue) (letters : Letters) (t : Tree) (l : Layout) → StoreStandsForBy letters image store t l
    → count_by (is_dir_at image) store.headers ≡ count_by is_directory t.entries
dirs_are image store letters t l k = same_count (is_dir_at image) is_directory store.headers t.entries k.headers.count (λ i r e at_header at_entry.
    let h : at_node image l (suc i) ≡ r.head = k.headers.head i r at_header in
    subst (λ b. (word_in image b SECONDARY_TYPE == ST_DIR)
    ≡ is_directory e) h (type_told image t l (suc i) (at_node image l (suc i)) e.body (k.fits.entries (suc i) e at_entry).body).0)

-- the numbers of a volume are those of the tree and the layout that it stands for
pub counts_are : (image : List ℕ) (store : StoreValue) (letters : Letters) (t : Tree) (l : Layout) (kind : Kind) (n used dirs all : ℕ)
    → StoreStandsForBy letters image store t l → kind ≡ kind_of image
    → n ≡ blocks image → used ≡ store.used
    → dirs ≡ count_by (is_dir_at image) store.headers → all ≡ length store.headers
    → ◌≡◌ {A = Counts} (record { kind = kind; blocks = n; used = used; free = n - 2 - used; dirs = dirs; files = all - dirs }) (counts_of image t l)
counts_are image store letters t l kind n used dirs all k ek en eu ed ea = grind (arith, common_steps, count_by, dirs_are, others)
