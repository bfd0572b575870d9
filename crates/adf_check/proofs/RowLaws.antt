-- A row agrees with its entry in the tree.
use Rattle.std.proofs.Common.{Bool, true, false, if◌then◌else◌, ◌≡◌, ℕ, suc, List, ◌<◌, length, refl, sym, ap, subst, ◌∙◌, arith, Some}
use Rattle.std.specs.Prelude.{option_map, ◌==◌}
use Rattle.std.proofs.{lemmas.Bool.and_parts, lemmas.Bool.Decides.nat_tests, lemmas.Grind.common_steps}
use Rattle.adf_blocks.specs.declared.layout.TheConstants.{SECONDARY_TYPE, ST_DIR}
use Rattle.adf_base.specs.{Words.block, declared.hash.Letters.Letters}
use Rattle.adf_tree.specs.declared.entry.Body.{Body, TheVariants.Dir, TheVariants.File}
use Rattle.adf_names.specs.declared.kind.Kind.{Kind}
use Rattle.adf_tree.specs.Tree.{Tree, entry, is_dir_body}
use Rattle.adf_blocks.specs.HeadBlock.{IsHead, body_at, head_form_by}
use Rattle.adf_blocks.specs.declared.head.HeadBody.TheVariants.{Dir as HeadDir, File as HeadFile}
use Rattle.adf_volume.specs.{Demands.AllHold, Demands.root_demands, Demands.demands_at, Demands.boot_demands_by, Fits.BodyFits, Fits.EntryFitsBy, Layout.Layout}
use Rattle.adf_volume.specs.{Layout.at_node, Lists.At, Start.IsOwnBegun, Rows.row_body, Rows.row_in, Rows.row_of_body, Rows.row_of_entry, declared.row.Row.Row}
use Rattle.adf_volume.specs.Image.{kind_of, meta_of, name_of, root_of, word_in, letters_of}
use Rattle.adf_volume.proofs.{MemberFacts.kept, Roles.head_role, FormDemands.demanded, Lists.all_append, Lists.at_below, Lists.at_some, Chains.entry_is_at}
use Rattle.adf_volume.specs.declared.kept_header.KeptHeader.{KeptHeader as Kept}
use Rattle.adf_check.proofs.{StoreStands.StoreStandsForBy, NodeSteps.node_here}
use Rattle.adf_check.specs.{Reading.StoreFits, Store.StoreValue}
use Rattle.adf_volume.specs.declared.row.RowBody.TheVariants.{Dir as DirRow, File as FileRow}

-- a block with the form of a header is one
pub head_facts : (letters : Letters) (kind : Kind) (b own parent slot : ℕ) (bytes : List ℕ)
    → AllHold (demands_at b (head_form_by letters kind own parent slot bytes)) → IsHead bytes
head_facts letters kind b own parent slot bytes h = grind (arith, common_steps, and_parts, demanded, nat_tests)

-- the block of a row holds a header
pub header_is_head : {image : List ℕ} {store : StoreValue} → StoreFits image store → (i : ℕ) (r : Kept) → At store.headers i r
    → IsHead (block image r.head)
header_is_head {image = image} {store = store} st i r at =
    let x = node_here image store st.walk st.read.tells st.read.is_walk i r at in
    let k = (kept image st.read.is_walk (head_role x) r.head x.has).2 in
    head_facts (letters_of image) (kind_of image) r.head r.head k.0 x.slot (block image r.head) k.2

pub tells_begun : (image : List ℕ) (store : StoreValue) → StoreFits image store → IsOwnBegun image
tells_begun image store st = all_append (boot_demands_by (letters_of image) image) (root_demands image (root_of image)) st.fits.boots st.fits.root

row_dir : (t : Bool) (size ext : ℕ) → t ≡ true → row_body (if t then HeadDir else HeadFile size ext) ≡ DirRow
row_dir true size ext is = refl
row_dir false size ext is = cc

row_file : (t : Bool) (size ext : ℕ) → t ≡ false → row_body (if t then HeadDir else HeadFile size ext) ≡ FileRow size
row_file true size ext is = cc
row_file false size ext is = refl

-- the secondary type of a header tells whether its entry is a directory, and its words the size of a file
pub type_told : (image : List ℕ) (t : Tree) (l : Layout) (n h : ℕ) (body : Body) → BodyFits image t.kind l n h body
    → ((word_in image h SECONDARY_TYPE == ST_DIR) ≡ is_dir_body body) × (row_body (body_at (block image h)) ≡ row_of_body body)
type_told image t l n h Dir f = grind (arith, common_steps, nat_tests, row_dir)
type_told image t l n h (File bytes) f = grind (arith, common_steps, nat_tests, row_file)

-- what a row's header tells is what the tree has
pub entry_told : (image : List ℕ) (store : StoreValue) (letters : Letters) (t : Tree) (l : Layout) → StoreStandsForBy letters image store t l
    → (n i : ℕ) (r : Kept) (told : Row) → n ≡ suc i → At store.headers i r → told ≡ row_in r.parent (block image r.head)
    → Some told ≡ option_map row_of_entry (entry t.entries n)
unfolding name_of meta_of
entry_told image store letters t l k n i r told e at_header is =
    let lt : i < length store.headers = at_below store.headers i r at_header in
    let at = at_some t.entries i (omega arith) in
    let entry_is : entry t.entries n ≡ Some at.0 = ap (entry t.entries) e ∙ (entry_is_at t (suc i) at.0).0 at.1 in
    let h : at_node image l (suc i) ≡ r.head = k.headers.head i r at_header in
    let fits : EntryFitsBy letters image t l (suc i) r.head at.0 =
    subst (λ b. EntryFitsBy letters image t l (suc i) b at.0) h (k.fits.entries (suc i) at.0 at.1) in
    let same : row_in r.parent (block image r.head) ≡ row_of_entry at.0 = λ j. record {
      parent = (sym (k.headers.parent i r at.0 at_header at.1)) j;
      name = (sym fits.name) j;
      meta = (sym fits.meta) j;
      body = (type_told image t l (suc i) r.head at.0.body fits.body).1 j;
    } in
    ap Some (is ∙ same) ∙ ap (option_map row_of_entry) (sym entry_is)
