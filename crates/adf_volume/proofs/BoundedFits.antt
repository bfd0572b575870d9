-- The fields of a tree that fits an image of bytes are within their bounds. b is the block of a header, bs the bytes of a block.
use Rattle.std.proofs.Common.{◌≡◌, ◌≤◌, ◌+◌, ℕ, suc, true, List, nat_le, arith, length, slice_index}
use Rattle.std.proofs.{lemmas.Bool.and_parts, lemmas.Bool.leb-true, lemmas.Grind.common_steps, lemmas.List.length-take}
use Rattle.adf_base.specs.{Dates.IsStamp, Words.block, declared.hash.Letters.Letters}
use Rattle.adf_base.proofs.ByteLists.{AreBytes, block_bytes, word_small}
use Rattle.adf_names.specs.{Meta.AreStamps, Meta.IsBoundedMeta, Texts.is_name, declared.kind.Kind.Kind}
use Rattle.adf_tree.specs.{Bounds.IsBounded, Bounds.IsBoundedEntry, Bounds.IsData, Tree.Tree, declared.entry.Entry.Entry}
use Rattle.adf_tree.specs.declared.entry.Body.{Body, TheVariants.Dir, TheVariants.File}
use Rattle.adf_blocks.specs.{Forms.stamp_at, Forms.text_at, declared.layout.TheConstants.COMMENT, declared.layout.TheConstants.SIZE}
use Rattle.adf_volume.specs.{Demands.AllHold, Demands.head_demands_by, Demands.root_demands, Fits.BodyFits, Fits.EntryFitsBy, Fits.FitsBy, Image.meta_of}
use Rattle.adf_volume.specs.{Image.name_of, Image.root_of, Image.stamps_of, Layout.Layout, Layout.at_node}
use Rattle.adf_volume.proofs.{FormDemands.demanded, Lists.at_index_or, Lists.at_some}

-- texts within their fields

pub text_short : (bs : List ℕ) (at n : ℕ) → slice_index bs at ≤ n → length (text_at bs at) ≤ n
text_short bs at n le = grind (arith, common_steps, length-take)

pub label_short : (image : List ℕ) → AllHold (root_demands image (root_of image)) → length (name_of image (root_of image)) ≤ 30
unfolding name_of
label_short image h = grind (arith, common_steps, text_short, leb-true, demanded, nat_le)

pub comment_short : (letters : Letters) (image : List ℕ) (kind : Kind) (b up s : ℕ) → AllHold (head_demands_by letters image kind b up s)
    → length (text_at (block image b) COMMENT) ≤ 79
comment_short letters image kind b up s h = grind (arith, common_steps, text_short, leb-true, demanded, nat_le)

-- the name in a header is one
pub name_valid : (letters : Letters) (image : List ℕ) (kind : Kind) (b up s : ℕ) → AllHold (head_demands_by letters image kind b up s)
    → is_name (name_of image b) ≡ true
unfolding name_of
name_valid letters image kind b up s h = grind (arith, common_steps, demanded, and_parts)

-- dates and metadata

pub stamp_small : (bs : List ℕ) (i : ℕ) → AreBytes bs → IsStamp (stamp_at bs i)
stamp_small bs i are = record { days = word_small bs i are; mins = word_small bs (i + 1) are; ticks = word_small bs (i + 2) are }

stamps_small : (image : List ℕ) (b : ℕ) → AreBytes image → AreStamps (stamps_of image b)
unfolding stamps_of
stamps_small image b are = grind (arith, common_steps, block_bytes, stamp_small)

meta_small : (letters : Letters) (image : List ℕ) (kind : Kind) (b up s : ℕ) → AreBytes image
    → AllHold (head_demands_by letters image kind b up s) → IsBoundedMeta (meta_of image b)
unfolding meta_of
meta_small letters image kind b up s are h = grind (arith, common_steps, comment_short, word_small, stamp_small, block_bytes image b are)

body_small : (image : List ℕ) (kind : Kind) (l : Layout) (n b : ℕ) (body : Body) → AreBytes image → BodyFits image kind l n b body → IsData body
body_small image kind l n b Dir are fits = tt
body_small image kind l n b (File bytes) are fits = omega (arith, fits.2, word_small (block image b) SIZE (block_bytes image b are))

entry_bounded : {letters : Letters} (image : List ℕ) (t : Tree) (l : Layout) (n : ℕ) (e : Entry) → AreBytes image
    → EntryFitsBy letters image t l n (at_node image l n) e
    → IsBoundedEntry e
entry_bounded {letters = letters} image t l n e are fits = record {
  name = rw fits.name (name_valid letters image t.kind (at_node image l n) _ _ fits.form);
  meta = rw fits.meta (meta_small letters image t.kind (at_node image l n) _ _ are fits.form);
  body = body_small image t.kind l n (at_node image l n) e.body are fits.body;
}

pub fits_bounded : {letters : Letters} (image : List ℕ) (t : Tree) (l : Layout) → AreBytes image → FitsBy letters image t l → IsBounded t
fits_bounded image t l are fits = record {
  label = rw fits.label (label_short image fits.root);
  stamps = rw fits.stamps (stamps_small image (root_of image) are);
  entries = λ i d lt.
      let (e, at) = at_some t.entries i lt in
      rw (at_index_or t.entries i e d at) (entry_bounded image t l (suc i) e are (fits.entries (suc i) e at));
}
