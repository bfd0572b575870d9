-- Fits holds of the smallest volume.
use Rattle.std.proofs.Common.{true, false, ◌≡◌, ℕ, zero, suc, [], inl, inr, ◌+◌, ◌-◌, ◌%◌, ◌<◌, ◌≤◌, refl, ap, subst, ◌∙◌, arith}
use Rattle.std.proofs.lemmas.Grind.{common_steps}
use Rattle.adf_base.specs.Words.{block, word, words}
use Rattle.adf_base.specs.declared.hash.Letters.{Letters, TheVariants.Ascii, TheVariants.International}
use Rattle.adf_names.specs.declared.kind.Kind.TheVariants.{Ffs}
use Rattle.adf_tree.specs.{declared.entry.Entry.Entry, Tree.IsDir}
use Rattle.adf_volume.specs.{declared.owner.Owner.Owner, Lists.At, Lists.In, Lists.NoBlockTwice, Image.word_in, Image.root_of, Image.kind_of, Image.name_of}
use Rattle.adf_volume.specs.{Image.stamps_of, Image.map_exts_needed, Image.IsFreeAt, Layout.EntryAt, Layout.at_node, Layout.owned, Fits.Fits, Fits.FitsBy}
use Rattle.adf_volume.specs.{Fits.IsFree, Samples.tiny, Samples.tiny_root, Samples.tiny_tree, Samples.tiny_layout, Walk.FirstFault, Walk.FirstFaultBy.at_boot}
use Rattle.adf_blocks.specs.declared.cause.Cause.TheVariants.{International as OtherLetters}
use Rattle.adf_blocks.specs.{PageBlock.page_form, RootBlock.root_form, Sizes.blocks}
use Rattle.adf_volume.specs.Demands.{AllHold, boot_demands_by, boot_form, boot_form_by, root_demands, page_demands}
use Rattle.adf_volume.proofs.{FormDemands.all_demanded, Zeros.zero_at}

slots_zero : (type s : ℕ) → s < 72 → word_in (tiny type) 2 (6 + s) ≡ 0
unfolding tiny tiny_root block word
slots_zero type s l = zero_at (λ s. word_in (tiny type) 2 (6 + s)) 72 s refl l

page_at : (k b : ℕ) → At tiny_layout.pages k b → (k ≡ 0) × (3 ≡ b)
page_at zero b h = (refl, h)
page_at (suc k) b h = absurd h

tiny_is_root : (type : ℕ) → AllHold (root_demands (tiny type) 2)
unfolding tiny tiny_root block word words
tiny_is_root type = all_demanded 2 (root_form (block (tiny type) 2)) refl

tiny_is_page : (type : ℕ) → AllHold (page_demands (tiny type) 3)
unfolding tiny tiny_root block word words
tiny_is_page type = all_demanded 3 (page_form (block (tiny type) 3)) refl

no_dir : (p : ℕ) → IsDir [] p → p ≡ 0
no_dir zero h = refl
no_dir (suc p) h = let x = h (omega arith) in let y : suc p ≤ 0 = x.0 in absurd (omega arith)

no_entry : (letters : Letters) (n : ℕ) (e : Entry) → EntryAt (tiny_tree letters) n e → ⊥
no_entry letters zero e h = h
no_entry letters (suc n) e h = h

tiny_chains : (type p s : ℕ) → p ≡ 0 → s < 72 → word_in (tiny type) (at_node (tiny type) tiny_layout p) (6 + s) ≡ 0
unfolding tiny tiny_root
tiny_chains type zero s e l = slots_zero type s l
tiny_chains type (suc p) s e l = absurd (omega arith)

tiny_range : (type : ℕ) (o : Owner) (b : ℕ) → In (owned (tiny type) tiny_layout) (o, b) → (2 ≤ b) × (b < 4)
unfolding tiny tiny_root
tiny_range type o b h = grind (arith, common_steps)

-- each bit of the page is clear
tiny_bits : (type b : ℕ) → IsFreeAt (tiny type) 3 ((b - 2) % 4064) → 2 ≤ b → b < 4 → ⊥
unfolding tiny tiny_root block word
tiny_bits type (suc (suc zero)) h l u = h refl
tiny_bits type (suc (suc (suc zero))) h l u = h refl
tiny_bits type _ h l u = omega arith

tiny_bitmap : (type b : ℕ) → 2 ≤ b → b < 4 → IsFree (tiny type) tiny_layout.pages b → ⊥
tiny_bitmap type b l u f = grind (arith, common_steps, page_at, tiny_bits)

tiny_owned : (type b : ℕ) → 2 ≤ b → b < 4 → ((o : Owner) → In (owned (tiny type) tiny_layout) (o, b) → ⊥) → ⊥
unfolding tiny tiny_root
tiny_owned type (suc (suc zero)) l u f = f _ (inl refl)
tiny_owned type (suc (suc (suc zero))) l u f = f _ (inr (inl refl))
tiny_owned type _ l u f = omega arith

tiny_once : (type : ℕ) → NoBlockTwice (owned (tiny type) tiny_layout)
unfolding tiny tiny_root
tiny_once type = grind (arith, common_steps)

-- the tree fits a volume of each FFS type of its letters
fits_of_type : (letters : Letters) (type : ℕ) → AllHold (boot_demands_by letters (tiny type)) → Ffs ≡ kind_of (tiny type)
    → FitsBy letters (tiny type) (tiny_tree letters) tiny_layout
unfolding tiny tiny_root block word name_of stamps_of map_exts_needed
fits_of_type letters type boots kind = record {
  boots = boots;
  kind = kind;
  letters = refl;
  root = tiny_is_root type;
  label = refl;
  stamps = refl;
  tree = record {
    parents = (λ i d h. absurd (omega arith));
    dirs = (λ i d h. absurd (omega arith));
    order = (λ i j d l h. absurd (omega arith));
    names = (λ i j d l h. absurd (omega arith));
  };
  places = refl;
  pages = refl;
  map_exts = refl;
  map_first = (λ b h. absurd h);
  map_next = (λ j a b h. absurd h);
  page_named = (λ k b l h. let x = page_at k b h in ap (λ k. word_in (tiny type) (root_of (tiny type)) (79 + k)) x.0 ∙ x.1);
  page_listed = (λ j i a b l h. absurd h);
  page_form = (λ k b h. let x = page_at k b h in subst (λ b. AllHold (page_demands (tiny type) b)) x.1 (tiny_is_page type));
  entries = (λ n e h. absurd (no_entry letters n e h));
  chains = (λ p s d l. tiny_chains type p s (no_dir p d) l);
  files = (λ n e bytes h. absurd (no_entry letters n e h));
  once = tiny_once type;
  range = tiny_range type;
  bitmap = (λ b l u. ((λ f. absurd (tiny_bitmap type b l u f)), (λ f. absurd (tiny_owned type b l u f))));
}

pub tiny_fits : Fits (tiny 1) (tiny_tree Ascii) tiny_layout
unfolding tiny tiny_root block kind_of
tiny_fits =
    let size : blocks (tiny 1) ≡ 4 = refl in
    (omega (arith, size), fits_of_type Ascii 1 ((refl, refl), all_demanded 0 (boot_form (block (tiny 1) 0)) refl) refl)

pub international_fits : FitsBy International (tiny 3) (tiny_tree International) tiny_layout
unfolding tiny tiny_root block kind_of
international_fits = fits_of_type International 3 ((refl, refl), all_demanded 0 (boot_form_by International (block (tiny 3) 0)) refl) refl

pub international_refused : FirstFault (tiny 3) 0 OtherLetters
unfolding tiny tiny_root block
international_refused =
    let size : blocks (tiny 3) ≡ 4 = refl in
    inr (omega (arith, size), at_boot (inr ((refl, refl), inr (refl, inl ((λ h. let e : false ≡ true = h in cc), refl, refl)))))
