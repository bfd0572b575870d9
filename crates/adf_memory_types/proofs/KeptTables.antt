-- The tables of an image that is kept as one without caches are those of the image.
-- Letters: u what is kept; es, fs tables of entries, bs, ds tables of blocks, before and after; c, d the contents; n, k numbers.
use Rattle.std.specs.Prelude.{min}
use Rattle.std.proofs.Common.{◌≡◌, ◌<◌, ◌+◌, ◌^◌, ◌∙◌, ℕ, List, ap, arith, length, refl, subst, sym}
use Rattle.std.proofs.lemmas.Bool.{Decides.nat_tests}
use Rattle.std.proofs.lemmas.Grind.{common_steps}
use Rattle.adf_base.specs.declared.hash.Letters.{Letters, TheVariants.Ascii, TheVariants.International}
use Rattle.adf_names.specs.declared.kind.Kind.{Kind, TheVariants.Ofs, TheVariants.Ffs}
use Rattle.adf_names.specs.VolumeTypes.{letters_of_type, type_number}
use Rattle.adf_volume.specs.declared.types.Types.TheVariants.{WithInternational}
use Rattle.adf_uncached.specs.declared.images.Uncached.{Uncached}
use Rattle.adf_cached_files.specs.InPlace.{IsReadInPlace}
use Rattle.adf_cached_files.proofs.KeptImages.{fits_kept}
use Rattle.adf_memory.specs.{CheckCalls.FillsTables, Tables.contents_of, Tables.refused_at}
use Rattle.adf_memory.specs.{declared.tables.Contents.Contents, declared.tables.TableEntry.TableEntry}
use Rattle.adf_memory_types.specs.{CachedCalls.IsCheckedCached, CachedTables.FillsWithCaches, CachedTables.with_caches}
use Rattle.adf_memory_types.proofs.KeptImages.{kept_told}

letters_cached : (k : ℕ) → letters_of_type (k + 2) ≡ International
letters_cached k = grind (arith, common_steps, nat_tests)

type_small : (ls : Letters) (kind : Kind) → type_number ls kind < 4
type_small Ascii Ofs = omega arith
type_small Ascii Ffs = omega arith
type_small International Ofs = omega arith
type_small International Ffs = omega arith

-- what is told of an accepted image leaves room for its caches
pub small_told : (v : List ℕ) (es fs : List TableEntry) (bs ds : List ℕ) (c : Contents) (n : ℕ)
    → FillsTables WithInternational v es fs bs ds c n → n ≡ 0 → (c.kind < 4) × (c.used + c.free < 2 ^ 32)
small_told v es fs bs ds c n fills zero =
    let (t, l, fits) = fills.checked.fits zero in
    let told = fills.contents zero t l fits in
    let kind : c.kind ≡ type_number t.letters t.kind = ap (λ (x : Contents). x.kind) told in
    let used = ap (λ (x : Contents). x.used) told in
    let free = ap (λ (x : Contents). x.free) told in
    let all = ap (λ (x : Contents). x.blocks) told in
    (subst (λ k. k < 4) (sym kind) (type_small t.letters t.kind), omega (arith, used, free, all, fills.used zero, fits.0))

module _ (image : List ℕ) (u : Uncached) (read : IsReadInPlace image u)
    (es fs : List TableEntry) (bs ds : List ℕ) (c : Contents) (n : ℕ) (fills : FillsTables WithInternational u.image.items es fs bs ds c n) where
  pub right_told : (d : Contents) → n ≡ 0 → d ≡ with_caches (length u.blocks.items) c → FillsWithCaches image es fs bs ds d n
  right_told d zero e =
      let (t, l, fits) = fills.checked.fits zero in
      let told = fills.contents zero t l fits in
      let free = ap (λ (x : Contents). x.free) told in
      let used = ap (λ (x : Contents). x.used) told in
      let all = ap (λ (x : Contents). x.blocks) told in
      let least : min (length u.blocks.items) c.free < c.free + 1 = grind (arith, common_steps) in
      record {
        checked = subst (λ k. IsCheckedCached image k n) (sym (ap (λ (x : Contents). x.block) e)) (kept_told image u read c.block n fills.checked);
        entries = λ z t l fits. fills.entries z t l (fits_kept image u read.kept t l fits.cached).fits;
        blocks = λ z t l fits. fills.blocks z t l (fits_kept image u read.kept t l fits.cached).fits;
        contents = λ z t l fits.
            let is = read.kept fits.cached.walk fits.cached.findings fits.cached.survey in
            e ∙ ap (with_caches (length u.blocks.items)) (fills.contents z t l (fits_kept image u read.kept t l fits.cached).fits)
            ∙ (λ i. with_caches (length (is.blocks i)) (contents_of (is.bytes i) t l));
        letters = λ z. ap (λ (x : Contents). letters_of_type x.kind) e ∙ letters_cached c.kind;
        few = λ z. subst (λ (x : Contents). x.entries + x.data_blocks < x.used) (sym e) (omega (arith, fills.few z));
        used = λ z. subst (λ (x : Contents). x.used < x.blocks) (sym e) (omega (arith, fills.used z, least, free, used, all));
        refused = λ some. absurd (some zero);
        unchanged = λ some. absurd (some zero);
      }

  pub wrong_told : ¬ (n ≡ 0) → FillsWithCaches image es fs bs ds c n
  wrong_told not =
      record {
        checked = kept_told image u read c.block n fills.checked;
        entries = λ zero. absurd (not zero);
        blocks = λ zero. absurd (not zero);
        contents = λ zero. absurd (not zero);
        letters = λ zero. absurd (not zero);
        few = λ zero. absurd (not zero);
        used = λ zero. absurd (not zero);
        refused = fills.refused;
        unchanged = fills.unchanged;
      }

-- those of a refused image are unchanged
pub refused_tables : (image : List ℕ) (es : List TableEntry) (bs : List ℕ) (c : Contents) (b n : ℕ) → ¬ (n ≡ 0) → c ≡ refused_at b
    → IsCheckedCached image b n → FillsWithCaches image es es bs bs c n
refused_tables image es bs c b n not told checked =
    let block = ap (λ (x : Contents). x.block) told in
    record {
      checked = subst (λ k. IsCheckedCached image k n) (sym block) checked;
      entries = λ zero. absurd (not zero);
      blocks = λ zero. absurd (not zero);
      contents = λ zero. absurd (not zero);
      letters = λ zero. absurd (not zero);
      few = λ zero. absurd (not zero);
      used = λ zero. absurd (not zero);
      refused = λ some. told ∙ ap refused_at (sym block);
      unchanged = λ some. (refl, refl);
    }
