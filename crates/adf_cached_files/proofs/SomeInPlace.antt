-- An image of a volume with directory caches has a verdict as one that is read in place.
-- Letters: copy the image as one without caches; t a tree; l a layout; b a block, bs blocks; n a number of blocks.
use Rattle.std.proofs.Common.{◌≡◌, ◌≢◌, ◌⊎◌, ◌<◌, ◌∙◌, ℕ, zero, suc, List, [], ◌∷◌, arith, inl, inr, length, refl, subst, sym}
use Rattle.std.specs.Str.{bytes_eq}
use Rattle.std.proofs.lemmas.{Bool.cases_Bool, Bool.cases_eq, Bool.cases_lt, Bool.false≢true, Slice.Eq.bytes_eq-Decides}
use Rattle.adf_base.specs.Words.{block}
use Rattle.adf_names.specs.declared.kind.Kind.{Kind, TheVariants.Ffs, TheVariants.Ofs}
use Rattle.adf_tree.specs.Tree.{Tree}
use Rattle.adf_blocks.specs.{Sizes.blocks, declared.cause.Cause.Cause, declared.cause.Cause.TheVariants.DirCache}
use Rattle.adf_volume.specs.{Image.kind_of, Image.root_of, Layout.Layout, Lists.In}
use Rattle.adf_uncached.specs.{Uncached.uncached}
use Rattle.adf_uncached.proofs.OneVerdict.{some_verdict}
use Rattle.adf_cached_files.specs.InPlace.{FirstFaultInPlace, FirstFaultInPlace.of_pages, FirstFaultInPlace.of_volume, FitsInPlace}
use Rattle.adf_cached_files.specs.Sameness.{IsSameButBitmap}
use Rattle.adf_uncached.proofs.SameLength.{length-uncached}

in_or_not : (bs : List ℕ) (b : ℕ) → In bs b ⊎ ¬ In bs b
in_or_not [] b = inr (λ h. h)
in_or_not (c ∷ cs) b = elim (cases_eq c b) [
  | inl here ↦ inl (inl here)
  | inr other ↦ elim (in_or_not cs b) [
    | inl h ↦ inl (inr h)
    | inr none ↦ inr (λ h. elim h [ inl e ↦ other e | inr k ↦ none k ])
  ]
]

bytes_or_not : (xs ys : List ℕ) → (xs ≡ ys) ⊎ (xs ≢ ys)
bytes_or_not xs ys = elim (cases_Bool (bytes_eq xs ys)) [
  | inl y ↦ inl ((bytes_eq-Decides xs ys).0 y)
  | inr y ↦ inr (λ e. false≢true (sym y ∙ (bytes_eq-Decides xs ys).1 e))
]

kind_or_not : (k m : Kind) → (k ≡ m) ⊎ (k ≢ m)
kind_or_not Ofs Ofs = inl refl
kind_or_not Ffs Ffs = inl refl
kind_or_not Ofs Ffs = inr (λ e. cc)
kind_or_not Ffs Ofs = inr (λ e. cc)

module _ (image copy : List ℕ) (l : Layout) where
  -- the blocks before block n are the same but for pages
  abbrev AreSameBefore : ℕ → Type 0
  AreSameBefore n = (b : ℕ) → 0 < b → b < n → ¬ In l.pages b → block image b ≡ block copy b

  one_more : (n : ℕ) → AreSameBefore n → (0 < n → ¬ In l.pages n → block image n ≡ block copy n) → AreSameBefore (suc n)
  one_more n before here b some lt none = elim (cases_lt b n) [
    | inl y ↦ before b some y none
    | inr y ↦
        let e : n ≡ b = omega (arith, lt, y) in
        subst (λ x. 0 < x → ¬ In l.pages x → block image x ≡ block copy x) e here some none
  ]

  not_here : (n : ℕ) → 0 < n → ¬ In l.pages n → block image n ≢ block copy n → ¬ AreSameBefore (suc n)
  not_here n some none other all = other (all n some (omega arith) none)

  before_or_not : (n : ℕ) → AreSameBefore n ⊎ ¬ AreSameBefore n
  before_or_not zero = inl (λ b some lt none. absurd (omega (arith, lt)))
  before_or_not (suc n) = elim (before_or_not n) [
    | inr differ ↦ inr (λ all. differ (λ b more lt none. all b more (omega (arith, lt)) none))
    | inl before ↦ elim (cases_lt 0 n) [
      | inr y ↦ inl (one_more n before (λ some. absurd (omega (arith, some, y))))
      | inl some ↦ elim (in_or_not l.pages n) [
        | inl page ↦ inl (one_more n before (λ _ none. absurd (none page)))
        | inr none ↦ elim (bytes_or_not (block image n) (block copy n)) [
          | inl same ↦ inl (one_more n before (λ _ _. same))
          | inr other ↦ inr (not_here n some none other)
        ]
      ]
    ]
  ]

  same_or_not : length image ≡ length copy → IsSameButBitmap image copy l ⊎ ¬ IsSameButBitmap image copy l
  same_or_not size = elim (kind_or_not (kind_of image) (kind_of copy)) [
    | inr other ↦ inr (λ same. other same.kind)
    | inl kind ↦ elim (before_or_not (blocks copy)) [
      | inl all ↦ inl (record { size = size; kind = kind; parts = all })
      | inr differ ↦ inr (λ same. differ same.parts)
    ]
  ]

pub some_in_place : (image : List ℕ) → ((t : Tree) × (l : Layout) × FitsInPlace image t l) ⊎ ((b : ℕ) × (c : Cause) × FirstFaultInPlace image b c)
some_in_place image = elim (some_verdict image) [
  | inr f ↦ inr (f.0, f.1, of_volume f.2)
  | inl f ↦ elim (same_or_not image (uncached image f.2.walk) f.1 (sym (length-uncached image f.2.walk))) [
    | inl same ↦ inl (f.0, f.1, record { cached = f.2; same = same })
    | inr other ↦ inr (root_of image, DirCache, of_pages f.0 f.1 f.2 other refl refl)
  ]
]
