-- What is answered to the front of an input that is longer than the limit is answered to the whole of it.
use Rattle.std.proofs.Common.{◌≡◌, ◌≢◌, ◌<◌, ◌*◌, inl, inr, ℕ, List, refl, subst, sym, arith, length}
use Rattle.std.proofs.lemmas.Bool.{cases_lt}
use Rattle.adf_blocks.specs.{Sizes.blocks, declared.cause.Cause.TheVariants.BadSize}
use Rattle.adf_tree.specs.Tree.{Tree}
use Rattle.adf_volume.specs.{Fits.Fits, Layout.Layout, Walk.FirstFault, Walk.FirstFaultBy.at_boot}
use Rattle.adf_volume.specs.{Types.most_blocks, declared.fault.Fault.Fault, declared.types.Types.TheVariants.Plain}
use Rattle.adf_volume.proofs.TypeLaws.{one_fault_of}
use Rattle.adf_manifest.specs.Manifest.{ExplainsKind}
use Rattle.adf_manifest.specs.declared.manifest.ManifestKind.{ManifestKind, TheVariants.NoMemory as ManifestNoMemory, TheVariants.TooLong}
use Rattle.adf_cmd.specs.Answers.{Answer, limit_of}
use Rattle.adf_runs.specs.Commands.{Reply}
use Rattle.adf_words.specs.CommandLine.{RequestValue, build, cat, check, convert, list}

-- each answer to one input is one to another
abbrev pub AnswersBoth : RequestValue → List ℕ → List ℕ → Type 0
AnswersBoth r image bytes = (reply : Reply) → Answer r image reply → Answer r bytes reply

-- the most bytes of an image
abbrev most_image : ℕ
most_image = 512 * most_blocks Plain

-- a size above that of the largest volume is none
too_large : (image : List ℕ) (t : Tree) (l : Layout) → most_image < length image → Fits image t l → ⊥
too_large image t l h (few, fits) = let size : length image ≡ 512 * blocks image = fits.boots.0.0 in omega (arith, few, size, h)

-- a size that is not whole blocks is none either
bad_size : (image : List ℕ) → most_image < length image → FirstFault image 0 BadSize
bad_size image h =
    elim (cases_lt (most_blocks Plain) (blocks image)) [
      | inl large ↦ inl (large, refl, refl)
      | inr few ↦ inr (few, at_boot (inl ((λ size. let whole : length image ≡ 512 * blocks image = size.0 in omega (arith, few, whole, h)), refl, refl)))
    ]

-- the first fault of the front of a long image is that of the whole
long_fault : (image bytes : List ℕ) (f : Fault) → most_image < length image → most_image < length bytes
    → FirstFault image f.block f.cause → FirstFault bytes f.block f.cause
long_fault image bytes f front long first =
    let same = one_fault_of Plain image f.block f.cause 0 BadSize first (bad_size image front) in
    subst (λ b. FirstFault bytes b f.cause) (sym same.0)
    (subst (λ c. FirstFault bytes 0 c) (sym same.1) (bad_size bytes long))

-- a fault of the front of a long manifest is one of the whole
long_kind : (kind : ManifestKind) (line : ℕ) (image bytes : List ℕ) → 16777216 < length image → 16777216 < length bytes
    → kind ≢ ManifestNoMemory → ExplainsKind kind line image → ExplainsKind kind line bytes
long_kind ManifestNoMemory line image bytes a b ne h = absurd (ne refl)
long_kind TooLong line image bytes a b ne h = (h.0, b)
long_kind _ line image bytes a b ne h = absurd (omega (arith, h.0))

pub long_answers : (r : RequestValue) (image bytes : List ℕ) → limit_of r < length image → limit_of r < length bytes → AnswersBoth r image bytes
long_answers (cat path) image bytes a b reply (inl bad) = inl bad
long_answers (cat path) image bytes a b reply (inr (inl (names, text, t, l, fits, copies))) = absurd (too_large image t l a fits)
long_answers (cat path) image bytes a b reply (inr (inr (read, h))) = inr (inr (read, (h.0, long_fault image bytes h.0 a b h.1, h.2)))
long_answers check image bytes a b reply (inl h) = absurd (too_large image h.0 h.1 a h.2)
long_answers check image bytes a b reply (inr (f, first, e)) = inr (f, long_fault image bytes f a b first, e)
long_answers (build lines) image bytes a b reply (inl (tree, n, manifest, builds)) = absurd (omega (arith, manifest.0))
long_answers (build lines) image bytes a b reply (inr h) = inr (h.0, long_kind h.0.kind h.0.line image bytes a b h.2 h.1, h.2, h.3)
long_answers list image bytes a b reply (inl h) = absurd (too_large image h.0 h.1 a h.2)
long_answers list image bytes a b reply (inr (f, first, e)) = inr (f, long_fault image bytes f a b first, e)
long_answers (convert kind) image bytes a b reply (inl h) = absurd (too_large image h.0 h.1 a h.2)
long_answers (convert kind) image bytes a b reply (inr (f, first, e)) = inr (f, long_fault image bytes f a b first, e)
