-- The verdict on the front of an input that is longer than any image is that on the whole of it.
use Rattle.std.proofs.Common.{◌≡◌, ◌<◌, ◌+◌, ◌*◌, ◌∙◌, inl, inr, ℕ, Bool, true, false, List, Option, Some, None, IfSome, refl, subst, sym, arith, length, take, length-take}
use Rattle.std.proofs.{lemmas.Bool.and_parts, lemmas.Bool.cases_Bool, lemmas.Bool.Decides.nat_tests, lemmas.Bool.cases_lt, lemmas.Bool.false≢true, lemmas.List.take_all}
use Rattle.std.proofs.lemmas.Grind.{common_steps}
use Rattle.adf_blocks.specs.{Sizes.blocks, declared.cause.Cause.TheVariants.BadSize}
use Rattle.adf_tree.specs.Tree.{Tree}
use Rattle.adf_volume.specs.{Fits.FitsOf, Layout.Layout, Walk.FirstFaultOf, Walk.FirstFaultBy.at_boot}
use Rattle.adf_volume.specs.{Start.is_image_len, Types.most_blocks, declared.fault.Fault.Fault}
use Rattle.adf_volume.specs.declared.types.Types.{Types, TheVariants.Plain, TheVariants.WithInternational}
use Rattle.adf_volume.proofs.TypeLaws.{one_fault_of}
use Rattle.adf_uncached.specs.Uncached.{is_cached}
use Rattle.adf_verdicts.specs.Verdicts.{HasFirstFault, IsVerdict, IsVerdictOn, most_image_bytes, takes_caches}

-- an image that is too long has no caches
pub long_takes_none : (types : Types) (image : List ℕ) → most_image_bytes types < length image → takes_caches types image ≡ false
long_takes_none Plain image h = refl
long_takes_none WithInternational image h = elim (cases_Bool (takes_caches WithInternational image)) [
  | inl y ↦
      let whole : is_image_len (length image) ≡ true = (and_parts (is_cached image) (is_image_len (length image)) y).1 in
      absurd (grind (arith, common_steps, nat_tests))
  | inr y ↦ y
]

-- a size above that of the largest volume of these types is none
too_large : (types : Types) (image : List ℕ) (t : Tree) (l : Layout) → most_image_bytes types < length image → FitsOf types image t l → ⊥
too_large types image t l h (few, fits) = let size : length image ≡ 512 * blocks image = fits.boots.0.0 in omega (arith, few, size, h)

-- a size that is not whole blocks is none either
pub bad_size : (types : Types) (image : List ℕ) → most_image_bytes types < length image → FirstFaultOf types image 0 BadSize
bad_size types image h =
    elim (cases_lt (most_blocks types) (blocks image)) [
      | inl large ↦ inl (large, refl, refl)
      | inr few ↦ inr (few, at_boot (inl ((λ size. let whole : length image ≡ 512 * blocks image = size.0 in omega (arith, few, whole, h)), refl, refl)))
    ]

-- an image that is too long has the first fault of each other one
long_fault : (types : Types) (image bytes : List ℕ) (f : Fault) → most_image_bytes types < length image → most_image_bytes types < length bytes
    → HasFirstFault types image f → HasFirstFault types bytes f
long_fault types image bytes f front long (inr (takes, first)) = absurd (false≢true (sym (long_takes_none types image front) ∙ takes))
long_fault types image bytes f front long (inl (none, first)) =
    let same = one_fault_of types image f.block f.cause 0 BadSize first (bad_size types image front) in
    inl (
      long_takes_none types bytes long,
      subst (λ b. FirstFaultOf types bytes b f.cause) (sym same.0)
          (subst (λ c. FirstFaultOf types bytes 0 c) (sym same.1) (bad_size types bytes long)),
    )

-- so its verdict is theirs
long_verdict : (types : Types) (image bytes : List ℕ) (sound : Bool) (line : List ℕ) → most_image_bytes types < length image
    → most_image_bytes types < length bytes → IsVerdict types image sound line → IsVerdict types bytes sound line
long_verdict types image bytes true line a b (inl (t, l, fits), ok) = absurd (too_large types image t l a fits)
long_verdict types image bytes true line a b (inr (takes, x), ok) = absurd (false≢true (sym (long_takes_none types image a) ∙ takes))
long_verdict types image bytes false line a b (f, first, e) = (f, long_fault types image bytes f a b first, e)

-- the verdict on the bytes that are read is that on the whole input, where that is known
pub read_verdict : (types : Types) (sound : Bool) (line image : List ℕ) (left : Option (List ℕ))
    → IfSome left (λ bytes. image ≡ take (most_image_bytes types + 1) bytes) → IsVerdict types image sound line
    → IsVerdictOn types left sound line
read_verdict types sound line image None e h = (image, tt, h)
read_verdict types sound line image (Some bytes) e h = (
  bytes,
  refl,
  elim (cases_lt (most_image_bytes types) (length bytes)) [
    | inr short ↦ subst (λ l. IsVerdict types l sound line) (e ∙ take_all (most_image_bytes types + 1) bytes (omega arith)) h
    | inl long ↦
        let cut : most_image_bytes types < length image = rw e (omega (arith, length-take {A = ℕ})) in
        long_verdict types image bytes sound line cut long h
  ],
)
