-- Verdicts on images.
use Rattle.std.specs.Prelude.{◌≡◌, ◌&&◌, ◌*◌, ◌⊎◌, ℕ, Bool, true, false, List, length, Option, IfSome}
use Rattle.adf_tree.specs.Tree.{Tree}
use Rattle.adf_volume.specs.{Fits.FitsOf, Layout.Layout, Start.is_image_len, Types.most_blocks, Walk.FirstFaultOf, declared.fault.Fault.Fault}
use Rattle.adf_volume.specs.declared.types.Types.{Types, TheVariants.Plain, TheVariants.WithInternational}
use Rattle.adf_volume.specs.declared.counts.Counts.{Counts}
use Rattle.adf_texts.specs.Lines.{fault_line, ok_line_of}
use Rattle.adf_uncached.specs.Uncached.{is_cached}
use Rattle.adf_cached_files.specs.InPlace.{FirstFaultInPlace, FitsInPlace}

-- where types 2 and 3 are accepted, an image of an allowed size is that of a volume with directory caches if its type says so
abbrev pub takes_caches : Types → List ℕ → Bool
takes_caches Plain image = false
takes_caches WithInternational image = is_cached image && is_image_len (length image)

-- the image is that of a valid volume: a tree and a layout fit it, with right caches where its type has caches
abbrev pub IsValid : Types → List ℕ → Type 0
IsValid types image =
    ((t : Tree) × (l : Layout) × FitsOf types image t l)
    ⊎ ((takes_caches types image ≡ true) × ((t : Tree) × (l : Layout) × FitsInPlace image t l))

-- the image has this first fault
abbrev pub HasFirstFault : Types → List ℕ → Fault → Type 0
HasFirstFault types image f =
    ((takes_caches types image ≡ false) × FirstFaultOf types image f.block f.cause)
    ⊎ ((takes_caches types image ≡ true) × FirstFaultInPlace image f.block f.cause)

-- a line of the numbers of a sound volume
abbrev pub IsOkLine : List ℕ → Type 0
IsOkLine line = (kind : List ℕ) × (counts : Counts) × (line ≡ ok_line_of kind counts)

-- the image is valid if it is called sound, by a line of some numbers; else the line tells its first fault
abbrev pub IsVerdict : Types → List ℕ → (sound : Bool) → (line : List ℕ) → Type 0
IsVerdict types image true line = IsValid types image × IsOkLine line
IsVerdict types image false line = (f : Fault) × HasFirstFault types image f × (line ≡ fault_line f)

-- the verdict on bytes, on the known ones where some are
abbrev pub IsVerdictOn : Types → Option (List ℕ) → (sound : Bool) → (line : List ℕ) → Type 0
IsVerdictOn types known sound line = (bytes : List ℕ) × IfSome known (λ all. all ≡ bytes) × IsVerdict types bytes sound line

-- the most bytes of an image where these types are accepted
abbrev pub most_image_bytes : Types → ℕ
most_image_bytes types = 512 * most_blocks types
