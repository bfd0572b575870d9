-- The model of an image as a volume with the letters of its own type.
use Rattle.std.specs.Prelude.{ℕ, List}
use Rattle.adf_volume.specs.{Fault.IsTrueFaultBy, Image.letters_of, Walk.IsWalkBy, Walk.Walk, declared.fault.Fault.Fault}

-- the walks by these letters
abbrev pub IsOwnWalk : List ℕ → Walk → Type 0
IsOwnWalk image = IsWalkBy (letters_of image) image

-- the fault is the first one by these letters, or NoMemory at block 0
abbrev pub IsOwnFault : List ℕ → Fault → Type 0
IsOwnFault image = IsTrueFaultBy (letters_of image) image
