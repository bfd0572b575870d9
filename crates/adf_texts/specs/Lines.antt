-- The output lines of the commands.
use Rattle.std.specs.Prelude.{ℕ, List, [], ◌∷◌, ◌++◌, codes}
use Rattle.std.specs.Fmt.{decimal}
use Rattle.adf_base.specs.declared.hash.Letters.{Letters, TheVariants.Ascii}
use Rattle.adf_names.specs.VolumeTypes.{kind_text_by}
use Rattle.adf_names.specs.Digits.{hex_word}
use Rattle.adf_volume.specs.{declared.counts.Counts.Counts, Fault.fault_text, declared.fault.Fault.Fault}

-- the line of a sound volume whose kind has this text
abbrev pub ok_line_of : List ℕ → Counts → List ℕ
ok_line_of kind c = codes "ok " ++ (kind ++ (codes " blocks " ++ (decimal c.blocks
    ++ (codes " used " ++ (decimal c.used ++ (codes " free " ++ (decimal c.free
    ++ (codes " dirs " ++ (decimal c.dirs ++ (codes " files " ++ (decimal c.files ++ codes "\n")))))))))))

-- the line of a sound volume with these letters
abbrev pub ok_line_by : Letters → Counts → List ℕ
ok_line_by letters c = ok_line_of (kind_text_by letters c.kind) c

-- the line of `check`
abbrev pub ok_line : Counts → List ℕ
ok_line = ok_line_by Ascii

-- the line of a refused image
abbrev pub fault_line : Fault → List ℕ
fault_line f = fault_text f ++ codes "\n"

-- the line of word i of block b: the block, the number of the word, its value
abbrev pub word_line : ℕ → ℕ → ℕ → List ℕ
word_line b i w = (decimal b ++ 32 ∷ []) ++ (decimal i ++ 32 ∷ []) ++ (hex_word w ++ 10 ∷ [])
