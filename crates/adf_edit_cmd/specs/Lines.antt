-- Lines of a script: a word, and behind a space what it is about. A value stands behind the first `:`, which no name has.
use Rattle.std.specs.Prelude.{◌≡◌, ◌⊎◌, ◌<◌, ◌^◌, ◌==◌, ℕ, Bool, List, [], ◌∷◌}
use Rattle.std.specs.Prelude.{Option, Some, None, true, bit_and, codes, decimal, if◌then◌else◌, length, nat_lt}
use Rattle.std.specs.Str.{bytes_eq}
use Rattle.adf_base.specs.{Dates.IsStamp, Dates.plain_text, declared.dates.Stamp.Stamp}
use Rattle.adf_fields.specs.Dates.{IsStampText}
use Rattle.adf_edits.specs.Edits.{EditValue, change, dir, file, label, move, remove, replace}
use Rattle.adf_edits.specs.declared.edits.Change.TheVariants as what
use Rattle.adf_names.specs.Digits.{hex_word}
use Rattle.adf_names.specs.{Escapes.IsSpelling, PathTexts.IsPathText}
use Rattle.adf_plans.specs.PlanTexts.{before_byte, behind_byte, behind_word, first_word}
use Rattle.adf_edit_cmd.specs.declared.lines.Verb.{Verb}
use Rattle.adf_edit_cmd.specs.declared.lines.Verb.TheVariants.{Remove, Move, Dir, File, Replace, Note, Protect, Date, Label}

-- what the first word of a line asks for
abbrev pub verb_of : List ℕ → Option Verb
verb_of word =
    if bytes_eq word (codes "remove") then Some Remove else if bytes_eq word (codes "move") then Some Move
    else if bytes_eq word (codes "dir") then Some Dir else if bytes_eq word (codes "file") then Some File
    else if bytes_eq word (codes "replace") then Some Replace else if bytes_eq word (codes "note") then Some Note
    else if bytes_eq word (codes "protect") then Some Protect else if bytes_eq word (codes "date") then Some Date
    else if bytes_eq word (codes "label") then Some Label else None

-- whether a byte of this value stands in a text
abbrev pub has_byte : ℕ → List ℕ → Bool
has_byte byte text = nat_lt (length (before_byte byte text)) (length text)

-- what stands before the first `:`, and the value behind it
abbrev pub before_colon : List ℕ → List ℕ
before_colon text = before_byte 58 text

abbrev pub value_in : List ℕ → List ℕ
value_in text = behind_byte 58 text

-- whether there is a value, though perhaps one of no bytes
abbrev pub has_value : List ℕ → Bool
has_value text = has_byte 58 text

-- a letter if its bit of a protection is set, else `-`
abbrev pub letter_if_set : (letter bit word : ℕ) → ℕ
letter_if_set letter bit word = if bit_and word bit == 0 then 45 else letter

-- a letter if its bit is not set, since it forbids, else `-`
abbrev pub letter_if_clear : (letter bit word : ℕ) → ℕ
letter_if_clear letter bit word = if bit_and word bit == 0 then letter else 45

-- the low eight bits of a protection, as AmigaDOS lists them: `hsparwed`, of which the last four forbid
abbrev pub flags_text : ℕ → List ℕ
flags_text word =
    letter_if_set 104 128 word ∷ letter_if_set 115 64 word ∷ letter_if_set 112 32 word ∷ letter_if_set 97 16 word
    ∷ letter_if_clear 114 8 word ∷ letter_if_clear 119 4 word ∷ letter_if_clear 101 2 word ∷ letter_if_clear 100 1 word ∷ []

-- a text says this protection: eight hexadecimal digits, or the letters of one of eight bits
abbrev pub SaysProtection : List ℕ → ℕ → Type 0
SaysProtection text word = ((word < 2 ^ 32) × (text ≡ hex_word word)) ⊎ ((word < 256) × (text ≡ flags_text word))

-- a text says this date: its three numbers, or what listings write of it
abbrev pub SaysDate : List ℕ → Stamp → Type 0
SaysDate text date = IsStamp date × ((text ≡ plain_text date) ⊎ IsStampText date text)

-- the text behind a word says this edit: PATH, PATH:PATH, PATH:SIZE, PATH:TEXT, PATH:PROTECTION, PATH:DATE, or TEXT
abbrev pub SaysBehindVerb : Verb → List ℕ → EditValue → Type 0
SaysBehindVerb Remove text (remove path) = IsPathText text path
SaysBehindVerb Move text (move from to) = (has_value text ≡ true) × IsPathText (before_colon text) from × IsPathText (value_in text) to
SaysBehindVerb Dir text (dir path) = IsPathText text path
SaysBehindVerb File text (file path size) = IsPathText (before_colon text) path × (size < 2 ^ 32) × (value_in text ≡ decimal size)
SaysBehindVerb Replace text (replace path size) =
    IsPathText (before_colon text) path × (size < 2 ^ 32) × (value_in text ≡ decimal size)
SaysBehindVerb Note text (change path (what.Note note)) =
    (has_value text ≡ true) × IsPathText (before_colon text) path × IsSpelling 79 (value_in text) note
SaysBehindVerb Protect text (change path (what.Protect word)) = IsPathText (before_colon text) path × SaysProtection (value_in text) word
SaysBehindVerb Date text (change path (what.Date date)) = IsPathText (before_colon text) path × SaysDate (value_in text) date
SaysBehindVerb Label text (label bytes) = IsSpelling 30 text bytes
SaysBehindVerb _ _ _ = ⊥

-- a line says an edit: there is a space behind its word
abbrev pub SaysEdit : List ℕ → EditValue → Type 0
SaysEdit line e =
    (verb : Verb) × (verb_of (first_word line) ≡ Some verb) × (has_byte 32 line ≡ true) × SaysBehindVerb verb (behind_word line) e
