-- Scripts. `left` is what is left of a text from a line on, es are edits.
use Rattle.std.specs.Prelude.{◌≡◌, ◌≤◌, ◌⊎◌, ◌+◌, ℕ, Bool, List, [], ◌∷◌, ◌++◌, Option, Some, None, Result, Ok, Err, codes, drop, false, if◌then◌else◌, length, true}
use Rattle.std.specs.{Prelude.is_some, Prelude.option_and_then, Str.bytes_eq}
use Rattle.adf_base.specs.declared.hash.Letters.{Letters, TheVariants.Ascii, TheVariants.International}
use Rattle.adf_edits.specs.{Edits.EditValue, Edits.edit_value, Edits.file, Edits.replace, declared.edits.Edit.Edit}
use Rattle.adf_plans.specs.PlanTexts.{behind_line, first_line}
use Rattle.adf_edit_cmd.specs.{Lines.SaysEdit, declared.script.Settings.Settings, declared.script.TheConstants.MOST_LINES}
use Rattle.adf_edit_cmd.specs.declared.script.LettersEdit.{LettersEdit, TheVariants.Ascii as ToAscii, TheVariants.Cached as ToCached}
use Rattle.adf_edit_cmd.specs.declared.script.LettersEdit.TheVariants.{International as ToInternational}
use Rattle.adf_edit_cmd.specs.declared.script.BootEdit.{BootEdit, TheVariants.Clear, TheVariants.Install}
use Rattle.adf_edit_cmd.specs.declared.stop.Stop.{Stop, TheVariants.BadLine, TheVariants.NoMemory}

-- a script: its edits, and what it sets of the whole volume
pub record ScriptValue : Type 0 where
  pub edits : List EditValue
  pub settings : Settings

-- the lines of these edits stand first, and `end` is left behind them
unfoldable pub AreEdits : List ℕ → List EditValue → List ℕ → Type 0
AreEdits left [] end = left ≡ end
AreEdits left (e ∷ es) end = SaysEdit (first_line left) e × AreEdits (behind_line left) es end

-- whether a line is `end`
abbrev pub is_end : List ℕ → Bool
is_end line = bytes_eq line (codes "end")

-- what a line asks of letters and caches
abbrev pub letters_asked : List ℕ → Option LettersEdit
letters_asked line =
    if bytes_eq line (codes "letters ascii") then Some ToAscii
    else if bytes_eq line (codes "letters international") then Some ToInternational
    else if bytes_eq line (codes "letters cached") then Some ToCached else None

-- the letters of the new volume: those that are asked for, or else those of the old one
abbrev pub letters_by : Option LettersEdit → Letters → Letters
letters_by None old = old
letters_by (Some ToAscii) old = Ascii
letters_by (Some ToInternational) old = International
letters_by (Some ToCached) old = International

-- whether the directories of the new volume have caches: if that is asked for, or else as those of the old one
abbrev pub caches_by : Option LettersEdit → Bool → Bool
caches_by None old = old
caches_by (Some ToAscii) old = false
caches_by (Some ToInternational) old = false
caches_by (Some ToCached) old = true

-- what a line asks for the boot blocks
abbrev pub boot_asked : List ℕ → Option BootEdit
boot_asked line =
    if bytes_eq line (codes "boot install") then Some Install else if bytes_eq line (codes "boot clear") then Some Clear else None

-- settings with these letters, or this for the boot blocks, unless a line before set them
abbrev pub with_letters : Settings → LettersEdit → Option Settings
with_letters s letters = if is_some s.letters then None else Some (record { letters = Some letters; boot = s.boot })

abbrev pub with_boot_edit : Settings → BootEdit → Option Settings
with_boot_edit s boot = if is_some s.boot then None else Some (record { letters = s.letters; boot = Some boot })

-- settings and what a line asks for: letters, or something for the boot blocks
abbrev pub with_asked : Settings → Option LettersEdit → Option BootEdit → Option Settings
with_asked s (Some letters) boot = with_letters s letters
with_asked s None (Some boot) = with_boot_edit s boot
with_asked s None None = None

abbrev pub with_line_of : Settings → List ℕ → Option Settings
with_line_of s line = with_asked s (letters_asked line) (boot_asked line)

-- nothing is set
abbrev pub no_settings : Settings
no_settings = record { letters = None; boot = None }

-- these settings and the bytes behind, where `end` is left
abbrev pub ended : Settings → List ℕ → Option (Settings × List ℕ)
ended s left = if is_end (first_line left) then Some (s, behind_line left) else None

-- the same, where one line before `end` may set more
abbrev pub ended_next : Settings → List ℕ → Option (Settings × List ℕ)
ended_next s left =
    if is_end (first_line left) then Some (s, behind_line left)
    else option_and_then (λ more. ended more (behind_line left)) (with_line_of s (first_line left))

-- what ends a script, where it is left: `end`, before which a line or two may set the letters and the boot blocks
abbrev pub ending : List ℕ → Option (Settings × List ℕ)
ending left =
    if is_end (first_line left) then Some (no_settings, behind_line left)
    else option_and_then (λ s. ended_next s (behind_line left)) (with_line_of no_settings (first_line left))

-- a text begins with a script, and these bytes are behind its line `end`
pub record IsScript (text : List ℕ) (s : ScriptValue) (rest : List ℕ) : Type 0 where
  pub end : List ℕ
  pub edits : AreEdits text s.edits end
  pub few : length s.edits ≤ MOST_LINES
  pub ends : ending end ≡ Some (s.settings, rest)

-- a line behind so many says no edit, or is one too many
abbrev pub IsNoEdit : ℕ → List ℕ → Type 0
IsNoEdit n line = ((e : EditValue) → ¬ SaysEdit line e) ⊎ (n ≡ MOST_LINES)

-- the first line that is wrong has this number
pub record IsBadLine (text : List ℕ) (n : ℕ) : Type 0 where
  pub es : List EditValue
  pub end : List ℕ
  pub edits : AreEdits text es end
  pub few : length es ≤ MOST_LINES
  pub number : n ≡ length es + 1
  pub goes_on : ending end ≡ None
  pub wrong : IsNoEdit (length es) (first_line end)

-- what is wrong with a script
abbrev pub IsScriptFault : List ℕ → Stop → Type 0
IsScriptFault text (BadLine n) = IsBadLine text n
IsScriptFault text NoMemory = Unit {0}
IsScriptFault text _ = ⊥

-- a line more was read as an edit, or why not
abbrev pub IsNextRead : List Edit → List Edit → List ℕ → Result (Unit {0}) Stop → Type 0
IsNextRead old new line (Ok _) = (e : Edit) × (new ≡ old ++ e ∷ []) × SaysEdit line (edit_value e) × (length new ≤ MOST_LINES)
IsNextRead old new line (Err (BadLine n)) = (n ≡ length old + 1) × IsNoEdit (length old) line
IsNextRead old new line (Err NoMemory) = Unit {0}
IsNextRead old new line (Err _) = ⊥

-- how many bytes an edit takes of those behind the script
abbrev pub bytes_taken : EditValue → ℕ
bytes_taken (file path size) = size
bytes_taken (replace path size) = size
bytes_taken _ = 0

-- how many bytes the files of edits take
unfoldable pub files_len : List EditValue → ℕ
files_len [] = 0
files_len (e ∷ es) = bytes_taken e + files_len es

-- the bytes behind those that an edit takes
abbrev pub behind_file : EditValue → List ℕ → List ℕ
behind_file e given = drop (bytes_taken e) given
