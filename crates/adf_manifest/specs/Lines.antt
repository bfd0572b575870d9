-- The lines of a manifest and their content, each by itself.
use Rattle.std.specs.Prelude.{◌≡◌, ◌<◌, ◌≤◌, ◌^◌, ℕ, List, ◌++◌, codes, length, All}
use Rattle.std.specs.Fmt.{decimal}
use Rattle.adf_base.specs.{Dates.plain_text, Dates.IsStamp, declared.dates.Stamp.Stamp}
use Rattle.adf_names.specs.{declared.kind.Kind.Kind, declared.meta.Stamps.Stamps, Meta.AreStamps, Kinds.kind_text}
use Rattle.adf_manifest.specs.{Tokens.stamps_text, Texts.pairs, declared.lines.Sort.Sort, declared.lines.Sort.TheVariants.Dir}
use Rattle.adf_names.specs.Digits.{hex_word, pair}
use Rattle.adf_manifest.specs.{declared.lines.Sort.TheVariants.File, declared.lines.EntryText.EntryText, declared.lines.Run.Run, declared.lines.Line.Line}
use Rattle.adf_manifest.specs.declared.lines.Run.TheVariants as run
use Rattle.adf_manifest.specs.declared.lines.Line.TheVariants as line

-- the bytes that a line adds to a file: by their digits, or one byte repeated
pub data RunValue : Type 0 where
  DataRun : (bytes : List ℕ) → RunValue
  FillRun : (count byte : ℕ) → RunValue

-- the content of a line after the first, with TEXT or PATH as in the manifest
pub data LineValue : Type 0 where
  LabelLine : (text : List ℕ) → LineValue
  StampsLine : (stamps : Stamps) → LineValue
  EntryLine : (sort : Sort) (stamp : Stamp) (protect : ℕ) (path : List ℕ) → LineValue
  NoteLine : (text : List ℕ) → LineValue
  RunLine : (run : RunValue) → LineValue

-- volume KIND BLOCKS
abbrev pub volume_line : Kind → ℕ → List ℕ
volume_line kind n = codes "volume " ++ (kind_text kind ++ (codes " " ++ decimal n))

-- label TEXT
abbrev pub label_line : List ℕ → List ℕ
label_line text = codes "label " ++ text

-- stamps ROOT ALTERED CREATED
abbrev pub stamps_line : Stamps → List ℕ
stamps_line s = codes "stamps " ++ stamps_text s

-- the first word of an entry's line
abbrev pub sort_text : Sort → List ℕ
sort_text Dir = codes "dir "
sort_text File = codes "file "

-- the fields after the first word of an entry line
abbrev pub fields_text : Stamp → ℕ → List ℕ → List ℕ
fields_text stamp protect path = plain_text stamp ++ (codes " " ++ (hex_word protect ++ (codes " " ++ path)))

-- dir or file, then DATE PROTECT PATH
abbrev pub entry_line : Sort → Stamp → ℕ → List ℕ → List ℕ
entry_line sort stamp protect path = sort_text sort ++ fields_text stamp protect path

-- note TEXT
abbrev pub note_line : List ℕ → List ℕ
note_line text = codes "note " ++ text

-- data HEX
abbrev pub data_line : List ℕ → List ℕ
data_line bytes = codes "data " ++ pairs bytes

-- fill COUNT BYTE
abbrev pub fill_line : ℕ → ℕ → List ℕ
fill_line count byte = codes "fill " ++ (decimal count ++ (codes " " ++ pair byte))

-- the line of a run: data or fill
abbrev pub run_line : RunValue → List ℕ
run_line (DataRun bytes) = data_line bytes
run_line (FillRun count byte) = fill_line count byte

-- the text of a line
abbrev pub line_text : LineValue → List ℕ
line_text (LabelLine text) = label_line text
line_text (StampsLine stamps) = stamps_line stamps
line_text (EntryLine sort stamp protect path) = entry_line sort stamp protect path
line_text (NoteLine text) = note_line text
line_text (RunLine run) = run_line run

-- the most bytes that one `fill` line may add
abbrev pub most_fill : ℕ
most_fill = 536870912

-- a run is not empty: it has bytes, or a count from 1 to the most of a `fill` line
abbrev pub IsRun : RunValue → Type 0
IsRun (DataRun bytes) = (0 < length bytes) × All (λ b. b < 256) bytes
IsRun (FillRun count byte) = (0 < count) × (count ≤ most_fill) × (byte < 256)

-- the fields of a line are within the limits of its form; TEXT and PATH are any bytes, at least one
abbrev pub IsLine : LineValue → Type 0
IsLine (LabelLine text) = 0 < length text
IsLine (StampsLine stamps) = AreStamps stamps
IsLine (EntryLine sort stamp protect path) = IsStamp stamp × (protect < 2 ^ 32) × (0 < length path)
IsLine (NoteLine text) = 0 < length text
IsLine (RunLine run) = IsRun run

-- a text has the form of a line after the first
abbrev pub HasForm : List ℕ → Type 0
HasForm text = (line : LineValue) × IsLine line × (text ≡ line_text line)

-- a line has the form of a volume line
abbrev pub IsVolumeLine : List ℕ → Type 0
IsVolumeLine line = (kind : Kind) × (n : ℕ) × (n < 2 ^ 32) × (line ≡ volume_line kind n)

-- the value of a run in the code
abbrev pub run_value : Run → RunValue
run_value (run.Data bytes) = DataRun bytes
run_value (run.Fill count byte) = FillRun count byte

-- the value of an entry line in the code
abbrev pub entry_value : EntryText → LineValue
entry_value e = EntryLine e.sort e.stamp e.protect e.path.now

-- the value of a line in the code
abbrev pub line_value : Line → LineValue
line_value (line.Label text) = LabelLine text.now
line_value (line.Stamps stamps) = StampsLine stamps
line_value (line.Entry entry) = entry_value entry
line_value (line.Note text) = NoteLine text.now
line_value (line.Run run) = RunLine (run_value run)
