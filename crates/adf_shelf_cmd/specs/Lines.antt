-- The lines of names. In each definition `may` says of a name, a status, and a text or a line whether they may be reported of it, and `o` and `o'` are what
-- output held and holds.
use Rattle.std.specs.Prelude.{◌≡◌, ◌≢◌, ◌≤◌, ◌⊎◌, ℕ, max, Bool, true, false, List, [], ◌∷◌, ◌++◌, codes, Option, IfSome, Result, Err, if◌then◌else◌}
use Rattle.std.specs.{Prelude.string_bytes, Io.KnownBytes.Appends}
use Rattle.adf_volume.specs.declared.types.Types.{Types}
use Rattle.adf_names.specs.Escapes.{escaped}
use Rattle.adf_verdicts.specs.Verdicts.{IsVerdictOn}
use Rattle.adf_runs.specs.Streams.{AppendsPart, Seen}
use Rattle.adf_shelf_cmd.specs.declared.report.Report.{Report, TheVariants.Checked, TheVariants.NotOpened, TheVariants.ReadFault, TheVariants.NoMemory}
use Rattle.adf_shelf_cmd.specs.declared.batch.Stop.{Stop, TheVariants.ReadFault as NamesFault, TheVariants.WriteFault}

-- the line of a name: its escape form, a tab, and the text reported of its file
abbrev pub batch_line : List ℕ → List ℕ → List ℕ
batch_line name text = escaped name ++ (9 ∷ text)

-- a line tells of a name what is reported of its file; an object may tell it in any way
abbrev pub TellsReport : (json : Bool) → List ℕ → List ℕ → List ℕ → Type 0
TellsReport false name text line = line ≡ batch_line name text
TellsReport true name text line = Unit {0}

-- the verdict on bytes for these types, on the known ones where some are: status 0 if they are sound, else 1
abbrev pub ChecksKnown : Types → Option (List ℕ) → ℕ → List ℕ → Type 0
ChecksKnown types known status text = (sound : Bool) × IsVerdictOn types known sound text × (status ≡ (if sound then 0 else 1))

-- a file that may fail was not read
abbrev pub IsUnreadFile : Bool → ℕ → List ℕ → Type 0
IsUnreadFile may_fail status text = (may_fail ≡ true) × (status ≡ 3) × (text ≡ codes "read fault\n")

-- memory was refused
abbrev pub LacksMemory : ℕ → List ℕ → Type 0
LacksMemory status text = (status ≡ 3) × (text ≡ codes "no memory\n")

-- what may be reported of a file
abbrev pub IsReport : Types → Option (List ℕ) → Bool → ℕ → List ℕ → Type 0
IsReport types known may_fail status text = ChecksKnown types known status text ⊎ (IsUnreadFile may_fail status text ⊎ LacksMemory status text)

-- what may be reported of the file of a name, by the bytes that are known of each file, and whether it may fail
abbrev pub IsReportOf : Types → (List ℕ → Option (List ℕ)) → (List ℕ → Bool) → List ℕ → ℕ → List ℕ → Type 0
IsReportOf types bytes_of may_fail name = IsReport types (bytes_of name) (may_fail name)

-- the status of a run whose words are taken
abbrev pub IsRunStatus : ℕ → Type 0
IsRunStatus status = (status ≤ 3) × (status ≢ 2)

-- whether a status, and a text or a line may be reported of the file of a name
abbrev pub Reports : Type 1
Reports = List ℕ → ℕ → List ℕ → Type 0

-- a line may be that of a name: by a text that may be reported of its file
abbrev pub IsLineOf : (json : Bool) → Reports → Reports
IsLineOf json may name status line = (text : List ℕ) × may name status text × TellsReport json name text line

-- the lines of names in order, and the greatest status of one
unfoldable pub AreBatchLines : Reports → List (List ℕ) → ℕ → List ℕ → Type 0
AreBatchLines may [] status output = (status ≡ 0) × (output ≡ [])
AreBatchLines may (name ∷ names) status output =
    (s t : ℕ) × (line rest : List ℕ) × may name s line × AreBatchLines may names t rest × (status ≡ max s t) × (output ≡ line ++ rest)

-- output got the lines of these names
abbrev pub WritesLines : Reports → List (List ℕ) → ℕ → Option (List ℕ) → Option (List ℕ) → Type 0
WritesLines may names status o o' = (output : List ℕ) × AreBatchLines may names status output × Appends o o' output

-- output got the lines of all names, of the known ones where some are
abbrev pub WritesAll : Reports → Option (List (List ℕ)) → ℕ → Option (List ℕ) → Option (List ℕ) → Type 0
WritesAll may known status o o' = (names : List (List ℕ)) × IfSome known (λ all. all ≡ names) × WritesLines may names status o o'

-- of the line of a name, output got a front part where it failed, but not all, and else nothing
abbrev pub BreaksLine : Reports → List ℕ → Bool → Option (List ℕ) → Option (List ℕ) → Type 0
BreaksLine may name true o o' = (status : ℕ) × (line : List ℕ) × may name status line × AppendsPart true o o' line
BreaksLine may name false o o' = o' ≡ o

-- of the lines of names, output got a front part of the first where it failed, but not all, and else nothing
abbrev pub BreaksFirst : Reports → List (List ℕ) → Bool → Option (List ℕ) → Option (List ℕ) → Type 0
BreaksFirst may (name ∷ names) failed o o' = BreaksLine may name failed o o'
BreaksFirst may [] failed o o' = (failed ≡ false) × (o' ≡ o)

-- output got the lines of names that stand first among the known ones, and where it failed a front part of the next line, but not all
abbrev pub WritesPart : Reports → Option (List (List ℕ)) → Bool → Option (List ℕ) → Option (List ℕ) → Type 0
WritesPart may known failed o o' = (names rest : List (List ℕ)) × IfSome known (λ all. all ≡ names ++ rest)
    × (status : ℕ) × (between : Option (List ℕ)) × WritesLines may names status o between × BreaksFirst may rest failed between o'

-- the exit status that a file's report asks for
abbrev pub report_status : Report → ℕ
report_status (Checked a) = if a.sound then 0 else 1
report_status (NotOpened why) = 3
report_status ReadFault = 3
report_status NoMemory = 3

-- what is written behind the name of a file
abbrev pub report_text : Report → List ℕ
report_text (Checked a) = string_bytes a.line
report_text (NotOpened why) = codes "read fault\n"
report_text ReadFault = codes "read fault\n"
report_text NoMemory = codes "no memory\n"

-- whether a run stopped since output failed
abbrev pub is_output_fault : Stop → Bool
is_output_fault WriteFault = true
is_output_fault _ = false

-- whether a run stopped since the names could not be read
abbrev pub is_names_fault : Stop → Bool
is_names_fault NamesFault = true
is_names_fault _ = false

-- how a run ends, where `unread` says whether the names could not be read: output got all the lines; or it stopped at status 3, output got the lines of
-- the first names, and where it failed not all of the next
abbrev pub Ends : Reports → Option (List (List ℕ)) → Bool → ℕ → Seen → Type 0
Ends may known unread status output =
    (WritesAll may known status output.before output.after × (unread ≡ false) × (output.failed ≡ false))
    ⊎ ((stop : Stop) × (status ≡ 3) × (unread ≡ is_names_fault stop) × (output.failed ≡ is_output_fault stop)
    × WritesPart may known output.failed output.before output.after)

-- the names stopped the work
abbrev pub is_names_stop : {T : Type 0} → Result T Stop → Bool
is_names_stop (Err stop) = is_names_fault stop
is_names_stop _ = false

-- output stopped the work
abbrev pub is_write_stop : {T : Type 0} → Result T Stop → Bool
is_write_stop (Err stop) = is_output_fault stop
is_write_stop _ = false
