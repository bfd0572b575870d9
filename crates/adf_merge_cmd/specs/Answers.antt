-- What `adf-merge` answers to readings, and how its runs end. Letters: rs the readings, r one of them; ms these with their maps, m a map; o what words
-- ask for; n the status of a run.
use Rattle.std.specs.Prelude.{◌≡◌, ◌≢◌, ◌⊎◌, ◌+◌, ◌/◌, ◌%◌, ◌≤◌, ◌==◌, ◌&&◌, ℕ, Bool, not, if◌then◌else◌, List, [], ◌∷◌, All, codes, length, slice_index}
use Rattle.std.specs.Prelude.{IfSome, None, Option, Some, slice_index_or, take, true}
use Rattle.std.specs.{Str.bytes_eq, List.AllZip, Io.KnownBytes.Appends}
use Rattle.clap.specs.Words.{Text}
use Rattle.adf_words.specs.declared.command_line.ArgsError.{ArgsError}
use Rattle.adf_readings.specs.{Mapped.MappedValue, Merge.AreFound, Merge.IsMergeOf}
use Rattle.adf_runs.specs.{Commands.Reply, Outcomes.Does, Outcomes.outcome_text, Outcomes.status_of, Streams.IsTold, Streams.Seen}
use Rattle.adf_runs.specs.{WorkFaults.args_refused, WorkFaults.refusal_status, declared.outcome.Outcome.Outcome}
use Rattle.adf_merge_cmd.specs.{Sizes.has_dos, Sizes.has_reading_size, declared.sizes.TheConstants.MOST_BYTES}
use Rattle.adf_merge_cmd.specs.CommandLine.{AsksMerge, ExplainsMergeArgs, MergeOrder}
use Rattle.adf_maps.specs.Maps.{MapValue, map_of}
use Rattle.adf_merge_cmd.specs.declared.maps.MapStop.{MapStop, TheVariants.Refused, TheVariants.NoMemory}

-- both begin with DOS, and their types differ
abbrev pub differ_in_type : List ℕ → List ℕ → Bool
differ_in_type first r = has_dos first && (has_dos r && not (slice_index r 3 == slice_index first 3))

-- a reading has the size of an image and that of the first one, and no other type
abbrev pub is_alike : List ℕ → List ℕ → Bool
is_alike first r = has_reading_size r && ((length r == length first) && not (differ_in_type first r))

abbrev pub first_reading : List (List ℕ) → List ℕ
first_reading rs = slice_index_or rs 0 []

-- all readings are like the first one
abbrev pub AreAlike : List (List ℕ) → Type 0
AreAlike rs = All (λ r. is_alike (first_reading rs) r ≡ true) rs

-- a reading of whole blocks, not too many, and as long as the first one
abbrev pub IsLikeFirst : List ℕ → List ℕ → Type 0
IsLikeFirst first r = (length r % 512 ≡ 0) × (length r ≤ MOST_BYTES) × (length r ≡ length first)

-- the bytes of the file of a map; no bytes of `-`, which stands for none
abbrev pub map_bytes : (List ℕ → Option (List ℕ)) → List ℕ → Option (List ℕ)
map_bytes bytes_of name = if bytes_eq name (codes "-") then Some [] else bytes_of name

-- the map of a disk of this size
abbrev pub sized_map : ℕ → Option MapValue → Option (Option MapValue)
sized_map size None = None
sized_map size (Some m) = if m.end == size then Some (Some m) else None

-- the map of a name and a text, which `-` has not; `None` if it is refused
abbrev pub named_map : ℕ → Text → List ℕ → Option (Option MapValue)
named_map size name text = if bytes_eq name (codes "-") then Some None else sized_map size (map_of text)

-- one map more in front of others
abbrev pub with_map : Option (Option MapValue) → Option (List (Option MapValue)) → Option (List (Option MapValue))
with_map None rest = None
with_map (Some m) None = None
with_map (Some m) (Some more) = Some (m ∷ more)

-- the maps of names and texts, if none is refused
unfoldable pub named_maps : ℕ → List Text → List (List ℕ) → Option (List (Option MapValue))
named_maps size [] texts = Some []
named_maps size (name ∷ names) [] = Some []
named_maps size (name ∷ names) (text ∷ texts) = with_map (named_map size name text) (named_maps size names texts)

-- the maps are not had: one is refused, or memory is
abbrev pub IsMapStop : Option (List (Option MapValue)) → MapStop → Type 0
IsMapStop maps (Refused line) = maps ≡ None
IsMapStop maps NoMemory = Unit {0}

-- readings with their maps; those behind the last map have none
unfoldable pub mapped : List (List ℕ) → List (Option MapValue) → List MappedValue
mapped [] maps = []
mapped (r ∷ rs) [] = record { image = r; map = None } ∷ mapped rs []
mapped (r ∷ rs) (m ∷ maps) = record { image = r; map = m } ∷ mapped rs maps

-- an image and its lines, which are said if it is not sound
abbrev pub told_reply : Bool → List ℕ → List ℕ → Reply
told_reply sound image lines = record { status = if sound then 0 else 1; output = image; errors = if sound then [] else lines }

-- the answer to readings of so many blocks: each block is that of a reading; at status 0 each is in one, and nothing is said, and else something is
pub record IsMergeReply (blocks : ℕ) (ms : List MappedValue) (reply : Reply) : Type 0 where
  pub image : IsMergeOf blocks ms reply.output
  pub said : ((reply.status ≡ 0) × (reply.errors ≡ []) × AreFound blocks ms) ⊎ ((reply.status ≡ 1) × (reply.errors ≢ []))

-- the answer to readings of this size, and to these maps; where one is refused nothing is written
abbrev pub MappedReply : Option (List (Option MapValue)) → ℕ → List (List ℕ) → Reply → Type 0
MappedReply None size rs reply = (reply.status ≡ 1) × (reply.output ≡ [])
MappedReply (Some maps) size rs reply = IsMergeReply (size / 512) (mapped rs maps) reply

-- the answer to readings of these names, and to the maps of these names and texts
abbrev pub MergeReply : MergeOrder → List (List ℕ) → (texts : List (List ℕ)) → Reply → Type 0
MergeReply o rs texts reply =
    (AreAlike rs × MappedReply (named_maps (length (first_reading rs)) o.maps texts) (length (first_reading rs)) rs reply)
    ⊎ ((¬ AreAlike rs) × (reply.status ≡ 1) × (reply.output ≡ []))

-- the readings are those of the files of these names, as far as they are known; of a longer file than the largest image one byte more
abbrev pub AreReadings : (List ℕ → Option (List ℕ)) → List Text → List (List ℕ) → Type 0
AreReadings bytes_of names rs = AllZip (λ name r. IfSome (bytes_of name) (λ all. r ≡ take (MOST_BYTES + 1) all)) names rs

-- the readings and maps that the words name were read and answered
abbrev pub AnswersReadings : List Text → (List ℕ → Option (List ℕ)) → ℕ → Seen → Seen → Type 0
AnswersReadings words bytes_of n output errors =
    (o : MergeOrder) × AsksMerge words o × (rs : List (List ℕ)) × AreReadings bytes_of o.readings rs
    × (texts : List (List ℕ)) × AreReadings (map_bytes bytes_of) o.maps texts
    × (outcome : Outcome) × Does (MergeReply o rs texts) outcome output × (n ≡ status_of outcome) × IsTold errors (outcome_text outcome)

-- a reading or a map that the words name was not read
abbrev pub LacksReading : List Text → ℕ → Seen → Type 0
LacksReading words n output = (o : MergeOrder) × AsksMerge words o × (n ≡ 3) × Appends output.before output.after []

-- the words are refused, or memory is refused for them
abbrev pub LacksWords : List Text → ℕ → Seen → Type 0
LacksWords words n output = (fault : ArgsError) × ExplainsMergeArgs fault words × (n ≡ refusal_status (args_refused fault))
    × Appends output.before output.after []

-- how a run with these words ends
abbrev pub MergeEnds : List Text → (List ℕ → Option (List ℕ)) → ℕ → Seen → Seen → Type 0
MergeEnds words bytes_of n output errors =
    AnswersReadings words bytes_of n output errors ⊎ (LacksReading words n output ⊎ LacksWords words n output)
