-- What the command answers to its words and its input.
use Rattle.std.specs.Prelude.{◌≡◌, ◌≢◌, ◌++◌, ◌<◌, ◌-◌, ◌*◌, ◌⊎◌, ℕ, Bool, false, List, codes, Option, None, Some, option_map}
use Rattle.adf_blocks.specs.Sizes.{blocks}
use Rattle.adf_base.specs.declared.dates.Stamp.{Stamp}
use Rattle.adf_names.specs.{PathTexts.IsPathText, declared.kind.Kind.Kind}
use Rattle.adf_tree.specs.Tree.{Tree, entry, find, with_kind}
use Rattle.adf_volume.specs.{Fits.Fits, Layout.Layout, Walk.FirstFault, Counts.counts_of, Types.most_blocks}
use Rattle.adf_volume.specs.{declared.fault.Fault.Fault, declared.types.Types.TheVariants.Plain}
use Rattle.adf_build.specs.{Laid.IsLaid, Laid.volume, Plan.blocks_needed, Plan.planned, Building.IsBuildable, Building.need_of}
use Rattle.adf_check.specs.Pieces.{bytes_of}
use Rattle.adf_words.specs.CommandLine.{AsksFor, AreRefused, RequestValue, build, cat, check, convert, list}
use Rattle.adf_runs.specs.Commands.{Command, Reply, bad_path, on_errors, on_output}
use Rattle.adf_cmd.specs.{BuildLines.full_line, BuildLines.manifest_fault_line, Listing.image_or_lines}
use Rattle.adf_manifest.specs.{Manifest.ExplainsFault, Manifest.IsManifest, Manifest.most_bytes, declared.manifest.ManifestFault.ManifestFault}
use Rattle.adf_texts.specs.{Lines.fault_line, Lines.ok_line, VolumeLines.AreDates, VolumeLines.volume_lines}
use Rattle.adf_manifest.specs.declared.manifest.ManifestKind.TheVariants.{NoMemory as ManifestNoMemory}

-- `check` at status 0 tells the numbers of the tree and the layout that fit the image
abbrev pub TellsCounts : List ℕ → Reply → Type 0
TellsCounts input reply = (t : Tree) × (l : Layout) × Fits input t l × (reply ≡ on_output 0 (ok_line (counts_of input t l)))

-- at status 1 it tells the first fault of the image
abbrev pub TellsFault : List ℕ → Reply → Type 0
TellsFault input reply = (f : Fault) × FirstFault input f.block f.cause × (reply ≡ on_output 1 (fault_line f))

-- the image that is laid of a tree in n blocks, or the lines of its words
abbrev pub built_output : Bool → Tree → ℕ → List ℕ
built_output lines tree n = image_or_lines lines (volume tree n)

-- the tree has room in n blocks, and the image that is laid of it there is that of a sound volume of the tree
pub record IsBuilt (tree : Tree) (n : ℕ) : Type 0 where
  pub room : IsBuildable tree n
  pub laid : IsLaid (volume tree n) tree
  pub fits : Fits (volume tree n) tree (planned tree n)

-- a tree is built in n blocks: at status 0 its image is written, or the lines of the image's words
abbrev pub Builds : Bool → Tree → ℕ → Reply → Type 0
Builds lines tree n reply = IsBuilt tree n × (reply ≡ on_output 0 (built_output lines tree n))

-- at status 1 it needs more blocks than there are
abbrev pub IsFull : Tree → ℕ → Reply → Type 0
IsFull tree n reply = (n - 2 < blocks_needed tree n) × (reply ≡ on_errors 1 (full_line (need_of tree n) (n - 2)))

-- a tree is built in n blocks, or refused since they are too few
abbrev pub BuildsOrIsFull : Bool → Tree → ℕ → Reply → Type 0
BuildsOrIsFull lines tree n reply = Builds lines tree n reply ⊎ IsFull tree n reply

-- `build` builds the tree that the manifest tells, or says at status 1 why the manifest is none
abbrev pub BuildsManifest : Bool → List ℕ → Reply → Type 0
BuildsManifest lines input reply = (tree : Tree) × (n : ℕ) × IsManifest input tree n × BuildsOrIsFull lines tree n reply

-- the fault of the manifest is told on errors, with status 1
abbrev pub RefusesManifest : List ℕ → Reply → Type 0
RefusesManifest input reply =
    (f : ManifestFault) × ExplainsFault f input × (f.kind ≢ ManifestNoMemory) × (reply ≡ on_errors 1 (manifest_fault_line f))

-- the commands other than `check` say at status 1 on errors that the image is refused
abbrev pub RefusesImage : List ℕ → Reply → Type 0
RefusesImage input reply = (f : Fault) × FirstFault input f.block f.cause × (reply ≡ on_errors 1 (fault_line f))

-- `list` writes the lines of the tree and the layout that fit the image, in which each date has its text
abbrev pub Lists : List ℕ → Reply → Type 0
Lists input reply = (t : Tree) × (l : Layout) × Fits input t l × (date : Stamp → List ℕ) × AreDates date
    × (reply ≡ on_output 0 (volume_lines date t (blocks input)))

-- the text is that of no list of names
abbrev pub IsBadPath : List ℕ → Type 0
IsBadPath path = (names : List (List ℕ)) → ¬ IsPathText path names

-- `cat` at status 2: its path is not read
abbrev pub RefusesPath : List ℕ → Reply → Type 0
RefusesPath path reply = IsBadPath path × (reply ≡ bad_path)

-- what a path leads to in a tree: nothing, or a node, of which a file has bytes
abbrev pub contents_at : Tree → List (List ℕ) → Option (Option (List ℕ))
contents_at t names = option_map (λ n. bytes_of (entry t.entries n)) (find t.entries names)

-- `cat` of what its path leads to: of a file it writes the bytes, else it says at status 1 that nothing is there or that it is no file
abbrev pub Copies : Option (Option (List ℕ)) → Reply → Type 0
Copies None reply = reply ≡ on_errors 1 (codes "no such path\n")
Copies (Some None) reply = reply ≡ on_errors 1 (codes "not a file\n")
Copies (Some (Some bytes)) reply = reply ≡ on_output 0 bytes

-- `cat` of a path in the tree and the layout that fit the image
abbrev pub CopiesFrom : List ℕ → List ℕ → Reply → Type 0
CopiesFrom path input reply =
    (names : List (List ℕ)) × IsPathText path names × (t : Tree) × (l : Layout) × Fits input t l × Copies (contents_at t names) reply

-- `cat` of a path that is read, in an image that is refused
abbrev pub RefusesToCopy : List ℕ → List ℕ → Reply → Type 0
RefusesToCopy path input reply = ((names : List (List ℕ)) × IsPathText path names) × RefusesImage input reply

-- `convert` builds the tree that fits the image again, as one of this kind and in as many blocks
abbrev pub Converts : Kind → List ℕ → Reply → Type 0
Converts kind input reply =
    (t : Tree) × (l : Layout) × Fits input t l × BuildsOrIsFull false (with_kind t kind) (blocks input) reply

-- the answer to a request
abbrev pub Answer : RequestValue → List ℕ → Reply → Type 0
Answer check input reply = TellsCounts input reply ⊎ TellsFault input reply
Answer (build lines) input reply = BuildsManifest lines input reply ⊎ RefusesManifest input reply
Answer list input reply = Lists input reply ⊎ RefusesImage input reply
Answer (cat path) input reply =
    RefusesPath path reply ⊎ (CopiesFrom path input reply ⊎ RefusesToCopy path input reply)
Answer (convert kind) input reply = Converts kind input reply ⊎ RefusesImage input reply

-- words ask for one request at most
abbrev pub WordsAskForOneRequest : Type 0
WordsAskForOneRequest = (words : List (List ℕ)) (r r' : RequestValue) → AsksFor words r → AsksFor words r' → r ≡ r'

-- a request and an input have one answer at most
abbrev pub RequestsHaveOneAnswer : Type 0
RequestsHaveOneAnswer = (r : RequestValue) (input : List ℕ) (a b : Reply) → Answer r input a → Answer r input b → a ≡ b

-- the most bytes of the input that belong to an answer: those of the largest image or manifest
abbrev pub limit_of : RequestValue → ℕ
limit_of (build lines) = most_bytes
limit_of _ = 512 * most_blocks Plain

-- what errors get where the words are refused
abbrev pub usage_line : List ℕ
usage_line =
    codes "usage: adf check < IMAGE\n       adf list < IMAGE\n       adf cat PATH < IMAGE\n       adf build [--list] < MANIFEST\n"
    ++ codes "       adf convert ofs|ffs < IMAGE\nan image or a manifest comes on standard input; man adf tells more\n"

-- a request for the bytes under a path that is not read
abbrev pub HasBadPath : RequestValue → Type 0
HasBadPath r = (path : List ℕ) × (r ≡ cat path) × IsBadPath path

-- the words ask for the bytes under a path that is not read
abbrev pub AsksBadPath : List (List ℕ) → Type 0
AsksBadPath words = (path : List ℕ) × AsksFor words (cat path) × IsBadPath path

-- the command `adf`
abbrev pub adf_command : Command (List (List ℕ))
adf_command = record {
  Request = RequestValue;
  asks = AsksFor;
  refuses = AreRefused;
  asks_bad_path = AsksBadPath;
  answer = Answer;
  limit = limit_of;
  usage = usage_line;
}
