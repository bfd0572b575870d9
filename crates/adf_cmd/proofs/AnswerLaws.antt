-- From outcomes to answers.
use Rattle.std.proofs.Common.{◌≤◌, true}
use Rattle.std.proofs.Common.{◌≡◌, ◌∙◌, ap, inl, inr, ℕ, Bool, false, List, [], Option, None, Some, refl, sym, subst, arith, string_bytes}
use Rattle.std.specs.Prelude.{codes, option_map}
use Rattle.std.proofs.lemmas.Grind.{common_steps}
use Rattle.adf_base.specs.declared.hash.Letters.TheVariants.{Ascii}
use Rattle.adf_fields.proofs.DateTexts.{date_of, date_of_is}
use Rattle.adf_names.specs.{PathTexts.IsPathText, declared.kind.Kind.Kind}
use Rattle.adf_tree.specs.Tree.{Tree, entry, find, with_kind}
use Rattle.adf_blocks.specs.{declared.layout.TheConstants.MOST_PLAIN_BLOCKS, Sizes.blocks, Sizes.is_plain_size}
use Rattle.adf_volume.proofs.Sizes.{plain_size_high}
use Rattle.adf_volume.specs.{Fits.Fits, Fits.FitsBy, Layout.Layout, Walk.FirstFault, Counts.counts_of, declared.counts.Counts.Counts}
use Rattle.adf_volume.specs.declared.fault.Fault.{Fault}
use Rattle.adf_build.specs.{Laid.IsLaid, Laid.volume, Plan.planned, Building.IsBuildable}
use Rattle.adf_build.proofs.{LaidWrites.CanHold, LaidWrites.volume_blocks, WholeVolume.fits_plain}
use Rattle.adf_check.specs.Pieces.{bytes_of}
use Rattle.adf_cmd.specs.Answers.{Answer, BuildsOrIsFull, Copies, IsBuilt, RefusesImage, contents_at}
use Rattle.adf_runs.specs.{Commands.Reply, Commands.on_errors, Commands.on_output, Streams.Seen, Outcomes.Does, Outcomes.DoesSilently, Outcomes.EndsBy}
use Rattle.adf_words.specs.CommandLine.{build, cat, check, convert, list}
use Rattle.adf_manifest.specs.{Manifest.ExplainsFault, Manifest.IsManifest, declared.manifest.ManifestFault.ManifestFault}
use Rattle.adf_cmd.specs.Refusals.{IsFaultOutcome, IsRefusedImage}
use Rattle.adf_texts.specs.{Lines.fault_line, Lines.ok_line, VolumeLines.volume_lines}
use Rattle.adf_runs.specs.declared.outcome.Outcome.{Outcome, TheVariants.Refused, TheVariants.NoMemory}
use Rattle.adf_runs.proofs.{Endings.does_weaker, Endings.ends_weaker, PendingText.appends_nil}

-- the line of the first fault of an image answers a check
pub refused_answer : (image line : List ℕ) (f : Fault) → FirstFault image f.block f.cause → line ≡ fault_line f
    → Answer check image (on_output 1 line)
refused_answer image line f first e = inr (f, first, ap (on_output 1) e)

-- so does the line of the numbers of a tree and a layout that fit it
pub accepted_answer : (image line : List ℕ) (t : Tree) (l : Layout) {n : Counts} → Fits image t l → n ≡ counts_of image t l → line ≡ ok_line n
    → Answer check image (on_output 0 line)
accepted_answer image line t l fits counted e = inl (t, l, fits, ap (on_output 0) (e ∙ ap ok_line counted))

-- what is said of a refused image is one of the answers that refuse it so
pub refused_image_ends : (w : Outcome) (image : List ℕ) (answers : Reply → Type 0)
    → ((reply : Reply) → RefusesImage image reply → answers reply) → IsRefusedImage image w → DoesSilently answers w
refused_image_ends (Refused line) image answers f h = record {
  ends = λ o. ([], f (on_errors 1 (string_bytes line)) (h.0, h.1, ap (on_errors 1) h.2), appends_nil o);
  read = refl;
  written = refl;
}
refused_image_ends NoMemory image answers f h = record { ends = λ o. inl (appends_nil o); read = refl; written = refl }
refused_image_ends _ image answers f h = absurd h

-- the lines of a volume answer `list`
pub listed : (image : List ℕ) (t : Tree) (l : Layout) → Fits image t l → Answer list image (on_output 0 (volume_lines date_of t (blocks image)))
listed image t l fits = inl (t, l, fits, date_of, date_of_is, refl)

-- what is said of a refused manifest answers it
pub fault_ends : (w : Outcome) (lines : Bool) (input : List ℕ) (f : ManifestFault) → ExplainsFault f input → IsFaultOutcome f w
    → DoesSilently (Answer (build lines) input) w
fault_ends (Refused line) lines input f why h =
    record { ends = λ o. ([], inr (f, why, h.0, ap (on_errors 1) h.1), appends_nil o); read = refl; written = refl }
fault_ends NoMemory lines input f why h = record { ends = λ o. inl (appends_nil o); read = refl; written = refl }
fault_ends _ lines input f why h = absurd h

-- an image that was built of a tree is the one that is laid of it
pub is_built : (image : List ℕ) (tree : Tree) (n : ℕ) → image ≡ volume tree n → IsBuildable tree n
    → is_plain_size n ≡ true → IsLaid image tree
    → tree.letters ≡ Ascii → FitsBy tree.letters image tree (planned tree n)
    → IsBuilt tree n
is_built image tree n e room size laid letters fits =
    let can : CanHold tree n = record { sound = laid.sound; allowed = room.allowed; room = room.room } in
    let few : blocks image ≤ MOST_PLAIN_BLOCKS = omega (arith, ap blocks e ∙ volume_blocks can, plain_size_high n size) in
    let plain : Fits image tree (planned tree n) = fits_plain few letters fits in grind (arith, common_steps)

-- what builds the tree of a manifest answers its building
pub build_ends : {w : Outcome} {output : Seen} (lines : Bool) (input : List ℕ) (tree : Tree) (n : ℕ) → IsManifest input tree n
    → Does (BuildsOrIsFull lines tree n) w output → Does (Answer (build lines) input) w output
build_ends lines input tree n m h = grind (arith, common_steps, does_weaker)

-- what builds the tree of an image as one of another kind answers its conversion
pub convert_ends : {w : Outcome} {output : Seen} (kind : Kind) (image : List ℕ) (t : Tree) (l : Layout) (n : ℕ) → Fits image t l → n ≡ blocks image
    → Does (BuildsOrIsFull false (with_kind t kind) n) w output → Does (Answer (convert kind) image) w output
convert_ends kind image t l n fits e h =
    let u = with_kind t kind in
    does_weaker (BuildsOrIsFull false u n) (Answer (convert kind) image)
    (λ reply builds. inl (t, l, fits, subst (λ k. BuildsOrIsFull false u k reply) e builds)) h

-- the bytes of a file are what its path leads to
file_at : (t : Tree) (names : List (List ℕ)) (node : ℕ) (bytes : List ℕ) → Some node ≡ find t.entries names
    → Some bytes ≡ bytes_of (entry t.entries node)
    → contents_at t names ≡ Some (Some bytes)
file_at t names node bytes e f = grind (arith, common_steps)

pub file_copied : (t : Tree) (names : List (List ℕ)) (node : ℕ) (bytes : List ℕ) → Some node ≡ find t.entries names
    → Some bytes ≡ bytes_of (entry t.entries node) → Copies (contents_at t names) (on_output 0 bytes)
file_copied t names node bytes e f = subst (λ found. Copies found (on_output 0 bytes)) (sym (file_at t names node bytes e f)) refl

-- what its path leads to is no file
pub not_copied : (t : Tree) (names : List (List ℕ)) (node : ℕ) → Some node ≡ find t.entries names
    → ◌≡◌ {A = Option (List ℕ)} None (bytes_of (entry t.entries node))
    → Copies (contents_at t names) (on_errors 1 (codes "not a file\n"))
not_copied t names node e f =
    let found : contents_at t names ≡ Some None = ap (option_map (λ n. bytes_of (entry t.entries n))) (sym e) ∙ ap Some (sym f) in
    subst (λ x. Copies x (on_errors 1 (codes "not a file\n"))) (sym found) refl

-- its path leads to nothing
pub none_copied : (t : Tree) (names : List (List ℕ)) → ◌≡◌ {A = Option ℕ} None (find t.entries names)
    → Copies (contents_at t names) (on_errors 1 (codes "no such path\n"))
none_copied t names e =
    subst (λ x. Copies x (on_errors 1 (codes "no such path\n"))) (ap (option_map (λ n. bytes_of (entry t.entries n))) e) refl

-- what copies what a path leads to answers the request for it
pub copy_ends : (w : Outcome) (path : List ℕ) (names : List (List ℕ)) (image : List ℕ) (t : Tree) (l : Layout) (o o' : Option (List ℕ))
    → IsPathText path names → Fits image t l → EndsBy (Copies (contents_at t names)) w o o' → EndsBy (Answer (cat path) image) w o o'
copy_ends w path names image t l o o' text fits h = grind (arith, common_steps, ends_weaker)
