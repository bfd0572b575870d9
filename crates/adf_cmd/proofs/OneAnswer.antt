-- A request and an input have one answer.
use Rattle.std.proofs.Common.{◌≡◌, ◌≢◌, ◌∙◌, ◌⊎◌, inl, inr, ℕ, Bool, false, List, Option, Some, None, refl, sym, ap, subst, arith}
use Rattle.std.proofs.lemmas.{Bool.false≢true, Grind.common_steps}
use mathlib.Core.Path.{fun_ext}
use Rattle.adf_fields.proofs.DateTexts.{one_text}
use Rattle.adf_base.specs.declared.dates.Stamp.{Stamp}
use Rattle.adf_tree.specs.Tree.{Tree, with_kind}
use Rattle.adf_names.specs.declared.kind.Kind.{Kind}
use Rattle.adf_names.proofs.PathParts.{one_path}
use Rattle.adf_blocks.specs.{Sizes.blocks, declared.cause.Cause.Cause}
use Rattle.adf_volume.specs.{Counts.counts_of, Fits.Fits, Layout.Layout, Walk.FirstFault, declared.fault.Fault.Fault}
use Rattle.adf_volume.proofs.{FitWalks.one_fit, TypeLaws.none_fits_of, TypeLaws.one_fault_of}
use Rattle.adf_volume.specs.declared.types.Types.TheVariants.{Plain}
use Rattle.adf_manifest.specs.Manifest.{ExplainsKind, IsManifest, lines}
use Rattle.adf_manifest.specs.declared.manifest.ManifestKind.{ManifestKind, TheVariants.NoMemory, TheVariants.TooLong}
use Rattle.adf_manifest.proofs.Faults as manifests
use Rattle.adf_manifest.proofs.{TreesOfLines.one_tree_of, Verdicts.one_told}
use Rattle.adf_texts.specs.{Lines.fault_line, Lines.ok_line, VolumeLines.AreDates, VolumeLines.volume_lines}
use Rattle.adf_cmd.specs.Answers.{Answer, BuildsManifest, BuildsOrIsFull, Converts, Copies, CopiesFrom, Lists, RefusesImage, RefusesManifest}
use Rattle.adf_cmd.specs.Answers.{TellsCounts, TellsFault, contents_at}
use Rattle.adf_runs.specs.Commands.{Reply, on_errors, on_output}
use Rattle.adf_words.specs.CommandLine.{AsksFor, RequestValue, build, cat, check, convert, list}

pub one_request : (words : List (List ℕ)) (r r' : RequestValue) → AsksFor words r → AsksFor words r' → r ≡ r'
one_request words r r' a b = grind (arith, common_steps)

-- the first fault of an image has one line
one_line : (input : List ℕ) (f g : Fault) → FirstFault input f.block f.cause → FirstFault input g.block g.cause → fault_line f ≡ fault_line g
one_line input f g p q =
    let by : ℕ → Cause → List ℕ = λ b c. fault_line (record { block = b; cause = c }) in
    let same = one_fault_of Plain input f.block f.cause g.block g.cause p q in
    ap (λ b. by b f.cause) same.0 ∙ ap (λ c. by g.block c) same.1

-- an image is not refused where a tree fits
not_both : (input : List ℕ) (f : Fault) (t : Tree) (l : Layout) → FirstFault input f.block f.cause → Fits input t l → ⊥
not_both input f t l first fits = none_fits_of Plain input f.block f.cause t l first fits

pub refused_once : (input : List ℕ) (a b : Reply) → RefusesImage input a → RefusesImage input b → a ≡ b
refused_once input a b (f, first, x) (g, also, y) = x ∙ ap (on_errors 1) (one_line input f g first also) ∙ sym y

-- a check has one answer
told_once : (input : List ℕ) (a b : Reply) → TellsFault input a → TellsFault input b → a ≡ b
told_once input a b (f, first, x) (g, also, y) = x ∙ ap (on_output 1) (one_line input f g first also) ∙ sym y

counted_once : (input : List ℕ) (a b : Reply) → TellsCounts input a → TellsCounts input b → a ≡ b
counted_once input a b (t, l, fits, x) (u, m, also, y) =
    let same = one_fit input t u l m fits.1 also.1 in
    x ∙ (λ i. on_output 0 (ok_line (counts_of input (same.0 i) (same.1 i)))) ∙ sym y

-- dates have one text each
pub one_dates : (date other : Stamp → List ℕ) → AreDates date → AreDates other → date ≡ other
one_dates date other p q = fun_ext (λ s. one_text s (date s) (other s) (p s) (q s))

listed_once : (input : List ℕ) (a b : Reply) → Lists input a → Lists input b → a ≡ b
listed_once input a b (t, l, fits, date, dates, x) (u, m, also, other, others, y) =
    let same = one_fit input t u l m fits.1 also.1 in
    x ∙ ap (λ v. on_output 0 (volume_lines date v (blocks input))) same.0
    ∙ ap (λ d. on_output 0 (volume_lines d u (blocks input))) (one_dates date other dates others) ∙ sym y

built_once : (written : Bool) (tree : Tree) (n : ℕ) (a b : Reply) → BuildsOrIsFull written tree n a → BuildsOrIsFull written tree n b
    → a ≡ b
built_once written tree n a b (inl (h, x)) (inl (k, y)) = x ∙ sym y
built_once written tree n a b (inr (h, x)) (inr (k, y)) = x ∙ sym y
built_once written tree n a b (inl h) (inr k) = absurd (omega (arith, h.0.room.room, k.0))
built_once written tree n a b (inr h) (inl k) = absurd (omega (arith, k.0.room.room, h.0))

-- a manifest has no fault
no_fault : (kind : ManifestKind) (number : ℕ) (input : List ℕ) (tree : Tree) (n : ℕ) → kind ≢ NoMemory → ExplainsKind kind number input
    → IsManifest input tree n → ⊥
no_fault NoMemory number input tree n ne h m = ne refl
no_fault TooLong number input tree n ne h m = omega (arith, h.1, m.0)
no_fault kind number input tree n ne h m = manifests.faultless m.1.0 (lines input) number kind m.1.1 m.1.2 h.1

-- what is no manifest has one fault
one_kind : (k k' : ManifestKind) (n n' : ℕ) (input : List ℕ) → k ≢ NoMemory → k' ≢ NoMemory → ExplainsKind k n input → ExplainsKind k' n' input
    → (n ≡ n') × (k ≡ k')
one_kind NoMemory k' n n' input ne ne' h h' = absurd (ne refl)
one_kind k NoMemory n n' input ne ne' h h' = absurd (ne' refl)
one_kind TooLong TooLong n n' input ne ne' h h' = (h.0 ∙ sym h'.0, refl)
one_kind TooLong k' n n' input ne ne' h h' = absurd (omega (arith, h.1, h'.0))
one_kind k TooLong n n' input ne ne' h h' = absurd (omega (arith, h.0, h'.1))
one_kind k k' n n' input ne ne' h h' = manifests.one_fault (lines input) n n' k k' h.1 h'.1

manifest_built_once : (written : Bool) (input : List ℕ) (a b : Reply) → BuildsManifest written input a
    → BuildsManifest written input b → a ≡ b
manifest_built_once written input a b (tree, n, m, h) (u, k, w, g) =
    let one = one_told m.1.0 w.1.0 m.1.1 w.1.1 (sym m.1.2 ∙ w.1.2) in
    let trees : tree ≡ u = one_tree_of w.1.0 tree u (rw one at m.1.3) w.1.3 in
    let sizes : n ≡ k = rw (m.1.4, one, w.1.4) in
    let moved : BuildsOrIsFull written u k a =
    subst (λ i. BuildsOrIsFull written u i a) sizes (subst (λ (v : Tree). BuildsOrIsFull written v n a) trees h) in
    built_once written u k a b moved g

manifest_refused_once : (input : List ℕ) (a b : Reply) → RefusesManifest input a → RefusesManifest input b → a ≡ b
manifest_refused_once input a b (f, why, ne, x) (g, how, ne', y) = grind (arith, common_steps, one_kind)

copied_once : (found : Option (Option (List ℕ))) (a b : Reply) → Copies found a → Copies found b → a ≡ b
copied_once None a b x y = x ∙ sym y
copied_once (Some None) a b x y = x ∙ sym y
copied_once (Some (Some bytes)) a b x y = x ∙ sym y

copied_from_once : (path input : List ℕ) (a b : Reply) → CopiesFrom path input a → CopiesFrom path input b
    → a ≡ b
copied_from_once path input a b (names, text, t, l, fits, h) (others, also, u, m, only, g) =
    let same = one_fit input t u l m fits.1 only.1 in
    let found : contents_at t names ≡ contents_at u others =
    ap (λ v. contents_at v names) same.0 ∙ ap (λ (ns : List (List ℕ)). contents_at u ns) (one_path path names others text also) in
    copied_once (contents_at u others) a b (subst (λ x. Copies x a) found h) g

converted_once : (kind : Kind) (input : List ℕ) (a b : Reply) → Converts kind input a → Converts kind input b
    → a ≡ b
converted_once kind input a b (t, l, fits, h) (u, m, also, g) =
    let same = one_fit input t u l m fits.1 also.1 in
    built_once false (with_kind u kind) (blocks input) a b (subst (λ (v : Tree). BuildsOrIsFull false (with_kind v kind) (blocks input) a) same.0 h) g

-- what one command tells of a tree that fits an image, or that the image is refused
image_once : (input : List ℕ) (a b : Reply) (tells : Reply → Type 0) → ((reply : Reply) → tells reply → (t : Tree) × (l : Layout) × Fits input t l)
    → (tells a → tells b → a ≡ b) → tells a ⊎ RefusesImage input a → tells b ⊎ RefusesImage input b → a ≡ b
image_once input a b tells fits once (inl h) (inl g) = once h g
image_once input a b tells fits once (inl h) (inr g) = let (t, l, fit) = fits a h in absurd (not_both input g.0 t l g.1 fit)
image_once input a b tells fits once (inr h) (inl g) = let (t, l, fit) = fits b g in absurd (not_both input h.0 t l h.1 fit)
image_once input a b tells fits once (inr h) (inr g) = refused_once input a b h g

pub one_answer : (r : RequestValue) (input : List ℕ) (a b : Reply) → Answer r input a → Answer r input b → a ≡ b
one_answer check input a b (inl h) (inl g) = counted_once input a b h g
one_answer check input a b (inl (t, l, fits, x)) (inr (f, first, y)) = absurd (not_both input f t l first fits)
one_answer check input a b (inr (f, first, x)) (inl (t, l, fits, y)) = absurd (not_both input f t l first fits)
one_answer check input a b (inr h) (inr g) = told_once input a b h g
one_answer list input a b h g = image_once input a b (Lists input) (λ reply x. (x.0, x.1, x.2)) (listed_once input a b) h g
one_answer (build written) input a b (inl h) (inl g) = manifest_built_once written input a b h g
one_answer (build written) input a b (inl h) (inr g) = absurd (no_fault g.0.kind g.0.line input h.0 h.1 g.2 g.1 h.2)
one_answer (build written) input a b (inr g) (inl h) = absurd (no_fault g.0.kind g.0.line input h.0 h.1 g.2 g.1 h.2)
one_answer (build written) input a b (inr h) (inr g) = manifest_refused_once input a b h g
one_answer (cat path) input a b (inl (bad, x)) (inl (worse, y)) = x ∙ sym y
one_answer (cat path) input a b (inl h) (inr (inl g)) = absurd (h.0 g.0 g.1)
one_answer (cat path) input a b (inl h) (inr (inr g)) = absurd (h.0 g.0.0 g.0.1)
one_answer (cat path) input a b (inr (inl g)) (inl h) = absurd (h.0 g.0 g.1)
one_answer (cat path) input a b (inr (inr g)) (inl h) = absurd (h.0 g.0.0 g.0.1)
one_answer (cat path) input a b (inr (inl h)) (inr (inl g)) = copied_from_once path input a b h g
one_answer (cat path) input a b (inr (inl h)) (inr (inr (read, g))) = absurd (not_both input g.0 h.2 h.3 g.1 h.4)
one_answer (cat path) input a b (inr (inr (read, h))) (inr (inl g)) = absurd (not_both input h.0 g.2 g.3 h.1 g.4)
one_answer (cat path) input a b (inr (inr (read, h))) (inr (inr (also, g))) = refused_once input a b h g
one_answer (convert kind) input a b h g =
    image_once input a b (Converts kind input) (λ reply x. (x.0, x.1, x.2)) (converted_once kind input a b) h g
