-- How a change ends. `n` is the status, `after` tells the bytes of each file afterwards.
use Rattle.std.proofs.Common.{◌≡◌, ◌⊎◌, ◌∙◌, ℕ, List, [], Option, None, Some, IfSome, ap, inl, inr, option_map, refl, sym}
use Rattle.std.specs.Option.{unwrap_or}
use Rattle.clap.specs.Words.{Text}
use Rattle.adf_boot_cmd.specs.Answers.{IsOrderOf, Order}
use Rattle.adf_boot_cmd.specs.Changing.{Answers, AsksChange, BootChange, ChangeEnds, image_asked}
use Rattle.adf_boot_cmd.specs.CommandLine.{AreRefusedByBoot, AsksBoot, BootRequestValue, boot_file}
use Rattle.adf_boot_cmd.proofs.Commands.{not_refused}
use Rattle.adf_file_runs.specs.FileChanges.{IsReplaced}
use Rattle.adf_file_runs.specs.FileRuns.{KnownFiles}
use Rattle.adf_runs.specs.{WorkFaults.args_refused, WorkFaults.refusal_status}
use Rattle.adf_words.specs.CommandLine.{ExplainsArgs}
use Rattle.adf_words.specs.declared.command_line.ArgsError.{ArgsError, TheVariants.NoMemory, TheVariants.Usage}

-- what is in an option, or else the other, seen by its value
pub unwrapped : {A B : Type 0} (f : A → B) (o : Option A) (d : A) → f (unwrap_or o d) ≡ unwrap_or (option_map f o) (f d)
unwrapped f None d = refl
unwrapped f (Some a) d = refl

-- the words that are taken ask for other boot blocks in the image of this file
pub change_of : (words taken : List Text) (r : BootRequestValue) (file asked : Option Text) (image : Text) → taken ≡ words → AsksBoot taken r
    → file ≡ boot_file taken → asked ≡ image_asked r file → asked ≡ Some image → AsksChange words r image
change_of words taken r file asked image same asks is e some =
    rw (← same) ((asks, ap (image_asked r) (sym is) ∙ (sym e ∙ some)))

module _ (change : BootChange) (files : KnownFiles) (after : List ℕ → Option (List ℕ)) (n : ℕ) where
  -- a file or memory failed
  pub failed : after ≡ files.bytes_of → n ≡ 3 → ChangeEnds change files after n
  failed kept three = inr (kept, inr (inr three))

  -- words that are refused, or no memory for them
  pub words_refused : (taken : List Text) (fault : ArgsError) → after ≡ files.bytes_of → taken ≡ change.words
      → ExplainsArgs fault (AreRefusedByBoot taken) → n ≡ refusal_status (args_refused fault) → ChangeEnds change files after n
  words_refused taken Usage kept same why status = inr (kept, inr (inl (status, λ r image asked. not_refused change.words r asked.0 (rw same at why))))
  words_refused taken NoMemory kept same why status = failed kept status

  -- words that ask for no change
  pub no_change : (taken : List Text) (r : BootRequestValue) (file : Option Text) → after ≡ files.bytes_of → taken ≡ change.words → AsksBoot taken r
      → file ≡ boot_file taken → image_asked r file ≡ None → n ≡ 2 → ChangeEnds change files after n
  no_change taken r file kept same asks is none two = inr (
    kept,
    inr (inl (
      two,
      λ other image asked.
          let right : AsksBoot change.words r = rw same at asks in
          let others : Some r ≡ Some other = sym right.1 ∙ asked.0.1 in
          let one : r ≡ other = cc in
          let same_file : file ≡ boot_file change.words = is ∙ ap boot_file same in
          let clash : Some image ≡ None = sym asked.1 ∙ (ap (λ q. image_asked q (boot_file change.words)) (sym one)
          ∙ (ap (image_asked r) (sym same_file) ∙ none)) in absurd cc,
    )),
  )

  module _ (r : BootRequestValue) (image : Text) (order : Order) (left : Option (List ℕ)) (asked : AsksChange change.words r image)
      (is : IsOrderOf files.bytes_of r order) (same : IfSome (files.bytes_of image) (λ bytes. left ≡ Some bytes)) where
    -- the answer to what a file gives is that to its bytes
    of_file : (s : ℕ) (new : List ℕ) → (known : Option (List ℕ)) → IfSome known (λ bytes. left ≡ Some bytes) → Answers order left s new
        → Answers order known s new
    of_file s new None same h = tt
    of_file s new (Some bytes) same h = rw same at h

    -- a work that makes no image
    pub not_made : after ≡ files.bytes_of → (n ≡ 3) ⊎ ((n ≡ 1) × Answers order left 1 []) → ChangeEnds change files after n
    not_made kept (inl three) = failed kept three
    not_made kept (inr h) = inr (
      kept,
      inl (
        h.0,
        image,
        record {
          request = r;
          asks = asked;
          order = order;
          is = is;
          answer = of_file 1 [] (files.bytes_of image) same h.1;
        },
      ),
    )

    -- the target is replaced by the image that is made
    pub made : (new name bytes : List ℕ) → Answers order left 0 new → name ≡ unwrap_or change.target image → bytes ≡ new
        → IsReplaced files.bytes_of after name bytes → n ≡ 0 → ChangeEnds change files after n
    made new name bytes h named whole put zero = inl (
      zero,
      (
        image,
        new,
        record {
          request = r;
          asks = asked;
          order = order;
          is = is;
          answer = of_file 0 new (files.bytes_of image) same h;
        },
        rw (named, whole) at put,
      ),
    )
