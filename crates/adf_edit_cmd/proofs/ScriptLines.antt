-- Lines that say no edit. text is what stands behind the first word of a line.
use Rattle.std.proofs.Common.{◌≡◌, ◌≢◌, ◌<◌, ◌^◌, ℕ, List, Some, None, false, true, ◌+◌, arith, inl, inr, sym, ◌∙◌, subst, decimal}
use Rattle.std.proofs.lemmas.Bool.{cases_lt}
use Rattle.adf_base.specs.declared.dates.Stamp.{Stamp}
use Rattle.adf_edits.specs.Edits.{EditValue, change, dir, file, label, move, remove, replace}
use Rattle.adf_edits.specs.declared.edits.Change.TheVariants as what
use Rattle.adf_names.specs.{Escapes.IsSpelling, PathTexts.IsPathText}
use Rattle.adf_edit_cmd.specs.Lines.{SaysBehindVerb, SaysDate, SaysEdit, SaysProtection, before_colon, flags_text, has_byte, value_in, verb_of}
use Rattle.adf_plans.specs.PlanTexts.{behind_word, first_word}
use Rattle.adf_edit_cmd.specs.declared.lines.Verb.{Verb}
use Rattle.adf_edit_cmd.specs.declared.lines.Verb.TheVariants.{Remove, Move, Dir, File, Replace, Note, Protect, Date, Label}

-- no path has this text
abbrev pub HasNoPath : List ℕ → Type 0
HasNoPath text = (path : List (List ℕ)) → ¬ IsPathText text path

pub no_remove : (text : List ℕ) → HasNoPath text → (e : EditValue) → ¬ SaysBehindVerb Remove text e
no_remove text h (remove path) s = h path s
no_remove text h _ s = s

pub no_dir : (text : List ℕ) → HasNoPath text → (e : EditValue) → ¬ SaysBehindVerb Dir text e
no_dir text h (dir path) s = h path s
no_dir text h _ s = s

pub no_label : (text : List ℕ) → ((bytes : List ℕ) → ¬ IsSpelling 30 text bytes) → (e : EditValue) → ¬ SaysBehindVerb Label text e
no_label text h (label bytes) s = h bytes s
no_label text h _ s = s

pub no_move : (text : List ℕ) → has_byte 58 text ≡ false → (e : EditValue) → ¬ SaysBehindVerb Move text e
no_move text h (move from to) s = let clash : false ≡ true = sym h ∙ s.0 in absurd cc
no_move text h _ s = s

pub no_origin : (text : List ℕ) → HasNoPath (before_colon text) → (e : EditValue) → ¬ SaysBehindVerb Move text e
no_origin text h (move from to) s = h from s.1
no_origin text h _ s = s

pub no_target : (text : List ℕ) → HasNoPath (value_in text) → (e : EditValue) → ¬ SaysBehindVerb Move text e
no_target text h (move from to) s = h to s.2
no_target text h _ s = s

pub no_file : (text : List ℕ) → HasNoPath (before_colon text) → (e : EditValue) → ¬ SaysBehindVerb File text e
no_file text h (file path size) s = h path s.0
no_file text h _ s = s

pub no_size : (text : List ℕ) → ((n : ℕ) → n < 2 ^ 32 → value_in text ≢ decimal n) → (e : EditValue) → ¬ SaysBehindVerb File text e
no_size text h (file path size) s = h size s.1 s.2
no_size text h _ s = s

pub no_replaced : (text : List ℕ) → HasNoPath (before_colon text) → (e : EditValue) → ¬ SaysBehindVerb Replace text e
no_replaced text h (replace path size) s = h path s.0
no_replaced text h _ s = s

pub no_new_size : (text : List ℕ) → ((n : ℕ) → n < 2 ^ 32 → value_in text ≢ decimal n) → (e : EditValue) → ¬ SaysBehindVerb Replace text e
no_new_size text h (replace path size) s = h size s.1 s.2
no_new_size text h _ s = s

pub no_comment : (text : List ℕ) → has_byte 58 text ≡ false → (e : EditValue) → ¬ SaysBehindVerb Note text e
no_comment text h (change path (what.Note note)) s = let clash : false ≡ true = sym h ∙ s.0 in absurd cc
no_comment text h _ s = s

pub no_noted : (text : List ℕ) → HasNoPath (before_colon text) → (e : EditValue) → ¬ SaysBehindVerb Note text e
no_noted text h (change path (what.Note note)) s = h path s.1
no_noted text h _ s = s

pub no_note : (text : List ℕ) → ((bytes : List ℕ) → ¬ IsSpelling 79 (value_in text) bytes) → (e : EditValue) → ¬ SaysBehindVerb Note text e
no_note text h (change path (what.Note note)) s = h note s.2
no_note text h _ s = s

pub no_protected : (text : List ℕ) → HasNoPath (before_colon text) → (e : EditValue) → ¬ SaysBehindVerb Protect text e
no_protected text h (change path (what.Protect word)) s = h path s.0
no_protected text h _ s = s

pub no_protection : (text : List ℕ) → ((word : ℕ) → ¬ SaysProtection (value_in text) word) → (e : EditValue)
    → ¬ SaysBehindVerb Protect text e
no_protection text h (change path (what.Protect word)) s = h word s.1
no_protection text h _ s = s

-- a text that is not that of the first flags, nor of the next ones
pub no_next_flags : (text : List ℕ) (n : ℕ) → ((word : ℕ) → word < n → text ≢ flags_text word) → text ≢ flags_text n
    → (word : ℕ) → word < n + 1 → text ≢ flags_text word
no_next_flags text n before next word lt = elim (cases_lt word n) [
  | inl less ↦ before word less
  | inr more ↦ let same : word ≡ n = omega (arith, lt, more) in rw same next
]

pub no_dated : (text : List ℕ) → HasNoPath (before_colon text) → (e : EditValue) → ¬ SaysBehindVerb Date text e
no_dated text h (change path (what.Date date)) s = h path s.0
no_dated text h _ s = s

pub no_date : (text : List ℕ) → ((date : Stamp) → ¬ SaysDate (value_in text) date) → (e : EditValue) → ¬ SaysBehindVerb Date text e
no_date text h (change path (what.Date date)) s = h date s.1
no_date text h _ s = s

some_same : (a b : Verb) → Some a ≡ Some b → a ≡ b
some_same a b e = cc

pub no_edit : (line : List ℕ) (verb : Verb) → verb_of (first_word line) ≡ Some verb → ((e : EditValue) → ¬ SaysBehindVerb verb (behind_word line) e)
    → (e : EditValue) → ¬ SaysEdit line e
no_edit line verb is h e s = h e (subst (λ v. SaysBehindVerb v (behind_word line) e) (some_same s.0 verb (sym s.1 ∙ is)) s.3)

pub no_verb : (line : List ℕ) → verb_of (first_word line) ≡ None → (e : EditValue) → ¬ SaysEdit line e
no_verb line is e s = let clash : None ≡ Some s.0 = sym is ∙ s.1 in absurd cc

pub no_space : (line : List ℕ) → has_byte 32 line ≡ false → (e : EditValue) → ¬ SaysEdit line e
no_space line h e s = let clash : false ≡ true = sym h ∙ s.2 in absurd cc
