-- The lines of a script. left is what is left of a text, es are edits.
use Rattle.std.proofs.Common.{◌≡◌, ◌<◌, ◌≤◌, ℕ, List, [], ◌∷◌, ◌++◌, Some, None, Ok, Err, length, map, ap, refl, sym, subst, arith, append-nil, append_assoc}
use Rattle.std.proofs.Common.{◌∙◌}
use Rattle.std.proofs.lemmas.List.{length-map, map-append}
use Rattle.adf_edits.specs.{Edits.EditValue, Edits.edit_value, declared.edits.Edit.Edit}
use Rattle.adf_plans.specs.PlanTexts.{before_byte, behind_line, first_line}
use Rattle.adf_plans.proofs.TextLines.{shorter}
use Rattle.adf_edit_cmd.specs.{Lines.SaysEdit, declared.script.Settings.Settings, declared.script.TheConstants.MOST_LINES}
use Rattle.adf_edit_cmd.specs.Script.{AreEdits, IsNextRead, IsScript, IsScriptFault, ending}
use Rattle.adf_edit_cmd.specs.declared.stop.Stop.{Stop, TheVariants.BadLine, TheVariants.NoMemory}

no_empty_line : (e : EditValue) → ¬ SaysEdit (first_line []) e
unfolding before_byte
no_empty_line e h = let is : None ≡ Some h.0 = h.1 in absurd cc

-- a line of an edit takes bytes
pub edit_taken : (left : List ℕ) (e : EditValue) → SaysEdit (first_line left) e → length (behind_line left) < length left
edit_taken [] e h = absurd (no_empty_line e h)
edit_taken (x ∷ xs) e h = shorter 10 (x ∷ xs) (omega arith)

-- the lines of what is left, behind those of edits, are the lines of all
abbrev pub Continues : List ℕ → List EditValue → List ℕ → Type 0
Continues text es left = (fs : List EditValue) (end : List ℕ) → AreEdits left fs end → AreEdits text (es ++ fs) end

edit_added : (text left : List ℕ) (es : List EditValue) (e : EditValue) → Continues text es left → SaysEdit (first_line left) e
    → Continues text (es ++ e ∷ []) (behind_line left)
unfolding AreEdits
edit_added text left es e all is = λ fs end h. subst (λ gs. AreEdits text gs end) (sym (append_assoc es (e ∷ []) fs)) (all (e ∷ fs) end (is, h))

edits_ended : (text left : List ℕ) (es : List EditValue) → Continues text es left → AreEdits text es left
unfolding AreEdits
edits_ended text left es all = subst (λ gs. AreEdits text gs left) (append-nil es) (all [] left refl)

pub none_read : (text : List ℕ) → Continues text [] text
none_read text = λ fs end h. h

-- the state behind one line more
pub record IsNext (text left : List ℕ) (new : List Edit) : Type 0 where
  pub lines : Continues text (map edit_value new) (behind_line left)
  pub few : length new ≤ MOST_LINES
  pub taken : length (behind_line left) < length left

pub next_read : (text left line : List ℕ) (old new : List Edit) (u : Unit {0}) → Continues text (map edit_value old) left → line ≡ first_line left
    → IsNextRead old new line (Ok u) → IsNext text left new
next_read text left line old new u all is h =
    let says : SaysEdit (first_line left) (edit_value h.0) = subst (λ l. SaysEdit l (edit_value h.0)) is h.2 in
    let more : map edit_value new ≡ map edit_value old ++ edit_value h.0 ∷ [] = ap (map edit_value) h.1 ∙ map-append edit_value old (h.0 ∷ []) in
    record {
      lines = subst (λ es. Continues text es (behind_line left)) (sym more) (edit_added text left (map edit_value old) (edit_value h.0) all says);
      few = h.3;
      taken = edit_taken left (edit_value h.0) says;
    }

pub next_fault : (text left line : List ℕ) (old new : List Edit) (f : Stop) → Continues text (map edit_value old) left → line ≡ first_line left
    → length old ≤ MOST_LINES → ending left ≡ None → IsNextRead old new line (Err f) → IsScriptFault text f
next_fault text left line old new (BadLine n) all is few on h =
    let same : length (map edit_value old) ≡ length old = length-map old edit_value in
    record {
      es = map edit_value old;
      end = left;
      edits = edits_ended text left (map edit_value old) all;
      few = rw same few;
      number = rw same h.0;
      goes_on = on;
      wrong = rw (same, ← is) h.1;
    }
next_fault text left line old new NoMemory all is few on h = tt
next_fault text left line old new _ all is few on h = absurd h

pub script_read : (text left rest : List ℕ) (es : List Edit) (settings : Settings) → Continues text (map edit_value es) left
    → length es ≤ MOST_LINES → ending left ≡ Some (settings, rest) → IsScript text (record { edits = map edit_value es; settings = settings }) rest
script_read text left rest es settings all few ends =
    let same : length (map edit_value es) ≡ length es = length-map es edit_value in
    record {
      end = left;
      edits = edits_ended text left (map edit_value es) all;
      few = rw same few;
      ends = ends;
    }
