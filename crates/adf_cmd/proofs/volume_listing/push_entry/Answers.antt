use Rattle.std.proofs.Common.{◌≡◌, ◌++◌, ◌∙◌, ℕ, List, Option, None, Some, [], OnOk, append-nil, sym, option_map}
use Rattle.adf_tree.specs.{declared.entry.Entry.Entry, Paths.names_of, Tree.entry}
use Rattle.adf_volume.specs.{declared.row.Row.Row, Rows.row_of_entry}
use Rattle.adf_texts.specs.VolumeLines.{entry_lines}
use Rattle.adf_cmd.proofs.volume_listing.push_entry.Goals as goal

-- what holds of the lines of any entry of which the row tells holds of those of the entry that it is of
of_row : (x : Option Entry) (row : Row) (holds : List ℕ → Type 0) (lines : Entry → List ℕ) → Some row ≡ option_map row_of_entry x
    → ((e : Entry) → row ≡ row_of_entry e → holds (lines e)) → holds (elim x [ None ↦ [] | Some e ↦ lines e ])
of_row None row holds lines same told = cc
of_row (Some e) row holds lines same told = told e cc

no_row : (x : Option Entry) (text : List ℕ) (lines : Entry → List ℕ) → ◌≡◌ {A = Option Row} None (option_map row_of_entry x)
    → text ≡ text ++ (elim x [ None ↦ [] | Some e ↦ lines e ])
no_row None text lines h = sym (append-nil text)
no_row (Some e) text lines h = cc

pub returns : goal.returns
returns c = λ date t l dates fits.
    let named : c.deref.result.now ≡ names_of t.entries c.args.n = c.deref.ensures.value ∙ c.in_ok-path.ensures t l fits in
    of_row (entry t.entries c.args.n) c.in-Some.row
    (λ (lines : List ℕ). OnOk c.push_entry_lines.result (c.push_entry_lines.new.text.items ≡ c.args.text.now.items ++ lines))
    (entry_lines date (names_of t.entries c.args.n)) (c.in-Some.ensures _ t l fits.1)
    (λ e same. rw named at c.push_entry_lines.ensures date e dates same)

pub returns-in_default : goal.returns-in_default
returns-in_default c = λ date t l dates fits.
    no_row (entry t.entries c.args.n) c.args.text.now.items (entry_lines date (names_of t.entries c.args.n)) (c.in_default.ensures _ t l fits.1)
