-- What an edit makes of a tree. xs are the additions of the tree, x is one of them.
use Rattle.std.specs.Prelude.{◌==◌, ◌&&◌, ◌||◌, not, ℕ, Bool, List, [], ◌∷◌, ◌++◌, Option, Some, None, drop, take, if◌then◌else◌}
use Rattle.std.specs.{Prelude.length, Prelude.map, List.filter, List.list_any}
use Rattle.adf_base.specs.declared.dates.TheConstants.{NO_STAMP}
use Rattle.adf_names.specs.{Meta.new_meta, declared.meta.Meta.Meta}
use Rattle.adf_tree.specs.declared.entry.Body.{Body, TheVariants.Dir, TheVariants.File}
use Rattle.adf_tree.specs.{Additions.Addition, Additions.same_path, Tree.is_dir_body, Tree.parents_of}
use Rattle.adf_edits.specs.{Outline.OutlineValue, declared.edits.Edit.Edit}
use Rattle.adf_edits.specs.Paths.{is_at_or_under, is_under}
use Rattle.adf_edits.specs.declared.edits.Change.{Change, TheVariants.Note, TheVariants.Protect, TheVariants.Date}
use Rattle.adf_edits.specs.declared.edits.Edit.TheVariants as edit

-- one edit of a tree
pub data EditValue : Type 0 where
  remove : (path : List (List ℕ)) → EditValue
  move : (from to : List (List ℕ)) → EditValue
  dir : (path : List (List ℕ)) → EditValue
  file : (path : List (List ℕ)) (size : ℕ) → EditValue
  replace : (path : List (List ℕ)) (size : ℕ) → EditValue
  change : (path : List (List ℕ)) (what : Change) → EditValue
  label : (text : List ℕ) → EditValue

-- the value of an edit in the code
abbrev pub edit_value : Edit → EditValue
edit_value (edit.Remove path) = remove path.items
edit_value (edit.Move from to) = move from.items to.items
edit_value (edit.Dir path) = dir path.items
edit_value (edit.File path size) = file path.items size
edit_value (edit.Replace path size) = replace path.items size
edit_value (edit.Change path what) = change path.items what
edit_value (edit.Label text) = label text

-- whether x has this path
abbrev pub is_at : List (List ℕ) → Addition → Bool
is_at path x = same_path x.path path

-- whether x has this path, or is in the directory that has it
abbrev pub is_within : List (List ℕ) → Addition → Bool
is_within path x = is_at_or_under path x.path

-- whether x is a directory with this path
abbrev pub is_directory_at : List (List ℕ) → Addition → Bool
is_directory_at path x = is_dir_body x.body && same_path x.path path

-- whether x is a file with this path
abbrev pub is_file_named : List (List ℕ) → Addition → Bool
is_file_named path x = not (is_dir_body x.body) && same_path x.path path

-- whether something has this path
abbrev pub has_path : List Addition → List (List ℕ) → Bool
has_path xs path = list_any (is_at path) xs

-- whether something is in the directory with this path
abbrev pub has_under : List Addition → List (List ℕ) → Bool
has_under xs path = list_any (λ x. is_under path x.path) xs

-- whether a directory has this path
abbrev pub has_directory : List Addition → List (List ℕ) → Bool
has_directory xs path = list_any (is_directory_at path) xs

-- whether a path is that of the root or of a directory
abbrev pub leads_to_directory : List Addition → List (List ℕ) → Bool
leads_to_directory xs path = (length path == 0) || has_directory xs path

-- whether something can be added under a path: it has a name, its directory is there, and nothing has it
abbrev pub can_add : List Addition → List (List ℕ) → Bool
can_add xs path = not (length path == 0) && (leads_to_directory xs (parents_of path) && not (has_path xs path))

-- all but what has this path
abbrev pub removed : List (List ℕ) → List Addition → List Addition
removed path xs = filter (λ x. not (is_at path x)) xs

-- all but what has this path or is in the directory that has it
abbrev pub without : List (List ℕ) → List Addition → List Addition
without path xs = filter (λ x. not (is_within path x)) xs

-- x with the path `to` in the place of its first names, as many as `from` has
abbrev pub rebased : List (List ℕ) → List (List ℕ) → Addition → Addition
rebased from to x = record x { path = to ++ drop (length from) x.path }

-- what has the path `from`, or is in the directory that has it, comes last and gets the path `to` in its place
abbrev pub moved_additions : List (List ℕ) → List (List ℕ) → List Addition → List Addition
moved_additions from to xs = without from xs ++ map (rebased from to) (filter (is_within from) xs)

-- what an entry has after a change
abbrev pub changed_meta : Change → Meta → Meta
changed_meta (Note comment) meta = record meta { comment = comment }
changed_meta (Protect protect) meta = record meta { protect = protect }
changed_meta (Date stamp) meta = record meta { stamp = stamp }

-- a change of x if it has this path
abbrev pub changed_if : List (List ℕ) → Change → Addition → Addition
changed_if path what x = if is_at path x then record x { meta = changed_meta what x.meta } else x

-- a change of what has this path
abbrev pub changed_at : List (List ℕ) → Change → List Addition → List Addition
changed_at path what xs = map (changed_if path what) xs

-- x with these bytes if it is a file with this path
abbrev pub refilled_if : List (List ℕ) → List ℕ → Addition → Addition
refilled_if path bytes x = if is_file_named path x then record x { body = File bytes } else x

-- a file with this path gets these bytes
abbrev pub refilled_at : List (List ℕ) → List ℕ → List Addition → List Addition
refilled_at path bytes xs = map (refilled_if path bytes) xs

-- these additions, if an edit can be applied
abbrev pub only_if : Bool → List Addition → Option (List Addition)
only_if may xs = if may then Some xs else None

-- whether a path can be removed: something has it, and nothing is in it
abbrev pub can_remove : List Addition → List (List ℕ) → Bool
can_remove xs path = has_path xs path && not (has_under xs path)

-- whether a path can be moved to another: something has it, and without what has it or is in it the other can be added
abbrev pub can_move : List Addition → List (List ℕ) → List (List ℕ) → Bool
can_move xs from to = has_path xs from && can_add (without from xs) to

-- whether the bytes of what has this path can be replaced: a file has it
abbrev pub can_replace : List Addition → List (List ℕ) → Bool
can_replace xs path = has_path xs path && not (has_directory xs path)

-- a file of the first of these bytes
abbrev pub file_of : ℕ → List ℕ → Body
file_of size given = File (take size given)

-- a new entry, with no comment, nothing forbidden and no date
abbrev pub new_addition : List (List ℕ) → Body → Addition
new_addition path body = record { path = path; meta = new_meta [] 0 NO_STAMP; body = body }

-- one addition more, if there is room for it
abbrev pub with_new : Addition → List Addition → Option (List Addition)
with_new x xs = only_if (can_add xs x.path) (xs ++ x ∷ [])

-- what an edit makes of additions, where these bytes are given, if it can be applied
abbrev pub edited_additions : EditValue → List ℕ → List Addition → Option (List Addition)
edited_additions (remove path) given xs = only_if (can_remove xs path) (removed path xs)
edited_additions (move from to) given xs = only_if (can_move xs from to) (moved_additions from to xs)
edited_additions (dir path) given xs = with_new (new_addition path Dir) xs
edited_additions (file path size) given xs = with_new (new_addition path (file_of size given)) xs
edited_additions (replace path size) given xs = only_if (can_replace xs path) (refilled_at path (take size given) xs)
edited_additions (change path what) given xs = only_if (has_path xs path) (changed_at path what xs)
edited_additions (label text) given xs = Some xs

-- the label after an edit
abbrev pub edited_label : EditValue → List ℕ → List ℕ
edited_label (label text) old = text
edited_label _ old = old

-- an outline with another label and other additions, if there are some
abbrev pub with_additions : OutlineValue → List ℕ → Option (List Addition) → Option OutlineValue
with_additions o text (Some xs) = Some (record o { label = text; additions = xs })
with_additions o text None = None

-- what an edit makes of a tree, where these bytes are given, if it can be applied
abbrev pub edited : EditValue → List ℕ → OutlineValue → Option OutlineValue
edited edit given o = with_additions o (edited_label edit o.label) (edited_additions edit given o.additions)
