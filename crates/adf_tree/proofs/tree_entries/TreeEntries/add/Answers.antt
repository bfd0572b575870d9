use Rattle.std.proofs.Common.{sym, ◌∙◌, ℕ, List, rules}
use Rattle.std.specs.Result.{is_ok}
use Rattle.adf_base.specs.declared.hash.Letters.{Letters}
use Rattle.adf_tree.specs.{declared.entry.Entry.Entry, Tree.parents_of}
use Rattle.adf_tree.proofs.{PathContents.added_paths, AddRoom.is_new, AddRoom.room_keeps, AddRoom.entries_left}
use Rattle.adf_tree.proofs.tree_entries.TreeEntries.add.Goals as goal

pub room_for-requires-clause-order : goal.room_for-requires-clause-order
room_for-requires-clause-order c = rw c.deref.ensures.value c.self.invariant.0.order

pub invariant_of-self : goal.invariant_of-self
invariant_of-self c =
    let e : Entry = record { parent = c.in_ok-parent.parent; name = c.copy-name.result; meta = c.args.meta; body = c.args.body } in
    let room = rw c.deref.ensures.value at (sym c.in_ok-parent.ensures) in (
      rw c.add_entry.ensures.entries (room_keeps c.self.inside.letters c.self.inside.entries.items e (parents_of c.args.path.now)
          (is_ok c.add_entry.result) c.self.invariant.0 room),
      c.add_entry.ensures.names,
    )

pub returns : goal.returns
returns c =
    let l : Letters = c.self.inside.letters in
    let es : List Entry = c.self.inside.entries.items in
    let path : List (List ℕ) = c.args.path.now in
    let room = rw c.deref.ensures.value at c.in_ok-parent.ensures in
    let fresh = is_new l es path c.args.meta c.args.body c.index-path-last.result c.copy-name.result c.in_ok-parent.parent
    (sym c.is_empty.ensures ∙ c.if-is_empty.false) c.index-path-last.is c.copy-name.ensures room in
    rw (← c.self.view_is)
    (record {
      answer = search rules;
      paths = added_paths c.add_entry.result es c.add_entry.new.entries.items _ path c.args.meta c.args.body c.self.invariant.0 fresh
          c.add_entry.ensures.entries;
      entries = entries_left (record { letters = l; entries = es }) c.add_entry.new.entries.items _ (is_ok c.add_entry.result) path
          c.args.meta c.args.body c.add_entry.ensures.entries fresh.entry;
    })
