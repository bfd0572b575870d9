use Rattle.std.proofs.Common.{arith}
use Rattle.adf_drafts.proofs.{DraftInvariant.kept_draft, DraftDirectories.put_count, DraftDirectories.put_directories, DraftDirectories.put_directory}
use Rattle.adf_drafts.proofs.DraftRooms.{put_in, put_paths, put_tree, room_may, room_within}
use Rattle.adf_drafts.proofs.draft.Draft.put.Goals as goal

pub invariant_of-self : goal.invariant_of-self
invariant_of-self c =
    let is = rw (← c.self.view_is) at c.requires.room.1 in
    kept_draft c.self.inside.entries.items c.add_child.new.entries.items c.self.inside.children.buckets.items c.add_child.new.children.buckets.items
    c.add_child.result (put_in c.args.room.now c.args.meta c.args.body) c.self.invariant (room_within c.self.invariant is)
    (room_may c.self.invariant is c.args.meta c.args.body) (rw c.copy-name.ensures at c.add_child.ensures.entries)
    (rw c.copy-name.ensures at c.add_child.ensures.more) c.add_child.ensures.same

pub returns-clause-paths : goal.returns-clause-paths
returns-clause-paths c = rw (← c.self.view_is) (λ path is.
    put_paths c.self.invariant is c.add_child.new.entries.items c.add_child.result c.args.meta c.args.body
    (rw c.copy-name.ensures at c.add_child.ensures.entries))

pub returns-clause-tree : goal.returns-clause-tree
returns-clause-tree c = rw (← c.self.view_is) (λ path is.
    put_tree c.self.invariant is c.add_child.new.entries.items c.add_child.result c.args.meta c.args.body
    (rw c.copy-name.ensures at c.add_child.ensures.entries))

pub returns-clause-directories : goal.returns-clause-directories
returns-clause-directories c = rw (← c.self.view_is) (λ path other m is.
    put_directories c.self.invariant is c.args.meta c.args.body c.add_child.new.entries.items c.add_child.result
    (rw c.copy-name.ensures at c.add_child.ensures.entries) other m)

pub returns-clause-count : goal.returns-clause-count
returns-clause-count c = rw (← c.self.view_is) (λ path is.
    put_count c.self.invariant is c.args.meta c.args.body c.add_child.new.entries.items c.add_child.result
    (rw c.copy-name.ensures at c.add_child.ensures.entries))

pub returns-clause-directory : goal.returns-clause-directory
returns-clause-directory c = grind (arith, put_directory)
