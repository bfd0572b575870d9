use Rattle.std.proofs.Common.{List, ℕ, ◌∙◌}
use Rattle.adf_drafts.specs.Draft.{IsDirectoryOf, IsRoomFor}
use Rattle.adf_memory.specs.TableAdditions.{additions_of, path_numbered, addition_path}
use Rattle.adf_memory.proofs.TableDrafts.{bad_comment, bad_name, draft_more, in_directory, not_copied, room_none, room_some, sound, taken}
use Rattle.adf_memory.proofs.table_additions.add_in.Goals as goal

pub returns-in_default-clause-fault : goal.returns-in_default-clause-fault
returns-in_default-clause-fault c = λ t before is. bad_name t c.args.contents.now before c.args.addition.now c.args.directory c.args.draft.now is
    c.in_default.ensures.none

pub returns-in_default-room_in-clause-fault : goal.returns-in_default-room_in-clause-fault
returns-in_default-room_in-clause-fault c = λ t before is.
    let said = c.in-Some.ensures.some in
    let none = c.in_default-room_in.ensures.none (path_numbered (additions_of c.args.contents.now before) c.args.addition.now.parent)
    (in_directory t c.args.contents.now before c.args.addition.now c.args.directory c.args.draft.now is) in
    taken t c.args.contents.now before c.args.addition.now c.args.directory c.args.draft.now is said.0
    (room_none t c.args.contents.now before c.args.addition.now c.args.directory c.args.draft.now is (rw said.1 at none))

pub returns-in_default-meta_of-clause-fault : goal.returns-in_default-meta_of-clause-fault
returns-in_default-meta_of-clause-fault c = λ t before is.
    let said = c.in-Some.ensures.some in
    let room = c.in-Some-room_in.ensures.some (path_numbered (additions_of c.args.contents.now before) c.args.addition.now.parent)
    (in_directory t c.args.contents.now before c.args.addition.now c.args.directory c.args.draft.now is) in
    bad_comment t c.args.contents.now before c.args.addition.now c.args.directory c.args.draft.now is said.0
    (room_some t c.args.contents.now before c.args.addition.now c.args.directory c.args.draft.now is c.in-Some-room_in.room
    (rw said.1 at room)) c.in_default-meta_of.ensures.none

pub returns-in-Err-clause-fault : goal.returns-in-Err-clause-fault
returns-in-Err-clause-fault c = λ t before is.
    let said = c.in-Some.ensures.some in
    let room = c.in-Some-room_in.ensures.some (path_numbered (additions_of c.args.contents.now before) c.args.addition.now.parent)
    (in_directory t c.args.contents.now before c.args.addition.now c.args.directory c.args.draft.now is) in
    not_copied t c.args.contents.now before c.args.addition.now c.args.directory c.args.draft.now is c.in-Err.fault said.0
    (room_some t c.args.contents.now before c.args.addition.now c.args.directory c.args.draft.now is c.in-Some-room_in.room
    (rw said.1 at room)) c.in-Some-meta_of.ensures.some.0
    c.in-Err.ensures.fault

pub returns-in-Ok-put-clause-sound : goal.returns-in-Ok-put-clause-sound
returns-in-Ok-put-clause-sound c = λ t before is.
    let said = c.in-Some.ensures.some in
    let room = c.in-Some-room_in.ensures.some (path_numbered (additions_of c.args.contents.now before) c.args.addition.now.parent)
    (in_directory t c.args.contents.now before c.args.addition.now c.args.directory c.args.draft.now is) in
    sound t c.args.contents.now before c.args.addition.now c.args.directory c.args.draft.now is said.0
    (room_some t c.args.contents.now before c.args.addition.now c.args.directory c.args.draft.now is c.in-Some-room_in.room
    (rw said.1 at room)) c.in-Some-meta_of.ensures.some.0 c.in-Ok.ensures.body.0

pub returns-in-Ok-put-clause-added : goal.returns-in-Ok-put-clause-added
returns-in-Ok-put-clause-added c = λ t before is.
    let path : List (List ℕ) = addition_path (additions_of c.args.contents.now before) c.args.addition.now in
    let found = c.in-Some-room_in.ensures.some (path_numbered (additions_of c.args.contents.now before) c.args.addition.now.parent)
    (in_directory t c.args.contents.now before c.args.addition.now c.args.directory c.args.draft.now is) in
    let room : IsRoomFor c.args.draft.now path c.in-Some-room_in.room = rw (← c.in-Some.ensures.some.1) found in
    let meta = c.in-Some-meta_of.ensures.some.1 in
    let body = c.in-Ok.ensures.body.1 in
    let tree = c.in-Ok-put.ensures.tree path room in
    draft_more t c.args.contents.now before c.args.addition.now c.args.draft.now c.put.new.self is.draft
    (rw (meta, body) at tree)
    (c.in-Ok-put.ensures.count path room)
    (λ (other : List (List ℕ)) (m : ℕ) (h : IsDirectoryOf c.args.draft.now other m). c.in-Ok-put.ensures.directories path other m room h)
    (λ dir. c.in-Ok-put.ensures.directory path room (body ∙ dir))
