use Rattle.std.proofs.{Common.List, Common.Err, Common.take, Common.sym, Common.get_or, lemmas.Result.IfErr-weaker, lemmas.Result.on_ok_weaker}
use Rattle.adf_tree.specs.Tree.{Tree}
use Rattle.adf_memory.specs.TableAdditions.{IsNextAddition, IsNotAdded}
use Rattle.adf_memory.specs.{declared.table_additions.NotAdded.NotAdded, declared.table_additions.TableAddition.TableAddition}
use Rattle.adf_memory.proofs.TableDrafts.{directory_fault, next_is, next_more}
use Rattle.adf_memory.proofs.table_additions.add_next.Goals as goal

pub returns-in-Ok-clause-added : goal.returns-in-Ok-clause-added
returns-in-Ok-clause-added c = on_ok_weaker c.add_in.result (λ more t is.
    next_more t c.args.contents.now c.args.additions.now c.args.i c.addition_at-addition.result.now c.add_in.new.draft c.requires.next
    c.addition_at-addition.ensures
    (more t (take c.args.i c.args.additions.now)
    (next_is t c.args.contents.now c.args.additions.now c.args.i c.addition_at-addition.result.now c.in-Ok.directory c.args.draft.now
    c.addition_at-addition.ensures c.in-Ok.ensures is))) c.add_in.ensures.added

pub returns-in-Ok-clause-sound : goal.returns-in-Ok-clause-sound
returns-in-Ok-clause-sound c = on_ok_weaker c.add_in.result (λ none y.
    let s = c.requires.state in
    rw (← c.addition_at-addition.ensures y) (none s.0 (take c.args.i c.args.additions.now)
    (next_is s.0 c.args.contents.now c.args.additions.now c.args.i c.addition_at-addition.result.now c.in-Ok.directory c.args.draft.now
    c.addition_at-addition.ensures c.in-Ok.ensures s.1))) c.add_in.ensures.sound

pub returns-in-Ok-clause-fault : goal.returns-in-Ok-clause-fault
returns-in-Ok-clause-fault c = IfErr-weaker c.add_in.result
    (λ (e : NotAdded). (t : Tree) (before : List TableAddition)
    → IsNextAddition t c.args.contents.now before c.addition_at-addition.result.now c.in-Ok.directory c.args.draft.now
    → IsNotAdded c.args.draft.now.tree.letters c.args.contents.now before c.addition_at-addition.result.now e)
    (λ (e : NotAdded). (y : TableAddition)
    → IsNotAdded c.args.draft.now.tree.letters c.args.contents.now (take c.args.i c.args.additions.now) (get_or c.args.additions.now c.args.i y) e)
    (λ e is y.
    let s = c.requires.state in
    rw (← c.addition_at-addition.ensures y) (is s.0 (take c.args.i c.args.additions.now)
    (next_is s.0 c.args.contents.now c.args.additions.now c.args.i c.addition_at-addition.result.now c.in-Ok.directory c.args.draft.now
    c.addition_at-addition.ensures c.in-Ok.ensures s.1))) c.add_in.ensures.fault

pub returns-in-Err-clause-fault : goal.returns-in-Err-clause-fault
returns-in-Err-clause-fault c = λ y.
    directory_fault c.args.draft.now.tree.letters c.args.contents.now (take c.args.i c.args.additions.now)
    (get_or c.args.additions.now c.args.i y) (Err c.in-Err.fault) (sym (c.in-Err.ensures y))

pub add_in-requires : goal.add_in-requires
add_in-requires c =
    let s = c.requires.state in (
      s.0,
      take c.args.i c.args.additions.now,
      next_is s.0 c.args.contents.now c.args.additions.now c.args.i c.addition_at-addition.result.now c.in-Ok.directory c.args.draft.now
          c.addition_at-addition.ensures c.in-Ok.ensures s.1,
    )
