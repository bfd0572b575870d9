use Rattle.std.proofs.Common.{◌≡◌, ◌≤◌, ◌<◌, ◌+◌, ◌-◌, ℕ, List, [], Some, arith, get_or, length, subst, sym, take}
use Rattle.std.proofs.lemmas.List.{take_all}
use Rattle.adf_base.specs.declared.hash.Letters.{Letters}
use Rattle.adf_memory.specs.TableAdditions.{AreSoundBefore, IsFirstAdditionFault, fault_of}
use Rattle.adf_memory.specs.declared.table_additions.{AdditionFault.AdditionFault, TableAddition.TableAddition}
use Rattle.adf_memory.proofs.TableDrafts.{same_letters, sound_more}
use Rattle.adf_memory.proofs.building.add_all.Goals as goal

pub add_next-requires-clause-state : goal.add_next-requires-clause-state
add_next-requires-clause-state c = let s = c.requires in (s.0, c.loop-i.invariant.drafts s.0 s.1)

-- the addition at a place is the first that has a fault
first_fault : (letters : Letters) (bytes : List ℕ) (xs : List TableAddition) (i : ℕ) (why : AdditionFault) → i < length xs
    → AreSoundBefore letters bytes xs i → ((y : TableAddition) → fault_of letters bytes (take i xs) (get_or xs i y) ≡ Some why)
    → IsFirstAdditionFault letters bytes xs (i + 1) why
first_fault letters bytes xs i why lt sound is =
    let at : i ≡ i + 1 - 1 = omega arith in
    record {
      first = omega arith;
      within = omega arith;
      sound = subst (λ (k : ℕ). AreSoundBefore letters bytes xs k) at sound;
      fault = subst (λ (k : ℕ). (y : TableAddition) → fault_of letters bytes (take k xs) (get_or xs k y) ≡ Some why) at is;
    }

pub returns-in-Err-Fault-clause-fault : goal.returns-in-Err-Fault-clause-fault
returns-in-Err-Fault-clause-fault c =
    let s = c.requires in
    let same = same_letters s.0 c.args.contents.now (take c.loop-i.i c.args.additions.now) [] c.loop-i.draft c.args.draft.now
    (c.loop-i.invariant.drafts s.0 s.1) s.1 in
    let told = rw (same, c.in-Err-Fault.field-0-is) at c.in-Err-Fault.ensures.fault in
    subst (λ why. IsFirstAdditionFault c.args.draft.now.tree.letters c.args.contents.now c.args.additions.now (c.loop-i.i + 1) why)
    (sym c.in-Err-Fault.fault-is)
    (first_fault c.args.draft.now.tree.letters c.args.contents.now c.args.additions.now c.loop-i.i c.in-Err-Fault.fault c.loop-i-test.true
    c.loop-i.invariant.sound told)

pub loop-i-preserved : goal.loop-i-preserved
loop-i-preserved c =
    let s = c.requires in
    let same = same_letters s.0 c.args.contents.now (take c.loop-i.i c.args.additions.now) [] c.loop-i.draft c.args.draft.now
    (c.loop-i.invariant.drafts s.0 s.1) s.1 in
    record {
      drafts = λ t is. c.in-Ok.ensures.added t (c.loop-i.invariant.drafts t is);
      sound = sound_more c.args.draft.now.tree.letters c.args.contents.now c.args.additions.now c.loop-i.i c.loop-i.invariant.sound
          (rw same at c.in-Ok.ensures.sound);
    }

pub returns-clause-draft : goal.returns-clause-draft
returns-clause-draft c = λ t is.
    let past : length c.args.additions.now ≤ c.loop-i.i = omega arith in
    rw (take_all c.loop-i.i c.args.additions.now past) at (c.loop-i.invariant.drafts t is)
