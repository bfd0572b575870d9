use Rattle.std.proofs.Common.{arith, ◌<◌, ◌≡◌, length, Result, Some, None, Ok, Err, sym, ◌∙◌, refl, OnOk, OnErr, IsOk}
use Rattle.std.specs.Result.{result_ok}
use Rattle.std.proofs.{lemmas.Bool.Decides.nat_tests, lemmas.List.length-append, lemmas.Grind.common_steps}
use Rattle.adf_names.proofs.Spellings.{read_more, no_spelling, too_many}
use Rattle.adf_names.proofs.escapes.read_escaped.Goals as goal

at_err : {T E P : Type 0} (r : Result T E) → result_ok r ≡ None → OnErr r P → P
at_err (Ok x) h p = cc
at_err (Err e) h p = p

at_ok : {T E P : Type 0} (r : Result T E) (x : T) → result_ok r ≡ Some x → OnOk r P → IsOk r × P
at_ok (Ok y) x h p = (refl, p)
at_ok (Err e) x h p = cc

pub returns-in_err-c-clause-none : goal.returns-in_err-c-clause-none
returns-in_err-c-clause-none g c =
    let inv = c.loop-rest.invariant in
    let some : 0 < length c.loop-rest.rest.now = grind (arith, nat_tests) in
    rw c.from_residual.ensures
    (no_spelling g.row.MOST c.args.text.now c.loop-rest.bytes.items c.loop-rest.rest.now inv.spells inv.are_bytes some c.in_err-c.ensures.none)

pub returns-in_err-ok-clause-none : goal.returns-in_err-ok-clause-none
returns-in_err-ok-clause-none g c =
    let inv = c.loop-rest.invariant in
    let some : 0 < length c.loop-rest.rest.now = grind (arith, nat_tests) in
    rw c.from_residual-in_err-ok.ensures
    (too_many g.row.MOST c.args.text.now c.loop-rest.bytes.items c.loop-rest.rest.now inv.spells inv.are_bytes some
    (at_err c.try_push.result (sym c.ok.ensures.value ∙ c.in_err-ok.was) c.try_push.ensures.full))

pub loop-rest-preserved : goal.loop-rest-preserved
loop-rest-preserved g c = grind (arith, common_steps, at_ok, read_more, length-append)

pub returns-clause-some : goal.returns-clause-some
returns-clause-some g c = grind (arith, common_steps)
