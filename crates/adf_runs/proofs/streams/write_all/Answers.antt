use Rattle.std.proofs.Common.{◌≡◌, ◌≢◌, ◌<◌, List, ap, arith, drop, length, rules, ℕ, [], length-drop, length-take, sym, append-nil, take-append-drop}
use Rattle.std.proofs.{KnownBytes.Appends-kept, lemmas.List.take_rest}
use Rattle.adf_runs.proofs.KnownBytes.{appends_more, appends_two}
use Rattle.adf_runs.proofs.streams.write_all.Goals as goal

-- something is left behind a front that is shorter
left_behind : (at : ℕ) (bytes : List ℕ) → at < length bytes → drop at bytes ≢ []
left_behind at bytes fewer e =
    let none : length (drop at bytes) ≡ 0 = ap length e in
    absurd (omega (arith, fewer, none, length-drop {A = ℕ}))

pub loop-at-preserved : goal.loop-at-preserved
loop-at-preserved g c = record {
  within = omega (arith, c.in-Ok.ensures.count, length-take {A = ℕ}, length-drop {A = ℕ});
  works = search rules;
  written = appends_more _ _ _ _ _ _ _ (take_rest c.args.bytes.now c.loop-at.at) c.loop-at.invariant.written c.in-Ok.ensures.bytes;
}

pub returns-then-count-eq0-clause-err : goal.returns-then-count-eq0-clause-err
returns-then-count-eq0-clause-err g c =
    let none = rw c.if-count-eq0.true at c.in-Ok.ensures.bytes in
    let whole = sym (take-append-drop c.loop-at.at c.args.bytes.now) in
    let some = left_behind c.loop-at.at c.args.bytes.now (omega arith) in
    (_, _, whole, (λ _. some), appends_two _ _ _ _ [] _ (sym (append-nil _)) c.loop-at.invariant.written none)

pub returns-in-Err-clause-err : goal.returns-in-Err-clause-err
returns-in-Err-clause-err g c =
    let whole = sym (take-append-drop c.loop-at.at c.args.bytes.now) in
    let some = left_behind c.loop-at.at c.args.bytes.now (omega arith) in
    (_, _, whole, (λ _. some), Appends-kept _ _ _ _ c.loop-at.invariant.written c.in-Err.ensures.bytes)
