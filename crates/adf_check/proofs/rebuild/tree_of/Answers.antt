use Rattle.std.proofs.Common.{◌≡◌, ◌+◌, ◌<◌, ◌≤◌, length, ap, subst, sym, ◌∙◌, arith, rules, Some}
use Rattle.std.proofs.lemmas.Grind.{common_steps}
use Rattle.adf_tree.specs.Tree.{Tree, entry, with_last}
use Rattle.adf_volume.specs.Image.{letters_of}
use Rattle.adf_check.proofs.TreeEntries.{may_follow, some_entry, tree_more, tree_whole}
use Rattle.adf_check.proofs.rebuild.tree_of.Goals as goal

pub loop-i-init : goal.loop-i-init
loop-i-init c = λ letters t l fits.
    let kind = c.counts-kind.ensures.exact letters t l fits in
    grind (arith, common_steps, kind, c.letters.ensures.tree letters t l fits, c.label.ensures letters t l fits, c.stamps.ensures letters t l fits)

pub unwrap-entry-requires : goal.unwrap-entry-requires
unwrap-entry-requires c =
    let s = c.len-i-end.ensures.fits in
    let t = s.0 in
    let own = letters_of c.args.volume.now in
    let lt : c.loop-i.i < length t.entries = subst (λ n. c.loop-i.i < n) (c.len-i-end.ensures.count own t s.1 s.2) c.loop-i-test.true in
    some_entry t (c.loop-i.i + 1) c.loop-i.i c.in_ok-entry_of.field-0 (omega arith) lt (c.in_ok-entry_of.ensures own t s.1 s.2)

pub add_last-requires : goal.add_last-requires
add_last-requires c =
    let s = c.len-i-end.ensures.fits in
    let own = letters_of c.args.volume.now in
    let follows = may_follow s.2.letters s.2.tree (c.loop-i.invariant own s.0 s.1 s.2) (c.len-i-end.ensures.count own s.0 s.1 s.2)
    c.loop-i-test.true
    (c.in_ok-entry_of.ensures own s.0 s.1 s.2) c.unwrap-entry.ensures in
    record { may = follows.0; last = follows.1 }

pub loop-i-preserved : goal.loop-i-preserved
loop-i-preserved c = λ letters t l st.
    let lt : c.loop-i.i < length t.entries = subst (λ n. c.loop-i.i < n) (c.len-i-end.ensures.count letters t l st) c.loop-i-test.true in
    let x = c.unwrap-entry.result in
    let is : Some x ≡ entry t.entries (c.loop-i.i + 1) = sym c.unwrap-entry.ensures ∙ c.in_ok-entry_of.ensures letters t l st in
    let new : c.add_last.new.self ≡ with_last c.loop-i.tree x = search rules in
    new ∙ ap (λ (u : Tree). with_last u x) (c.loop-i.invariant letters t l st) ∙ tree_more t c.loop-i.i x lt is

pub returns-clause-tree : goal.returns-clause-tree
returns-clause-tree c = λ letters t l st.
    let ge : length t.entries ≤ c.loop-i.i = subst (λ n. n ≤ c.loop-i.i) (c.len-i-end.ensures.count letters t l st) c.loop-i-test.false in
    c.loop-i.invariant letters t l st ∙ tree_whole t c.loop-i.i ge

pub returns-in_err-entry_of-clause-empty : goal.returns-in_err-entry_of-clause-empty
returns-in_err-entry_of-clause-empty c = λ letters t l st none.
    let count : c.len-i-end.result ≡ 0 = c.len-i-end.ensures.count letters t l st ∙ ap length none in absurd (omega (arith, count, c.loop-i-test.true))

pub returns-in_err-add_last-clause-empty : goal.returns-in_err-add_last-clause-empty
returns-in_err-add_last-clause-empty c = λ letters t l st none.
    let count : c.len-i-end.result ≡ 0 = c.len-i-end.ensures.count letters t l st ∙ ap length none in absurd (omega (arith, count, c.loop-i-test.true))
