use Rattle.std.proofs.Common.{◌≡◌, ◌++◌, [], ap, arith, subst, ◌∙◌}
use Rattle.std.proofs.lemmas.List.{append-nil}
use Rattle.adf_keep.specs.Marks.{AreClaimed}
use Rattle.adf_keep.proofs.ClaimMarks.{claimed_less, claimed_within, popped}
use Rattle.adf_keep.proofs.claims.release.Goals as goal

pub loop-b-preserved-then-b-len : goal.loop-b-preserved-then-b-len
loop-b-preserved-then-b-len c = λ n bs are.
    let last = popped n c.loop-b.marks.items bs c.loop-b.claimed.items c.pop.new.self.items c.in-Some.b c.in-Some.ensures.items
    (c.loop-b.invariant n bs are) in
    claimed_less n c.loop-b.marks.items (bs ++ c.pop.new.self.items) c.in-Some.b last (omega arith)

pub loop-b-preserved : goal.loop-b-preserved
loop-b-preserved c = λ n bs are.
    let last = popped n c.loop-b.marks.items bs c.loop-b.claimed.items c.pop.new.self.items c.in-Some.b c.in-Some.ensures.items
    (c.loop-b.invariant n bs are) in
    absurd (claimed_within n c.loop-b.marks.items (bs ++ c.pop.new.self.items) c.in-Some.b last (omega arith))

pub returns : goal.returns
returns c = λ n bs are.
    let none : c.loop-b.claimed.items ≡ [] = grind arith in
    subst (λ xs. AreClaimed n c.loop-b.marks.items xs) (ap (λ xs. bs ++ xs) none ∙ append-nil bs) (c.loop-b.invariant n bs are)
