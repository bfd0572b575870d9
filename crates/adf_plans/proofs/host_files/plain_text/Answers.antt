use Rattle.std.proofs.Common.{◌≡◌, ◌++◌, List, ℕ, arith, codes, false}
use Rattle.std.proofs.lemmas.Grind.{common_steps}
use Rattle.adf_plans.proofs.PlainTexts.{all_put, line_put}
use Rattle.adf_plans.specs.HostFiles.{BeginsPartition, host_of, line_without}
use Rattle.adf_plans.specs.PlanTexts.{first_line, has_word}
use Rattle.adf_plans.proofs.host_files.plain_text.Goals as goal

pub loop-line-preserved : goal.loop-line-preserved
loop-line-preserved c =
    let left : List ℕ = c.loop-line.left.now in
    let begins : BeginsPartition (first_line left) = grind (arith, common_steps) in
    let put : c.push_plain.new.plain.items
    ≡ c.loop-line.plain.items ++ (line_without (first_line left) (host_of (first_line left)) ++ codes "\n") =
    rw c.cut_line-in-loop-line.ensures.line at c.in_ok-push_plain.ensures in
    rw c.cut_line-in-loop-line.ensures.rest
    (line_put c.args.text.now c.loop-line.plain.items c.push_plain.new.plain.items left c.loop-line.invariant begins put)

pub returns : goal.returns
returns c =
    let left : List ℕ = c.loop-line.left.now in
    let other : has_word (codes "partition") (first_line left) ≡ false = grind (arith, common_steps) in
    rw c.in_ok-extend_from_slice.ensures.items (all_put c.args.text.now c.loop-line.plain.items left c.loop-line.invariant other)
