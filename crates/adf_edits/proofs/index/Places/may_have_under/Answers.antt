use Rattle.std.proofs.Common.{◌≡◌, [], arith}
use Rattle.std.proofs.lemmas.Grind.{common_steps}
use Rattle.std.specs.{Cmp.Lexicographic.slice_cmp, Ordering.nat_cmp, declared.cmp.Ordering.TheVariants.Less}
use Rattle.adf_edits.specs.Index.{end_key, path_key}
use Rattle.adf_edits.proofs.IndexRanges.{has_name_at, none_in_run, run_forward}
use Rattle.adf_edits.proofs.index.Places.may_have_under.Goals as goal

pub range-requires : goal.range-requires
range-requires c =
    let low : c.in_ok-key.key.items ≡ path_key c.args.path.now = grind (arith, common_steps) in
    let high : c.in_ok-end.end.items ≡ end_key c.args.path.now = grind (arith, common_steps) in
    let less : slice_cmp nat_cmp c.in_ok-key.key.items c.in_ok-end.end.items ≡ Less =
    rw (low, high) (run_forward c.args.path.now (has_name_at c.args.self.now c.args.place c.args.path.now c.requires)) in less

pub returns : goal.returns
returns c = λ off.
    let low : c.in_ok-key.key.items ≡ path_key c.args.path.now = grind (arith, common_steps) in
    let high : c.in_ok-end.end.items ≡ end_key c.args.path.now = grind (arith, common_steps) in
    let empty : c.range.result ≡ [] = grind (arith, common_steps) in
    none_in_run c.args.self.now c.args.place c.args.path.now c.requires c.in_ok-key.key c.in_ok-end.end low high
    ((c.range.ensures.in_range tt).5 empty)
