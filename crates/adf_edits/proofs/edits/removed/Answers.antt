use Rattle.std.proofs.{Common.rules, Common.not, lemmas.Fn.filter_same}
use Rattle.adf_edits.specs.Edits.{is_at}
use Rattle.adf_edits.proofs.edits.removed.Goals as goal

pub returns-clause-removed : goal.returns-clause-removed
returns-clause-removed c =
    filter_same _ (λ x. not (is_at c.args.path.now x)) _ (λ x b f' h. search rules) c.args.items.items
    c.retain.new.self.items c.retain.ensures.filtered
