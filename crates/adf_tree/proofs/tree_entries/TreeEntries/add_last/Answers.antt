use Rattle.std.proofs.Common.{sym, subst}
use Rattle.std.specs.Result.{is_ok}
use Rattle.adf_tree.specs.Tree.{IsLastBy, MayAddBy, TreeEntries}
use Rattle.adf_tree.proofs.{LastNames.forgotten, TreePrefixes.last_keeps}
use Rattle.adf_tree.proofs.tree_entries.TreeEntries.add_last.Goals as goal

pub invariant_of-self : goal.invariant_of-self
invariant_of-self c = (
  last_keeps c.self.inside.letters c.self.inside.entries.items c.push.new.self.items c.args.entry (is_ok c.push.result) c.self.invariant.0
      (subst (λ (t : TreeEntries). MayAddBy t.letters t.entries c.args.entry) (sym c.self.view_is) c.requires.may)
      (subst (λ (t : TreeEntries). IsLastBy t.letters t.entries c.args.entry) (sym c.self.view_is) c.requires.last)
      c.push.ensures.items,
  forgotten c.self.inside.letters c.forget.new.self c.push.new.self.items c.forget.ensures,
)
