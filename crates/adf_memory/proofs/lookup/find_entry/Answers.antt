use Rattle.std.proofs.Common.{ap, rules, sym, ◌∙◌, ◌≡◌, Some, None}
use Rattle.adf_tree.specs.Tree.{find_by}
use Rattle.adf_memory.proofs.TableNames.{for_each_path, table_names}
use Rattle.adf_memory.proofs.lookup.find_entry.Goals as goal

pub returns-in-Some : goal.returns-in-Some
returns-in-Some c = record {
  number = search rules;
  inside = search rules;
  unchanged = search rules;
  found = λ _ t names (image, l, fits, is) text.
      for_each_path c.args.path.now c.in-Ok.names.items names c.in-Ok.ensures.ok text (λ ns. find_by c.args.letters t.entries ns ≡ Some c.in-Some.found)
      (ap (find_by c.args.letters t.entries) (sym c.deref.ensures.value)
      ∙ sym (c.find.ensures.found t.entries (table_names image t l c.args.entries.now fits is)) ∙ c.in-Some.is);
  none = search rules;
  bad_path = search rules;
  empty = search rules;
}

pub returns-in-Ok : goal.returns-in-Ok
returns-in-Ok c = record {
  number = search rules;
  inside = search rules;
  unchanged = search rules;
  found = search rules;
  none = λ _ t names (image, l, fits, is) text.
      for_each_path c.args.path.now c.in-Ok.names.items names c.in-Ok.ensures.ok text (λ ns. find_by c.args.letters t.entries ns ≡ None)
      (ap (find_by c.args.letters t.entries) (sym c.deref.ensures.value)
      ∙ sym (c.find.ensures.found t.entries (table_names image t l c.args.entries.now fits is)) ∙ c.in-None.is);
  bad_path = search rules;
  empty = search rules;
}
