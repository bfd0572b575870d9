use Rattle.std.proofs.Common.{◌≡◌, ◌∙◌, [], ap, if◌then◌else◌, rules, sym, arith}
use Rattle.std.proofs.lemmas.Grind.{common_steps}
use Rattle.adf_shelf_cmd.specs.{CommandLine.ShelfOrder, Names.name_end, Names.types_asked}
use Rattle.adf_volume.specs.declared.types.Types.TheVariants.{Plain, WithInternational}
use Rattle.adf_words.specs.CommandLine.{texts_of}
use Rattle.adf_shelf_cmd.proofs.NameLists.{asked_in_input, asked_in_words, no_words, unread_in_input, unread_in_words}
use Rattle.adf_shelf_cmd.proofs.runner.run_order.Goals as goal

pub returns-then-is_empty-clause-ends : goal.returns-then-is_empty-clause-ends
returns-then-is_empty-clause-ends g c =
    let order = c.args.order.now in
    let types : types_asked order ≡ c.types_asked-types.result =
    sym (c.types_asked-types.ensures ∙ ap (λ (o : ShelfOrder). if o.any_type then WithInternational else Plain) c.order.view_is) in
    let json : order.json ≡ c.order.inside.json = sym (ap (λ (o : ShelfOrder). o.json) c.order.view_is) in
    let end : name_end order.null ≡ c.name_end-input.result = sym (c.name_end-input.ensures ∙ ap (λ (o : ShelfOrder). name_end o.null) c.order.view_is) in
    let words : c.order.inside.files.items ≡ [] = grind (arith, common_steps) in
    let none : order.files ≡ [] = sym (ap (λ (o : ShelfOrder). o.files) c.order.view_is) ∙ ap texts_of words in
    let names = asked_in_input order.null order.files (g.B.Read.remaining c.args.input.now.text) none in
    let unread = unread_in_input order.files c.run_names.new.names.failed none in
    rw (types, json, names, unread, end) c.run_names.ensures.ends

pub returns-clause-ends : goal.returns-clause-ends
returns-clause-ends g c =
    let order = c.args.order.now in
    let types : types_asked order ≡ c.types_asked-types.result =
    sym (c.types_asked-types.ensures ∙ ap (λ (o : ShelfOrder). if o.any_type then WithInternational else Plain) c.order.view_is) in
    let json : order.json ≡ c.order.inside.json = sym (ap (λ (o : ShelfOrder). o.json) c.order.view_is) in
    let words : c.order.inside.files.items ≡ [] → ⊥ = search rules in
    let files : texts_of c.order.inside.files.items ≡ order.files = ap (λ (o : ShelfOrder). o.files) c.order.view_is in
    let some : order.files ≡ [] → ⊥ = λ e. words (no_words c.order.inside.files.items (files ∙ e)) in
    let names = asked_in_words order.null order.files (g.B.Read.remaining c.args.input.now.text) some in
    let unread = unread_in_words order.files c.args.input.now.failed some in
    let named : order.files ≡ texts_of c.new-named.result.words.now =
    sym (ap texts_of (c.new-named.ensures ∙ c.deref.ensures.value) ∙ files) in
    rw (types, json, names, unread, named) c.run_names-2.ensures.ends
