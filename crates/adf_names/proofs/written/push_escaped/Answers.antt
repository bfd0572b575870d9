use Rattle.std.proofs.Common.{◌≡◌, ◌∙◌, ℕ, List, [], ◌∷◌, true, refl, rules, sym}
use Rattle.std.specs.List.{list_all}
use Rattle.std.proofs.lemmas.Bool.{and_parts}
use Rattle.adf_names.specs.Escapes.{escaped, is_plain}
use Rattle.adf_names.proofs.Spellings.{spelled_plain}
use Rattle.adf_names.proofs.written.push_escaped.Goals as goal

-- bytes that stand for themselves are their escape form
plain_escaped : (bytes : List ℕ) → list_all is_plain bytes ≡ true → escaped bytes ≡ bytes
plain_escaped [] h = refl
plain_escaped (c ∷ cs) h =
    let parts = and_parts (is_plain c) (list_all is_plain cs) h in
    rw (spelled_plain c parts.0, plain_escaped cs parts.1)

pub returns-then-are_plain : goal.returns-then-are_plain
returns-then-are_plain c = rw (plain_escaped c.args.bytes.now (sym c.are_plain.ensures ∙ c.if-are_plain.true)) (search rules)
