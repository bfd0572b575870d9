use Rattle.std.proofs.Common.{◌≡◌, ◌∙◌, ap, false, rules, sym, true}
use Rattle.std.specs.List.{list_all}
use Rattle.adf_names.proofs.Spellings.{only_spelled}
use Rattle.adf_names.specs.Texts.{is_name_byte}
use Rattle.adf_plans.proofs.plan_line.read_name.Goals as goal

pub returns-else-are_name_bytes-clause-none : goal.returns-else-are_name_bytes-clause-none
returns-else-are_name_bytes-clause-none c = λ name spells some ok.
    let mine = c.in_ok-name.ensures.some in
    let same : name ≡ c.in_ok-name.name = only_spelled name c.in_ok-name.name spells.are_bytes mine.are_bytes (sym spells.spells ∙ mine.spells) in
    let bad : list_all is_name_byte c.in_ok-name.name ≡ false = search rules in
    let good : list_all is_name_byte c.in_ok-name.name ≡ true = ap (list_all is_name_byte) (sym same) ∙ ok in
    absurd cc
