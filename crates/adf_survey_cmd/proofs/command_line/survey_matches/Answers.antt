use Rattle.std.proofs.Common.{◌≡◌, [], refl, subst, sym, true}
use Rattle.std.specs.Prelude.{IfErr, IfOk}
use Rattle.std.proofs.lemmas.Result.{IfOk-weaker}
use Rattle.clap.specs.Words.{App, HasMatchesOf, fault_of, found_of, is_simple_and_free, matches_of, rows_of, subcommand_of, subcommand_rows_of}
use Rattle.adf_words.specs.CommandLine.{texts_of}
use Rattle.adf_words.specs.declared.command_line.ArgsError.{TheVariants.Usage}
use Rattle.adf_survey_cmd.specs.CommandLine.{survey_app}
use Rattle.adf_survey_cmd.proofs.command_line.survey_matches.Goals as goal

is_free : is_simple_and_free survey_app ≡ true
is_free = refl

pub matches_of-requires : goal.matches_of-requires
matches_of-requires c = record { free = subst (λ (app : App). is_simple_and_free app ≡ true) (sym c.in_ok-command.ensures) is_free }

pub returns-clause-taken : goal.returns-clause-taken
returns-clause-taken c =
    let words = texts_of c.args.args.now in
    subst (λ (app : App). IfOk c.matches_of.result (λ m. fault_of app words ≡ [])) c.in_ok-command.ensures c.matches_of.ensures.taken

pub returns-clause-rows : goal.returns-clause-rows
returns-clause-rows c =
    let words = texts_of c.args.args.now in
    IfOk-weaker c.matches_of.result (HasMatchesOf survey_app words) (λ m. rows_of (found_of m) ≡ matches_of survey_app words) (λ m has. (has refl).0)
    (subst (λ (app : App). IfOk c.matches_of.result (HasMatchesOf app words)) c.in_ok-command.ensures c.matches_of.ensures.matches)

pub returns-clause-subcommand : goal.returns-clause-subcommand
returns-clause-subcommand c =
    let words = texts_of c.args.args.now in
    IfOk-weaker c.matches_of.result (HasMatchesOf survey_app words) (λ m. subcommand_rows_of m ≡ subcommand_of survey_app words) (λ m has. (has refl).1)
    (subst (λ (app : App). IfOk c.matches_of.result (HasMatchesOf app words)) c.in_ok-command.ensures c.matches_of.ensures.matches)

pub returns-clause-refused : goal.returns-clause-refused
returns-clause-refused c =
    let words = texts_of c.args.args.now in
    subst (λ (app : App). IfErr c.matches_of.result (λ fault. fault ≡ Usage → fault_of app words ≡ [] → ⊥)) c.in_ok-command.ensures
    c.matches_of.ensures.refused
