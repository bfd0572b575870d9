-- Command lines as they are made.
-- Letters: a, s are what `old`, `sub` are, as clap reads them; r is the rule of the argument `arg`.
use Rattle.std.proofs.Common.{◌≡◌, ◌∙◌, ap, ap₂, false}
use Rattle.clap.specs.Words.{AddsArg, AddsSubcommand, App, Rule, app_of, rule_of, with_rule, with_subcommand}
use Rattle.clap.specs.{declared.builder.arg.Arg.Arg, declared.builder.command.Command.Command, declared.builder.command.Command.TheViews.out-Command}

-- one more subcommand
pub subcommand_added : (a s : App) (old sub : Command) → app_of old ≡ a → app_of sub ≡ s → (out-Command sub).has_globals ≡ false
    → (new : Command) → AddsSubcommand old sub new → app_of new ≡ with_subcommand a s.top
subcommand_added a s old sub known is local new adds = adds.shape local ∙ ap₂ with_subcommand known (ap (λ (x : App). x.top) is)

-- one more argument
pub argument_added : (a : App) (r : Rule) (old : Command) (arg : Arg) → app_of old ≡ a → rule_of arg ≡ r → arg.global ≡ false
    → (new : Command) → AddsArg old arg new → app_of new ≡ with_rule a r
argument_added a r old arg known is local new adds = adds.shape local ∙ ap₂ with_rule known is
