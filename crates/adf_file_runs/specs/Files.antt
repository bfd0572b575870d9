-- What comes of opening files.
use Rattle.std.specs.Prelude.{List, ℕ, Option, Some, IsUtf8}
use Rattle.adf_file_runs.specs.declared.files.Unopened.{Unopened}
use Rattle.adf_file_runs.specs.declared.files.Unopened.TheVariants.{NotText}

-- what opening a file of the system may come to, `None` if it is opened: a name is refused as no UTF-8 if and only if it is none
abbrev pub SystemOpens : List ℕ → Option Unopened → Type 0
SystemOpens name (Some NotText) = ¬ IsUtf8 name
SystemOpens name why = IsUtf8 name
