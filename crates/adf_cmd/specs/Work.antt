-- What a command does, once its words and its path are read.
use Rattle.std.specs.Prelude.{◌≡◌, ℕ, List}
use Rattle.adf_names.specs.PathTexts.{IsPathText}
use Rattle.adf_words.specs.CommandLine.{RequestValue, build, cat, check, convert, list}
use Rattle.adf_cmd.specs.declared.work.Work.{Work, TheVariants.Check, TheVariants.List as ListAll, TheVariants.Cat, TheVariants.Build, TheVariants.Convert}

-- the work is that of a request, of whose path it has the names
abbrev pub Serves : Work → RequestValue → Type 0
Serves Check r = r ≡ check
Serves ListAll r = r ≡ list
Serves (Cat names) r = (path : List ℕ) × (r ≡ cat path) × IsPathText path names.items
Serves (Build b) r = r ≡ build b
Serves (Convert k) r = r ≡ convert k
