-- Why no work is begun for the words of a command.
use Rattle.std.specs.Prelude.{ℕ, List, codes}
use Rattle.adf_names.specs.declared.path_texts.PathFault.{PathFault, TheVariants.BadText, TheVariants.NoMemory as PathNoMemory}
use Rattle.adf_words.specs.declared.command_line.ArgsError.{ArgsError, TheVariants.NoMemory as ArgsNoMemory, TheVariants.Usage as ArgsUsage}
use Rattle.adf_runs.specs.declared.work_fault.WorkFault.{WorkFault, TheVariants.Usage, TheVariants.BadPath, TheVariants.NoMemory}

-- the fault where words are not had
abbrev pub args_refused : ArgsError → WorkFault
args_refused ArgsUsage = Usage
args_refused ArgsNoMemory = NoMemory

-- the fault where a path is not read
abbrev pub path_refused : PathFault → WorkFault
path_refused BadText = BadPath
path_refused PathNoMemory = NoMemory

-- what a fault says: that the words are refused, or their path is none; of want of memory nothing
abbrev pub IsNoWork : WorkFault → Type 0 → Type 0 → Type 0
IsNoWork Usage refused bad_path = refused
IsNoWork BadPath refused bad_path = bad_path
IsNoWork NoMemory refused bad_path = Unit {0}

-- the exit status where no work comes of the words
abbrev pub refusal_status : WorkFault → ℕ
refusal_status Usage = 2
refusal_status BadPath = 2
refusal_status NoMemory = 3

-- what is said on errors, where this is the usage
abbrev pub refusal_line : List ℕ → WorkFault → List ℕ
refusal_line usage Usage = usage
refusal_line usage BadPath = codes "bad path\n"
refusal_line usage NoMemory = codes "no memory\n"

-- the text of the fault
abbrev pub work_fault_text : WorkFault → List ℕ
work_fault_text Usage = codes "bad words"
work_fault_text BadPath = codes "bad path"
work_fault_text NoMemory = codes "no memory"
