-- The numbers and texts of faults of a path's text.
use Rattle.std.specs.Prelude.{ℕ, List, codes}
use Rattle.adf_names.specs.declared.path_texts.PathFault.{PathFault, TheVariants.BadText, TheVariants.NoMemory}

-- the number of a fault of a path's text, 1 or 2
abbrev pub path_fault_number : PathFault → ℕ
path_fault_number BadText = 1
path_fault_number NoMemory = 2

-- the text of a fault of a path's text
abbrev pub path_fault_text : PathFault → List ℕ
path_fault_text BadText = codes "bad path"
path_fault_text NoMemory = codes "no memory"
