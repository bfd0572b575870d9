-- The results of building.
use Rattle.std.specs.Prelude.{◌≡◌, ◌≤◌, ◌<◌, ◌-◌, ◌^◌, ◌++◌, ℕ, List, true, false, min, codes}
use Rattle.std.specs.Fmt.{decimal}
use Rattle.adf_tree.specs.Tree.{Tree}
use Rattle.adf_blocks.specs.Sizes.{is_allowed}
use Rattle.adf_volume.specs.{Types.is_size_of, declared.types.Types.Types}
use Rattle.adf_build.specs.Plan.{blocks_needed}
use Rattle.adf_build.specs.declared.builder.BuildFault.{BuildFault, TheVariants.BadSize, TheVariants.Full, TheVariants.NoMemory}

-- the number of blocks that the tree needs in a volume of n blocks, at most 2^64 - 1
abbrev pub need_of : Tree → ℕ → ℕ
need_of tree n = min (blocks_needed tree n) (2 ^ 64 - 1)

-- the tree has room in a volume of n blocks, not counting the two boot blocks
pub record IsBuildable (tree : Tree) (n : ℕ) : Type 0 where
  pub allowed : is_allowed n ≡ true
  pub room : blocks_needed tree n ≤ n - 2

-- the number of a build fault, 1 to 3
abbrev pub build_fault_number : BuildFault → ℕ
build_fault_number BadSize = 1
build_fault_number (Full need have) = 2
build_fault_number NoMemory = 3

-- the blocks that a tree needs, and those available
abbrev pub full_text : ℕ → ℕ → List ℕ
full_text need have = codes "full: need " ++ (decimal need ++ (codes ", have " ++ decimal have))

-- the text of a build fault
abbrev pub build_fault_text : BuildFault → List ℕ
build_fault_text BadSize = codes "bad size"
build_fault_text (Full need have) = full_text need have
build_fault_text NoMemory = codes "no memory"

-- why the tree cannot be built in n blocks as a volume of these types: the size is not allowed; else no room, with both numbers; else memory
abbrev pub IsBuildFault : Types → Tree → ℕ → BuildFault → Type 0
IsBuildFault types tree n BadSize = is_size_of types n ≡ false
IsBuildFault types tree n (Full need have) = (is_size_of types n ≡ true) × (need ≡ need_of tree n) × (have ≡ n - 2) × (have < need)
IsBuildFault types tree n NoMemory = (is_size_of types n ≡ true) × IsBuildable tree n
