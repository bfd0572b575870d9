-- The numbers and texts of faults.
use Rattle.std.specs.Prelude.{ℕ, List, codes}
use Rattle.adf_tree.specs.{declared.tree.AddFault.AddFault, declared.tree.RoomFault.RoomFault}
use Rattle.adf_tree.specs.declared.tree.AddFault.TheVariants as add
use Rattle.adf_tree.specs.declared.tree.RoomFault.TheVariants as room

-- the fault of `add` for a path that has no room
abbrev pub add_fault : RoomFault → AddFault
add_fault room.EmptyPath = add.EmptyPath
add_fault room.NoParent = add.NoParent
add_fault room.ParentIsFile = add.ParentIsFile
add_fault room.Exists = add.Exists

-- the number of a fault of `add`, 1 to 5
abbrev pub add_fault_number : AddFault → ℕ
add_fault_number add.NoParent = 1
add_fault_number add.ParentIsFile = 2
add_fault_number add.Exists = 3
add_fault_number add.NoMemory = 4
add_fault_number add.EmptyPath = 5

-- the text of a fault of `add`
abbrev pub add_fault_text : AddFault → List ℕ
add_fault_text add.NoParent = codes "no parent"
add_fault_text add.ParentIsFile = codes "parent is file"
add_fault_text add.Exists = codes "exists"
add_fault_text add.NoMemory = codes "no memory"
add_fault_text add.EmptyPath = codes "no name"
