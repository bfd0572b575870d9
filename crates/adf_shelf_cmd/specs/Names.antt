-- The names of images.
use Rattle.std.specs.Prelude.{◌≡◌, ℕ, zero, suc, Bool, true, false, List, [], ◌∷◌, ◌++◌, length, Option, None, Some, IfSome, option_map, if◌then◌else◌}
use Rattle.adf_shelf_cmd.specs.CommandLine.{ShelfOrder}
use Rattle.adf_volume.specs.declared.types.Types.{Types, TheVariants.Plain, TheVariants.WithInternational}
use Rattle.std.specs.Io.BufRead.{drop_through, first_piece}

-- of the known names, these were given
abbrev pub AreGiven : Option (List (List ℕ)) → Option (List (List ℕ)) → List (List ℕ) → Type 0
AreGiven None new names = Unit {0}
AreGiven (Some xs) None names = ⊥
AreGiven (Some xs) (Some ys) names = xs ≡ names ++ ys

-- a name is given, or none is left
abbrev pub GivesName : Bool → Option (List (List ℕ)) → Option (List (List ℕ)) → List ℕ → Type 0
GivesName true old new name = AreGiven old new (name ∷ [])
GivesName false old new name = IfSome old (λ names. names ≡ [])

-- whether the names that words give, or else the input, could not be read, where `failed` says so of those in the input: words are in memory
abbrev pub are_unread : List (List ℕ) → Bool → Bool
are_unread [] failed = failed
are_unread (name ∷ names) failed = false

-- the first names in bytes, at most so many, each ended by `end` but perhaps the last
unfoldable pub first_names : ℕ → ℕ → List ℕ → List (List ℕ)
first_names zero end bytes = []
first_names (suc most) end [] = []
first_names (suc most) end (b ∷ bytes) = first_piece end (b ∷ bytes) ∷ first_names most end (drop_through end (b ∷ bytes))

-- the names in bytes
abbrev pub listed_names : ℕ → List ℕ → List (List ℕ)
listed_names end bytes = first_names (length bytes) end bytes

-- the byte that ends a name
abbrev pub name_end : Bool → ℕ
name_end null = if null then 0 else 10

-- the names that words give, or where there are none those in the input
abbrev pub names_or_input : Bool → List (List ℕ) → Option (List ℕ) → Option (List (List ℕ))
names_or_input null [] input = option_map (listed_names (name_end null)) input
names_or_input null (name ∷ names) input = Some (name ∷ names)

-- those of an order
abbrev pub names_asked : ShelfOrder → Option (List ℕ) → Option (List (List ℕ))
names_asked order input = names_or_input order.null order.files input

-- the types that an order accepts
abbrev pub types_asked : ShelfOrder → Types
types_asked order = if order.any_type then WithInternational else Plain
