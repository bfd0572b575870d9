-- The demands on parts by the letters of the volume. On types 0 and 1 these are the demands of the model.
-- Letters: w a walk; r a role; b the block of a part, a the block that points to it.
use Rattle.std.specs.Prelude.{ℕ, List}
use Rattle.adf_names.specs.{declared.kind.Kind.Kind, Texts.uppers_by}
use Rattle.adf_blocks.specs.{Forms.Clause, HeadBlock.head_form_by}
use Rattle.adf_volume.specs.{Demands.Demand, Demands.head_demands_by, Image.letters_of}
use Rattle.adf_volume.specs.Walk.{NewNameBy, Role, demands_by, form_demands_by, Walk}

-- a name in upper case
abbrev pub uppers_in : List ℕ → List ℕ → List ℕ
uppers_in image name = uppers_by (letters_of image) name

-- the form of a header
abbrev pub head_form_in : List ℕ → Kind → ℕ → ℕ → ℕ → List ℕ → List Clause
head_form_in image = head_form_by (letters_of image)

-- that form, as demands
abbrev pub head_demands_in : List ℕ → Kind → ℕ → ℕ → ℕ → List Demand
head_demands_in image = head_demands_by (letters_of image) image

-- the form of block b in a role, as demands
abbrev pub form_demands_in : List ℕ → Walk → Role → ℕ → List Demand
form_demands_in image = form_demands_by (letters_of image) image

-- no earlier header of the chain has the same name
abbrev pub NewNameIn : List ℕ → Walk → Role → ℕ → Type 0
NewNameIn image = NewNameBy (letters_of image) image

-- the demands on a role at block b, which a word of block a points to
abbrev pub demands_in : List ℕ → Walk → Role → ℕ → ℕ → List Demand
demands_in image = demands_by (letters_of image) image
