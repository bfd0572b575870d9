-- The demands on a part that has no cause, by name.
use Rattle.std.proofs.Common.{ℕ, List, ◌<◌, ◌≤◌, arith}
use Rattle.std.proofs.lemmas.Grind.{common_steps}
use Rattle.adf_base.specs.declared.hash.Letters.{Letters}
use Rattle.adf_blocks.specs.Sizes.{blocks}
use Rattle.adf_volume.specs.{Demands.AllHold, Walk.Role, Walk.Enough, Walk.IsAbsent, Walk.NewNameBy, Walk.demands_by, Walk.form_demands_by, Walk.Walk}
use Rattle.adf_volume.proofs.Lists.{all_split}

-- each demand of the role at block b holds, by these letters
pub record PartHoldsBy (l : Letters) (image : List ℕ) (w : Walk) (r : Role) (b : ℕ) : Type 0 where
  pub enough : Enough image w r
  pub past_boot : 2 ≤ b
  pub inside : b < blocks image
  pub unowned : IsAbsent w b
  pub form : AllHold (form_demands_by l image w r b)
  pub new_name : NewNameBy l image w r b

pub part_holds_by : (l : Letters) (image : List ℕ) (w : Walk) (r : Role) (a b : ℕ) → AllHold (demands_by l image w r a b)
    → PartHoldsBy l image w r b
part_holds_by l image w r a b n = grind (arith, common_steps, all_split)
