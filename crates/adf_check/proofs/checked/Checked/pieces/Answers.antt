use Rattle.std.proofs.Common.{ℕ, List, subst, sym}
use Rattle.adf_volume.specs.Fits.{FitsBy}
use Rattle.adf_check.proofs.checked.Checked.pieces.Goals as goal

pub returns-clause-one_each : goal.returns-clause-one_each
returns-clause-one_each c = λ letters t l fits.
    c.pieces_of.ensures.one_each letters t l (subst (λ (i : List ℕ). FitsBy letters i t l) (sym c.self.view_is) fits)
