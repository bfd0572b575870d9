-- Laws of lists of clauses.
use Rattle.std.proofs.Common.{◌≡◌, List, [], ◌∷◌, true, false, None, refl}
use Rattle.adf_blocks.specs.Forms.{Clause, first_cause}

-- each clause holds
abbrev pub AllHold : List Clause → Type 0
AllHold [] = Unit {0}
AllHold (c ∷ cs) = (c.0 ≡ true) × AllHold cs

-- and the other way round
pub no_cause : (cs : List Clause) → AllHold cs → first_cause cs ≡ None
no_cause [] h = refl
no_cause ((true, c) ∷ cs) h = no_cause cs h.1
no_cause ((false, c) ∷ cs) h = cc
