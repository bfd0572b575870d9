use Rattle.std.proofs.Common.{List, take}
use Rattle.adf_keep.specs.{Kept.setting_of, State.IsState, Verdicts.AreVerdicts, Verdicts.EntryVerdict}
use Rattle.adf_keep.proofs.keeping.keep.Given as goal

abbrev pub invariant-loop-p : goal.invariant-loop-p
invariant-loop-p l = (vs : List EntryVerdict) × AreVerdicts (setting_of l.fn.image l.fn.held l.fn.terms) (take l.p-index l.proposal) vs
    × IsState (setting_of l.fn.image l.fn.held l.fn.terms) vs l.keeper
