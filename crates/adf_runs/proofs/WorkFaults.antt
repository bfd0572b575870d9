-- Why no work is begun.
use Rattle.std.proofs.Common.{◌≡◌, refl, Result, Ok, Err, IfErr}
use Rattle.std.specs.Result.{IsErrAnd}
use Rattle.adf_names.specs.declared.path_texts.PathFault.{PathFault, TheVariants.BadText, TheVariants.NoMemory}
use Rattle.adf_runs.specs.{WorkFaults.IsNoWork, WorkFaults.path_refused, declared.work_fault.WorkFault.WorkFault}

-- what follows where a path is not read
pub no_path : {T : Type 0} (result : Result T WorkFault) (f : PathFault) (bad_path : Type 0) → IsErrAnd result (λ w. w ≡ path_refused f)
    → (f ≡ BadText → bad_path) → IfErr result (λ w. IsNoWork w ⊥ bad_path)
no_path (Ok x) f bad_path e h = tt
no_path (Err w) BadText bad_path e h = rw e (h refl)
no_path (Err w) NoMemory bad_path e h = rw e tt
