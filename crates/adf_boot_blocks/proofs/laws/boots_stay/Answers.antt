use Rattle.std.proofs.Common.{◌<◌, ℕ, List, arith}
use Rattle.std.specs.List.{All}
use Rattle.std.proofs.lemmas.List.Elements.{All-get_or}
use Rattle.adf_boot_blocks.proofs.{CarrySums.AreBytes, Restored.has_boot, Restored.other_restored}
use Rattle.adf_boot_blocks.proofs.laws.boots_stay.Goals as goal

are_bytes : (bs : List ℕ) → All (λ byte. byte < 256) bs → AreBytes bs
are_bytes bs all k lt = All-get_or (λ byte. byte < 256) bs k 0 lt all

pub returns-clause-other : goal.returns-clause-other
returns-clause-other c image boot long whole = other_restored image boot long whole

pub returns-clause-boot : goal.returns-clause-boot
returns-clause-boot c image boot all each long whole dos begins =
    has_boot image boot long whole dos (are_bytes image all 3 (omega (arith, long))) (are_bytes boot each) begins
