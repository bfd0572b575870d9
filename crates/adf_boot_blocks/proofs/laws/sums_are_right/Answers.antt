use Rattle.std.proofs.lemmas.List.Elements.{All-get_or}
use Rattle.std.proofs.Common.{◌<◌}
use Rattle.adf_boot_blocks.proofs.CarrySums.{sum_is_right, words_of_bytes}
use Rattle.adf_boot_blocks.proofs.laws.sums_are_right.Goals as goal

pub returns : goal.returns
returns c image bytes long =
    sum_is_right image (words_of_bytes image (λ k lt. All-get_or (λ byte. byte < 256) image k 0 lt bytes) long) long
