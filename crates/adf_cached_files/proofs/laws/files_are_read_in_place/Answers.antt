use Rattle.adf_cached_files.proofs.SameParts.{file_in_place}
use Rattle.adf_cached_files.proofs.laws.files_are_read_in_place.Goals as goal

pub returns : goal.returns
returns c = file_in_place
