use Rattle.adf_volume.proofs.Chains.{chain_entries, entry_is_at}
use Rattle.adf_volume.proofs.laws.chains_of_numbers.Goals as goal

pub returns-clause-entries : goal.returns-clause-entries
returns-clause-entries c = chain_entries

pub returns-clause-numbers : goal.returns-clause-numbers
returns-clause-numbers c = entry_is_at
