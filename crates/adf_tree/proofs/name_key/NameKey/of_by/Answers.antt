use Rattle.std.proofs.Common.{arith}
use Rattle.adf_names.proofs.RaisedNames.{raised_stays}
use Rattle.adf_tree.proofs.name_key.NameKey.of_by.Goals as goal

pub returns-in-International-clause-key : goal.returns-in-International-clause-key
returns-in-International-clause-key c = grind (arith, raised_stays)

pub returns-in-International-clause-short : goal.returns-in-International-clause-short
returns-in-International-clause-short c = grind (arith, raised_stays)
