use Rattle.std.proofs.Common.{◌≡◌, ◌++◌, ◌<◌, ◌≤◌, length}
use Rattle.std.specs.List.{All}
use Rattle.adf_names.specs.Escapes.{escaped}
use Rattle.adf_names.proofs.escapes.read_escaped.Given as goal

abbrev pub invariant-loop-rest : goal.invariant-loop-rest
invariant-loop-rest g l = record {
  spells : l.text ≡ escaped l.bytes.items ++ l.rest;
  are_bytes : All (λ c. c < 256) l.bytes.items;
  short : length l.bytes.items ≤ g.row.MOST;
}

abbrev pub decreases-loop-rest : goal.decreases-loop-rest
decreases-loop-rest g l = length l.rest
