use Rattle.std.proofs.Common.{◌<◌, length, rules}
use Rattle.adf_shelf_cmd.proofs.NameLists.{gives_piece, none_left}
use Rattle.adf_shelf_cmd.proofs.names.TextNamesNames.next.Goals as goal

pub returns-then-count-eq0-clause-gives : goal.returns-then-count-eq0-clause-gives
returns-then-count-eq0-clause-gives g c = none_left c.args.self.now.end _ (c.in-Ok.ensures.end c.if-count-eq0.true)

pub returns-else-count-eq0-clause-gives : goal.returns-else-count-eq0-clause-gives
returns-else-count-eq0-clause-gives g c =
    let text = c.read_until.new.buf.items in
    let some : 0 < length text = search rules in
    gives_piece c.args.self.now.end _ _ text c.strip_end.new.name.items (rw c.clear.ensures.items at c.in-Ok.ensures.bytes)
    c.in-Ok.ensures.rest some c.strip_end.ensures
