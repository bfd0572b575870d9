use Rattle.adf_volume.proofs.PieceBytes.{inside_next}
use Rattle.adf_volume.proofs.pieces.PiecesIterator.next.Goals as goal

pub invariant_of-self : goal.invariant_of-self
invariant_of-self c =
    inside_next c.self.inside.bytes.now c.self.inside.datas.now c.in_ok-b.others.now c.in_ok-b.b.now c.self.inside.number c.in_ok-b.ensures.cases.0
    c.self.invariant
