use Rattle.std.proofs.{Common.arith, lemmas.Grind.common_steps}
use Rattle.adf_volume.proofs.PieceBytes.{piece_ffs, piece_ofs}
use Rattle.adf_volume.proofs.pieces.piece_of.Goals as goal

pub returns-in-Ofs : goal.returns-in-Ofs
returns-in-Ofs c = grind (arith, common_steps, piece_ofs)

pub returns-in-Ffs : goal.returns-in-Ffs
returns-in-Ffs c = grind (arith, common_steps, piece_ffs)
