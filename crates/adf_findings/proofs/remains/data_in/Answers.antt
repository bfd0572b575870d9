use Rattle.std.proofs.{Common.ap₂, Common.arith, lemmas.Grind.common_steps}
use Rattle.adf_volume.proofs.PieceBytes.{piece_ffs, piece_ofs}
use Rattle.adf_findings.proofs.remains.data_in.Goals as goal

pub returns-in-Ofs : goal.returns-in-Ofs
returns-in-Ofs c = grind (arith, common_steps, piece_ofs, ap₂)

pub returns-in-Ffs : goal.returns-in-Ffs
returns-in-Ffs c = grind (arith, common_steps, piece_ffs, ap₂)
