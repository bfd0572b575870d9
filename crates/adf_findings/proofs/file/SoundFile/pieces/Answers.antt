use Rattle.std.proofs.Common.{◌<◌, ◌^◌, sym, subst, arith}
use Rattle.adf_blocks.specs.declared.layout.TheConstants.{SIZE}
use Rattle.adf_volume.specs.{Image.word_in, Pieces.AreInside}
use Rattle.adf_findings.specs.Files.{FileValue}
use Rattle.adf_findings.proofs.SoundFiles.{blocks_inside}
use Rattle.adf_findings.proofs.file.SoundFile.pieces.Goals as goal

pub new-requires : goal.new-requires
new-requires c =
    let f : FileValue = record { image = c.self.inside.image.now; head = c.self.inside.head; blocks = c.self.inside.blocks.items } in
    let small : word_in f.image f.head SIZE < 2 ^ 32 = omega (arith, c.self.invariant.1) in
    subst (λ bs. AreInside f.image bs 1) (sym c.deref.ensures.value) (blocks_inside f c.self.invariant.2 small)
