use Rattle.std.proofs.Common.{◌∙◌, inr, sym}
use Rattle.adf_disk_cmd.specs.Builds.{BuildsDisk, RefusesPlan}
use Rattle.adf_runs.proofs.Endings.{ends_weaker}
use Rattle.adf_disk_cmd.proofs.building.build_disk.Goals as goal

pub returns-in-Err : goal.returns-in-Err
returns-in-Err g c =
    let text = c.args.text.now in
    let held = g.W.Sink.held c.args.output.now in
    let blames = c.refuse_text.ensures.blames in record {
      ends = ends_weaker (RefusesPlan text) (BuildsDisk text) c.refuse_text.result held held (λ reply h. inr h)
          (c.refuse_text.ensures.ends text c.in-Err.ensures.none held);
      read = sym blames.read;
      written = c.requires ∙ blames.written;
    }
