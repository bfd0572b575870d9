use Rattle.std.proofs.Common.{◌++◌, rules}
use Rattle.adf_disk_cmd.proofs.Endings.{part_written}
use Rattle.adf_disk_cmd.specs.Replies.{check_status}
use Rattle.adf_runs.specs.Streams.{seen}
use Rattle.adf_disk_cmd.proofs.answering.write_beside.Goals as goal

pub returns-in-Err : goal.returns-in-Err
returns-in-Err g c =
    part_written (check_status c.args.sound) (c.args.first.now ++ c.args.second.now) (seen g.W.Sink.held g.W.Sink.has_failed c.args.output.now c.write_both.new.output)
    (search rules) c.in-Err.ensures.err
