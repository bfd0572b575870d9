use Rattle.std.proofs.Common.{◌≡◌, false}
use Rattle.adf_cmd.specs.Listing.{lines_of_blocks}
use Rattle.adf_runs.specs.Streams.{Pending}
use Rattle.adf_cmd.proofs.listing.write_listing.Given as goal

abbrev pub invariant-loop-b : goal.invariant-loop-b
invariant-loop-b g l = record {
  works : g.W.Sink.has_failed l.output ≡ false;
  so_far : Pending (g.W.Sink.held l.fn.output) (g.W.Sink.held l.output) l.text.items (lines_of_blocks l.image l.b);
}
