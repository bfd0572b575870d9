use Rattle.std.proofs.Common.{◌≡◌, ◌++◌, ℕ, List, false}
use Rattle.adf_base.specs.declared.dates.Stamp.{Stamp}
use Rattle.adf_tree.specs.Tree.{Tree}
use Rattle.adf_volume.specs.{Fits.Fits, Layout.Layout}
use Rattle.adf_texts.specs.VolumeLines.{AreDates, lines_of_entries}
use Rattle.adf_runs.specs.Streams.{Pending}
use Rattle.adf_cmd.proofs.volume_listing.write_entries.Given as goal

abbrev pub invariant-loop-i : goal.invariant-loop-i
invariant-loop-i g l = record {
  works : g.W.Sink.has_failed l.output ≡ false;
  so_far : (date : Stamp → List ℕ) (t : Tree) (m : Layout) → AreDates date → Fits l.volume t m
      → Pending (g.W.Sink.held l.fn.output) (g.W.Sink.held l.output) l.text.items (l.fn.text.items ++ lines_of_entries date t.entries l.i);
}
