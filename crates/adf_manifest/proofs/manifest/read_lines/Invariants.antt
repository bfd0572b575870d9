use Rattle.std.proofs.Common.{◌≡◌, ◌++◌, length, option_map}
use Rattle.adf_manifest.specs.{Manifest.IsWell, Manifest.Manifest, Manifest.manifest_lines, Manifest.between_feeds, Manifest.lines_behind, Reader.StateMatches}
use Rattle.adf_manifest.proofs.manifest.read_lines.Given as goal

abbrev pub invariant-loop-left : goal.invariant-loop-left
invariant-loop-left l =
    (m : Manifest) × IsWell m × StateMatches l.state m ×
    (between_feeds l.text ≡ manifest_lines m ++ lines_behind (option_map (λ rest. rest.now) l.left))
    × (l.number ≡ length (manifest_lines m))

abbrev pub decreases-loop-left : goal.decreases-loop-left
decreases-loop-left l = length (lines_behind (option_map (λ rest. rest.now) l.left))
