use Rattle.std.proofs.Common.{◌≡◌, drop}
use Rattle.adf_file_runs.specs.About.{telling_among}
use Rattle.adf_words.specs.CommandLine.{texts_of}
use Rattle.adf_file_runs.proofs.about.telling_among.Given as goal

abbrev pub invariant-loop-word : goal.invariant-loop-word
invariant-loop-word l = telling_among (texts_of l.words) ≡ telling_among (texts_of (drop l.word-index l.words))
