use Rattle.std.proofs.Common.{◌≡◌, drop}
use Rattle.adf_words.specs.CommandLine.{texts_of}
use Rattle.adf_merge_cmd.specs.Answers.{named_maps}
use Rattle.adf_merge_cmd.proofs.NamedMaps.{behind}
use Rattle.adf_merge_cmd.proofs.maps.named_maps.Given as goal

abbrev pub invariant-loop-i : goal.invariant-loop-i
invariant-loop-i l = behind l.maps.items (named_maps l.size (drop l.i (texts_of l.names)) (drop l.i l.texts)) ≡ named_maps l.size (texts_of l.names) l.texts
