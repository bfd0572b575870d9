use Rattle.std.proofs.Common.{take}
use Rattle.adf_words.specs.CommandLine.{texts_of}
use Rattle.adf_merge_cmd.specs.Answers.{AreReadings, map_bytes}
use Rattle.adf_merge_cmd.proofs.names.read_map_texts.Given as goal

abbrev pub invariant-loop-i : goal.invariant-loop-i
invariant-loop-i g l = AreReadings (map_bytes (g.F.Files.bytes_of l.files)) (take l.i (texts_of l.names)) l.texts.items
