use Rattle.std.proofs.Common.{◌≡◌, ◌∙◌, ap, arith, length, min, take}
use Rattle.std.proofs.lemmas.List.{take_min}
use Rattle.adf_disk_cmd.specs.declared.list_input.TheConstants.{TABLES_LEN}
use Rattle.adf_disk_cmd.proofs.volumes.tables_of.Goals as goal

pub returns : goal.returns
returns c =
    let swapped : c.min.result ≡ min TABLES_LEN (length c.args.bytes.now) = omega (arith, c.min.ensures) in
    ap (λ k. take k c.args.bytes.now) swapped ∙ take_min TABLES_LEN c.args.bytes.now
