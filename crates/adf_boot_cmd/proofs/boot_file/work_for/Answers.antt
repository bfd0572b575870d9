use Rattle.std.proofs.Common.{ap}
use Rattle.adf_boot_cmd.specs.CommandLine.{boot_request_value}
use Rattle.adf_boot_cmd.proofs.boot_file.work_for.Goals as goal

pub returns-in-Err-clause-fault : goal.returns-in-Err-clause-fault
returns-in-Err-clause-fault g c = (c.in-Copy.name.now, ap boot_request_value c.in-Copy.is)
