-- What is done for words, of a disk or of a plan.
use Rattle.std.specs.Prelude.{◌≡◌}
use Rattle.adf_disk_cmd.specs.{CommandLine.DiskRequestValue, CommandLine.build, CommandLine.propose, CommandLine.search, Work.IsWorkOf}
use Rattle.adf_disk_cmd.specs.declared.job.Job.{Job, TheVariants.Tell, TheVariants.Search, TheVariants.Propose, TheVariants.Build}

-- the job is that of a request
abbrev pub IsJobOf : Job → DiskRequestValue → Type 0
IsJobOf (Tell work) r = IsWorkOf work r
IsJobOf (Search json) r = r ≡ search json
IsJobOf Propose r = r ≡ propose
IsJobOf Build r = r ≡ build
