-- What the command answers to its words and its input. `image` are the bytes of an image, `boot` those of a boot file.
use Rattle.std.specs.Prelude.{◌≡◌, ◌⊎◌, [], IfSome, Option, Some, None, ◌++◌, ℕ, Bool, List, drop, if◌then◌else◌, length, nat_le, take}
use Rattle.adf_blocks.specs.Sizes.{blocks, middle}
use Rattle.adf_boot_blocks.specs.{BootBlocks.is_bootable, Refusals.copy_refusal, Refusals.image_refusal, Writing.cleared, Writing.copied, Writing.installed}
use Rattle.adf_boot_blocks.specs.{declared.boot.TheConstants.BOOT_LEN, declared.refusal.BootRefusal.BootRefusal, declared.refusal.TheConstants.MOST_BYTES}
use Rattle.adf_boot_blocks.specs.{declared.standard.TheConstants.STANDARD_CODE}
use Rattle.std.specs.Io.KnownBytes.{Appends}
use Rattle.adf_boot_cmd.specs.{CommandLine.AreRefusedByBoot, CommandLine.AsksBoot, CommandLine.BootRequestValue, CommandLine.boot_file}
use Rattle.adf_boot_cmd.specs.CommandLine.BootRequestValue.{tell as tells, install as installs, clear as clears, copy as copies}
use Rattle.adf_boot_cmd.specs.declared.command_line.TheConstants.{BOOT_USAGE}
use Rattle.adf_file_runs.specs.FileRuns.{KnownFiles, RunEndsOnFiles}
use Rattle.adf_runs.specs.{Streams.Seen, Commands.Command, Commands.Reply, Commands.on_output}

-- what is asked of an image: what its boot blocks are, or that they get standard code, none, or those of a boot file
pub data Order : Type 0 where
  tell : Order
  install : Order
  clear : Order
  copy : (boot : List ℕ) → Order

-- the status at which boot blocks are told: 0 where an Amiga starts from them
abbrev pub line_status : Bool → ℕ
line_status bootable = if bootable then 0 else 1

-- the same of an image, which may have none
abbrev pub told_status : List ℕ → ℕ
told_status image = if nat_le BOOT_LEN (length image) then line_status (is_bootable image) else 1

-- the boot blocks that an order leaves
abbrev pub changed_boot : Order → List ℕ → List ℕ
changed_boot tell image = take BOOT_LEN image
changed_boot install image = installed (take BOOT_LEN image) (middle (blocks image)) STANDARD_CODE
changed_boot clear image = cleared (take BOOT_LEN image)
changed_boot (copy boot) image = copied (take BOOT_LEN image) boot

-- why an order is refused, if it is
abbrev pub order_refusal : Order → List ℕ → Option BootRefusal
order_refusal (copy boot) image = copy_refusal image boot
order_refusal _ image = image_refusal image

-- an image gets the boot blocks that an order leaves, at status 0; one that is refused is not written, at status 1
abbrev pub Writes : Option BootRefusal → Order → List ℕ → Reply → Type 0
Writes (Some refusal) order image reply = (reply.status ≡ 1) × (reply.output ≡ [])
Writes None order image reply = reply ≡ on_output 0 (changed_boot order image ++ drop BOOT_LEN image)

-- the answer to an order and an input
abbrev pub BootAnswer : Order → List ℕ → Reply → Type 0
BootAnswer tell input reply = reply.status ≡ told_status (take BOOT_LEN input)
BootAnswer order input reply = Writes (order_refusal order input) order input reply

-- the order that a request is: where the bytes of the boot file are known, it copies the first of them
abbrev pub IsOrderOf : (bytes_of : List ℕ → Option (List ℕ)) → BootRequestValue → Order → Type 0
IsOrderOf bytes_of tells order = order ≡ tell
IsOrderOf bytes_of installs order = order ≡ install
IsOrderOf bytes_of clears order = order ≡ clear
IsOrderOf bytes_of (copies name) order = (boot : List ℕ) × (order ≡ copy boot) × IfSome (bytes_of name) (λ all. boot ≡ take BOOT_LEN all)

-- the command `adf-boot`, whose words have no path, over files of which some are known
abbrev pub boot_command : (bytes_of : List ℕ → Option (List ℕ)) → Command (List (List ℕ))
boot_command bytes_of = record {
  Request = Order;
  asks = λ words order. (r : BootRequestValue) × AsksBoot words r × IsOrderOf bytes_of r order;
  refuses = AreRefusedByBoot;
  asks_bad_path = λ words. ⊥;
  answer = BootAnswer;
  limit = λ order. MOST_BYTES;
  usage = BOOT_USAGE.now;
}

-- the words ask for the boot blocks of a file that is not had: output is as it was
abbrev pub LacksBoot : List (List ℕ) → ℕ → Seen → Type 0
LacksBoot words n output = (name : List ℕ) × AsksBoot words (copies name) × (n ≡ 3) × Appends output.before output.after []

-- how a run with these words ends, over files and an input
abbrev pub BootEnds : List (List ℕ) → KnownFiles → Seen → ℕ → Seen → Seen → Type 0
BootEnds words files input n output errors =
    RunEndsOnFiles (boot_command files.bytes_of) boot_file words files input n output errors ⊎ LacksBoot words n output
