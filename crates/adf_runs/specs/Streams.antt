-- What whole reads and writes take and add.
use Rattle.std.specs.Prelude.{◌≡◌, ◌≢◌, ℕ, ◌≤◌, Bool, true, false, List, ◌++◌, ◌-◌, drop, length, min, [], take, Option, Some, IfSome, Result, Err, codes}
use Rattle.std.specs.Io.KnownBytes.{Appends, Consumes}
use Rattle.adf_runs.specs.declared.streams.StreamFault.{StreamFault, TheVariants.Device, TheVariants.NoMemory}

-- at most n of the known bytes were taken
abbrev pub TakesAtMost : ℕ → Option (List ℕ) → Option (List ℕ) → Type 0
TakesAtMost n old new = (bs : List ℕ) × (length bs ≤ n) × Consumes old new bs

-- n of the known bytes were taken
abbrev pub TakesCount : ℕ → Option (List ℕ) → Option (List ℕ) → Type 0
TakesCount n old new = (bs : List ℕ) × (length bs ≡ n) × Consumes old new bs

-- the bytes are the first n of the known ones, or all where there are fewer
abbrev pub AreFirst : ℕ → Option (List ℕ) → List ℕ → Type 0
AreFirst n known bytes = IfSome known (λ all. bytes ≡ take n all)

-- they are, and they were taken
abbrev pub TakesFirst : ℕ → Option (List ℕ) → Option (List ℕ) → List ℕ → Type 0
TakesFirst n old new bytes = AreFirst n old bytes × Consumes old new bytes

-- so many bytes were taken: n, or all where there are fewer
abbrev pub PassesOver : ℕ → Option (List ℕ) → Option (List ℕ) → ℕ → Type 0
PassesOver n old new count = (bytes : List ℕ) × TakesFirst n old new bytes × (length bytes ≡ count)

-- the bytes between two places of all, and how many all are, up to a limit
abbrev pub IsExcerpt : ℕ → ℕ → ℕ → List ℕ → List ℕ → ℕ → Type 0
IsExcerpt from to limit all bytes len = (bytes ≡ take (to - from) (drop from all)) × (len ≡ min limit (length all))

-- a front part of `whole` was added to the known bytes, and where the device has failed not all of it
abbrev pub AppendsPart : Bool → Option (List ℕ) → Option (List ℕ) → List ℕ → Type 0
AppendsPart failed old new whole = (part rest : List ℕ) × (whole ≡ part ++ rest) × (failed ≡ true → rest ≢ []) × Appends old new part

-- the text was added, or where the device has failed a front part of it, but not all
abbrev pub Says : Bool → Option (List ℕ) → Option (List ℕ) → List ℕ → Type 0
Says false old new text = Appends old new text
Says true old new text = AppendsPart true old new text

-- a device over a run: what was known of it before and is after, of what it will give or of what it holds, and whether it has failed
pub record Seen : Type 0 where
  pub before : Option (List ℕ)
  pub after : Option (List ℕ)
  pub failed : Bool

-- a device over a run, by what tells of it what is known and whether it has failed
abbrev pub seen : {D : Type 0} → (D → Option (List ℕ)) → (D → Bool) → D → D → Seen
seen known has_failed old new = record { before = known old; after = known new; failed = has_failed new }

-- a device of which the same is known before and after
abbrev pub still : Option (List ℕ) → Bool → Seen
still known failed = record { before = known; after = known; failed = failed }

-- bytes at hand, which cannot fail
abbrev pub at_hand : List ℕ → Seen
at_hand bytes = still (Some bytes) false

-- the text was added to errors, or where they have failed a front part of it, but not all
abbrev pub IsTold : Seen → List ℕ → Type 0
IsTold errors text = Says errors.failed errors.before errors.after text

-- the fault is that of the device
abbrev pub is_device : {T : Type 0} → Result T StreamFault → Bool
is_device (Err Device) = true
is_device _ = false

-- the text of the fault
abbrev pub stream_fault_text : StreamFault → List ℕ
stream_fault_text Device = codes "device failed"
stream_fault_text NoMemory = codes "no memory"

-- of `done`, all but the text that waits is written
abbrev pub Pending : Option (List ℕ) → Option (List ℕ) → List ℕ → List ℕ → Type 0
Pending old new text done = (written : List ℕ) × Appends old new written × (done ≡ written ++ text)

-- what was pending still is
abbrev pub KeepsPending : Option (List ℕ) → List ℕ → Option (List ℕ) → List ℕ → Type 0
KeepsPending old text new text' = (a : Option (List ℕ)) (done : List ℕ) → Pending a old text done → Pending a new text' done
