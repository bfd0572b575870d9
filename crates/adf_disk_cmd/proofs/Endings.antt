-- How works end, and by which answers. `part` are the first bytes of an input, as many as count.
use Rattle.std.proofs.Common.{◌≡◌, ◌≤◌, ◌+◌, ◌*◌, ◌-◌, ◌/◌, ◌∙◌, inl, ℕ, Bool, true, List, [], Option, None, Some, IfSome, ap, arith, drop, length, min, refl, subst, take}
use Rattle.std.proofs.lemmas.List.{drop_min, length-drop, take-take, take_all, take_min}
use Rattle.adf_disk_cmd.specs.{Answers.DiskAnswer, Answers.OfBytes, Answers.OfDisk, Answers.OfPartitions, Surveys.IsSurveyed}
use Rattle.adf_disk_cmd.specs.{Builds.BuildsDisk, Proposals.Proposes, Replies.WritesOutput, Surveys.volume_at, Work.IsWorkOf, declared.work.TheConstants.MOST_DISK_BYTES}
use Rattle.adf_disk_cmd.specs.declared.work.Work.{Work, TheVariants.Check}
use Rattle.adf_partitions.specs.{declared.fault.DiskFault.DiskFault, declared.partition.Partition.Partition, declared.place.Place.Place}
use Rattle.std.proofs.lemmas.Grind.{common_steps}
use Rattle.adf_runs.proofs.{Endings.ends_weaker, PendingText.appends_nil}
use Rattle.adf_runs.specs.{Commands.Reply, Outcomes.Does, Outcomes.EndsBy, Outcomes.after_reading, Streams.AppendsPart, Streams.Seen}
use Rattle.adf_runs.specs.declared.outcome.Outcome.{Outcome, TheVariants.WriteFault}
use Rattle.adf_runs.specs.declared.streams.StreamFault.{StreamFault, TheVariants.Device, TheVariants.NoMemory}
use Rattle.adf_disk_cmd.specs.CommandLine.{DiskRequestValue, build, check, list, propose, search, volume}

-- what is answered to the front of an input that is longer than the largest disk is answered to the whole of it
pub long_answers : (r : DiskRequestValue) (front bytes : List ℕ) → front ≡ take (MOST_DISK_BYTES + 1) bytes → (reply : Reply)
    → DiskAnswer r front reply
    → DiskAnswer r bytes reply
long_answers r front bytes e reply h =
    let same : take MOST_DISK_BYTES front ≡ take MOST_DISK_BYTES bytes =
    ap (take MOST_DISK_BYTES) e ∙ take-take MOST_DISK_BYTES (MOST_DISK_BYTES + 1) bytes (omega arith) in
    subst (λ (l : List ℕ). OfBytes r l reply) same h

-- as many bytes count as the largest disk has
pub counted : (bytes : List ℕ) (n : ℕ) → n ≡ min (length bytes) MOST_DISK_BYTES → take n bytes ≡ take MOST_DISK_BYTES bytes
counted bytes n e =
    let swapped : n ≡ min MOST_DISK_BYTES (length bytes) = omega (arith, e) in
    ap (λ (k : ℕ). take k bytes) swapped ∙ take_min MOST_DISK_BYTES bytes

-- what is told of the partitions that are found on a disk answers the request
pub told_ends : (r : DiskRequestValue) (bytes : List ℕ) (ps : List Partition) (u : Option DiskFault) (w : Outcome) (o o' : Option (List ℕ))
    → IsSurveyed bytes (length bytes / 512) ps u → EndsBy (OfPartitions r bytes ps u) w o o' → EndsBy (OfDisk r bytes) w o o'
told_ends r bytes ps u w o o' disk h = ends_weaker (OfPartitions r bytes ps u) (OfDisk r bytes) w o o' (λ reply tells. (ps, u, disk, tells)) h

-- an answer of a disk answers the request
of_bytes : (r : DiskRequestValue) (bytes : List ℕ) (reply : Reply) → OfDisk r bytes reply → OfBytes r bytes reply
of_bytes (list json) bytes reply h = h
of_bytes (check json) bytes reply h = h
of_bytes (volume w) bytes reply h = h
of_bytes (search json) bytes reply (ps, u, disk, never) = absurd never
of_bytes propose bytes reply (ps, u, disk, never) = absurd never
of_bytes build bytes reply (ps, u, disk, never) = absurd never

-- what is answered to as many bytes as count is the answer to an input
pub disk_ends : (r : DiskRequestValue) (bytes part : List ℕ) (w : Outcome) (o o' : Option (List ℕ)) → part ≡ take MOST_DISK_BYTES bytes
    → EndsBy (OfDisk r part) w o o' → EndsBy (DiskAnswer r bytes) w o o'
disk_ends r bytes part w o o' e h = ends_weaker (OfDisk r part) (DiskAnswer r bytes) w o o'
    (λ reply tells. subst (λ (l : List ℕ). OfBytes r l reply) e (of_bytes r part reply tells)) h

pub plan_ends : (bytes part : List ℕ) (w : Outcome) (o o' : Option (List ℕ)) → part ≡ take MOST_DISK_BYTES bytes → EndsBy (BuildsDisk part) w o o'
    → EndsBy (DiskAnswer build bytes) w o o'
plan_ends bytes part w o o' e h = ends_weaker (BuildsDisk part) (DiskAnswer build bytes) w o o'
    (λ reply tells. subst (λ (l : List ℕ). BuildsDisk l reply) e tells) h

pub search_ends : (json : Bool) (bytes : List ℕ) (w : Outcome) (o o' : Option (List ℕ)) → EndsBy (λ reply. reply.status ≤ 1) w o o'
    → EndsBy (DiskAnswer (search json) bytes) w o o'
search_ends json bytes w o o' h = ends_weaker (λ reply. reply.status ≤ 1) (DiskAnswer (search json) bytes) w o o' (λ reply tells. tells) h

pub proposal_ends : (bytes : List ℕ) (w : Outcome) (o o' : Option (List ℕ)) → EndsBy Proposes w o o' → EndsBy (DiskAnswer propose bytes) w o o'
proposal_ends bytes w o o' h = ends_weaker Proposes (DiskAnswer propose bytes) w o o' (λ reply tells. tells) h

-- the work of `check` is that of no other request
pub checks : (json : Bool) (work : Work) (r : DiskRequestValue) → work ≡ Check json → IsWorkOf work r → r ≡ check json
checks json work r e serves = subst (λ (w : Work). IsWorkOf w r) e serves

-- a slice of a slice is the volume
pub volume_is : (bytes : List ℕ) (q : Place) (first count : ℕ) → first ≡ min (q.first * 512) (length bytes)
    → count ≡ min (q.blocks * 512) (length (take (length bytes - first) (drop first bytes)))
    → take count (take (length bytes - first) (drop first bytes)) ≡ volume_at bytes q
unfolding volume_at
volume_is bytes q first count e f = grind (arith, common_steps, take_all, length-drop, drop_min, take_min)

-- no input came
pub unread_ends : (f : StreamFault) (w : Outcome) (answers : List ℕ → Reply → Type 0) (left o : Option (List ℕ)) → w ≡ after_reading f
    → IfSome left (λ all. EndsBy (answers all) w o o)
unread_ends f w answers None o e = tt
unread_ends Device w answers (Some all) o e = rw e (appends_nil o)
unread_ends NoMemory w answers (Some all) o e = rw e (inl (appends_nil o))

-- a front of an answer is written
pub part_written : (n : ℕ) (bytes : List ℕ) (output : Seen) → output.failed ≡ true → AppendsPart output.failed output.before output.after bytes
    → Does (WritesOutput n bytes) WriteFault output
part_written n bytes output failed part = record {
  ends = (
    record { status = n; output = bytes; errors = [] },
    (refl, refl),
    subst (λ (b : Bool). AppendsPart b output.before output.after bytes) failed part,
  );
  read = refl;
  written = failed;
}
