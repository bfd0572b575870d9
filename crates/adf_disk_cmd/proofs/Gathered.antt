-- Volumes of a plan that are gathered. p is the plan of a partition, ps are partitions, c the number of blocks of a cylinder; `lines` is the text from the
-- line of the first of ps on, `left` are the given bytes that are left, `given` the volumes so far.
use Rattle.std.proofs.Common.{◌≡◌, ◌≤◌, ◌<◌, ◌+◌, ◌*◌, ◌++◌, ℕ, List, [], ◌∷◌, None, Option, Some, append_assoc, refl, subst}
use Rattle.std.proofs.Common.{IfSome, drop, get_or, length}
use Rattle.std.proofs.lemmas.List.{drop_all}
use Rattle.adf_disk_cmd.specs.HostPlans.{AreGathered, AreHostBytes, TakesVolume, behind_left, left_volume}
use Rattle.adf_disk_cmd.specs.HostPlans.{volume_refusal}
use Rattle.adf_partitions.proofs.PlanSizes.{plans_at}
use Rattle.adf_partitions.specs.declared.plan.PartitionPlan.{PartitionPlan}
use Rattle.adf_plans.specs.{HostFiles.host_of, PlanTexts.behind_line, PlanTexts.first_line}
use Rattle.adf_runs.specs.Streams.{AreFirst}

-- what is read of a source is what is known of it
pub file_read : (known left : Option (List ℕ)) (n : ℕ) (bytes : List ℕ) → IfSome known (λ all. left ≡ Some all) → AreFirst n left bytes
    → AreFirst n known bytes
file_read None left n bytes same h = tt
file_read (Some all) left n bytes same h = subst (λ (o : Option (List ℕ)). AreFirst n o bytes) same h

-- the volume of a host file
pub host_taken : (bytes_of : List ℕ → Option (List ℕ)) (need : ℕ) (p : PartitionPlan) (o : Option (List ℕ)) (host left bytes rest : List ℕ)
    → Some host ≡ o → AreHostBytes bytes_of need host bytes → volume_refusal need p bytes ≡ None → rest ≡ left
    → TakesVolume bytes_of need p o left bytes rest
host_taken bytes_of need p o host left bytes rest some read right same =
    subst (λ x. TakesVolume bytes_of need p x left bytes rest) some (read, right, same)

-- the volume of no host file
pub left_taken : (bytes_of : List ℕ → Option (List ℕ)) (need : ℕ) (p : PartitionPlan) (o : Option (List ℕ)) (left rest : List ℕ)
    → None ≡ o → rest ≡ behind_left need p left → TakesVolume bytes_of need p o left (left_volume need p left) rest
left_taken bytes_of need p o left rest none same =
    subst (λ x. TakesVolume bytes_of need p x left (left_volume need p left) rest) none (refl, same)

-- what is gathered so far, of a plan and the text behind its first line
abbrev pub GathersOn : (List ℕ → Option (List ℕ)) → ℕ → List PartitionPlan → (text behind : List ℕ) → List PartitionPlan → (lines left given : List ℕ)
    → Type 0
GathersOn bytes_of c all text behind ps lines left given =
    (more : List ℕ) → AreGathered bytes_of c ps lines left more → AreGathered bytes_of c all text behind (given ++ more)

pub gathers : (bytes_of : List ℕ → Option (List ℕ)) (c : ℕ) (all : List PartitionPlan) (text behind given : List ℕ) → given ≡ []
    → GathersOn bytes_of c all text behind all text behind given
gathers bytes_of c all text behind given none = λ more are. rw none are

module _ (bytes_of : List ℕ → Option (List ℕ)) (c : ℕ) (all : List PartitionPlan) (text behind : List ℕ) where
  pub gathered_next : (i : ℕ) (p : PartitionPlan) (lines left given bytes rest next : List ℕ) → i < length all → p ≡ get_or all i p
      → GathersOn bytes_of c all text behind (drop i all) lines left given
      → TakesVolume bytes_of (p.cylinders * c * 512) p (host_of (first_line lines)) left bytes rest → next ≡ given ++ bytes
      → GathersOn bytes_of c all text behind (drop (i + 1) all) (behind_line lines) rest next
  unfolding AreGathered
  gathered_next i p lines left given bytes rest next lt at h takes put =
      let h' : GathersOn bytes_of c all text behind (p ∷ drop (i + 1) all) lines left given =
      subst (λ ps. GathersOn bytes_of c all text behind ps lines left given) (plans_at all i p lt at) h in
      λ more are. rw (put, append_assoc given bytes more) (h' (bytes ++ more) (bytes, rest, more, takes, are, refl))

  pub gathered_end : (i : ℕ) (lines left given : List ℕ) → length all ≤ i
      → GathersOn bytes_of c all text behind (drop i all) lines left given → AreGathered bytes_of c all text behind (given ++ left)
  unfolding AreGathered
  gathered_end i lines left given le h =
      let h' : GathersOn bytes_of c all text behind [] lines left given =
      subst (λ ps. GathersOn bytes_of c all text behind ps lines left given) (drop_all i all le) h in h' left refl
