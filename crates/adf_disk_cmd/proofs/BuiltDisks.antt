-- Disks that are built. p is the plan of a partition, n the number of its blocks, ps are partitions, c the number of blocks of a cylinder; `given` are
-- the bytes of given volumes, vs the volumes of ps, v that of p.
use Rattle.std.proofs.Common.{◌≡◌, ◌≤◌, ◌<◌, ◌+◌, ◌*◌, ◌∙◌, ℕ, Bool, true, false, List, [], ◌∷◌, ◌++◌, ap, arith, append-nil, append_assoc, drop, take}
use Rattle.std.proofs.Common.{Option, get_or, ◌^◌, inl, inr, length, length-drop, length-take, refl, subst, suc, sym, zero, if◌then◌else◌}
use Rattle.std.proofs.lemmas.List.{take-append-drop}
use Rattle.std.proofs.lemmas.List.{drop_all, take_all, take_more, Folds.list_all_at}
use Rattle.std.specs.List.{flat_map, list_all}
use Rattle.std.proofs.{lemmas.Bool.and_parts, lemmas.Grind.common_steps}
use Rattle.adf_disk_cmd.specs.Builds.{ArePlannedVolumes, HasPlanned, IsFrontOfDisk, IsPartOfVolume, IsPlannedVolume, behind_volume, given_cylinders, given_size}
use Rattle.adf_disk_cmd.specs.Builds.ArePlannedVolumes.{more, none}
use Rattle.adf_partitions.proofs.PlanSizes.{blocks_fit, cylinders_fit, plans_at}
use Rattle.adf_partitions.proofs.PlannedVolumes.{disk_size, volumes_stand}
use Rattle.adf_partitions.specs.declared.plan.PartitionPlan.{PartitionPlan}
use Rattle.adf_plans.specs.PlanTexts.{has_volume, is_plan}
use Rattle.adf_partitions.specs.Plans.{AreTablesOfPlan, AreVolumes, IsPlan, PlanValue, cylinder_blocks, cylinders_of}
use Rattle.adf_runs.specs.Streams.{AppendsPart}
use Rattle.adf_runs.proofs.{KnownBytes.appends_two, PendingText.part_behind}
use Rattle.std.specs.Io.KnownBytes.{Appends}

-- volumes one behind the other
abbrev pub joined : List (List ℕ) → List ℕ
joined vs = flat_map (λ (v : List ℕ). v) vs

joined_push : (vs : List (List ℕ)) (v : List ℕ) → joined (vs ++ v ∷ []) ≡ joined vs ++ v
joined_push [] v = append-nil v
joined_push (w ∷ vs) v = ap (λ (l : List ℕ). w ++ l) (joined_push vs v) ∙ sym (append_assoc w (joined vs) v)

-- the given bytes are as many as partitions need
abbrev pub AreEnough : ℕ → List PartitionPlan → List ℕ → Type 0
AreEnough c ps given = length given ≡ given_cylinders ps * c * 512

taken : (b : Bool) (k m c : ℕ) (given : List ℕ) → length given ≡ ((if b then k else 0) + m) * c * 512 → b ≡ true → k * c * 512 ≤ length given
taken true k m c given h e = omega (arith, h)
taken false k m c given h e = absurd cc

left : (b : Bool) (k m c : ℕ) (given : List ℕ) → length given ≡ ((if b then k else 0) + m) * c * 512
    → length (if b then drop (k * c * 512) given else given) ≡ m * c * 512
left true k m c given h = omega (arith, h, length-drop (k * c * 512) given)
left false k m c given h = omega (arith, h)

pub first_enough : (c : ℕ) (p : PartitionPlan) (ps : List PartitionPlan) (given : List ℕ) → AreEnough c (p ∷ ps) given → p.given ≡ true
    → p.cylinders * c * 512 ≤ length given
unfolding given_cylinders
first_enough c p ps given h e = taken p.given p.cylinders (given_cylinders ps) c given h e

pub others_enough : (c : ℕ) (p : PartitionPlan) (ps : List PartitionPlan) (given : List ℕ) → AreEnough c (p ∷ ps) given
    → AreEnough c ps (behind_volume (p.cylinders * c) p given)
unfolding given_cylinders
others_enough c p ps given h = left p.given p.cylinders (given_cylinders ps) c given h

-- the volumes have the sizes of their partitions
volumes_push : (c : ℕ) (ps : List PartitionPlan) (vs : List (List ℕ)) (p : PartitionPlan) (v : List ℕ) → AreVolumes c ps vs
    → length v ≡ p.cylinders * c * 512 → AreVolumes c (ps ++ p ∷ []) (vs ++ v ∷ [])
volumes_push c [] [] p v h long = (long, tt)
volumes_push c (q ∷ ps) (w ∷ vs) p v h long = (h.0, volumes_push c ps vs p v h.1 long)
volumes_push c [] (w ∷ vs) p v h long = absurd h
volumes_push c (q ∷ ps) [] p v h long = absurd h

are_volumes : (c : ℕ) (given : List ℕ) {ps : List PartitionPlan} {left : List ℕ} {vs : List (List ℕ)} → ArePlannedVolumes c given ps left vs
    → AreVolumes c ps vs
are_volumes c given none = tt
are_volumes c given (more {ps = ps} {p = p} {volume = v} {vs = vs} h one) = volumes_push c ps vs p v (are_volumes c given h) one.long

take_one : (ps : List PartitionPlan) (i : ℕ) (p : PartitionPlan) → i < length ps → p ≡ get_or ps i p → take (i + 1) ps ≡ take i ps ++ p ∷ []
take_one ps i p lt e = grind (arith, common_steps, take_more)

-- what was written of a disk before a partition: its tables, and the volumes before
pub record IsWritten (plan : PlanValue) (given tables : List ℕ) (i : ℕ) (before now : Option (List ℕ)) (left : List ℕ) : Type 0 where
  pub volumes : List (List ℕ)
  pub planned : ArePlannedVolumes (cylinder_blocks plan) given (take i plan.partitions) left volumes
  pub written : Appends before now (tables ++ joined volumes)
  pub enough : AreEnough (cylinder_blocks plan) (drop i plan.partitions) left

pub tables_written : (plan : PlanValue) (given tables : List ℕ) (before now : Option (List ℕ)) → Appends before now tables
    → AreEnough (cylinder_blocks plan) plan.partitions given → IsWritten plan given tables 0 before now given
tables_written plan given tables before now h enough =
    record { volumes = []; planned = none; written = subst (Appends before now) (sym (append-nil tables)) h; enough = enough }

-- the front of a disk
front_of : (plan : PlanValue) (given tables : List ℕ) (i : ℕ) (left : List ℕ) (vs : List (List ℕ)) → AreTablesOfPlan plan tables
    → ArePlannedVolumes (cylinder_blocks plan) given (take i plan.partitions) left vs → IsFrontOfDisk plan given (tables ++ joined vs)
front_of plan given tables i left vs are planned = record {
  tables = tables;
  done = take i plan.partitions;
  others = drop i plan.partitions;
  left = left;
  volumes = vs;
  are = are;
  parts = sym (take-append-drop i plan.partitions);
  planned = planned;
  bytes = refl;
}

-- of the tables a front part is written
pub tables_part : {failed : Bool} (plan : PlanValue) (given tables : List ℕ) (before now : Option (List ℕ)) → AreTablesOfPlan plan tables
    → AppendsPart failed before now tables → (front : List ℕ) × IsFrontOfDisk plan given front × AppendsPart failed before now front
tables_part {failed} plan given tables before now are q =
    (tables ++ [], front_of plan given tables 0 given [] are none, subst (AppendsPart failed before now) (sym (append-nil tables)) q)

module _ (plan : PlanValue) (given tables : List ℕ) (are : AreTablesOfPlan plan tables) (i : ℕ) (p : PartitionPlan) (within : i < length plan.partitions)
    (at : p ≡ get_or plan.partitions i p) (before now next : Option (List ℕ)) (left : List ℕ)
    (h : IsWritten plan given tables i before now left) where
  one_more : take (i + 1) plan.partitions ≡ take i plan.partitions ++ p ∷ []
  one_more = take_one plan.partitions i p within at

  planned_more : (v : List ℕ) → IsPlannedVolume (p.cylinders * cylinder_blocks plan) p left v
      → ArePlannedVolumes (cylinder_blocks plan) given (take (i + 1) plan.partitions) (behind_volume (p.cylinders * cylinder_blocks plan) p left)
      (h.volumes ++ v ∷ [])
  planned_more v one =
      subst (λ (ps : List PartitionPlan). ArePlannedVolumes (cylinder_blocks plan) given ps (behind_volume (p.cylinders * cylinder_blocks plan) p left)
      (h.volumes ++ v ∷ [])) (sym one_more) (more h.planned one)

  bytes_more : (v : List ℕ) → (tables ++ joined h.volumes) ++ v ≡ tables ++ joined (h.volumes ++ v ∷ [])
  bytes_more v = append_assoc tables (joined h.volumes) v ∙ ap (λ (l : List ℕ). tables ++ l) (sym (joined_push h.volumes v))

  enough_here : AreEnough (cylinder_blocks plan) (p ∷ drop (i + 1) plan.partitions) left
  enough_here = subst (λ (ps : List PartitionPlan). AreEnough (cylinder_blocks plan) ps left) (plans_at plan.partitions i p within at) h.enough

  pub volume_enough : p.given ≡ true → p.cylinders * cylinder_blocks plan * 512 ≤ length left
  volume_enough e = first_enough (cylinder_blocks plan) p (drop (i + 1) plan.partitions) left enough_here e

  -- one volume more is written
  pub written_more : (n : ℕ) (rest : List ℕ) → n ≡ p.cylinders * cylinder_blocks plan
      → (v : List ℕ) × IsPlannedVolume n p left v × Appends now next v → rest ≡ behind_volume n p left
      → IsWritten plan given tables (i + 1) before next rest
  written_more n rest size (v, one, put) is =
      let one' : IsPlannedVolume (p.cylinders * cylinder_blocks plan) p left v = subst (λ (k : ℕ). IsPlannedVolume k p left v) size one in
      let rest_is : behind_volume (p.cylinders * cylinder_blocks plan) p left ≡ rest = sym (is ∙ ap (λ (k : ℕ). behind_volume k p left) size) in
      subst (IsWritten plan given tables (i + 1) before next) rest_is
      (record {
        volumes = h.volumes ++ v ∷ [];
        planned = planned_more v one';
        written = subst (Appends before next) (bytes_more v) (appends_two before now next (tables ++ joined h.volumes) v _ refl h.written put);
        enough = others_enough (cylinder_blocks plan) p (drop (i + 1) plan.partitions) left enough_here;
      })

  -- or nothing of it, or a front part
  pub written_part : {failed : Bool} (n : ℕ) → n ≡ p.cylinders * cylinder_blocks plan → IsPartOfVolume n p left failed now next
      → (front : List ℕ) × IsFrontOfDisk plan given front × AppendsPart failed before next front
  written_part {failed} n size (inl (works, put)) =
      let front : List ℕ = tables ++ joined h.volumes in (
        front,
        front_of plan given tables i left h.volumes are h.planned,
        (front, [], sym (append-nil front), λ fails. absurd cc, appends_two before now next front [] front (sym (append-nil front)) h.written put),
      )
  written_part {failed} n size (inr (v, one, put)) =
      let one' : IsPlannedVolume (p.cylinders * cylinder_blocks plan) p left v = subst (λ (k : ℕ). IsPlannedVolume k p left v) size one in
      let front : List ℕ = tables ++ joined (h.volumes ++ v ∷ []) in (
        front,
        front_of plan given tables (i + 1) (behind_volume (p.cylinders * cylinder_blocks plan) p left) (h.volumes ++ v ∷ []) are (planned_more v one'),
        subst (AppendsPart failed before next) (bytes_more v) (part_behind before now next (tables ++ joined h.volumes) v h.written put),
      )

-- all is written
pub written_whole : (plan : PlanValue) (given tables : List ℕ) (i : ℕ) (before now : Option (List ℕ)) (left : List ℕ) → AreTablesOfPlan plan tables
    → length plan.partitions ≤ i → IsWritten plan given tables i before now left
    → (disk : List ℕ) × HasPlanned plan given disk × Appends before now disk
written_whole plan given tables i before now left are le h =
    let planned = subst (λ (ps : List PartitionPlan). ArePlannedVolumes (cylinder_blocks plan) given ps left h.volumes) (take_all i plan.partitions le)
    h.planned in
    let sizes = are_volumes (cylinder_blocks plan) given planned in (
      tables ++ joined h.volumes,
      record {
        size = disk_size plan tables h.volumes are sizes;
        tables = are.read (joined h.volumes);
        left = left;
        volumes = h.volumes;
        planned = planned;
        places = volumes_stand plan tables h.volumes are sizes;
      },
      h.written,
    )

-- each partition has a volume
pub has_volume_at : (c : ℕ) (ps : List PartitionPlan) (i : ℕ) (d : PartitionPlan) → list_all (has_volume c) ps ≡ true → i < length ps
    → has_volume c (get_or ps i d) ≡ true
has_volume_at c ps i d all lt = grind (arith, common_steps, list_all_at)

cylinders_within : (ps : List PartitionPlan) (i : ℕ) (p : PartitionPlan) → i < length ps → p ≡ get_or ps i p → p.cylinders ≤ cylinders_of ps
unfolding cylinders_of
cylinders_within [] i p lt e = absurd (omega arith)
cylinders_within (q ∷ ps) zero p lt e = let same = ap (λ (r : PartitionPlan). r.cylinders) e in omega arith
cylinders_within (q ∷ ps) (suc i) p lt e = omega (arith, cylinders_within ps i p (omega arith) e)

pub blocks_small : (plan : PlanValue) (i : ℕ) (p : PartitionPlan) → IsPlan plan → i < length plan.partitions → p ≡ get_or plan.partitions i p
    → p.cylinders * cylinder_blocks plan < 2 ^ 32
blocks_small plan i p h lt e = blocks_fit plan h p.cylinders (omega (arith, cylinders_within plan.partitions i p lt e))

given_few : (ps : List PartitionPlan) → given_cylinders ps ≤ cylinders_of ps
unfolding given_cylinders cylinders_of
given_few [] = omega arith
given_few (p ∷ ps) = go p.given (given_few ps)
  where
    go : (b : Bool) → given_cylinders ps ≤ cylinders_of ps → (if b then p.cylinders else 0) + given_cylinders ps ≤ p.cylinders + cylinders_of ps
    go true h = omega arith
    go false h = omega arith

pub given_small : (plan : PlanValue) → IsPlan plan → given_cylinders plan.partitions * cylinder_blocks plan < 2 ^ 32
given_small plan h = blocks_fit plan h (given_cylinders plan.partitions) (omega (arith, given_few plan.partitions))

pub given_fit : (plan : PlanValue) → IsPlan plan → given_cylinders plan.partitions < 2 ^ 32
given_fit plan h = omega (arith, given_few plan.partitions, cylinders_fit plan h)

given_more : (p : PartitionPlan) (ps : List PartitionPlan) → given_cylinders (p ∷ ps) ≡ given_size p + given_cylinders ps
unfolding given_cylinders
given_more p ps = refl

pub given_at : (ps : List PartitionPlan) (i : ℕ) (p : PartitionPlan) → i < length ps → p ≡ get_or ps i p
    → given_cylinders (drop i ps) ≡ given_size p + given_cylinders (drop (i + 1) ps)
given_at ps i p lt e = ap given_cylinders (plans_at ps i p lt e) ∙ given_more p (drop (i + 1) ps)

pub given_end : (ps : List PartitionPlan) (i : ℕ) → length ps ≤ i → given_cylinders (drop i ps) ≡ 0
unfolding given_cylinders
given_end ps i le = ap given_cylinders (drop_all i ps le)

pub all_have_volumes : (plan : PlanValue) → is_plan plan ≡ true → list_all (has_volume (cylinder_blocks plan)) plan.partitions ≡ true
all_have_volumes plan h = (and_parts _ _ h).1

-- the first bytes that are left are the volume of a partition
pub given_planned : (n : ℕ) (p : PartitionPlan) (bytes : List ℕ) → p.given ≡ true → n * 512 ≤ length bytes
    → IsPlannedVolume n p bytes (take (n * 512) bytes)
given_planned n p bytes is enough = record {
  long = omega (arith, enough, length-take (n * 512) bytes);
  given = λ same. refl;
  new = λ other. let clash : true ≡ false = sym is ∙ other in absurd cc;
}
