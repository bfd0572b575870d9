-- What is said of partitions one behind the other.
use Rattle.std.proofs.Common.{◌≡◌, ◌&&◌, ◌<◌, ◌+◌, ℕ, Bool, true, false, List, [], ◌∷◌, ap₂, arith, drop, get_or, length, refl, subst, sym}
use Rattle.std.proofs.{Math.Seq.drop-cons, Math.Bool.and-true, lemmas.Grind.common_steps}
use Rattle.std.specs.Prelude.{Ok, Result, string_bytes}
use Rattle.adf_disk_cmd.specs.Checks.{AreChecked, IsVolumeAnswer, TellsPartition, TellsPlace, TellsVolume, is_checked}
use Rattle.adf_disk_cmd.specs.Surveys.{volume_at}
use Rattle.adf_partitions.specs.{declared.partition.Partition.Partition, declared.place.Place.Place, declared.place.PlaceFault.PlaceFault}
use Rattle.adf_verdicts.specs.declared.verdicts.Verdict.{Verdict}

-- a volume that is checked is told of by its verdict
pub told : (all : List ℕ) (p : Partition) (q : Place) (v : Verdict) → p.place ≡ Ok q → is_checked p q ≡ true → IsVolumeAnswer (volume_at all q) v
    → TellsPartition all p v.sound
told all p q v at checked h =
    subst (λ (place : Result Place PlaceFault). TellsPlace all p place v.sound) (sym at)
    (subst (λ (b : Bool). TellsVolume (volume_at all q) b v.sound) (sym checked) (string_bytes v.line, h))

-- what is left from a partition on
pub split_at : (ps : List Partition) (i : ℕ) (p : Partition) → i < length ps → p ≡ get_or ps i p → drop i ps ≡ p ∷ drop (i + 1) ps
split_at ps i p lt e = grind (arith, common_steps, drop-cons, ap₂)

-- whether what is left is sound decides whether all is
abbrev pub Continues : List ℕ → List Partition → List Partition → Bool → Type 0
Continues bytes ps left sound = (others : Bool) → AreChecked bytes left others → AreChecked bytes ps (sound && others)

and_assoc : (a b c : Bool) → (a && (b && c)) ≡ ((a && b) && c)
and_assoc true b c = refl
and_assoc false b c = refl

one_added : (bytes : List ℕ) (ps left : List Partition) (p : Partition) (sound one : Bool) → Continues bytes ps (p ∷ left) sound
    → TellsPartition bytes p one → Continues bytes ps left (sound && one)
unfolding AreChecked
one_added bytes ps left p sound one all tells = λ others h.
    subst (AreChecked bytes ps) (and_assoc sound one others) (all (one && others) (one, others, tells, h, refl))

-- a partition behind those before it
pub stepped : (bytes : List ℕ) (ps left : List Partition) (p : Partition) (sound one next : Bool) → Continues bytes ps (p ∷ left) sound
    → TellsPartition bytes p one → next ≡ (sound && one) → Continues bytes ps left next
stepped bytes ps left p sound one next all tells e = subst (Continues bytes ps left) (sym e) (one_added bytes ps left p sound one all tells)

pub ended : (bytes : List ℕ) (ps : List Partition) (sound : Bool) → Continues bytes ps [] sound → AreChecked bytes ps sound
unfolding AreChecked
ended bytes ps sound all = subst (AreChecked bytes ps) (and-true sound) (all true refl)
