-- New volumes. p is the plan of a partition, n the number of its blocks, c that of a cylinder.
use Rattle.std.proofs.Common.{◌≡◌, ◌≤◌, ◌-◌, ◌*◌, ◌/◌, ◌%◌, ◌==◌, ◌∙◌, ℕ, Bool, true, false, List, [], ◌∷◌, length, ap, ap₂, inl, inr, refl, subst, sym, arith, ◌&&◌, ◌||◌}
use Rattle.std.proofs.{Common.take, lemmas.Bool.leb-true, lemmas.Grind.common_steps}
use Rattle.std.specs.Prelude.{nat_le}
use Rattle.adf_base.specs.{Dates.IsStamp, Words.with_bytes, Words.word}
use Rattle.adf_base.specs.declared.hash.Letters.{Letters, TheVariants.Ascii, TheVariants.International}
use Rattle.adf_blocks.specs.{Fields.block_of_fields, Sizes.is_allowed}
use Rattle.adf_build.proofs.{AllocatedBlocks.reserved_below, LaidFits.volume_fits, LaidWrites.CanHold, LaidWrites.holds_boot, LaidWrites.volume_long}
use Rattle.adf_build.specs.{Building.IsBuildFault, Laid.boot_bytes_by, Laid.volume, Plan.blocks_needed, Plan.planned}
use Rattle.adf_build.specs.declared.builder.BuildFault.TheVariants.{Full}
use Rattle.adf_cache_laying.specs.LaidCaches.{HasCaches}
use Rattle.adf_cached_files.specs.InPlace.{FitsInPlace}
use Rattle.adf_uncached.proofs.OneVerdict.{one_cached_fit}
use Rattle.adf_disk_cmd.specs.Builds.{IsNewVolume, IsWithCaches, empty_tree}
use Rattle.adf_verdicts.specs.Verdicts.{IsValid}
use Rattle.adf_volume.specs.{declared.types.Types.TheVariants.WithInternational, Fits.FitsBy, Fits.FitsOf}
use Rattle.adf_volume.specs.{Layout.Layout, Start.is_image_len}
use Rattle.adf_names.specs.declared.kind.Kind.{Kind, TheVariants.Ofs, TheVariants.Ffs}
use Rattle.adf_partitions.specs.{FileSystems.letters_of_system, FileSystems.planned_type, declared.plan.PartitionPlan.PartitionPlan}
use Rattle.adf_partitions.specs.declared.file_system.FileSystem.{FileSystem, TheVariants.WithCaches, TheVariants.WithoutCaches}
use Rattle.adf_plans.specs.PlanTexts.{has_cache_room, has_volume}
use Rattle.adf_tree.proofs.TreeOfAdditions.{nothing_added_by}
use Rattle.adf_tree.specs.Tree.{Tree}
use Rattle.adf_volume.proofs.{Sizes.size_low, TypeLaws.own_fit_of}

-- the label fits, and the size is allowed
pub record MayBeNew (n : ℕ) (name : List ℕ) : Type 0 where
  pub size : is_allowed n ≡ true
  pub label : length name ≤ 30

-- there is room for the root and the bitmap
room : (t : Tree) (n : ℕ) → t.entries ≡ [] → is_allowed n ≡ true → blocks_needed t n ≤ n - 2
room t n none size = grind (arith, common_steps, size_low, reserved_below)

no_date : IsStamp (record { days = 0; mins = 0; ticks = 0 })
no_date = record { days = omega arith; mins = omega arith; ticks = omega arith }

can_hold : (n : ℕ) (system : FileSystem) (label : List ℕ) → MayBeNew n label → CanHold (empty_tree system label) n
can_hold n system label may = record {
  sound = record {
    tree = (nothing_added_by (letters_of_system system)).tree;
    bounds = record {
      label = may.label;
      stamps = record { root = no_date; altered = no_date; created = no_date };
      entries = λ k d lt. absurd (omega arith);
    };
  };
  allowed = may.size;
  room = room (empty_tree system label) n refl may.size;
}

boot_type : (kind : Kind) (letters : Letters)
    → word (block_of_fields ((0, boot_bytes_by letters kind) ∷ [])) 0 ≡ planned_type (WithoutCaches kind letters)
unfolding with_bytes word
boot_type Ofs Ascii = refl
boot_type Ffs Ascii = refl
boot_type Ofs International = refl
boot_type Ffs International = refl

-- an image that fits a tree by these letters is valid
accepted : (letters : Letters) (image : List ℕ) (t : Tree) (l : Layout) → FitsBy letters image t l
    → IsValid WithInternational image
accepted letters image t l fits = inl (t, l, own_fit_of fits)

-- whole blocks of an allowed number
sized : (n : ℕ) (image : List ℕ) → is_allowed n ≡ true → length image ≡ n * 512 → is_image_len (length image) ≡ true
sized n image size long =
    let whole : length image % 512 ≡ 0 = omega (arith, long) in
    let count : length image / 512 ≡ n = omega (arith, long) in
    ap₂ (λ (a b : Bool). a && b) (ap (λ k. k == 0) whole) (ap is_allowed count ∙ size)

pub new_plain : (n : ℕ) (kind : Kind) (letters : Letters) (label bytes : List ℕ) → MayBeNew n label
    → bytes ≡ volume (empty_tree (WithoutCaches kind letters) label) n → IsNewVolume (WithoutCaches kind letters) label bytes
new_plain n kind letters label bytes may e =
    let system : FileSystem = WithoutCaches kind letters in
    let t : Tree = empty_tree system label in
    let can = can_hold n system label may in
    subst (IsNewVolume system label) (sym e)
    (record {
      layout = planned t n;
      fits = volume_fits can;
      valid = accepted letters (volume t n) t (planned t n) (volume_fits can);
      type = ap (λ b. word b 0) (holds_boot can) ∙ boot_type kind letters;
    })

pub long_new : (n : ℕ) (system : FileSystem) (label bytes : List ℕ) → MayBeNew n label → bytes ≡ volume (empty_tree system label) n
    → length bytes ≡ n * 512
long_new n system label bytes may e = ap length e ∙ volume_long (can_hold n system label may)

-- what is laid over a new volume without caches, and is read in place, has the same tree
pub new_cached : (n : ℕ) (kind : Kind) (label plain bytes : List ℕ) → MayBeNew n label → plain ≡ volume (empty_tree (WithCaches kind) label) n
    → HasCaches plain (take 1024 plain) bytes → IsWithCaches (planned_type (WithCaches kind)) bytes → IsNewVolume (WithCaches kind) label bytes
new_cached n kind label plain bytes may e has is =
    let system : FileSystem = WithCaches kind in
    let t : Tree = empty_tree system label in
    let can = can_hold n system label may in
    let fits = has.tree t (planned t n) (subst (λ (l : List ℕ). FitsOf WithInternational l t (planned t n)) (sym e) (own_fit_of (volume_fits can))) in
    let one : is.tree ≡ t = (one_cached_fit bytes is.tree t is.layout fits.0 is.fits.cached fits.1).0 in
    let there : FitsInPlace bytes t is.layout = subst (λ (u : Tree). FitsInPlace bytes u is.layout) one is.fits in
    let long = has.long ∙ long_new n system label plain may e in
    record {
      layout = is.layout;
      fits = there;
      valid = inr (ap₂ (λ a b. a && b) is.cached (sized n bytes may.size long), (t, is.layout, there));
      type = is.type;
    }

module _ (n : ℕ) (system : FileSystem) (label plain : List ℕ) (may : MayBeNew n label) (e : plain ≡ volume (empty_tree system label) n) where
  pub has_boot : 1024 ≤ length plain
  has_boot = omega (arith, long_new n system label plain may e, size_low n may.size)

  pub plain_of : (kind : Kind) (letters : Letters) → system ≡ WithoutCaches kind letters → IsNewVolume system label plain
  plain_of kind letters is =
      subst (λ (s : FileSystem). plain ≡ volume (empty_tree s label) n → IsNewVolume s label plain) (sym is)
      (λ same. new_plain n kind letters label plain may same) e

  pub cached_of : (kind : Kind) (bytes : List ℕ) → system ≡ WithCaches kind → HasCaches plain (take 1024 plain) bytes
      → IsWithCaches (planned_type system) bytes → IsNewVolume system label bytes
  cached_of kind bytes is has read =
      subst (λ (s : FileSystem). plain ≡ volume (empty_tree s label) n → IsWithCaches (planned_type s) bytes → IsNewVolume s label bytes) (sym is)
      (λ same there. new_cached n kind label plain bytes may same has there) e read

-- no room is lacking
pub never_full : (t : Tree) (n need have : ℕ) → t.entries ≡ [] → IsBuildFault WithInternational t n (Full need have) → ⊥
never_full t n need have none h = let fits = room t n none h.0 in omega (arith, h.1, h.2)

new_by : (given size room label : Bool) → (given || (size && room && label)) ≡ true → given ≡ false → (size ≡ true) × (label ≡ true)
new_by false true true true h e = (refl, refl)
new_by false true true false h e = absurd cc
new_by false true false label h e = absurd cc
new_by false false room label h e = absurd cc
new_by true size room label h e = absurd cc

-- a volume that is not given may be new
pub may_be_new : (c : ℕ) (p : PartitionPlan) → has_volume c p ≡ true → p.given ≡ false → MayBeNew (p.cylinders * c) p.name
may_be_new c p h new =
    let n = p.cylinders * c in
    let (size, label) = new_by p.given (is_allowed n) (has_cache_room p.system n) (nat_le (length p.name) 30) h new in
    record { size = size; label = leb-true (length p.name) 30 label }
