-- What the entries of a survey tell of the type of their volume.
-- Letters: w the walk of a survey; v a result; t, u tallies; k a number of blocks, or of a data block; n that of an entry; r a role.
use Rattle.std.specs.Prelude.{Bool, false, true, cond, is_some, nat_lt, Option, Some, None, slice_index}
use Rattle.std.specs.Option.{unwrap_or}
use Rattle.std.proofs.Common.{◌||◌, ◌≡◌, ℕ, zero, suc, List, [], ◌==◌, ◌+◌, ◌≤◌, inl, inr, add-one, ap, refl, subst, sym, ◌<◌, ◌∙◌, arith}
use Rattle.std.proofs.{lemmas.Bool.cases_lt, lemmas.Bool.Decides.eqb_tells, lemmas.Bool.Decides.nat_tests, lemmas.Grind.common_steps}
use Rattle.adf_names.specs.declared.kind.Kind.{Kind, TheVariants.Ofs, TheVariants.Ffs}
use Rattle.adf_blocks.specs.Sizes.{blocks}
use Rattle.adf_volume.specs.{Image.kind_of, Walk.Has, Walk.heads, Walk.node_block, Walk.Walk, Walk.Role.Data, Parts.entry_of}
use Rattle.adf_volume.proofs.Gathered.{number_of}
use Rattle.adf_findings.specs.{declared.own_kind.Tally.Tally, Members.number_at, Members.owning_entry, OwnKind.tallied, OwnKind.tally, OwnKind.told_type}
use Rattle.adf_findings.specs.{Sound.IsSound, Sound.says_data_of, WalkOwners.data_number_of, SurveyResult.SurveyValue, SurveyResult.TellsOf}
use Rattle.adf_findings.specs.OwnKind.{has_other_kind, is_filled, is_full_file, is_mistyped, is_other_kind, kind_said, passing, said_at, said_in, claims_data}
use Rattle.adf_findings.specs.Survey.{FindingValue, IsSurvey, IsSurvey.read, IsSurvey.unread}
use Rattle.adf_volume.specs.Owners.{owner_at}
use Rattle.adf_findings.proofs.{BlockOwners.held_data, OneSurvey.gathered, SoundMarks.taken_wanted}

-- the number kept of a block is that of its entry
pub kept_owner : (m : ℕ) (o : Option ℕ) → cond (m == 0) None (Some m) ≡ o → unwrap_or o 0 ≡ m
kept_owner zero o e = ap (λ o. unwrap_or o 0) (sym e)
kept_owner (suc m) o e = grind (arith, common_steps, eqb_tells)

-- what is kept of a block is what it says
pub kept_said : {v : SurveyValue} {w : Walk} {fs : List FindingValue} → TellsOf v w fs → (image : List ℕ) (b : ℕ)
    → said_in image v b ≡ said_at image w b
kept_said {v = v} {w = w} t image b =
    let number : data_number_of (owner_at v.owners b) ≡ number_at w b = t.number b in
    let own : unwrap_or (owning_entry w b) 0 ≡ entry_of (owner_at v.owners b) = kept_owner (entry_of (owner_at v.owners b)) (owning_entry w b) (t.owner b) in
    let head : slice_index v.nodes (entry_of (owner_at v.owners b)) ≡ node_block w (unwrap_or (owning_entry w b) 0) =
    t.node (entry_of (owner_at v.owners b)) ∙ ap (node_block w) (sym own) in
    λ i. cond (number i == 0) None (kind_said image (head i) (number i) b)

pub tally_none : (image : List ℕ) (w : Walk) → tally image w 0 ≡ record { says = 0; others = 0 }
unfolding tally
tally_none image w = refl

pub tally_more : (image : List ℕ) (w : Walk) (k : ℕ) → tally image w (k + 1) ≡ tallied (tally image w k) (said_at image w k)
unfolding tally
tally_more image w k = rw add-one refl

-- one more block is counted
pub more_tallied : {v : SurveyValue} {w : Walk} {fs : List FindingValue} → TellsOf v w fs → (image : List ℕ) (k : ℕ) (t u : Tally)
    → t ≡ tally image w k → u ≡ tallied t (said_in image v k) → u ≡ tally image w (k + 1)
more_tallied {v = v} {w = w} told image k t u e f = grind (arith, common_steps, kept_said, tally_more)

pub few_tallied : (t : Tally) (o : Option Bool) (k : ℕ) → t.says + t.others ≤ k → (tallied t o).says + (tallied t o).others ≤ k + 1
few_tallied t o k h = grind (arith, common_steps)

-- the file of a data block is an entry
data_entry : (image : List ℕ) (w : Walk) (fs : List FindingValue) → IsSurvey image w fs → (n k b : ℕ) → Has w (Data n (suc k)) b
    → (1 ≤ n) × (n ≤ heads w)
data_entry image w fs (unread f) n k b h = absurd h
data_entry image w fs (read v d t) n k b h = elim (taken_wanted image v (Data n (suc k)) b h) [
  | inl e ↦ cc
  | inr x ↦ number_of image (gathered image v) x.asked.0.1.header
]

none_said_by : (filled : Bool) → cond filled None (Some false) ≡ Some true → ⊥
none_said_by true e = cc
none_said_by false e = cc

-- no data block of entries that are sound by some findings says that it is an OFS one
module _ (image : List ℕ) (w : Walk) (fs gs : List FindingValue) (v : IsSurvey image w fs) (ffs : kind_of image ≡ Ffs)
    (sound : (n : ℕ) → 1 ≤ n → n ≤ heads w → IsSound image w gs n (node_block w n)) where
  not_said_of : (h k b : ℕ) → says_data_of image h k b ≡ false → kind_said image h k b ≡ Some true → ⊥
  not_said_of h k b other e =
      let said : cond false (Some true) (cond (is_filled image b || claims_data image b) None (Some false)) ≡ Some true =
      ap (λ s. cond s (Some true) (cond (is_filled image b || claims_data image b) None (Some false))) (sym other) ∙ e in
      none_said_by (is_filled image b || claims_data image b) said

  none_said : (b : ℕ) → said_at image w b ≡ Some true → ⊥
  none_said b e = go (number_at w b) refl e
    where
      go : (k : ℕ) → number_at w b ≡ k
          → cond (k == 0) None (kind_said image (node_block w (unwrap_or (owning_entry w b) 0)) k b) ≡ Some true → ⊥
      go zero is e = cc
      go (suc k) is e =
          let some : (suc k == 0) ≡ false = grind (arith, nat_tests) in
          let (n, has, own) = held_data w b k is in
          let (lo, hi) = data_entry image w fs v n k b has in
          let here : unwrap_or (owning_entry w b) 0 ≡ n = ap (λ o. unwrap_or o 0) own in
          let not_said = ap (λ m. says_data_of image (node_block w m) (suc k) b) here ∙ (sound n lo hi).own ffs (suc k) b has in
          let said : kind_said image (node_block w (unwrap_or (owning_entry w b) 0)) (suc k) b ≡ Some true =
          ap (λ t. cond t None (kind_said image (node_block w (unwrap_or (owning_entry w b) 0)) (suc k) b)) (sym some) ∙ e in
          not_said_of (node_block w (unwrap_or (owning_entry w b) 0)) (suc k) b not_said said

  says_same : (t : Tally) (o : Option Bool) → (o ≡ Some true → ⊥) → (tallied t o).says ≡ t.says
  says_same t o h = grind (arith, common_steps)

  none_say : (k : ℕ) → (tally image w k).says ≡ 0
  unfolding tally
  none_say zero = refl
  none_say (suc k) = says_same (tally image w k) (said_at image w k) (none_said k) ∙ none_say k

none_more : (t : Tally) → t.says ≡ 0 → false ≡ nat_lt t.others t.says
none_more t e = let none : nat_lt t.others t.says ≡ false = grind (arith, nat_tests) in sym none

-- so a volume of FFS is of its kind
pub sound_kind : (image : List ℕ) (w : Walk) (fs gs : List FindingValue) → IsSurvey image w fs
    → ((n : ℕ) → 1 ≤ n → n ≤ heads w → IsSound image w gs n (node_block w n)) → kind_of image ≡ Ffs → false ≡ has_other_kind image w
sound_kind image w fs gs v sound e =
    none_more (tally image w (blocks image)) (none_say image w fs gs v e sound (blocks image))
    ∙ ap (λ kind. is_other_kind kind (tally image w (blocks image)) (passing (is_full_file image w) (heads w))) (sym e)

-- how many data blocks are counted
unfoldable pub counted : Tally → ℕ
counted t = t.says + t.others

-- where nothing is found nothing is counted
no_tally : (image : List ℕ) (k : ℕ) → tally image [] k ≡ record { says = 0; others = 0 }
unfolding tally
no_tally image zero = refl
no_tally image (suc k) = no_tally image k

-- a data block that tells is counted
some_tallied : (t : Tally) (o : Option Bool) → is_some o ≡ true → 1 ≤ (tallied t o).says + (tallied t o).others
some_tallied t None e = cc
some_tallied t (Some true) e = omega arith
some_tallied t (Some false) e = omega arith

one_counted : (image : List ℕ) (w : Walk) (k : ℕ) → is_some (said_at image w k) ≡ true → 1 ≤ counted (tally image w (k + 1))
unfolding counted
one_counted image w k e =
    let more : tally image w (k + 1) ≡ tallied (tally image w k) (said_at image w k) = tally_more image w k in
    subst (λ (t : Tally). 1 ≤ t.says + t.others) (sym more) (some_tallied (tally image w k) (said_at image w k) e)

-- and stays counted
stays_counted : (t : Tally) (o : Option Bool) → counted t ≤ counted (tallied t o)
unfolding counted
stays_counted t o = grind (arith, common_steps)

pub some_counted : (image : List ℕ) (w : Walk) (b k : ℕ) → b < k → is_some (said_at image w b) ≡ true → 1 ≤ counted (tally image w k)
some_counted image w b zero lt e = absurd (omega arith)
some_counted image w b (suc k) lt e = elim (cases_lt b k) [
  | inl below ↦
      let before = some_counted image w b k below e in
      let more = stays_counted (tally image w k) (said_at image w k) in
      let next : counted (tally image w (suc k)) ≡ counted (tallied (tally image w k) (said_at image w k)) =
      ap (λ (i : ℕ). counted (tally image w i)) (sym (add-one k)) ∙ ap counted (tally_more image w k) in
      omega arith
  | inr not ↦
      let same : k ≡ b = omega arith in
      let one = one_counted image w b e in
      let next : counted (tally image w (suc k)) ≡ counted (tally image w (b + 1)) =
      ap (λ (i : ℕ). counted (tally image w (suc i))) same ∙ ap (λ (i : ℕ). counted (tally image w i)) (sym (add-one b)) in
      omega arith
]

-- so the tally tells that there is one
pub some_found : {v : SurveyValue} {w : Walk} {fs : List FindingValue} → TellsOf v w fs → (image : List ℕ) (b k : ℕ) → b < k
    → is_some (said_in image v b) ≡ true → false ≡ ((tally image w k).says + (tally image w k).others == 0)
unfolding counted
some_found {v = v} {w = w} t image b k lt e =
    let some : 1 ≤ counted (tally image w k) = some_counted image w b k lt (ap is_some (sym (kept_said t image b)) ∙ e) in
    let not : ((tally image w k).says + (tally image w k).others == 0) ≡ false = grind (arith, nat_tests) in sym not

-- and that there is none
pub none_found : {v : SurveyValue} {w : Walk} {fs : List FindingValue} → TellsOf v w fs → (image : List ℕ) (k : ℕ)
    → said_in image v k ≡ None → tally image w k ≡ record { says = 0; others = 0 }
    → tally image w (k + 1) ≡ record { says = 0; others = 0 }
none_found {v = v} {w = w} t image k e none =
    let said : said_at image w k ≡ None = sym (kept_said t image k) ∙ e in
    tally_more image w k ∙ ap (tallied (tally image w k)) said ∙ none

pub passing_none : (test : ℕ → Bool) → passing test 0 ≡ 0
unfolding passing
passing_none test = refl

pub passing_more : (test : ℕ → Bool) (n : ℕ) → passing test (n + 1) ≡ passing test n + cond (test (n + 1)) 1 0
unfolding passing
passing_more test n = rw add-one refl

pub few_pass : (test : ℕ → Bool) (n : ℕ) → passing test n ≤ n
unfolding passing
few_pass test zero = omega arith
few_pass test (suc n) = let few = few_pass test n in grind (arith, common_steps)

none_other : (image : List ℕ) (kind : Kind) → is_other_kind kind (tally image [] (blocks image)) (passing (is_full_file image []) 0) ≡ false
none_other image Ofs = grind (arith, common_steps, no_tally, passing_none)
none_other image Ffs = grind (arith, common_steps, no_tally)

-- where nothing is found the type is the one stated
pub none_told : (image : List ℕ) (w : Walk) → w ≡ [] → slice_index image 3 ≡ told_type image w
none_told image w e =
    let kind : has_other_kind image [] ≡ false = none_other image (kind_of image) in
    let same : slice_index image 3 ≡ told_type image [] = grind (arith, common_steps, passing_none) in
    same ∙ ap (told_type image) (sym e)

pub none_mistyped : (image : List ℕ) (w : Walk) → w ≡ [] → false ≡ is_mistyped image w
none_mistyped image w e = grind (arith, common_steps, none_told, nat_tests)
