-- Whether the parts of an image are surveyed, and the marks that are kept.
-- Letters: w the walk of a survey, fs its findings; v a result; n a node.
use Rattle.std.proofs.Common.{◌&&◌, ◌↔◌, Bool, nat_le, true, false, ◌≡◌, ◌≤◌, ℕ, List, [], inl, inr, refl, subst, arith}
use Rattle.std.proofs.lemmas.Bool.{cases_lt, Decides.nat_tests}
use Rattle.adf_volume.specs.Walk.{Has, HeadAt, node_block, Walk, Role.Page}
use Rattle.adf_volume.proofs.Gathered.{IsGathered, IsGathered.start, IsGathered.step}
use Rattle.adf_findings.specs.{Files.counting, Files.grave, Members.has_mark, Sound.IsSound, SurveyResult.IsOfSurvey, SurveyResult.SurveyValue}
use Rattle.adf_findings.specs.SoundMarks.{AreMarks, mark_in, whole_in}
use Rattle.adf_findings.specs.Survey.{BootTells, FindingValue, IsSurvey, OnSurvey, RootTells, UnreadTells, IsSurvey.read, IsSurvey.unread}
use Rattle.adf_findings.proofs.{Keeping.root_no_entry, Keeping.tells_each, OneSurvey.gathered, Starts.boot_told, Starts.not_unread, Starts.root_told}

pub some_part : (image : List ℕ) (w : Walk) → IsGathered image w → w ≡ [] → ⊥
some_part image w start e = cc
some_part image w (step a i b v asked lacks) e = cc

-- the walk of an image whose root is taken is not empty
pub begun_walk : (image : List ℕ) (w : Walk) (fs boot root : List FindingValue) → IsSurvey image w fs → BootTells image boot
    → RootTells image root → w ≡ [] → ⊥
begun_walk image w fs boot root (unread f) b r e = not_unread image b r f
begun_walk image w fs boot root (read {s = s} v d t) b r e = some_part image s.walk (gathered image v) e

-- that of any other image is empty
pub unbegun_walk : (image : List ℕ) (w : Walk) (fs gs : List FindingValue) → IsSurvey image w fs → UnreadTells image gs → w ≡ []
unbegun_walk image w fs gs (unread f) none = refl
unbegun_walk image w fs gs (read v d t) none = absurd (not_unread image (boot_told image v).1 (root_told image v).1 none)

-- the root is taken of an image in which a page of the bitmap is found
pub page_begun : (image : List ℕ) (w : Walk) (fs gs : List FindingValue) → IsSurvey image w fs → UnreadTells image gs → (i at : ℕ)
    → Has w (Page i) at → ⊥
page_begun image w fs gs h none i at has = subst (λ w. Has w (Page i) at) (unbegun_walk image w fs gs h none) has

-- the root is taken of an image in which an entry is found
pub entry_begun : {image : List ℕ} {w : Walk} {fs gs : List FindingValue} {n b : ℕ} → IsSurvey image w fs → HeadAt w n b
    → UnreadTells image gs → ⊥
entry_begun {image} {w} {fs} {gs} {n} {b} h header none = (subst (λ w. HeadAt w n b) (unbegun_walk image w fs gs h none) header).has

-- the marks that are kept are those of the sound entries, by the findings that count
marks_by : (v : SurveyValue) (c : Bool) (marks : List Bool) → (w : Walk) (fs : List FindingValue) → IsSurvey v.image w fs
    → ((n : ℕ) → 1 ≤ n → (has_mark marks n ≡ true) ↔ IsSound v.image w (counting c fs) n (node_block w n))
    → AreMarks v.image w (counting c fs) (λ n. nat_le 1 n && has_mark marks n)
marks_by v c marks w fs h are n = elim (cases_lt 0 n) [
  | inl some ↦
      let e : nat_le 1 n ≡ true = grind (arith, nat_tests) in
      rw e (are n (omega arith))
  | inr none ↦
      let e : nat_le 1 n ≡ false = grind (arith, nat_tests) in
      let zero : n ≡ 0 = omega arith in
      let no : IsSound v.image w (counting c fs) n (node_block w n) → ⊥ =
      λ s. root_no_entry v.image w fs c (node_block w 0) h (subst (λ m. IsSound v.image w (counting c fs) m (node_block w m)) zero s) in
      rw e ((λ t. cc), (λ s. absurd (no s)))
]

pub kept_marks : (v : SurveyValue) → IsOfSurvey v → OnSurvey v.image (λ w fs. AreMarks v.image w fs (mark_in v))
kept_marks v k w fs h = marks_by v false v.sound w fs h (tells_each v k w fs h).sound

pub whole_marks : (v : SurveyValue) → IsOfSurvey v → OnSurvey v.image (λ w fs. AreMarks v.image w (grave fs) (whole_in v))
whole_marks v k w fs h = marks_by v true v.whole w fs h (tells_each v k w fs h).whole
