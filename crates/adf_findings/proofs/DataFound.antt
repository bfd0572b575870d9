-- The data blocks that a table names and that are taken as these are those of the walk.
-- Letters: w the walk of a survey, fs its findings; v a result; n a file's node, h the block of its header; k the number of a
-- data block, from 0; b its block; r, q roles.
use Rattle.std.specs.Prelude.{◌&&◌, Bool, true, false, cond, nat_lt, Option, Some, None}
use Rattle.std.proofs.Common.{◌≡◌, ℕ, suc, zero, List, ◌==◌, ◌+◌, ◌++◌, ◌≤◌, ◌<◌, refl, sym, ap, subst, ◌∙◌, add-one, arith}
use Rattle.std.proofs.{lemmas.Bool.eqb-true, lemmas.Bool.eq-eqb, lemmas.Bool.Decides.eqb_tells, lemmas.Bool.Decides.nat_tests, lemmas.Grind.common_steps}
use Rattle.adf_names.specs.declared.kind.Kind.{Kind, TheVariants.Ofs, TheVariants.Ffs}
use Rattle.adf_blocks.specs.Sizes.{blocks}
use Rattle.adf_volume.specs.{Walk.Has, Walk.FileAt, Walk.node_block, Walk.Walk, Walk.Role.Data, Parts.entry_of, Image.kind_of}
use Rattle.adf_volume.proofs.{Gathered.head_block, Roles.has_role, Roles.same_refl}
use Rattle.adf_findings.specs.{Files.named_from, Concerned.is_contested, Concerned.number_alone, Members.at_role, Members.number_at, Members.owning_entry}
use Rattle.adf_findings.specs.{Sound.says_data_of, SurveyResult.SurveyValue, SurveyResult.TellsOf, SurveyResult.alone_in}
use Rattle.adf_findings.specs.Remains.{below, blocks_stated, bytes_left, data_alone, data_found, data_left, data_named, gaps_left, left_below}
use Rattle.adf_findings.specs.Remains.{named_below, own_data, size_stated, unless_contested}
use Rattle.adf_findings.specs.Survey.{FindingValue, IsSurvey, IsSurvey.read, IsSurvey.unread}
use Rattle.adf_volume.specs.Owners.{owner_at}
use Rattle.adf_findings.proofs.{BlockOwners.first_with, BlockOwners.held_data, Starts.course_size, FileBlocks.data_is, Lookups.file_between, RoleBlocks.at_has}
use Rattle.adf_findings.proofs.{RoleBlocks.lacks_at, OneSurvey.gathered, SoundEntries.one_part, SoundMarks.data_inside}
use Rattle.adf_findings.proofs.Contested.{alone_number, kept_alone, said_inside}

-- the data block at a data block's place is in the walk
pub has_data : (w : Walk) (n k b : ℕ) → at_role w (Data n k) ≡ Some b → Has w (Data n k) b
has_data w n k b e = let y = at_has w (Data n k) b e in has_role w (Data n k) (λ m p s j h. cc) y.0 b y.1 y.2

-- a file's data block is the one that the table names, and inside of the image
pub found_named : (image : List ℕ) (w : Walk) (fs : List FindingValue) → IsSurvey image w fs → (n h : ℕ) → FileAt image w n h → (k b : ℕ)
    → Has w (Data n (suc k)) b → (named_from image h k ≡ b) × (b < blocks image)
found_named image w fs (unread f) n h file k b has = absurd has
found_named image w fs (read v d t) n h file k b has = ((data_is image n v h file k b has).0, data_inside image v n (suc k) b has)

-- a block with the entry and the number of a data block is one
pub held_has : (w : Walk) (b n k : ℕ) → owning_entry w b ≡ Some n → number_at w b ≡ suc k → Has w (Data n (suc k)) b
held_has w b n k e f = grind (arith, common_steps, held_data w b k f)

pub all_true : {A : Type 0} (p q r : Bool) (x y : A) → p ≡ true → q ≡ true → r ≡ true → cond (p && (q && r)) x y ≡ x
all_true p q r x y a b c = λ i. cond (a i && (b i && c i)) x y

pub not_all : {A : Type 0} (p q r : Bool) (x y : A) → (p ≡ true → q ≡ true → r ≡ true → ⊥) → cond (p && (q && r)) x y ≡ y
not_all p q r x y h = grind (arith, common_steps)

-- the number kept of a block is that of its entry
kept_some : (m n : ℕ) → cond (m == 0) None (Some m) ≡ Some n → m ≡ n
kept_some zero n e = cc
kept_some (suc m) n e = grind (arith, common_steps, eqb_tells)

some_kept : (m n : ℕ) → 1 ≤ n → m ≡ n → cond (m == 0) None (Some m) ≡ Some n
some_kept m n lo e = grind (arith, common_steps, eqb_tells)

-- a test of the block that a table names as a data block, by its entry and its number, finds just what no other part asks for
module _ (image : List ℕ) (w : Walk) (fs : List FindingValue) (survey : IsSurvey image w fs) (n h : ℕ) (file : FileAt image w n h)
    (k own : ℕ) (to : own ≡ n → owning_entry w (named_from image h k) ≡ Some n) (from : owning_entry w (named_from image h k) ≡ Some n → own ≡ n)
    (number : ℕ) (told : number ≡ number_alone w fs (named_from image h k)) where
  abbrev named_block : ℕ
  named_block = named_from image h k

  abbrev test : Option ℕ
  test = cond (nat_lt named_block (blocks image) && ((own == n) && (number == k + 1))) (Some named_block) None

  pub alone_named : test ≡ data_alone w fs n k
  alone_named = go (data_found w n k) refl
    where
      ask : (p : Bool) (c : ℕ) → is_contested fs c ≡ p → named_block ≡ c → owning_entry w c ≡ Some n → nat_lt named_block (blocks image) ≡ true
          → number_at w c ≡ suc k → test ≡ cond p None (Some c)
      ask true c is named whose lt which =
          not_all (nat_lt named_block (blocks image)) (own == n) (number == k + 1) (Some named_block) None
          (λ inside own same.
          let none : number ≡ 0 = told ∙ (ap (number_alone w fs) named ∙ ap (λ p. cond p 0 (number_at w c)) is) in
          let clash : 0 ≡ suc k = sym none ∙ (eqb-true _ _ same ∙ add-one k) in cc)
      ask false c is named whose lt which =
          let alone : number ≡ k + 1 =
          told ∙ (ap (number_alone w fs) named ∙ (ap (λ p. cond p 0 (number_at w c)) is ∙ (which ∙ sym (add-one k)))) in
          all_true (nat_lt named_block (blocks image)) (own == n) (number == k + 1) (Some named_block) None lt
          (eq-eqb _ _ (from (ap (owning_entry w) named ∙ whose))) (eq-eqb _ _ alone)
          ∙ ap Some named

      go : (o : Option ℕ) → data_found w n k ≡ o → test ≡ unless_contested fs o
      go None e =
          not_all (nat_lt named_block (blocks image)) (own == n) (number == k + 1) (Some named_block) None
          (λ inside is same.
          let alone : number_alone w fs named_block ≡ suc k = sym told ∙ (eqb-true _ _ same ∙ add-one k) in
          let which : number_at w named_block ≡ suc k = alone_number (is_contested fs named_block) (number_at w named_block) k alone in
          lacks_at w (Data n (suc k)) e (Data n (suc k)) named_block (held_has w named_block n k (to (eqb-true _ _ is)) which) (same_refl (Data n (suc k))))
      go (Some c) e =
          let has : Has w (Data n (suc k)) c = has_data w n (suc k) c e in
          let named = found_named image w fs survey n h file k c has in
          let at = first_with w (Data n (suc k)) c has (λ q g. one_part image w fs survey q (Data n (suc k)) c g has) in
          let lt : named_block < blocks image = subst (λ c. c < blocks image) (sym named.0) named.1 in
          let is_lt : nat_lt named_block (blocks image) ≡ true = grind (arith, nat_tests) in
          ask (is_contested fs c) c refl named.0 at.0 is_lt at.1

-- a data block that is left is inside of the image
pub left_inside : (image : List ℕ) (w : Walk) (fs : List FindingValue) (n h : ℕ) → IsSurvey image w fs → FileAt image w n h → (k b : ℕ)
    → data_left image w fs n h k ≡ Some b → b < blocks image
left_inside image w fs n h (unread f) file k b e = absurd file.header.has
left_inside image w fs n h (read {s = s} {bits = bits} v d t) file k b e = go (kind_of image) e
  where
    all : List FindingValue
    all = s.findings ++ bits

    said : (p : Bool) (c : ℕ) → says_data_of image h (k + 1) c ≡ p → cond p (Some c) None ≡ Some b → b < blocks image
    said true c is same = let e : c ≡ b = cc in subst (λ c. c < blocks image) e (said_inside image h (k + 1) c (course_size image v).0 is)
    said false c is same = cc

    found : (o : Option ℕ) → data_found s.walk n k ≡ o → unless_contested all o ≡ Some b → b < blocks image
    found None is same = cc
    found (Some c) is same =
        let e : c ≡ b = kept_one (is_contested all c) c same in
        subst (λ c. c < blocks image) e (found_named image s.walk all (read v d t) n h file k c (has_data s.walk n (suc k) c is)).1
      where
        kept_one : (p : Bool) (c : ℕ) → cond p None (Some c) ≡ Some b → c ≡ b
        kept_one true c same = cc
        kept_one false c same = cc

    go : (kind : Kind) → own_data kind image h k (data_alone s.walk all n k) ≡ Some b → b < blocks image
    go Ofs same = said (says_data_of image h (k + 1) (named_from image h k)) (named_from image h k) refl same
    go Ffs same = found (data_found s.walk n k) refl same

module _ {v : SurveyValue} {w : Walk} {fs : List FindingValue} (t : TellsOf v w fs) (n h : ℕ) (file : FileAt v.image w n h) where
  -- the block that is named as a data block, if it is taken as that and no other part asks for it, is the one that is found
  pub named_is : (k : ℕ) → data_named v.image v n h k ≡ data_alone w fs n k
  named_is k =
      let b : ℕ = named_from v.image h k in
      let lo = (file_between v.image w fs t.survey n h file).0 in
      alone_named v.image w fs t.survey n h file k (entry_of (owner_at v.owners b))
      (λ own. sym (t.owner b) ∙ some_kept (entry_of (owner_at v.owners b)) n lo own)
      (λ e. kept_some (entry_of (owner_at v.owners b)) n (t.owner b ∙ e)) (alone_in v b) (kept_alone t b)

  -- what is left by the blocks that are named is what is left by those that are found
  below_is : (end : ℕ) → named_below end v.image v n h ≡ left_below end v.image w fs n h
  below_is end = λ i k. below end (own_data (kind_of v.image) v.image h k (named_is k i))

  pub left_is : (end : ℕ) {image : List ℕ} {head : ℕ} → image ≡ v.image → head ≡ h
      → (bytes_left image (size_stated image head) (named_below end image v n head) (blocks_stated image head)
      ≡ bytes_left v.image (size_stated v.image h) (left_below end v.image w fs n h) (blocks_stated v.image h))
      × (gaps_left image (size_stated image head) (named_below end image v n head) (blocks_stated image head)
      ≡ gaps_left v.image (size_stated v.image h) (left_below end v.image w fs n h) (blocks_stated v.image h))
  left_is end {image = image} {head = head} e g =
      let found : named_below end image v n head ≡ left_below end v.image w fs n h = (λ i. named_below end (e i) v n (g i)) ∙ below_is end in (
        (λ i. bytes_left (e i) (size_stated (e i) (g i)) (found i) (blocks_stated (e i) (g i))),
        (λ i. gaps_left (e i) (size_stated (e i) (g i)) (found i) (blocks_stated (e i) (g i))),
      )

-- the header of a file that is found
pub file_at : (image : List ℕ) (w : Walk) (fs : List FindingValue) → IsSurvey image w fs → (n h : ℕ) → FileAt image w n h
    → FileAt image w n (node_block w n)
file_at image w fs (unread f) n h file = absurd file.header.has
file_at image w fs (read {s = s} v d t) n h file = subst (FileAt image s.walk n) (sym (head_block image (gathered image v) file.header)) file
