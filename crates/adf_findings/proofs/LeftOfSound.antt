-- What is left of a sound file is its content.
-- Letters: w the walk of a survey, fs its findings; p, q, r, s, t tests; c whether the grave findings alone count; n a file's node, h the block of its
-- header; k, j numbers of data blocks, from 0; b a block, bs blocks; found the block of each data block, if any.
use Rattle.std.specs.Prelude.{◌&&◌, Bool, true, false, cond, None, Option, Some}
use Rattle.std.proofs.Common.{◌≡◌, ℕ, suc, zero, List, [], ◌∷◌, ◌++◌, length, ◌+◌, ◌-◌, ◌*◌, ◌<◌, ◌≤◌, refl, sym, ap, subst, add-one, ◌∙◌, arith}
use Rattle.std.specs.List.{concat}
use Rattle.std.proofs.{lemmas.List.append_assoc, lemmas.List.append-nil, Math.Nat.min-eq_left, lemmas.Bool.Decides.nat_tests, lemmas.Grind.common_steps}
use Rattle.adf_base.specs.Words.{block}
use Rattle.adf_names.specs.declared.kind.Kind.{Kind, TheVariants.Ofs, TheVariants.Ffs}
use Rattle.adf_blocks.specs.{declared.layout.TheConstants.SIZE, Sizes.blocks, Sizes.chunk, Sizes.count}
use Rattle.adf_volume.specs.{Image.held, Image.kind_of, Image.piece, Image.pieces, Image.word_in, Lists.At, Made.datas_in, Made.is_data_of, Demands.AllHold}
use Rattle.adf_volume.specs.{Demands.data_demands, Walk.Has, Walk.FileAt, Walk.data_count, Walk.node_block, Walk.Walk, Walk.Role.Data}
use Rattle.adf_volume.proofs.{Lists.at_some, WalkMembers.picked_within}
use Rattle.adf_findings.specs.Files.{IsSoundFile, counting, file_content, file_in, named_from}
use Rattle.adf_findings.specs.Remains.{below, blocks_stated, bytes_in, bytes_left, data_alone, data_found, data_left, gaps_left, gaps_of}
use Rattle.adf_findings.specs.Remains.{left_below, left_of, own_data, size_stated, unless_contested, with_lost}
use Rattle.adf_findings.specs.Sound.{FileHolds, IsSound, says_data_of}
use Rattle.adf_findings.specs.Survey.{BitsTell, Course, FindingValue, IsCourse, IsDone, IsSurvey, IsSurvey.read, IsSurvey.unread}
use Rattle.adf_findings.proofs.{AllSound.all_sound, RoleBlocks.taken_at, OneSurvey.gathered, OwnedWalks.few_parts, SoundEntries.whole_file}
use Rattle.adf_findings.proofs.{SoundFiles.file_told, SoundFiles.joined_content, SoundFiles.whole_listed, Contested.not_contested, DataFound.found_named}

-- a file with so many data blocks is no longer than so many blocks
fits_in : (kind : Kind) (size n : ℕ) → count kind size ≤ n → size ≤ 512 * n
unfolding count chunk
fits_in Ofs size n le = omega arith
fits_in Ffs size n le = omega arith

-- where a block is found for each data block, their bytes are the pieces
left_pieces : (image : List ℕ) (size : ℕ) (found : ℕ → Option ℕ) (j : ℕ) (bs : List ℕ) → ((i b : ℕ) → At bs i b → found (j + i) ≡ Some b)
    → bytes_left image size found (j + length bs) ≡ bytes_left image size found j ++ concat (pieces image (kind_of image) size (j + 1) bs)
left_pieces image size found j [] h = grind (arith, common_steps, append-nil)
left_pieces image size found j (b ∷ bs) h =
    let kind : Kind = kind_of image in
    let here : found j ≡ Some b = (let e : j ≡ j + 0 = omega arith in ap found e ∙ h 0 b refl) in
    let next : suc j + length bs ≡ j + length (b ∷ bs) = omega arith in
    let one : suc j ≡ j + 1 = omega arith in
    let ih = left_pieces image size found (suc j) bs
    (λ i c g. let e : suc j + i ≡ j + suc i = omega arith in ap found e ∙ h (suc i) c g) in
    let more : suc j + 1 ≡ suc (j + 1) = omega arith in
    let rest : List ℕ = concat (pieces image kind size (suc (j + 1)) bs) in
    ap (bytes_left image size found) (sym next)
    ∙ (ih
    ∙ ((λ t. (bytes_left image size found j ++ bytes_in image size j (here t)) ++ concat (pieces image kind size (more t) bs))
    ∙ append_assoc (bytes_left image size found j) (piece kind size (j + 1) (block image b)) rest))

-- and no bytes are made up
no_gaps : (image : List ℕ) (size : ℕ) (found : ℕ → Option ℕ) (k : ℕ) → ((i : ℕ) → i < k → (b : ℕ) × (found i ≡ Some b))
    → gaps_left image size found k ≡ []
no_gaps image size found zero h = refl
no_gaps image size found (suc k) h =
    let here = h k (omega arith) in
    ap (with_lost image size (gaps_left image size found k) k) here.1 ∙ no_gaps image size found k (λ i lt. h i (omega arith))

-- a data block of the walk is found
is_found : (image : List ℕ) {s : Course} → IsCourse image s → (n k b : ℕ) → Has s.walk (Data n (suc k)) b → data_found s.walk n k ≡ Some b
is_found image {s = s} v n k b has = taken_at image s.walk (gathered image v) (Data n (suc k)) b has

-- so is one that is before a block
found_below : (end : ℕ) (o : Option ℕ) (b : ℕ) → o ≡ Some b → b < end → below end o ≡ Some b
found_below end o b e lt = ap (below end) e ∙ grind (arith, common_steps, nat_tests)

-- the tests of the form of an OFS data block are those of what it says
says_by : (p q r s x y : Bool) → p ≡ true → q ≡ true → (r && s && x && y) ≡ true → (q && r && s && p) ≡ true
says_by p q r s x y a b c = grind (arith, common_steps)

-- a data block of a file with all of its blocks is left, by its survey and by its course
data_is_left : (image : List ℕ) {s : Course} → IsCourse image s → IsDone image s → (bits : List FindingValue)
    → BitsTell image s 2 (blocks image - 2) bits → (gs : List FindingValue) (n h : ℕ) → IsSound image s.walk gs n h → FileAt image s.walk n h
    → FileHolds image s.walk n h → (k b : ℕ) → Has s.walk (Data n (suc k)) b → data_left image s.walk (s.findings ++ bits) n h k ≡ Some b
data_is_left image {s = s} v d bits t gs n h sound file holds k b has = go (kind_of image) refl
  where
    go : (kind : Kind) → kind_of image ≡ kind → own_data kind image h k (data_alone s.walk (s.findings ++ bits) n k) ≡ Some b
    go Ofs e =
        let (next, after, form) = holds.datas k b has in
        let clauses = subst (λ kind. AllHold (data_demands image kind b h (suc k) (held (kind_of image) (word_in image h SIZE) (suc k)) next)) e form in
        let said : says_data_of image h (suc k) b ≡ true = says_by _ _ _ _ _ _ clauses.0 clauses.1.0 clauses.1.1.0 in
        let named : named_from image h k ≡ b = (found_named image s.walk (s.findings ++ bits) (read v d t) n h file k b has).0 in
        (λ i. cond (says_data_of image h (add-one k i) (named i)) (Some (named i)) None) ∙ ap (λ p. cond p (Some b) None) said
    go Ffs e =
        let found : data_found s.walk n k ≡ Some b = is_found image v n k b has in
        let alone = not_contested image v d bits t n (suc k) b has (sound.alone e (suc k) b has) in
        ap (unless_contested (s.findings ++ bits)) found ∙ ap (λ p. cond p None (Some b)) alone

pub sound_left : (image : List ℕ) (w : Walk) (fs : List FindingValue) (c : Bool) (n : ℕ) → IsSurvey image w fs
    → IsSoundFile image w (counting c fs) n → (k b : ℕ) → Has w (Data n (suc k)) b → data_left image w fs n (node_block w n) k ≡ Some b
sound_left image w fs c n (unread f) sound k b has = absurd has
sound_left image w fs c n (read {s = s} {bits = bits} v d t) sound k b has =
    let h : ℕ = node_block s.walk n in
    let file : FileAt image s.walk n h = record { header = sound.0.header; type = sound.1 } in
    data_is_left image v d bits t (counting c (s.findings ++ bits)) n h sound.0 file
    (whole_file image s.walk (s.findings ++ bits) c n h (read v d t) sound.0 file) k b has

-- where a survey has no finding, each data block in the walk is left
pub clean_left : (image : List ℕ) (w : Walk) (fs : List FindingValue) (n h : ℕ) → IsSurvey image w fs → fs ≡ [] → FileAt image w n h
    → (k b : ℕ) → Has w (Data n (suc k)) b → data_left image w fs n h k ≡ Some b
clean_left image w fs n h (unread f) none file k b has = absurd has
clean_left image w fs n h (read {s = s} {bits = bits} v d t) none file k b has = go (kind_of image) refl
  where
    survey : IsSurvey image s.walk (s.findings ++ bits)
    survey = read v d t

    go : (kind : Kind) → kind_of image ≡ kind → own_data kind image h k (data_alone s.walk (s.findings ++ bits) n k) ≡ Some b
    go Ofs e =
        let sound = all_sound image s.walk (s.findings ++ bits) n h survey none (λ ffs. let clash : Ofs ≡ Ffs = sym e ∙ ffs in cc) file.header in
        let holds = whole_file image s.walk (s.findings ++ bits) false n h survey sound file in
        ap (λ kind. own_data kind image h k (data_alone s.walk (s.findings ++ bits) n k)) (sym e)
        ∙ data_is_left image v d bits t (s.findings ++ bits) n h sound file holds k b has
    go Ffs e = ap (λ fs. unless_contested fs (data_found s.walk n k)) none ∙ ap (unless_contested []) (is_found image v n k b has)

-- what is left of a sound file is its content, and nothing is made up
pub left_of_sound : (image : List ℕ) (w : Walk) (fs : List FindingValue) (c : Bool) (n end : ℕ) → IsSurvey image w fs
    → IsSoundFile image w (counting c fs) n → ((k b : ℕ) → Has w (Data n k) b → b < end)
    → (left_of image w fs end n ≡ file_content (file_in image w n)) × (gaps_of image w fs end n ≡ [])
left_of_sound image w fs c n end (unread f) sound few = absurd sound.0.header.has
left_of_sound image w fs c n end (read {s = s} {bits = bits} v d t) sound before =
    let survey = read v d t in
    let h : ℕ = node_block s.walk n in
    let size : ℕ = word_in image h SIZE in
    let datas : List ℕ = datas_in s.walk n in
    let has = (file_told image s.walk (s.findings ++ bits) c n survey sound.0 sound.1).1 in
    let listed = whole_listed image s.walk (s.findings ++ bits) c n h survey sound.0 in
    let found : (k b : ℕ) → At datas k b → left_below end image s.walk (s.findings ++ bits) n h k ≡ Some b = λ k b g.
    let has = listed.from k b g in
    found_below end (data_left image s.walk (s.findings ++ bits) n h k) b (sound_left image s.walk (s.findings ++ bits) c n survey sound k b has)
    (before (suc k) b has) in
    let parts = few_parts image v in
    let few : data_count image h ≤ blocks image = (
    let a = picked_within (is_data_of n) s.walk in
    let b = parts in
    let e = has.many in
    omega arith
    ) in
    let told : size_stated image h ≡ size =
    min-eq_left (let l = fits_in (kind_of image) size (blocks image) few in let e = has.whole in omega arith) in
    let many : blocks_stated image h ≡ length datas = ap (count (kind_of image)) told ∙ sym has.many in
    let all : length datas ≡ 0 + length datas = omega arith in (
      (λ i. bytes_left image (told i) (left_below end image s.walk (s.findings ++ bits) n h) (many i))
          ∙ (ap (bytes_left image size (left_below end image s.walk (s.findings ++ bits) n h)) all
          ∙ (left_pieces image size (left_below end image s.walk (s.findings ++ bits) n h) 0 datas
          (λ i b g. let e : 0 + i ≡ i = omega arith in ap (left_below end image s.walk (s.findings ++ bits) n h) e ∙ found i b g)
          ∙ joined_content (file_in image s.walk n) has)),
      (λ i. gaps_left image (told i) (left_below end image s.walk (s.findings ++ bits) n h) (many i))
          ∙ no_gaps image size (left_below end image s.walk (s.findings ++ bits) n h) (length datas)
          (λ k lt. let x = at_some datas k lt in (x.0, found k x.0 x.1)),
    )
