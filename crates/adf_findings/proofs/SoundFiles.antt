-- The data blocks of a sound file are those in its table.
use Rattle.std.proofs.Common.{Bool, false, get_or, slice_index, ◌≡◌, ℕ, suc, List, [], ◌++◌, ◌*◌, ◌^◌, ◌<◌, length, sym, ap, subst, ◌∙◌, arith}
use Rattle.adf_blocks.specs.{declared.layout.TheConstants.SECONDARY_TYPE, declared.layout.TheConstants.SIZE, declared.layout.TheConstants.ST_FILE, Sizes.blocks}
use Rattle.adf_volume.proofs.{Images.count_small, Lists.at_index_or, Lists.at_some, Lists.in_left, PieceBytes.pieces_joined, Roles.same_refl}
use Rattle.adf_volume.specs.{Image.kind_of, Image.pieces, Image.word_in, Made.datas_in, Pieces.AreInside}
use Rattle.adf_volume.specs.Walk.{FileAt, data_count, node_block, Walk, Role.Data}
use Rattle.std.specs.List.{concat}
use Rattle.adf_findings.specs.Files.{FileValue, HasItsBlocks, counting, file_content, file_from, file_in, names_from}
use Rattle.adf_findings.specs.{Sound.IsSound, SurveyResult.IsOfSurvey, SurveyResult.SurveyValue}
use Rattle.adf_findings.specs.Survey.{FindingValue, IsSurvey, IsSurvey.read, IsSurvey.unread}
use Rattle.adf_findings.proofs.{Keeping.tells_each, GraveFindings.data_unreported, SoundMarks.data_inside, Starts.course_size}
use Rattle.adf_findings.proofs.FileBlocks.{DatasListed, datas_listed, listed_named, names_length}
use Rattle.adf_findings.proofs.SoundEntries.{skipped_reported, whole_file}

-- the data blocks of a sound entry are in the walk in order; the findings that count may be the grave ones alone
pub whole_listed : (image : List ℕ) (w : Walk) (fs : List FindingValue) (c : Bool) (n h : ℕ) → IsSurvey image w fs
    → IsSound image w (counting c fs) n h → DatasListed image n w
whole_listed image w fs c n h (unread f) sound = absurd sound.header.has
whole_listed image w fs c n h (read {s = s} {bits = bits} v d told) sound =
    datas_listed image n v (λ k b g. let y = skipped_reported image v (Data n k) b g in
    data_unreported c (s.findings ++ bits) n k (sound.datas k) y.0 (Data n k) (in_left s.findings bits y.0 y.1) y.2 (same_refl (Data n k)))

pub sound_listed : (image : List ℕ) (w : Walk) (fs : List FindingValue) (n h : ℕ) → IsSurvey image w fs → IsSound image w fs n h
    → DatasListed image n w
sound_listed image w fs n h survey sound = whole_listed image w fs false n h survey sound

-- the file that the table of a sound file tells is that of the walk, and it has its blocks
pub file_told : (image : List ℕ) (w : Walk) (fs : List FindingValue) (c : Bool) (n : ℕ) → IsSurvey image w fs
    → IsSound image w (counting c fs) n (node_block w n) → word_in image (node_block w n) SECONDARY_TYPE ≡ ST_FILE
    → (file_from image (node_block w n) ≡ file_in image w n) × HasItsBlocks (file_in image w n)
file_told image w fs c n (unread f) sound type = absurd sound.header.has
file_told image w fs c n (read {s = s} {bits = bits} v d told) sound type =
    let h : ℕ = node_block s.walk n in
    let file : FileAt image s.walk n h = record { header = sound.header; type = type } in
    let holds = whole_file image s.walk (s.findings ++ bits) c n h (read v d told) sound file in
    let listed = whole_listed image s.walk (s.findings ++ bits) c n h (read v d told) sound in
    let e : names_from image h (data_count image h) ≡ datas_in s.walk n =
    listed_named image n v listed h file (λ k lt. let y = holds.named k lt in (y.1, y.4)) in (
      (λ i. record { image = image; head = h; blocks = e i }),
      record {
        whole = (course_size image v).0;
        inside = (λ k b g. data_inside image v n (suc k) b (listed.from k b g));
        many = sym (ap length e) ∙ names_length image n h (data_count image h);
      },
    )

-- what is kept of a survey tells of the header of an entry
module _ (v : SurveyValue) (kept : IsOfSurvey v) (w : Walk) (fs : List FindingValue) (h : IsSurvey v.image w fs) (n : ℕ)
    {head type : ℕ} {image : List ℕ} (is_image : image ≡ v.image) (is_head : head ≡ slice_index v.nodes n)
    (is_type : type ≡ word_in image head SECONDARY_TYPE) where
  head_is : head ≡ node_block w n
  head_is = is_head ∙ (tells_each v kept w fs h).node n

  pub type_is : type ≡ word_in v.image (node_block w n) SECONDARY_TYPE
  type_is = is_type ∙ (λ i. word_in (is_image i) (head_is i) SECONDARY_TYPE)

  module _ (c : Bool) (sound : IsSound v.image w (counting c fs) n (node_block w n)) (file : type ≡ ST_FILE) where
    pub file_is : file_from image head ≡ file_in v.image w n
    file_is = (λ i. file_from (is_image i) (head_is i)) ∙ (file_told v.image w fs c n h sound (sym type_is ∙ file)).0

    pub has_its_blocks : HasItsBlocks (file_from image head)
    has_its_blocks = subst HasItsBlocks (sym file_is) (file_told v.image w fs c n h sound (sym type_is ∙ file)).1

-- the data blocks of a file are inside of the image
pub blocks_inside : (f : FileValue) → HasItsBlocks f → word_in f.image f.head SIZE < 2 ^ 32 → AreInside f.image f.blocks 1
blocks_inside f has small =
    let few = count_small (kind_of f.image) (word_in f.image f.head SIZE) small in
    record {
      inside = (λ i d lt.
          let x = at_some f.blocks i lt in
          let e : get_or f.blocks i d ≡ x.0 = at_index_or f.blocks i x.0 d x.1 in
          let b : x.0 < blocks f.image = has.inside i x.0 x.1 in
          let whole : length f.image ≡ 512 * blocks f.image = has.whole in
          omega arith);
      from = omega arith;
      few = omega (arith, has.many);
    }

-- a table that names no block names none of none
pub names_none : (image : List ℕ) (h k : ℕ) → names_from image h k ≡ [] → k ≡ 0
names_none image h k none = sym (names_length image 0 h k) ∙ ap length none

-- the pieces of a file, one after the other, are its content
pub joined_content : (f : FileValue) → HasItsBlocks f
    → concat (pieces f.image (kind_of f.image) (word_in f.image f.head SIZE) 1 f.blocks) ≡ file_content f
joined_content f has = pieces_joined f.image (kind_of f.image) f.head f.blocks has.whole has.inside
