-- Images without what was not read: the steps, and what stays.
-- Letters: b, p blocks, h the header of a file; s a pointer; k, n numbers of pointers or of blocks; old, new images.
use Rattle.std.proofs.Common.{◌≡◌, ◌<◌, ◌≤◌, ◌+◌, ◌*◌, ◌%◌, ◌^◌, ◌∙◌, ◌++◌, ℕ, zero, suc, Bool, true, false, List, [], ◌∷◌, length, add-one, ap, arith, refl, subst}
use Rattle.std.proofs.Common.{inl, inr, cond, min, replicate}
use Rattle.std.proofs.lemmas.Bool.{cases_lt, or_from, or_left, or_right}
use Rattle.std.proofs.lemmas.List.{length-replicate, Elements.All-replicate}
use Rattle.adf_base.specs.Words.{block, with_block, with_word, word}
use Rattle.adf_base.proofs.ByteLists.{AreBytes, IsByte, block_bytes, block_written_bytes, word_written}
use Rattle.adf_base.proofs.WordLaws.{length-block, length-with_bytes, length-with_word}
use Rattle.adf_blocks.specs.Sizes.{blocks}
use Rattle.adf_maps.specs.Maps.{MapValue, is_unread}
use Rattle.adf_unread.specs.Mapped.{unread_among}
use Rattle.adf_unread.specs.Blank.{blank_among, is_blank_block}
use Rattle.adf_unread.specs.Dropped.{zeroed, zeroed_at, is_data_of_file, unread_at, names_data_of, pointer, pointer_dropped, pointers_dropped}
use Rattle.adf_unread.specs.Dropped.{is_plain_table, table_dropped, tables_dropped, without_pointer, without_unread, word_put}
use Rattle.adf_blocks.specs.declared.layout.TheConstants.{CHECKSUM, MOST_BLOCKS}

-- the marks of blank blocks

pub no_marks : (image : List ℕ) → blank_among image 0 ≡ []
unfolding blank_among
no_marks image = refl

pub one_more_mark : (image : List ℕ) (k : ℕ) (marks : List Bool) → marks ≡ blank_among image k
    → marks ++ is_blank_block (block image k) ∷ [] ≡ blank_among image (k + 1)
unfolding blank_among
one_more_mark image k marks so_far = rw add-one (ap (λ l. l ++ is_blank_block (block image k) ∷ []) so_far)

pub ruleset marks_steps = (no_marks, one_more_mark)

-- the marks by a map

pub no_unread : (m : MapValue) → unread_among m 0 ≡ []
unfolding unread_among
no_unread m = refl

pub one_more_unread : (m : MapValue) (k : ℕ) (marks : List Bool) → marks ≡ unread_among m k → marks ++ is_unread m k ∷ [] ≡ unread_among m (k + 1)
unfolding unread_among
one_more_unread m k marks so_far = rw add-one (ap (λ l. l ++ is_unread m k ∷ []) so_far)

pub ruleset map_steps = (no_unread, one_more_unread)

-- the blocks

module _ (marks : List Bool) (image : List ℕ) where
  pub none_zeroed : zeroed marks image 0 ≡ image
  unfolding zeroed
  none_zeroed = refl

  pub one_zeroed : (k : ℕ) (old new : List ℕ) → old ≡ zeroed marks image k → new ≡ zeroed_at marks old k → new ≡ zeroed marks image (k + 1)
  unfolding zeroed
  one_zeroed k old new before step = step ∙ (ap (λ l. zeroed_at marks l k) before ∙ rw add-one refl)

  pub no_tables : tables_dropped marks image 0 ≡ image
  unfolding tables_dropped
  no_tables = refl

  pub one_table : (k : ℕ) (old new : List ℕ) → old ≡ tables_dropped marks image k → new ≡ table_dropped marks old k
      → new ≡ tables_dropped marks image (k + 1)
  unfolding tables_dropped
  one_table k old new before step = step ∙ (ap (λ l. table_dropped marks l k) before ∙ rw add-one refl)

  pub no_pointers : (b : ℕ) → pointers_dropped marks image b 0 ≡ image
  unfolding pointers_dropped
  no_pointers b = refl

  pub one_pointer : (b k : ℕ) (old new : List ℕ) → old ≡ pointers_dropped marks image b k → new ≡ pointer_dropped marks old b k
      → new ≡ pointers_dropped marks image b (k + 1)
  unfolding pointers_dropped
  one_pointer b k old new before step = step ∙ (ap (λ l. pointer_dropped marks l b k) before ∙ rw add-one refl)

pub ruleset zeroed_steps = (none_zeroed, one_zeroed)

pub ruleset tables_steps = (no_tables, one_table)

pub ruleset pointers_steps = (no_pointers, one_pointer)

-- the data blocks of a table

module _ (image : List ℕ) (h b : ℕ) where
  pub no_data_first : names_data_of image h b 0 ≡ false
  unfolding names_data_of
  no_data_first = refl

  pub no_data_more : (k : ℕ) → names_data_of image h b k ≡ false → is_data_of_file image h (pointer image b k) ≡ false
      → names_data_of image h b (k + 1) ≡ false
  unfolding names_data_of
  no_data_more k before here = rw add-one (or_from (names_data_of image h b k) (is_data_of_file image h (pointer image b k)) before here)

  pub one_data : (k n : ℕ) → k < n → is_data_of_file image h (pointer image b k) ≡ true → names_data_of image h b n ≡ true
  unfolding names_data_of
  one_data k zero inside here = absurd (omega arith)
  one_data k (suc n) inside here = elim (cases_lt k n) [
    | inl before ↦ or_left (names_data_of image h b n) _ (one_data k n before here)
    | inr from ↦
        let last : k ≡ n = omega arith in
        or_right (names_data_of image h b n) _ (subst (λ s. is_data_of_file image h (pointer image b s) ≡ true) last here)
  ]

pub ruleset data_steps = (no_data_first, no_data_more, one_data)

-- the length stays

length_cond : (c : Bool) (one other : List ℕ) (n : ℕ) → length one ≡ n → length other ≡ n → length (cond c one other) ≡ n
length_cond true one other n a b = a
length_cond false one other n a b = b

length_put : (image : List ℕ) (b i v : ℕ) → b * 512 + 512 ≤ length image → i < 128 → length (word_put image b i v) ≡ length image
length_put image b i v whole lt =
    let here : length (block image b) ≡ 512 = length-block image b whole in
    let long : length (with_word (block image b) i v) ≡ 512 = length-with_word (block image b) i v (omega (arith, here, lt)) ∙ here in
    length-with_bytes image (b * 512) (with_word (block image b) i v) (omega (arith, long, whole))

length_zeroed_at : (marks : List Bool) (image : List ℕ) (b : ℕ) → b * 512 + 512 ≤ length image → length (zeroed_at marks image b) ≡ length image
length_zeroed_at marks image b whole =
    let zeros : length {A = ℕ} (replicate 512 0) ≡ 512 = length-replicate {A = ℕ} 512 0 in
    length_cond (unread_at marks b) (with_block image b (replicate 512 0)) image (length image)
    (length-with_bytes image (b * 512) (replicate 512 0) (omega (arith, zeros, whole))) refl

pub length_zeroed : (marks : List Bool) (image : List ℕ) (k : ℕ) → k ≤ blocks image → length (zeroed marks image k) ≡ length image
unfolding zeroed
length_zeroed marks image zero le = refl
length_zeroed marks image (suc k) le =
    let before = length_zeroed marks image k (omega (arith, le)) in
    length_zeroed_at marks (zeroed marks image k) k (omega (arith, le, before)) ∙ before

length_dropped : (marks : List Bool) (image : List ℕ) (b s : ℕ) → b * 512 + 512 ≤ length image → s < 72
    → length (pointer_dropped marks image b s) ≡ length image
length_dropped marks image b s whole lt =
    let sum = (word (block image b) CHECKSUM + pointer image b s) % 2 ^ 32 in
    let one : length (word_put image b CHECKSUM sum) ≡ length image = length_put image b CHECKSUM sum whole (omega arith) in
    length_cond (unread_at marks (pointer image b s)) (without_pointer image b s) image (length image)
    (length_put (word_put image b CHECKSUM sum) b (6 + s) 0 (omega (arith, one, whole)) (omega (arith, lt)) ∙ one) refl

length_pointers : (marks : List Bool) (image : List ℕ) (b k : ℕ) → b * 512 + 512 ≤ length image → k ≤ 72
    → length (pointers_dropped marks image b k) ≡ length image
unfolding pointers_dropped
length_pointers marks image b zero whole le = refl
length_pointers marks image b (suc k) whole le =
    let before = length_pointers marks image b k whole (omega (arith, le)) in
    length_dropped marks (pointers_dropped marks image b k) b k (omega (arith, whole, before)) (omega (arith, le)) ∙ before

length_tables : (marks : List Bool) (image : List ℕ) (k : ℕ) → k ≤ blocks image → length (tables_dropped marks image k) ≡ length image
unfolding tables_dropped
length_tables marks image zero le = refl
length_tables marks image (suc k) le =
    let before = length_tables marks image k (omega (arith, le)) in
    let whole : k * 512 + 512 ≤ length (tables_dropped marks image k) = omega (arith, le, before) in
    length_cond (is_plain_table (tables_dropped marks image k) k) (pointers_dropped marks (tables_dropped marks image k) k 72)
    (tables_dropped marks image k) (length image) (length_pointers marks (tables_dropped marks image k) k 72 whole (omega arith) ∙ before) before

pub length_without : (marks : List Bool) (image : List ℕ) → length (without_unread marks image) ≡ length image
length_without marks image =
    let n = min MOST_BLOCKS (blocks image) in
    let le : n ≤ blocks image = omega arith in
    let before = length_zeroed marks image n le in
    length_tables marks (zeroed marks image n) n (omega (arith, le, before)) ∙ before

-- nothing is dropped where all was read

none_zeroed_all : (image : List ℕ) (k : ℕ) → zeroed [] image k ≡ image
unfolding zeroed
none_zeroed_all image zero = refl
none_zeroed_all image (suc k) = none_zeroed_all image k

none_dropped : (image : List ℕ) (b k : ℕ) → pointers_dropped [] image b k ≡ image
unfolding pointers_dropped
none_dropped image b zero = refl
none_dropped image b (suc k) = none_dropped image b k

one_of : (c : Bool) (one other : List ℕ) → one ≡ other → cond c one other ≡ other
one_of true one other same = same
one_of false one other same = refl

none_in_tables : (image : List ℕ) (k : ℕ) → tables_dropped [] image k ≡ image
unfolding tables_dropped
none_in_tables image zero = refl
none_in_tables image (suc k) =
    let old = tables_dropped [] image k in one_of (is_plain_table old k) (pointers_dropped [] old k 72) old (none_dropped old k 72) ∙ none_in_tables image k

pub all_read : (image : List ℕ) → without_unread [] image ≡ image
all_read image =
    let n = min MOST_BLOCKS (blocks image) in ap (λ l. tables_dropped [] l n) (none_zeroed_all image n) ∙ none_in_tables image n

-- bytes stay bytes

bytes_cond : (c : Bool) (one other : List ℕ) → AreBytes one → AreBytes other → AreBytes (cond c one other)
bytes_cond true one other a b = a
bytes_cond false one other a b = b

bytes_put : (image : List ℕ) (b i v : ℕ) → AreBytes image → AreBytes (word_put image b i v)
bytes_put image b i v are =
    block_written_bytes image b (with_word (block image b) i v) are (word_written (block image b) i v (block_bytes image b are))

bytes_zeroed : (marks : List Bool) (image : List ℕ) (k : ℕ) → AreBytes image → AreBytes (zeroed marks image k)
unfolding zeroed
bytes_zeroed marks image zero are = are
bytes_zeroed marks image (suc k) are =
    let old : List ℕ = zeroed marks image k in
    let before = bytes_zeroed marks image k are in
    bytes_cond (unread_at marks k) (with_block old k (replicate 512 0)) old
    (block_written_bytes old k (replicate 512 0) before (All-replicate IsByte 512 0 (omega arith))) before

bytes_pointers : (marks : List Bool) (image : List ℕ) (b k : ℕ) → AreBytes image → AreBytes (pointers_dropped marks image b k)
unfolding pointers_dropped
bytes_pointers marks image b zero are = are
bytes_pointers marks image b (suc k) are =
    let old : List ℕ = pointers_dropped marks image b k in
    let before = bytes_pointers marks image b k are in
    let sum : ℕ = (word (block old b) CHECKSUM + pointer old b k) % 2 ^ 32 in
    bytes_cond (unread_at marks (pointer old b k)) (without_pointer old b k) old
    (bytes_put (word_put old b CHECKSUM sum) b (6 + k) 0 (bytes_put old b CHECKSUM sum before)) before

bytes_tables : (marks : List Bool) (image : List ℕ) (k : ℕ) → AreBytes image → AreBytes (tables_dropped marks image k)
unfolding tables_dropped
bytes_tables marks image zero are = are
bytes_tables marks image (suc k) are =
    let old : List ℕ = tables_dropped marks image k in
    let before = bytes_tables marks image k are in
    bytes_cond (is_plain_table old k) (pointers_dropped marks old k 72) old (bytes_pointers marks old k 72 before) before

pub bytes_without : (marks : List Bool) (image : List ℕ) → AreBytes image → AreBytes (without_unread marks image)
bytes_without marks image are =
    let n = min MOST_BLOCKS (blocks image) in bytes_tables marks (zeroed marks image n) n (bytes_zeroed marks image n are)
