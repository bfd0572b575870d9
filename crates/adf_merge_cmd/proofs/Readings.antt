-- Readings that are had, and those that are alike. Letters: ws the words that name them, ns their names; w one of the words; rs the readings.
use Rattle.std.proofs.Common.{◌≡◌, ◌≤◌, ◌<◌, ◌+◌, ◌%◌, ◌==◌, ◌∙◌, ◌++◌, ℕ, Bool, true, not, List, [], ◌∷◌, All, Bor, IfSome, None, Option, Some, ap, arith}
use Rattle.std.proofs.Common.{eqb-true, false, get_or, inl, inr, length, refl, subst, sym, take}
use Rattle.std.proofs.{lemmas.Bool.and_parts, lemmas.Grind.common_steps, lemmas.Slice.Zip.AllZip-long}
use Rattle.std.specs.{Prelude.◌&&◌, List.AllZip}
use Rattle.std.proofs.lemmas.List.{get_or-map, length-map, take_more, Elements.AllZip-push}
use Rattle.clap.specs.Words.{Text}
use Rattle.adf_words.specs.CommandLine.{texts_of}
use Rattle.adf_merge_cmd.specs.{Sizes.has_reading_size, declared.sizes.TheConstants.MOST_BYTES}
use Rattle.adf_runs.specs.{Commands.Reply, Streams.AreFirst}
use Rattle.adf_readings.specs.{Mapped.MappedValue, Merge.AreFound, Merge.IsMergeOf, declared.doubt.Doubt.Doubt}
use Rattle.adf_merge_cmd.specs.Answers.{AreAlike, AreReadings, IsLikeFirst, IsMergeReply, differ_in_type, first_reading, is_alike, told_reply}

-- the name of a word
pub named : (ws : List (Bor (List ℕ))) (i : ℕ) (w : Bor (List ℕ)) → i < length ws → w ≡ get_or ws i w → w.now ≡ get_or (texts_of ws) i w.now
named ws i w lt at = ap (λ x. x.now) at ∙ sym (get_or-map (λ x. x.now) ws i w w.now lt)

pub texts_long : (ws : List (Bor (List ℕ))) → length (texts_of ws) ≡ length ws
texts_long ws = length-map ws (λ w. w.now)

name_at : (ws : List (Bor (List ℕ))) (i : ℕ) (w : Bor (List ℕ)) → i < length ws → get_or (texts_of ws) i w.now ≡ (get_or ws i w).now
name_at ws i w lt = get_or-map (λ x. x.now) ws i w w.now lt

-- the bytes of a file, where they are known
pub file_bytes : (known left : Option (List ℕ)) (bytes : List ℕ) → IfSome known (λ all. left ≡ Some all) → AreFirst (MOST_BYTES + 1) left bytes
    → IfSome known (λ all. bytes ≡ take (MOST_BYTES + 1) all)
file_bytes None left bytes same first = tt
file_bytes (Some all) left bytes same first = rw same at first

-- one reading more
pub read_more : (bytes_of : List ℕ → Option (List ℕ)) (ws : List (Bor (List ℕ))) (i : ℕ) (w : Bor (List ℕ)) (rs : List (List ℕ)) (r : List ℕ)
    → i < length ws → AreReadings bytes_of (take i (texts_of ws)) rs → IfSome (bytes_of (get_or ws i w).now) (λ all. r ≡ take (MOST_BYTES + 1) all)
    → AreReadings bytes_of (take (i + 1) (texts_of ws)) (rs ++ r ∷ [])
read_more bytes_of ws i w rs r lt so_far one =
    let R : List ℕ → List ℕ → Type 0 = λ name r. IfSome (bytes_of name) (λ all. r ≡ take (MOST_BYTES + 1) all) in
    let name : List ℕ = (get_or ws i w).now in
    let more : take (i + 1) (texts_of ws) ≡ take i (texts_of ws) ++ name ∷ [] =
    take_more (texts_of ws) i w.now (subst (λ n. i < n) (sym (texts_long ws)) lt) ∙ ap (λ x. take i (texts_of ws) ++ x ∷ []) (name_at ws i w lt) in
    subst (λ ns. AllZip R ns (rs ++ r ∷ [])) (sym more) (AllZip-push R (take i (texts_of ws)) rs name r so_far one)

-- there are as many readings as names
pub as_many : (bytes_of : List ℕ → Option (List ℕ)) (ns : List Text) (rs : List (List ℕ)) → AreReadings bytes_of ns rs → length rs ≡ length ns
as_many bytes_of ns rs are = AllZip-long (λ name r. IfSome (bytes_of name) (λ all. r ≡ take (MOST_BYTES + 1) all)) ns rs are

-- what is alike has the size of the first one
image_size : (r : List ℕ) → has_reading_size r ≡ true → (length r % 512 ≡ 0) × (length r ≤ MOST_BYTES)
image_size r e = grind (arith, common_steps)

like_first : (first r : List ℕ) → is_alike first r ≡ true → IsLikeFirst first r
like_first first r e =
    let parts = and_parts (has_reading_size r) ((length r == length first) && not (differ_in_type first r)) e in
    let size = image_size r parts.0 in
    (size.0, size.1, eqb-true (length r) (length first) (and_parts (length r == length first) (not (differ_in_type first r)) parts.1).0)

pub all_sized : (rs : List (List ℕ)) → AreAlike rs → All (IsLikeFirst (first_reading rs)) rs
all_sized rs alike = λ k d lt. like_first (first_reading rs) (get_or rs k d) (alike k d lt)

-- what readings are merged into is answered, with the lines of what is told of its blocks
pub merged_answer : (blocks : ℕ) (ms : List MappedValue) (doubts : List Doubt) (image lines : List ℕ) (sound : Bool) → IsMergeOf blocks ms image
    → (doubts ≡ [] → AreFound blocks ms) → (sound ≡ true → doubts ≡ []) → (sound ≡ false → 0 < length doubts)
    → (0 < length doubts → 0 < length lines) → (reply : Reply) → reply ≡ told_reply sound image lines → IsMergeReply blocks ms reply
merged_answer blocks ms doubts image lines true whole found none some said reply is =
    rw is (record { image = whole; said = inl (refl, refl, found (none refl)) })
merged_answer blocks ms doubts image lines false whole found none some said reply is =
    rw is (record { image = whole; said = inr (refl, λ e. omega (arith, some refl, said (some refl), ap length e)) })
