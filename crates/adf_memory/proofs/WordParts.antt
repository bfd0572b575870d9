-- The parts of memory between zero bytes.
use Rattle.std.proofs.Common.{◌≡◌, Bor, ℕ, ◌<◌, List, [], ◌∷◌, ◌++◌, length, get_or, arith, sym, ◌∙◌, ap, subst}
use Rattle.std.specs.{List.All, Str.IsUtf8}
use Rattle.std.proofs.{Math.Seq.get_or-append_seam, lemmas.List.Splits.length-slice_split, lemmas.Grind.common_steps}
use Rattle.std.proofs.lemmas.List.{append_assoc, append_cancel_right, get_or_append_left, map-append, length-append, Elements.All-push}
use Rattle.adf_memory.specs.Words.{AreWords, is_zero, between_zeros}
use Rattle.adf_words.specs.CommandLine.{texts_of}

-- memory holds one list of words at most
pub one_list : (bytes : List ℕ) (words others : List (List ℕ)) → AreWords bytes words → AreWords bytes others → words ≡ others
one_list bytes words others h g = append_cancel_right words others ([] ∷ []) (sym h.ended ∙ g.ended)

-- a part that is no text, and is not the last, stands among no words
pub no_text : (bytes rest word after : List ℕ) (done : List (List ℕ)) → between_zeros bytes ≡ done ++ between_zeros rest
    → between_zeros rest ≡ word ∷ between_zeros after
    → ¬ IsUtf8 word → (words : List (List ℕ)) → ¬ AreWords bytes words
no_text bytes rest word after done split cut bad words h =
    let whole : words ++ [] ∷ [] ≡ done ++ word ∷ between_zeros after = sym h.ended ∙ (split ∙ ap (λ ps. done ++ ps) cut) in
    let within : length done < length words =
    omega (
      arith,
      ap length whole,
      length-append words ([] ∷ []),
      length-append done (word ∷ between_zeros after),
      length-slice_split is_zero after,
    ) in
    let same : get_or words (length done) word ≡ word =
    sym (get_or_append_left words ([] ∷ []) word (length done) within)
    ∙ (ap (λ zs. get_or zs (length done) word) whole ∙ get_or-append_seam done word (between_zeros after) word) in
    bad (subst IsUtf8 same (h.texts (length done) word within))

-- words that were read, as a slice has them
pub read_as : (bytes : List ℕ) (slice items : List (Bor (List ℕ))) → slice ≡ items → AreWords bytes (texts_of items) → AreWords bytes (texts_of slice)
read_as bytes slice items same h = subst (λ (ws : List (Bor (List ℕ))). AreWords bytes (texts_of ws)) (sym same) h

texts_pushed : (items : List (Bor (List ℕ))) (text : Bor (List ℕ)) → texts_of (items ++ text ∷ []) ≡ texts_of items ++ text.now ∷ []
texts_pushed items text = map-append (λ (w : Bor (List ℕ)). w.now) items (text ∷ [])

-- a word is behind those before it, and is a text as they are
pub pushed_split : (bytes rest word after : List ℕ) (items : List (Bor (List ℕ))) (text : Bor (List ℕ)) → between_zeros bytes ≡ texts_of items
    ++ between_zeros rest
    → between_zeros rest ≡ word ∷ between_zeros after → text.now ≡ word → between_zeros bytes ≡ texts_of (items ++ text ∷ []) ++ between_zeros after
pushed_split bytes rest word after items text split cut same = grind (arith, common_steps, append_assoc, texts_pushed)

pub pushed_texts : (items : List (Bor (List ℕ))) (text : Bor (List ℕ)) → All IsUtf8 (texts_of items) → IsUtf8 text.now
    → All IsUtf8 (texts_of (items ++ text ∷ []))
pushed_texts items text all is =
    subst (All IsUtf8) (sym (texts_pushed items text)) (All-push IsUtf8 (texts_of items) text.now all is)

-- what holds of some words in memory holds of all
pub along : (bytes : List ℕ) (texts words : List (List ℕ)) (P : List (List ℕ) → Type 0) → AreWords bytes texts → AreWords bytes words
    → P texts → P words
along bytes texts words P h g p = subst P (one_list bytes texts words h g) p
