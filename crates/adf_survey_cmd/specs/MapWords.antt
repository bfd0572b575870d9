-- The word of a command line that names a map. Letters: ws words, w one of them; i a word's number, k a number of words.
use Rattle.std.specs.Prelude.{ℕ, ◌+◌, ◌&&◌, ◌||◌, nat_lt, Bool, cond, List, [], Option, None, Some, codes, length, slice_index_or, unwrap_or}
use Rattle.std.specs.Str.{bytes_eq}
use Rattle.std.proofs.Common.{zero, suc}

-- the options in front of a command end with a word
abbrev pub ends_options : List ℕ → Bool
ends_options w =
    bytes_eq w (codes "cat") || (bytes_eq w (codes "deleted") || (bytes_eq w (codes "rescue") || (bytes_eq w (codes "blank")
    || (bytes_eq w (codes "claims") || bytes_eq w (codes "--")))))

-- word i is `--map`, and one is behind it
abbrev pub names_map : List (List ℕ) → ℕ → Bool
names_map ws i = bytes_eq (slice_index_or ws i []) (codes "--map") && nat_lt (i + 1) (length ws)

-- what word i tells: which word names a map, or that none does; or nothing
abbrev pub told_by_word : List (List ℕ) → ℕ → Option (Option ℕ)
told_by_word ws i = cond (names_map ws i) (Some (Some (i + 1))) (cond (ends_options (slice_index_or ws i [])) (Some None) None)

-- what the first k words tell: the first of them that tells anything
unfoldable pub told_by_words : List (List ℕ) → ℕ → Option (Option ℕ)
told_by_words ws zero = None
told_by_words ws (suc k) = elim (told_by_words ws k) [ Some told ↦ Some told | None ↦ told_by_word ws k ]

-- the number of the word that names a map: the one behind `--map`, which is before any command
abbrev pub map_word : List (List ℕ) → Option ℕ
map_word ws = unwrap_or (told_by_words ws (length ws)) None
