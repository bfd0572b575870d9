-- The maps of GNU ddrescue. Letters: c a byte, ws the words of a row; s a stretch, ss stretches; h a hole; m a map, b the number of a block.
use Rattle.std.specs.Prelude.{◌+◌, ◌*◌, ◌-◌, ◌++◌, ◌==◌, ◌&&◌, ◌||◌, not, nat_le, nat_lt, ℕ, Bool, true, false, if◌then◌else◌, List, [], ◌∷◌}
use Rattle.std.specs.Prelude.{Option, None, Some, codes, is_some, length, map, slice_index}
use Rattle.std.specs.{List.Sorted.IsNonDecreasingBy, List.filter, List.list_any, List.slice_split, Str.bytes_eq}
use Rattle.adf_maps.specs.{declared.hole.Hole.Hole, declared.numbers.TheConstants.MOST_NUMBER, declared.stretch.Stretch.Stretch}

-- the value of a digit; 16 if it is none
abbrev pub digit_value : ℕ → ℕ
digit_value c =
    if nat_le 48 c && nat_le c 57 then c - 48
    else (if nat_le 97 c && nat_le c 102 then c - 97 + 10
    else (if nat_le 65 c && nat_le c 70 then c - 65 + 10 else 16))

-- n and the digits behind it, if the number is at most MOST_NUMBER
unfoldable pub number_behind : ℕ → ℕ → List ℕ → Option ℕ
number_behind radix n [] = Some n
number_behind radix n (c ∷ cs) =
    if nat_lt (digit_value c) radix && nat_le (radix * n + digit_value c) MOST_NUMBER then number_behind radix (radix * n + digit_value c) cs else None

-- a number: decimal without a 0 in front, or hexadecimal behind 0x
abbrev pub number_spelled : List ℕ → Option ℕ
number_spelled [] = None
number_spelled (c ∷ []) = number_behind 10 0 (c ∷ [])
number_spelled (c ∷ d ∷ []) = if c == 48 then None else number_behind 10 0 (c ∷ d ∷ [])
number_spelled (c ∷ d ∷ e ∷ cs) =
    if c == 48 then (if (d == 120) || (d == 88) then number_behind 16 0 (e ∷ cs) else None) else number_behind 10 0 (c ∷ d ∷ e ∷ cs)

-- a space, a tab or a carriage return
abbrev pub is_blank : ℕ → Bool
is_blank c = (c == 32) || ((c == 9) || (c == 13))

-- the words of a line
abbrev pub words_of : List ℕ → List (List ℕ)
words_of line = filter (λ w. nat_lt 0 (length w)) (slice_split is_blank line)

-- a line without words tells nothing, nor does a comment
abbrev pub is_silent : List (List ℕ) → Bool
is_silent [] = true
is_silent (w ∷ ws) = slice_index w 0 == 35

-- the rows of lines: the words of each line that tells something
abbrev pub rows_in : List (List ℕ) → List (List (List ℕ))
rows_in lines = filter (λ ws. not (is_silent ws)) (map words_of lines)

-- the rows of a text
abbrev pub rows_of : List ℕ → List (List (List ℕ))
rows_of text = rows_in (slice_split (λ c. c == 10) text)

-- what ddrescue was at
abbrev pub is_work : List ℕ → Bool
is_work w = list_any (λ c. bytes_eq w (c ∷ [])) (codes "?*/-FG+")

-- the row of the status: a position, what ddrescue was at, and perhaps its pass
abbrev pub is_status : List (List ℕ) → Bool
is_status (position ∷ work ∷ []) = is_some (number_spelled position) && is_work work
is_status (position ∷ work ∷ pass ∷ []) = is_some (number_spelled position) && (is_work work && is_some (number_spelled pass))
is_status ws = false

-- + is the status of a stretch that was read
abbrev pub was_read : List ℕ → Option Bool
was_read w = if bytes_eq w (codes "+") then Some true else (if list_any (λ c. bytes_eq w (c ∷ [])) (codes "?*/-") then Some false else None)

-- the stretch of three words: a position, a size and a status
abbrev pub stretch_with : Option ℕ → Option ℕ → Option Bool → Option Stretch
stretch_with None size status = None
stretch_with (Some start) None status = None
stretch_with (Some start) (Some size) None = None
stretch_with (Some start) (Some size) (Some is_read) = if size == 0 then None else Some (record { start = start; size = size; is_read = is_read })

abbrev pub stretch_of : List (List ℕ) → Option Stretch
stretch_of (start ∷ size ∷ status ∷ []) = stretch_with (number_spelled start) (number_spelled size) (was_read status)
stretch_of ws = None

-- one stretch more in front
abbrev pub with_stretch : Option Stretch → Option (List Stretch) → Option (List Stretch)
with_stretch None ss = None
with_stretch (Some s) None = None
with_stretch (Some s) (Some ss) = Some (s ∷ ss)

-- the stretches of rows, if each row tells one
unfoldable pub stretches_of : List (List (List ℕ)) → Option (List Stretch)
stretches_of [] = Some []
stretches_of (row ∷ rows) = with_stretch (stretch_of row) (stretches_of rows)

-- the stretches of all rows: behind that of the status
abbrev pub stretches_told : List (List (List ℕ)) → Option (List Stretch)
stretches_told [] = None
stretches_told (row ∷ rows) = if is_status row then stretches_of rows else None

abbrev pub stretch_end : Stretch → ℕ
stretch_end s = s.start + s.size

-- no stretch begins before the end of the one before it; all that is before them ends at `end`
unfoldable pub are_in_order : ℕ → List Stretch → Bool
are_in_order end [] = true
are_in_order end (s ∷ ss) = nat_le end s.start && are_in_order (stretch_end s) ss

-- where the last stretch ends
unfoldable pub last_end : ℕ → List Stretch → ℕ
last_end end [] = end
last_end end (s ∷ ss) = last_end (stretch_end s) ss

-- the hole from a byte up to another, if there is one
abbrev pub hole_between : ℕ → ℕ → List Hole
hole_between start end = if nat_lt start end then record { start = start; end = end } ∷ [] else []

-- a stretch is a hole if its status is not +
abbrev pub own_holes : Stretch → List Hole
own_holes s = if s.is_read then [] else hole_between s.start (stretch_end s)

-- what was not read: what no stretch has, and the stretches that are holes
unfoldable pub holes_behind : ℕ → List Stretch → List Hole
holes_behind end [] = []
holes_behind end (s ∷ ss) = hole_between end s.start ++ (own_holes s ++ holes_behind (stretch_end s) ss)

-- a map: what was not read of the bytes before `end`, and where the last stretch ends
pub record MapValue : Type 0 where
  pub holes : List Hole
  pub end : ℕ

-- the map of stretches, if they are in order
abbrev pub map_with : Option (List Stretch) → Option MapValue
map_with None = None
map_with (Some ss) = if are_in_order 0 ss then Some (record { holes = holes_behind 0 ss; end = last_end 0 ss }) else None

-- the map of a text
abbrev pub map_of : List ℕ → Option MapValue
map_of text = map_with (stretches_told (rows_of text))

-- a hole has a byte of a block
abbrev pub meets : ℕ → Hole → Bool
meets b h = nat_lt h.start (b * 512 + 512) && nat_lt (b * 512) h.end

-- a byte of a block was not read
abbrev pub is_unread : MapValue → ℕ → Bool
is_unread m b = nat_lt m.end (b * 512 + 512) || list_any (meets b) m.holes

-- the holes follow one another
pub record AreRising (hs : List Hole) : Type 0 where
  pub starts : IsNonDecreasingBy (λ h. h.start) hs
  pub ends : IsNonDecreasingBy (λ h. h.end) hs
