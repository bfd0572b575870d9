-- The rooms of the caller: filled from the front, and what stands in them whatever their names.
use Rattle.std.proofs.Common.{◌≡◌, ◌+◌, ◌≤◌, ◌<◌, ℕ, List, length, get_or, set, Bool, true, false, [], ◌∷◌, Some, arith, inl, inr}
use Rattle.std.proofs.{lemmas.Bool.cases_lt, lemmas.List.get_or-set_same, lemmas.List.get_or-set_other, lemmas.List.length-set, lemmas.Grind.common_steps}
use Rattle.std.specs.Io.KnownBytes.{Appends}
use Rattle.adf_runs.specs.Commands.{Command, GetsFront, IsUnanswered, RunEnds}
use Rattle.adf_runs.specs.Streams.{AppendsPart, Says, Seen, at_hand}

-- what holds of each byte before place i, and of the one that is put there, holds of each byte up to it
pub put_more : (P : ℕ → ℕ → Type 0) (xs : List ℕ) (i r : ℕ) → i < length xs → P i r
    → ((k : ℕ) → k < i → k < length xs → P k (get_or xs k 0))
    → (k : ℕ) → k < i + 1 → k < length (set xs i r) → P k (get_or (set xs i r) k 0)
put_more P xs i r inside here before = grind (arith, common_steps, get_or-set_other, length-set, get_or-set_same)

-- bytes behind it stay
pub put_keeps : (xs : List ℕ) (i r k : ℕ) → i + 1 ≤ k → get_or (set xs i r) k 0 ≡ get_or xs k 0
put_keeps xs i r k behind = get_or-set_other xs i k r 0 (omega arith)

parts_same : (n n' : ℕ) (o k : List ℕ) → n' ∷ o ≡ n ∷ k → (n' ≡ n) × (o ≡ k)
parts_same n n' o k h = (cc, cc)

-- whoever appends to an empty room keeps to it, and what was appended is all that stands in it
pub appended : (n n' : ℕ) (k o bytes : List ℕ) → k ≡ [] → Appends (Some (n ∷ k)) (Some (n' ∷ o)) bytes → (n' ≡ n) × (o ≡ bytes)
appended n n' k o bytes empty h = grind (arith, common_steps, parts_same)

-- and so with a front part of the bytes
appended_part : (failed : Bool) (n n' : ℕ) (k o whole : List ℕ) → k ≡ [] → AppendsPart failed (Some (n ∷ k)) (Some (n' ∷ o)) whole
    → (n' ≡ n) × AppendsPart failed (Some []) (Some o) whole
appended_part failed n n' k o whole empty (part, rest, is, some, h) = grind (arith, common_steps, appended)

pub said : (failed : Bool) (n n' : ℕ) (k e text : List ℕ) → k ≡ []
    → Says failed (Some (n ∷ k)) (Some (n' ∷ e)) text → (n' ≡ n) × Says failed (Some []) (Some e) text
said false n n' k e text empty h = appended n n' k e text empty h
said true n n' k e text empty h = appended_part true n n' k e text empty h

-- a room over a run, told by its name and what stands in it
abbrev named : ℕ → List ℕ → ℕ → List ℕ → Bool → Seen
named name before name' after failed = record { before = Some (name ∷ before); after = Some (name' ∷ after); failed = failed }

-- a room that was empty, told by what stands in it
abbrev unnamed : List ℕ → Bool → Seen
unnamed after failed = record { before = Some []; after = Some after; failed = failed }

-- a run into rooms, of which each is told by its name and what stands in it, and that were empty
module _ {Words : Type 0} (c : Command Words) (words : Words) (input : List ℕ) (n : ℕ) (no_output no_errors : Bool) (m m' l l' : ℕ)
    (k o j e : List ℕ) (none_o : k ≡ []) (none_e : j ≡ [])
    (ends : RunEnds c words (at_hand input) n (named m k m' o no_output) (named l j l' e no_errors)) where
  -- what was said is all that stands in the room for errors
  told : (text : List ℕ) → Says no_errors (Some (l ∷ j)) (Some (l' ∷ e)) text → Says no_errors (Some []) (Some e) text
  told text says = (said no_errors l l' j e text none_e says).1

  -- and so for output
  put : (bytes : List ℕ) → Appends (Some (m ∷ k)) (Some (m' ∷ o)) bytes → Appends (Some []) (Some o) bytes
  put bytes h = (appended m m' k o bytes none_o h).1

  -- and so for a front part of it
  put_front : (failed : Bool) (whole : List ℕ) → AppendsPart failed (Some (m ∷ k)) (Some (m' ∷ o)) whole → AppendsPart failed (Some []) (Some o) whole
  put_front failed whole h = (appended_part failed m m' k o whole none_o h).1

  -- the run ends so in rooms without names
  room_ends : RunEnds c words (at_hand input) n (unnamed o no_output) (unnamed e no_errors)
  room_ends = grind (arith, common_steps, put, told, put_front)

  -- the room for output is kept to at status 3
  front_kept : (failed : Bool) → GetsFront false failed c words input (named m k m' o no_output) → m' ≡ m
  front_kept true (r, asks, (reply, answers, front)) = (appended_part true m m' k o reply.output none_o front).0
  front_kept false (inl nothing) = (appended m m' k o [] none_o nothing).0
  front_kept false (inr (r, asks, (reply, answers, front))) = (appended_part false m m' k o reply.output none_o front).0

  -- the room for output is kept to, if it is where nothing is answered
  output_kept : (IsUnanswered c words → m' ≡ m) → m' ≡ m
  output_kept same = grind (arith, common_steps, cases_lt, appended, front_kept)

  -- and so is that for errors
  errors_kept : l' ≡ l
  errors_kept = grind (arith, common_steps, cases_lt, said)

  -- the run ends so in the caller's rooms, which are these where they have the same names
  pub moved_ends : (no_output' no_errors' : Bool) (o' e' : List ℕ) → (IsUnanswered c words → m' ≡ m) → (m' ≡ m → o ≡ o') → (l' ≡ l → e ≡ e')
      → no_output ≡ no_output' → no_errors ≡ no_errors'
      → RunEnds c words (at_hand input) n (unnamed o' no_output') (unnamed e' no_errors')
  moved_ends no_output' no_errors' o' e' same room_o room_e written told = grind (arith, common_steps, told, output_kept, errors_kept, room_ends)
