-- Rooms that are filled from the front.
use Rattle.std.specs.Prelude.{◌≡◌, ◌+◌, ◌≤◌, ◌<◌, ℕ, List, [], ◌∷◌, ◌++◌, length, min, take, drop, set}
use Rattle.std.proofs.Common.{zero, suc, refl, sym, ap, ◌∙◌, arith, length-append, length-take, take_all}
use Rattle.std.proofs.{Math.ListN.drop_of_length-le, Math.Seq.drop-nil, Math.Seq.take-nil, lemmas.Bool.cases_lt, lemmas.Grind.common_steps}
use Rattle.std.proofs.lemmas.List.{take-append-drop, take-take}
use Rattle.std.proofs.lemmas.List.Elements.{All-nil, All-push}
use Rattle.adf_memory.specs.Rooms.{BeginsWith, filled}

-- the first members where there are none to take
pub take_zero : {X : Type 0} (xs : List X) → take 0 xs ≡ []
take_zero [] = refl
take_zero (x ∷ xs) = refl

-- and where there are none to leave
pub drop_zero : {X : Type 0} (xs : List X) → drop 0 xs ≡ xs
drop_zero [] = refl
drop_zero (x ∷ xs) = refl

-- a room into which nothing is put
pub filled_none : {X : Type 0} (room : List X) → filled [] room ≡ room
filled_none room = ap (λ xs. xs ++ drop 0 room) (take-nil (length room)) ∙ drop_zero room

-- no room
no_room : {X : Type 0} (xs : List X) → filled xs [] ≡ []
no_room [] = refl
no_room (x ∷ xs) = refl

-- a room stays as long as it is
pub length_filled : {X : Type 0} (xs room : List X) → length (filled xs room) ≡ length room
length_filled xs [] = ap length (no_room xs)
length_filled [] (r ∷ rs) = ap length (filled_none (r ∷ rs))
length_filled (x ∷ xs) (r ∷ rs) = ap suc (length_filled xs rs)

-- one more is put behind those that are there
pub filled_more : {X : Type 0} (xs room : List X) (i : ℕ) (x : X) → i ≡ length xs → i < length room
    → set (filled xs room) i x ≡ filled (xs ++ x ∷ []) room
filled_more xs [] i x e lt = absurd (omega arith)
filled_more [] (r ∷ rs) zero x e lt = ap (λ ys. x ∷ ys) (drop_zero rs ∙ sym (filled_none rs))
filled_more [] (r ∷ rs) (suc i) x e lt = absurd (omega arith)
filled_more (y ∷ ys) (r ∷ rs) zero x e lt = absurd (omega arith)
filled_more (y ∷ ys) (r ∷ rs) (suc i) x e lt = ap (λ zs. y ∷ zs) (filled_more ys rs i x (omega arith) (omega arith))

-- what there is no room for changes nothing
pub filled_full : {X : Type 0} (xs ys room : List X) → length room ≤ length xs → filled (xs ++ ys) room ≡ filled xs room
filled_full xs ys [] le = no_room (xs ++ ys) ∙ sym (no_room xs)
filled_full [] ys (r ∷ rs) le = absurd (omega arith)
filled_full (x ∷ xs) ys (r ∷ rs) le = ap (λ zs. x ∷ zs) (filled_full xs ys rs (omega arith))

-- what has as many members as the front of a room, and the room behind it
pub in_front : {X : Type 0} (xs room : List X) (k : ℕ) → length xs ≡ k → k ≤ length room → xs ++ drop k room ≡ filled xs room
in_front xs room k at le = rw (take_all (length room) xs (omega arith), at) refl

-- where one is put behind those that are there, one more stands there
pub one_put : {X : Type 0} (xs room now : List X) (i : ℕ) (x : X) → i ≡ length xs → now ≡ filled xs room → i < length now
    → set now i x ≡ filled (xs ++ x ∷ []) room
one_put xs room now i x at e lt = grind (arith, common_steps, length_filled, filled_more)

-- and where there is no more room
pub one_left : {X : Type 0} (xs room now : List X) (i : ℕ) (x : X) → i ≡ length xs → now ≡ filled xs room → length now ≤ i
    → now ≡ filled (xs ++ x ∷ []) room
one_left xs room now i x at e le = grind (arith, common_steps, length_filled, filled_full)

-- so many bytes from a place on, as far as there is room
pub filled_part : (q m : ℕ) (xs room : List ℕ) → m ≡ min (length room) q → q ≤ length xs
    → take m xs ++ drop m room ≡ filled (take q xs) room
filled_part q m xs room is le = grind (arith, common_steps, length-take, cases_lt, drop_of_length-le, take-take, take_all)

-- as many as there are and fit stand at the front, and nothing behind them changed
pub filled_so : (n : ℕ) (xs now room : List ℕ) → n ≡ min (length room) (length xs) → take n now ≡ take n xs → drop n now ≡ drop n room
    → now ≡ filled xs room
filled_so n xs now room is front behind = grind (arith, common_steps, take-append-drop, filled_part, take_all)

-- what fills the front part of a room, and the room behind that part
pub filled_within : (m q : ℕ) (xs room : List ℕ) → m ≡ min (length room) q → filled xs (take m room) ++ drop m room ≡ filled (take q xs) room
filled_within m q xs [] is =
    ap (λ ys. filled xs ys ++ drop m []) (take-nil m) ∙ ap (λ ys. ys ++ drop m []) (no_room xs) ∙ drop-nil m ∙ sym (no_room (take q xs))
filled_within zero zero xs (r ∷ rs) is =
    ap (λ ys. ys ++ r ∷ rs) (no_room xs) ∙ sym (ap (λ ys. filled ys (r ∷ rs)) (take_zero xs) ∙ filled_none (r ∷ rs))
filled_within zero (suc q) xs (r ∷ rs) is = absurd (omega arith)
filled_within (suc m) zero xs (r ∷ rs) is = absurd (omega arith)
filled_within (suc m) (suc q) [] (r ∷ rs) is = grind (arith, common_steps, filled_none, take-append-drop)
filled_within (suc m) (suc q) (x ∷ xs) (r ∷ rs) is = ap (λ ys. x ∷ ys) (filled_within m q xs rs (omega arith))

-- behind what is put a room is as it was
pub behind_filled : {X : Type 0} (n : ℕ) (xs old new : List X) → n ≡ min (length old) (length xs) → new ≡ filled xs old → drop n new ≡ drop n old
behind_filled n xs old new count is = grind (arith, common_steps)

-- rows of which something holds, one after another
module _ {X : Type 0} (holds : X → Type 0) where
  pub begins_none : (room : List X) → BeginsWith holds 0 room room
  begins_none room = ([], All-nil holds, refl, sym (filled_none room))

  pub begins_more : (n : ℕ) (room now next : List X) (x : X) → holds x
      → ((xs before : List X) → n ≡ length xs → now ≡ filled xs before → next ≡ filled (xs ++ x ∷ []) before)
      → BeginsWith holds n room now → BeginsWith holds (n + 1) room next
  begins_more n room now next x here put (rows, all, count, is) =
      (rows ++ x ∷ [], All-push holds rows x all here, omega (arith, count, length-append rows (x ∷ [])), put rows room count is)
