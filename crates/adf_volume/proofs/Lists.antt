-- Positions and members of lists.
use Rattle.std.proofs.Common.{◌≡◌, ℕ, zero, suc, List, [], ◌∷◌, ◌++◌, ◌⊎◌, inl, inr, ◌+◌, ◌<◌, ◌≤◌, ◌≢◌, length, refl, sym, ap, subst, ◌∙◌, arith, map}
use Rattle.adf_blocks.specs.declared.cause.Cause.{Cause}
use Rattle.adf_volume.specs.{Lists.At, Lists.In, Lists.Spelled, Lists.numbered, Lists.NoBlockTwice, Demands.Demand, Demands.AllHold, Demands.FirstFails}
use Rattle.std.specs.Prelude.{slice_get, slice_index, slice_index_or}
use Rattle.std.proofs.lemmas.Grind.{common_steps}

pub at_fun : {X : Type 0} (xs : List X) (i : ℕ) (x y : X) → At xs i x → At xs i y → x ≡ y
at_fun [] i x y h k = absurd h
at_fun (z ∷ xs) zero x y h k = sym h ∙ k
at_fun (z ∷ xs) (suc i) x y h k = at_fun xs i x y h k

pub at_below : {X : Type 0} (xs : List X) (i : ℕ) (x : X) → At xs i x → i < length xs
at_below [] i x h = absurd h
at_below (z ∷ xs) zero x h = omega arith
at_below (z ∷ xs) (suc i) x h = let ih : i < length xs = at_below xs i x h in omega arith

pub at_some : {X : Type 0} (xs : List X) (i : ℕ) → i < length xs → (x : X) × At xs i x
at_some [] i h = absurd (omega arith)
at_some (z ∷ xs) zero h = (z, refl)
at_some (z ∷ xs) (suc i) h = at_some xs i (omega arith)

pub at_map : {X Y : Type 0} (f : X → Y) (xs : List X) (i : ℕ) (x : X) → At xs i x → At (map f xs) i (f x)
at_map f [] i x h = absurd h
at_map f (z ∷ xs) zero x h = ap f h
at_map f (z ∷ xs) (suc i) x h = at_map f xs i x h

pub at_unmap : {X Y : Type 0} (f : X → Y) (xs : List X) (i : ℕ) (y : Y) → At (map f xs) i y → (x : X) × At xs i x × (f x ≡ y)
at_unmap f [] i y h = absurd h
at_unmap f (z ∷ xs) zero y h = (z, refl, h)
at_unmap f (z ∷ xs) (suc i) y h = at_unmap f xs i y h

pub spelled_first : (link : ℕ → ℕ) (w : ℕ) (bs : List ℕ) → Spelled link w bs → w ≢ 0 → At bs 0 w
spelled_first link w [] h k = absurd (k h)
spelled_first link w (b ∷ bs) h k = sym h.0

pub spelled_next : (link : ℕ → ℕ) (w : ℕ) (bs : List ℕ) (j b : ℕ) → Spelled link w bs → At bs j b → link b ≢ 0 → At bs (suc j) (link b)
spelled_next link w [] j b h a k = absurd a
spelled_next link w (c ∷ bs) zero b h a k = subst (λ c. At bs 0 (link c)) a (spelled_first link (link c) bs h.1 (λ z. k (ap link (sym a) ∙ z)))
spelled_next link w (c ∷ bs) (suc j) b h a k = spelled_next link (link c) bs j b h.1 a k

pub spelled_word : (link : ℕ → ℕ) (w : ℕ) (bs : List ℕ) (b : ℕ) → Spelled link w bs → At bs 0 b → w ≡ b
spelled_word link w [] b h a = absurd a
spelled_word link w (c ∷ bs) b h a = h.0 ∙ a

pub spelled_link : (link : ℕ → ℕ) (w : ℕ) (bs : List ℕ) (j b c : ℕ) → Spelled link w bs → At bs j b → At bs (suc j) c → link b ≡ c
spelled_link link w [] j b c h a k = absurd a
spelled_link link w (x ∷ bs) zero b c h a k = ap link (sym a) ∙ spelled_word link (link x) bs c h.1 k
spelled_link link w (x ∷ bs) (suc j) b c h a k = spelled_link link (link x) bs j b c h.1 a k

-- a list whose members are named in turn, and whose end is 0, is spelled
pub spelled_from : (link : ℕ → ℕ) (w : ℕ) (bs : List ℕ) → ((b : ℕ) → At bs 0 b → w ≡ b) → (length bs ≡ 0 → w ≡ 0)
    → ((j b c : ℕ) → At bs j b → At bs (suc j) c → link b ≡ c) → ((j b : ℕ) → At bs j b → suc j ≡ length bs → link b ≡ 0) → Spelled link w bs
spelled_from link w [] f g n e = g refl
spelled_from link w (b ∷ bs) f g n e = (
  f b refl,
  spelled_from link (link b) bs (λ c h. n 0 b c refl h) (λ z. e 0 b refl (ap suc (sym z)))
      (λ j x c h k. n (suc j) x c h k) (λ j x h z. e (suc j) x h (ap suc z)),
)

pub in_left : {X : Type 0} (xs ys : List X) (x : X) → In xs x → In (xs ++ ys) x
in_left [] ys x h = absurd h
in_left (z ∷ xs) ys x (inl e) = inl e
in_left (z ∷ xs) ys x (inr h) = inr (in_left xs ys x h)

pub in_right : {X : Type 0} (xs ys : List X) (x : X) → In ys x → In (xs ++ ys) x
in_right [] ys x h = h
in_right (z ∷ xs) ys x h = inr (in_right xs ys x h)

pub in_cases : {X : Type 0} (xs ys : List X) (x : X) → In (xs ++ ys) x → In xs x ⊎ In ys x
in_cases [] ys x h = inr h
in_cases (z ∷ xs) ys x (inl e) = inl (inl e)
in_cases (z ∷ xs) ys x (inr h) = elim (in_cases xs ys x h) [ inl k ↦ inl (inr k) | inr k ↦ inr k ]

pub in_numbered : {X : Type 0} (f : ℕ → X) (k : ℕ) (bs : List ℕ) (i b : ℕ) → At bs i b → In (numbered f k bs) (f (k + i), b)
in_numbered f k [] i b h = absurd h
in_numbered {X} f k (c ∷ bs) zero b h = let e : k ≡ k + 0 = omega arith in inl (λ t. (f (e t), h t))
in_numbered {X} f k (c ∷ bs) (suc i) b h = grind (arith, common_steps, in_numbered f (suc k) bs i b h)

pub numbered_at : {X : Type 0} (f : ℕ → X) (k : ℕ) (bs : List ℕ) (x : X) (b : ℕ) → In (numbered f k bs) (x, b) → (i : ℕ) × At bs i b × (x ≡ f (k + i))
numbered_at f k [] x b h = absurd h
numbered_at f k (c ∷ bs) x b (inl e) = let z : k ≡ k + 0 = omega arith in (0, ap (λ p. p.1) e, sym (ap (λ p. p.0) e) ∙ ap f z)
numbered_at f k (c ∷ bs) x b (inr h) =
    let r = numbered_at f (suc k) bs x b h in let z : suc k + r.0 ≡ k + suc r.0 = omega arith in (suc r.0, r.1, r.2 ∙ ap f z)

-- one block, one member
pub one_member : {X : Type 0} (xs : List (X × ℕ)) (x y : X) (b : ℕ) → NoBlockTwice xs → In xs (x, b) → In xs (y, b) → x ≡ y
one_member [] x y b h i j = absurd i
one_member (z ∷ xs) x y b h (inl e) (inl f) = sym (ap (λ p. p.0) e) ∙ ap (λ p. p.0) f
one_member (z ∷ xs) x y b h (inl e) (inr j) = absurd (h.0 (y, b) j (ap (λ p. p.1) e))
one_member (z ∷ xs) x y b h (inr i) (inl f) = absurd (h.0 (x, b) i (ap (λ p. p.1) f))
one_member (z ∷ xs) x y b h (inr i) (inr j) = one_member xs x y b h.1 i j

pub at_before : {X : Type 0} (xs : List X) (i : ℕ) (x : X) → At xs (suc i) x → (y : X) × At xs i y
at_before [] i x h = absurd h
at_before (z ∷ xs) zero x h = (z, refl)
at_before (z ∷ xs) (suc i) x h = at_before xs i x h

pub same_list : {X : Type 0} (xs ys : List X) → ((i : ℕ) (x : X) → At xs i x → At ys i x) → ((i : ℕ) (x : X) → At ys i x → At xs i x) → xs ≡ ys
same_list [] [] f g = refl
same_list [] (y ∷ ys) f g = absurd (g 0 y refl)
same_list (x ∷ xs) [] f g = absurd (f 0 x refl)
same_list {X} (x ∷ xs) (y ∷ ys) f g =
    let h : x ≡ y = sym (f 0 x refl) in
    let t : xs ≡ ys = same_list xs ys (λ i z. f (suc i) z) (λ i z. g (suc i) z) in
    λ i. h i ∷ t i

pub all_append : (xs ys : List Demand) → AllHold xs → AllHold ys → AllHold (xs ++ ys)
all_append [] ys h k = k
all_append (x ∷ xs) ys h k = (h.0, all_append xs ys h.1 k)

pub all_split : (xs ys : List Demand) → AllHold (xs ++ ys) → AllHold xs × AllHold ys
all_split [] ys h = (tt, h)
all_split (x ∷ xs) ys h = let r = all_split xs ys h.1 in ((h.0, r.0), r.1)

-- where a demand fails, not all hold
pub fails_not_all : (xs : List Demand) (b : ℕ) (c : Cause) → FirstFails xs b c → AllHold xs → ⊥
fails_not_all [] b c h k = h
fails_not_all (x ∷ xs) b c (inl h) k = h.0 k.0
fails_not_all (x ∷ xs) b c (inr h) k = fails_not_all xs b c h.1 k.1

pub at_index : (xs : List ℕ) (i x : ℕ) → At xs i x → slice_index xs i ≡ x
at_index [] i x h = absurd h
at_index (y ∷ xs) zero x h = h
at_index (y ∷ xs) (suc i) x h = at_index xs i x h

pub index_past : (xs : List ℕ) (i : ℕ) → length xs ≤ i → slice_index xs i ≡ 0
index_past [] i h = refl
index_past (y ∷ xs) zero h = absurd (omega arith)
index_past (y ∷ xs) (suc i) h = index_past xs i (omega arith)

pub at_old : {X : Type 0} (xs ys : List X) (i : ℕ) (x : X) → At xs i x → At (xs ++ ys) i x
at_old [] ys i x h = absurd h
at_old (z ∷ xs) ys zero x h = h
at_old (z ∷ xs) ys (suc i) x h = at_old xs ys i x h

pub at_new : {X : Type 0} (xs : List X) (x : X) (i : ℕ) → i ≡ length xs → At (xs ++ x ∷ []) i x
at_new [] x zero h = refl
at_new [] x (suc i) h = absurd (omega arith)
at_new (z ∷ xs) x zero h = absurd (omega arith)
at_new (z ∷ xs) x (suc i) h = at_new xs x i (omega arith)

pub at_snoc : {X : Type 0} (xs : List X) (y : X) (i : ℕ) (x : X) → At (xs ++ y ∷ []) i x → At xs i x ⊎ ((i ≡ length xs) × (y ≡ x))
at_snoc [] y zero x h = inr (refl, h)
at_snoc [] y (suc i) x h = absurd h
at_snoc (z ∷ xs) y zero x h = inl h
at_snoc (z ∷ xs) y (suc i) x h = elim (at_snoc xs y i x h) [ inl k ↦ inl k | inr k ↦ inr (ap suc k.0, k.1) ]

pub snoc_length : {X : Type 0} (xs : List X) (y : X) → length (xs ++ y ∷ []) ≡ suc (length xs)
snoc_length [] y = refl
snoc_length (z ∷ xs) y = ap suc (snoc_length xs y)

pub fails_left : (xs ys : List Demand) (b : ℕ) (c : Cause) → FirstFails xs b c → FirstFails (xs ++ ys) b c
fails_left [] ys b c h = absurd h
fails_left (x ∷ xs) ys b c (inl h) = inl h
fails_left (x ∷ xs) ys b c (inr h) = inr (h.0, fails_left xs ys b c h.1)

pub fails_right : (xs ys : List Demand) (b : ℕ) (c : Cause) → AllHold xs → FirstFails ys b c → FirstFails (xs ++ ys) b c
fails_right [] ys b c h k = k
fails_right (x ∷ xs) ys b c h k = inr (h.0, fails_right xs ys b c h.1 k)

pub at_index_or : {X : Type 0} (xs : List X) (i : ℕ) (x d : X) → At xs i x → slice_index_or xs i d ≡ x
at_index_or [] i x d h = absurd h
at_index_or (y ∷ xs) zero x d h = h
at_index_or (y ∷ xs) (suc i) x d h = at_index_or xs i x d h

-- what was there stays where it was
pub get_before : {X : Type 0} (xs : List X) (x : X) (i : ℕ) → i < length xs → slice_get (xs ++ x ∷ []) i ≡ slice_get xs i
get_before [] x i h = absurd (omega arith)
get_before (y ∷ ys) x zero h = refl
get_before (y ∷ ys) x (suc i) h = get_before ys x i (omega arith)

-- numbering keeps the length
pub length_numbered : {X : Type 0} (f : ℕ → X) (k : ℕ) (bs : List ℕ) → length (numbered f k bs) ≡ length bs
length_numbered f k [] = refl
length_numbered f k (b ∷ bs) = ap suc (length_numbered f (suc k) bs)
