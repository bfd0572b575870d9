-- A path leads to the content of the first addition that has it.
-- Letters: xs are additions; x, y additions; p, w tests of additions; f, g what is done to them and to their content; q a path.
use Rattle.std.proofs.Common.{◌≡◌, ℕ, suc, List, [], ◌∷◌, ◌<◌, inl, inr, length, get_or, map, refl, sym, ap, ◌∙◌, arith, true, false, Bool, None, Option, Some}
use Rattle.std.proofs.{Common.not, Common.option_map, lemmas.Bool.cases_Bool, lemmas.Grind.common_steps}
use Rattle.std.specs.{List.filter, List.find, List.list_any, Option.option_and_then, Option.option_or}
use Rattle.adf_names.specs.Texts.{uppers}
use Rattle.adf_tree.specs.{declared.entry.Entry.Entry, Paths.Content, Paths.content_at, Paths.entry_content, Tree.entry}
use Rattle.adf_tree.specs.Additions.{Addition, AllHaveRoom, IsTreeOf, content_of, entries_of_additions}
use Rattle.adf_tree.proofs.{Lists.some_in, PathContents.find_uppers, TreeOfAdditions.all_built}
use Rattle.adf_edits.specs.Edits.{has_path, is_at}
use Rattle.adf_edits.proofs.Places.{nothing_at, same_paths}

-- the first that passes

first_passes : (p : Addition → Bool) (xs : List Addition) → list_any p xs ≡ true
    → (i : ℕ) × (i < length xs) × ((d : Addition) → (find p xs ≡ Some (get_or xs i d)) × (p (get_or xs i d) ≡ true))
first_passes p [] h = cc
first_passes p (x ∷ xs) h = elim (cases_Bool (p x)) [
  | inl t ↦ (0, omega arith, λ d. (rw t refl, t))
  | inr f ↦
      let more = first_passes p xs (rw f at h) in
      (suc more.0, omega (arith, more.1), λ d. (rw f (more.2 d).0, (more.2 d).1))
]

pub none_first : (p : Addition → Bool) (xs : List Addition) → list_any p xs ≡ false → find p xs ≡ None
none_first p [] h = refl
none_first p (x ∷ xs) h = elim (cases_Bool (p x)) [
  | inl t ↦ let clash = rw t at h in cc
  | inr f ↦ rw f (none_first p xs (rw f at h))
]

pub or_nothing : (o n : Option Addition) → n ≡ None → option_or o n ≡ o
or_nothing None n h = h
or_nothing (Some x) n h = refl

pub first_kept : (p w : Addition → Bool) (xs : List Addition) → ((y : Addition) → p y ≡ true → w y ≡ true) → find p (filter w xs) ≡ find p xs
first_kept p w [] h = refl
first_kept p w (x ∷ xs) h = grind (arith, common_steps, cases_Bool, first_kept p w xs h)

pub first_left_out : (p w : Addition → Bool) (xs : List Addition) → ((y : Addition) → p y ≡ true → w y ≡ true)
    → find p (filter (λ y. not (w y)) xs) ≡ None
first_left_out p w [] h = refl
first_left_out p w (x ∷ xs) h = grind (arith, common_steps, cases_Bool, first_left_out p w xs h)

pub first_mapped : (p : Addition → Bool) (f : Addition → Addition) (xs : List Addition) → ((y : Addition) → p (f y) ≡ p y)
    → find p (map f xs) ≡ option_map f (find p xs)
first_mapped p f [] h = refl
first_mapped p f (x ∷ xs) h = grind (arith, common_steps, cases_Bool, first_mapped p f xs h)

pub first_unlike : (p : Addition → Bool) (f : Addition → Addition) (xs : List Addition) → ((y : Addition) → p (f y) ≡ false)
    → find p (map f xs) ≡ None
first_unlike p f [] h = refl
first_unlike p f (x ∷ xs) h = rw (h x) (first_unlike p f xs h)

-- what does not pass w is left out, and w passes all that p does
pub first_through : (w p q : Addition → Bool) (f : Addition → Addition) (xs : List Addition)
    → ((y : Addition) → w y ≡ true → q (f y) ≡ p y) → ((y : Addition) → p y ≡ true → w y ≡ true)
    → find q (map f (filter w xs)) ≡ option_map f (find p xs)
first_through w p q f [] h g = refl
first_through w p q f (x ∷ xs) h g = grind (arith, common_steps, cases_Bool, first_through w p q f xs h g)

-- what is done to the first that passes is done to its content
pub content_done : (p : Addition → Bool) (f : Addition → Addition) (g : Content → Content) (xs : List Addition)
    → ((y : Addition) → p y ≡ true → content_of (f y) ≡ g (content_of y))
    → option_map content_of (option_map f (find p xs)) ≡ option_map g (option_map content_of (find p xs))
content_done p f g [] h = refl
content_done p f g (x ∷ xs) h = grind (arith, common_steps, cases_Bool, content_done p f g xs h)

-- paths that are equal ignoring case have the same content
content_uppers : (es : List Entry) (a b : List (List ℕ)) → map uppers a ≡ map uppers b → content_at es a ≡ content_at es b
content_uppers es a b same = ap (option_and_then (λ n. option_map entry_content (entry es n))) (find_uppers es 0 a b same)

pub told : (xs : List Addition) → AllHaveRoom xs → (q : List (List ℕ))
    → content_at (entries_of_additions xs) q ≡ option_map content_of (find (is_at q) xs)
told xs room q =
    let es : List Entry = entries_of_additions xs in
    let t : IsTreeOf es xs = all_built xs room in
    elim (cases_Bool (has_path xs q)) [
      | inr none ↦ nothing_at es xs t q none ∙ sym (ap (option_map content_of) (none_first (is_at q) xs none))
      | inl there ↦
          let one = first_passes (is_at q) xs there in
          let d : Addition = some_in xs (omega (arith, one.1)) in
          let y : Addition = get_or xs one.0 d in
          content_uppers es q y.path (sym ((same_paths y.path q).0 (one.2 d).1))
          ∙ (t.there one.0 d one.1 ∙ sym (ap (option_map content_of) (one.2 d).0))
    ]
