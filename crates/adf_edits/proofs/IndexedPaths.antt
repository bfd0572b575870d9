-- What an index says of paths.
-- Letters: ps are entries by place, index that of their paths; x, y, d, f additions, d a directory, f a file; i, j, k places; path a path.
use Rattle.std.proofs.Common.{◌≡◌, ◌≢◌, ℕ, zero, suc, List, [], ◌∷◌, inl, inr, ◌-◌, ◌<◌, ◌≤◌, ◌==◌, length, map, take, fold, refl, sym, ap, subst}
use Rattle.std.proofs.{Common.◌∙◌, Common.arith, Common.true, Common.false, Common.Option, Common.Some}
use Rattle.std.proofs.{Common.None, Common.nat_lt, Common.nat_le, Common.◌⊎◌, Common.◌++◌, Common.drop, Common.take_all}
use Rattle.std.proofs.lemmas.Bool.{and_from, and_parts, cases_Bool, cases_lt, false_from_ne_true, le-leb, lt-ltb, ltb-true, ne_eqb}
use Rattle.std.proofs.lemmas.List.{append-nil, drop_all, length-map, length-take-le}
use Rattle.std.specs.{BTreeMap.BTreeMap, Global.Vec}
use Rattle.adf_names.specs.Texts.{uppers}
use Rattle.adf_tree.specs.{Additions.Addition, Additions.same_path, Tree.is_dir_body, Tree.parents_of}
use Rattle.adf_edits.specs.Edits.{can_add, has_path, has_under, is_at, is_directory_at, leads_to_directory}
use Rattle.adf_edits.specs.Index.{IsIndexed, IsRooted, StandsIn, entry_placed, path_key, place_at, place_in_index, standing, with_key_name}
use Rattle.adf_edits.specs.Paths.{is_at_or_under, is_under}
use Rattle.adf_edits.proofs.{IndexKeys.same_key, Places.same_paths, StandingPlaces.entry_from, StandingPlaces.passes, StandingPlaces.passing}

pub under_parts : (a path : List (List ℕ)) → is_under a path ≡ true → (length a < length path) × (map uppers (take (length a) path) ≡ map uppers a)
under_parts a path h =
    let both = and_parts (nat_lt (length a) (length path)) (same_path (take (length a) path) a) h in
    (ltb-true (length a) (length path) both.0, (same_paths (take (length a) path) a).0 both.1)

pub same_long : (a b : List (List ℕ)) → map uppers a ≡ map uppers b → length a ≡ length b
same_long a b e = sym (length-map a uppers) ∙ (ap length e ∙ length-map b uppers)

map_take : (n : ℕ) (a : List (List ℕ)) → map uppers (take n a) ≡ take n (map uppers a)
map_take zero a = refl
map_take (suc n) [] = refl
map_take (suc n) (x ∷ xs) = ap (λ us. uppers x ∷ us) (map_take n xs)

take_twice : (n m : ℕ) (us : List (List ℕ)) → n ≤ m → take n (take m us) ≡ take n us
take_twice zero m us le = refl
take_twice (suc n) zero us le = absurd (omega arith)
take_twice (suc n) (suc m) [] le = refl
take_twice (suc n) (suc m) (u ∷ us) le = ap (λ vs. u ∷ vs) (take_twice n m us (omega arith))

-- what is under a path is under it where the first names are told otherwise
under_shorter : (a dir path : List (List ℕ)) (m : ℕ) → map uppers dir ≡ map uppers (take m path) → m ≤ length path → length a < m
    → is_under a path ≡ true → is_under a dir ≡ true
under_shorter a dir path m same le lt h =
    let long : length dir ≡ m = same_long dir (take m path) same ∙ length-take-le m path le in
    let less : length a < length dir = omega arith in
    let first : map uppers (take (length a) dir) ≡ map uppers a =
    map_take (length a) dir ∙ (ap (take (length a)) (same ∙ map_take m path) ∙ (take_twice (length a) m (map uppers path) (omega arith)
    ∙ (sym (map_take (length a) path) ∙ (under_parts a path h).1))) in
    and_from (nat_lt (length a) (length dir)) (same_path (take (length a) dir) a) (lt-ltb (length a) (length dir) less)
    ((same_paths (take (length a) dir) a).1 first)

under_same : (a b path : List (List ℕ)) → map uppers a ≡ map uppers b → is_under a path ≡ true → is_under b path ≡ true
under_same a b path same h =
    let long : length a ≡ length b = same_long a b same in
    let both = under_parts a path h in
    let less : length b < length path = omega (arith, both.0, long) in
    let first : map uppers (take (length b) path) ≡ map uppers b = ap (λ n. map uppers (take n path)) (sym long) ∙ (both.1 ∙ same) in
    and_from (nat_lt (length b) (length path)) (same_path (take (length b) path) b) (lt-ltb (length b) (length path) less)
    ((same_paths (take (length b) path) b).1 first)

pub not_under_same : (xs : List Addition) (a b : List (List ℕ)) → same_path b a ≡ true → has_under xs a ≡ false → has_under xs b ≡ false
not_under_same [] a b same h = refl
not_under_same (x ∷ xs) a b same h = elim (cases_Bool (is_under b x.path)) [
  | inl t ↦
      let under : is_under a x.path ≡ true = under_same b a x.path ((same_paths b a).0 same) t in
      let clash = rw under at h in cc
  | inr f ↦
      elim (cases_Bool (is_under a x.path)) [
        | inl t ↦ let clash = rw t at h in cc
        | inr g ↦ rw f (not_under_same xs a b same (rw g at h))
      ]
]

-- what is in the directory of a path is under it
pub under_from_parents : (a path : List (List ℕ)) → length path ≢ 0 → same_path a (parents_of path) ≡ true → is_under a path ≡ true
under_from_parents a path some h =
    let same : map uppers a ≡ map uppers (take (length path - 1) path) = (same_paths a (parents_of path)).0 h in
    let long : length a ≡ length path - 1 =
    same_long a (take (length path - 1) path) same ∙ length-take-le (length path - 1) path (omega arith) in
    let less : length a < length path = omega (arith, long, some) in
    let first : map uppers (take (length a) path) ≡ map uppers a = ap (λ n. map uppers (take n path)) long ∙ sym same in
    and_from (nat_lt (length a) (length path)) (same_path (take (length a) path) a) (lt-ltb (length a) (length path) less)
    ((same_paths (take (length a) path) a).1 first)

-- a path at or under another is it, or is under it
pub within_either : (from path : List (List ℕ)) → is_at_or_under from path ≡ true → (same_path path from ≡ true) ⊎ (is_under from path ≡ true)
within_either from path h =
    let both = and_parts (nat_le (length from) (length path)) (same_path (take (length from) path) from) h in
    elim (cases_lt (length from) (length path)) [
      | inl less ↦
          inr (and_from (nat_lt (length from) (length path)) (same_path (take (length from) path) from)
          (lt-ltb (length from) (length path) less) both.1)
      | inr more ↦ inl (subst (λ names. same_path names from ≡ true) (take_all (length from) path more) both.1)
    ]

pub within_itself : (from path : List (List ℕ)) → same_path path from ≡ true → is_at_or_under from path ≡ true
within_itself from path h =
    let long : length path ≡ length from = same_long path from ((same_paths path from).0 h) in
    and_from (nat_le (length from) (length path)) (same_path (take (length from) path) from) (le-leb (length from) (length path) (omega (arith, long)))
    (subst (λ names. same_path names from ≡ true) (sym (take_all (length from) path (omega (arith, long)))) h)

-- what has the path itself is moved to the new one
pub moved_path : (from to path : List (List ℕ)) → same_path path from ≡ true → to ++ drop (length from) path ≡ to
moved_path from to path h =
    let long : length path ≡ length from = same_long path from ((same_paths path from).0 h) in
    ap (λ names. to ++ names) (drop_all (length from) path (omega (arith, long))) ∙ append-nil to

some_of : (ps : List (Option Addition)) (path : List (List ℕ)) → IsRooted ps path → (length path == 0) ≡ false
some_of ps path rooted = elim rooted [
  | inl one ↦ ne_eqb (length path) 0 (λ e. omega (arith, one, e))
  | inr more ↦ ne_eqb (length path) 0 more.0
]

to_directory : (ps : List (Option Addition)) (path : List (List ℕ)) → IsRooted ps path → leads_to_directory (standing ps) (parents_of path) ≡ true
to_directory ps path rooted = elim rooted [
  | inl one ↦
      let none : length (parents_of path) ≡ 0 = length-take-le (length path - 1) path (omega arith) ∙ (omega (arith, one)) in
      rw none refl
  | inr more ↦
      elim (cases_Bool (length (parents_of path) == 0)) [
        | inl t ↦ rw t refl
        | inr f ↦ rw f (passing (is_directory_at (parents_of path)) ps more.1.0 more.1.1 more.1.2 more.1.3)
      ]
]

module _ (ps : List (Option Addition)) (index : BTreeMap (Vec ℕ) ℕ) (is : IsIndexed ps index) where
  -- paths that are the same stand at one place
  pub one_place : (i j : ℕ) (x y : Addition) → StandsIn ps i x → StandsIn ps j y → map uppers x.path ≡ map uppers y.path → i ≡ j
  one_place i j x y sx sy same =
      let keys : path_key x.path ≡ path_key y.path = ap (λ us. fold with_key_name [] us) same in
      let places : Some i ≡ Some j = sym (is.found i x sx) ∙ (ap (place_at index) keys ∙ is.found j y sy) in cc

  pub only_at : (path : List (List ℕ)) (i : ℕ) (x : Addition) → StandsIn ps i x → is_at path x ≡ true
      → (j : ℕ) (y : Addition) → StandsIn ps j y → j ≢ i → is_at path y ≡ false
  only_at path i x sx at j y sy ne = false_from_ne_true (is_at path y) (λ h.
      ne (one_place j i y x sy sx ((same_paths y.path path).0 h ∙ sym ((same_paths x.path path).0 at))))

  -- nothing has a path where nothing stands at its place
  pub free_path : (path : List (List ℕ)) → entry_placed ps (place_in_index index path) ≡ None → has_path (standing ps) path ≡ false
  free_path path none = false_from_ne_true (has_path (standing ps) path) (λ h.
      let one = passes (is_at path) ps h in
      let place : place_in_index index path ≡ Some one.0 = ap (place_at index) (sym (same_key one.1.path path one.3)) ∙ is.found one.0 one.1 one.2 in
      let clash : None ≡ Some one.1 = sym none ∙ (ap (entry_placed ps) place ∙ entry_from ps one.0 one.1 one.2) in cc)

  pub some_name : (i : ℕ) (x : Addition) → StandsIn ps i x → length x.path ≢ 0
  some_name i x s e = elim (is.rooted i x s) [
    | inl one ↦ omega (arith, one, e)
    | inr more ↦ more.0 e
  ]

  -- no file is above a path whose directory stands
  no_file_by : (n : ℕ) (path : List (List ℕ)) → length path ≤ n → IsRooted ps path → (i : ℕ) (f : Addition) → StandsIn ps i f
      → is_dir_body f.body ≡ false → is_under f.path path ≡ true → ⊥
  no_file_by zero path le rooted i f s file h = let lt : length f.path < length path = (under_parts f.path path h).0 in omega arith
  no_file_by (suc n) path le rooted i f s file h =
      let lt : length f.path < length path = (under_parts f.path path h).0 in
      elim rooted [
        | inl one ↦ some_name i f s (omega (arith, one, lt))
        | inr more ↦
            let k : ℕ = more.1.0 in
            let d : Addition = more.1.1 in
            let both = and_parts (is_dir_body d.body) (same_path d.path (parents_of path)) more.1.3 in
            let same : map uppers d.path ≡ map uppers (take (length path - 1) path) = (same_paths d.path (parents_of path)).0 both.1 in
            let long : length d.path ≡ length path - 1 =
            same_long d.path (take (length path - 1) path) same ∙ length-take-le (length path - 1) path (omega arith) in
            elim (cases_lt (length f.path) (length path - 1)) [
              | inl less ↦
                  no_file_by n d.path (omega arith) (is.rooted k d more.1.2) i f s file
                  (under_shorter f.path d.path path (length path - 1) same (omega arith) less h)
              | inr not_less ↦
                  let equal : length path - 1 ≡ length f.path = omega arith in
                  let there : map uppers d.path ≡ map uppers f.path =
                  same ∙ (ap (λ m. map uppers (take m path)) equal ∙ (under_parts f.path path h).1) in
                  let place : k ≡ i = one_place k i d f more.1.2 s there in
                  let here : StandsIn ps i d = subst (λ m. StandsIn ps m d) place more.1.2 in
                  let same_entry : d ≡ f = cc in
                  let clash : true ≡ false = sym both.0 ∙ (ap (λ (x : Addition). is_dir_body x.body) same_entry ∙ file) in cc
            ]
      ]

  -- nothing is in a file
  pub nothing_under_file : (path : List (List ℕ)) (i : ℕ) (x : Addition) → StandsIn ps i x → is_at path x ≡ true → is_dir_body x.body ≡ false
      → has_under (standing ps) path ≡ false
  nothing_under_file path i x s at file = false_from_ne_true (has_under (standing ps) path) (λ h.
      let one = passes (λ y. is_under path y.path) ps h in
      let under : is_under x.path one.1.path ≡ true = under_same path x.path one.1.path (sym ((same_paths x.path path).0 at)) one.3 in
      no_file_by (length one.1.path) one.1.path (omega arith) (is.rooted one.0 one.1 one.2) i x s file under)

  -- a path has room
  pub may_be_added : (path : List (List ℕ)) → IsRooted ps path → entry_placed ps (place_in_index index path) ≡ None
      → can_add (standing ps) path ≡ true
  may_be_added path rooted free = rw (some_of ps path rooted, to_directory ps path rooted, free_path path free) refl
