-- The keys of what is in a directory are one run in the order of keys: behind that of the directory, and before that key with `0` for its last `/`.
-- Letters: us, vs are names in upper case; k, p, s, t bytes of keys; c a byte; path, other paths.
use Rattle.std.proofs.Common.{◌≡◌, ◌≢◌, ℕ, List, [], ◌∷◌, ◌++◌, ◌-◌, length, map, take, drop, fold, refl, sym, ap}
use Rattle.std.proofs.Common.{◌∙◌, append_assoc, arith, true, false, Some, None}
use Rattle.std.proofs.{Math.Seq.take-append_seam, lemmas.Bool.false_from_ne_true, lemmas.Bool.ne_eqb, lemmas.Cmp.nat_cmp_total, lemmas.Cmp.tied_itself}
use Rattle.std.proofs.lemmas.List.{append-nil, length-append, length-drop, length-map, map-append, take-append-drop, Sums.fold_push}
use Rattle.std.proofs.{lemmas.Map.Entries.place_from_lookup, lemmas.Map.Text.is_eq-slice_cmp, lemmas.Slice.Eq.bytes_eq-Decides}
use Rattle.std.specs.{BTreeMap.get, BTreeMap.Range.IsInRange, Cmp.Lexicographic.slice_cmp, Global.Vec, Ordering.nat_cmp}
use Rattle.std.specs.declared.{cmp.Ordering.TheVariants.Equal, cmp.Ordering.TheVariants.Less, ops.Bound.TheVariants.Excluded}
use Rattle.adf_names.specs.Texts.{uppers}
use Rattle.adf_tree.specs.{Tree.last_of, Tree.parents_of}
use Rattle.adf_tree.proofs.AddRoom.{whole_path}
use Rattle.adf_edits.specs.{Edits.has_under, declared.index.Places.Places, Paths.is_under}
use Rattle.adf_edits.specs.Index.{IsIndexedAt, by_bytes, end_key, path_key, place_at, standing, with_key_name}
use Rattle.adf_edits.proofs.{IndexKeys.tests, IndexedPaths.same_long, IndexedPaths.some_name, IndexedPaths.under_parts}
use Rattle.adf_edits.proofs.{Places.same_paths, StandingPlaces.passes}

-- the key of more names

key_from : (k : List ℕ) (us : List (List ℕ)) → fold with_key_name k us ≡ k ++ fold with_key_name [] us
key_from k [] = sym (append-nil k)
key_from k (u ∷ us) =
    key_from (k ++ (u ++ 47 ∷ [])) us
    ∙ (append_assoc k (u ++ 47 ∷ []) (fold with_key_name [] us) ∙ ap (λ r. k ++ r) (sym (key_from (u ++ 47 ∷ []) us)))

key_joined : (k : List ℕ) (us vs : List (List ℕ)) → fold with_key_name k (us ++ vs) ≡ fold with_key_name (fold with_key_name k us) vs
key_joined k [] vs = refl
key_joined k (u ∷ us) vs = key_joined (with_key_name k u) us vs

some_key : (us : List (List ℕ)) → length us ≢ 0 → (c : ℕ) × (s : List ℕ) × (fold with_key_name [] us ≡ c ∷ s)
some_key [] ne = absurd (ne refl)
some_key ([] ∷ us) ne = (47, fold with_key_name [] us, key_from (47 ∷ []) us)
some_key ((c ∷ s) ∷ us) ne = (c, (s ++ 47 ∷ []) ++ fold with_key_name [] us, key_from ((c ∷ s) ++ 47 ∷ []) us)

-- a key ends in `/`
ends_slash : (path : List (List ℕ)) → length path ≢ 0 → (k : List ℕ) × (path_key path ≡ k ++ 47 ∷ [])
ends_slash path some =
    let us : List (List ℕ) = map uppers (parents_of path) in
    let u : List ℕ = uppers (last_of path) in
    let whole : map uppers path ≡ us ++ u ∷ [] =
    ap (map uppers) (whole_path path [] (ne_eqb (length path) 0 some)) ∙ map-append uppers (parents_of path) (last_of path ∷ []) in (
      fold with_key_name [] us ++ u,
      ap (λ ws. fold with_key_name [] ws) whole
          ∙ (fold_push with_key_name [] us u ∙ sym (append_assoc (fold with_key_name [] us) u (47 ∷ []))),
    )

-- keys in order

same_byte : (c : ℕ) → nat_cmp c c ≡ Equal
same_byte c = tied_itself nat_cmp_total c

behind_prefix : (p : List ℕ) (c : ℕ) (s : List ℕ) → slice_cmp nat_cmp p (p ++ c ∷ s) ≡ Less
behind_prefix [] c s = refl
behind_prefix (x ∷ p) c s = rw (same_byte x) (behind_prefix p c s)

before_next : (p t : List ℕ) → slice_cmp nat_cmp (p ++ 47 ∷ t) (p ++ 48 ∷ []) ≡ Less
before_next [] t = refl
before_next (x ∷ p) t = rw (same_byte x) (before_next p t)

end_is : (path : List (List ℕ)) (k : List ℕ) → path_key path ≡ k ++ 47 ∷ [] → end_key path ≡ k ++ 48 ∷ []
end_is path k is =
    let long : length (k ++ 47 ∷ []) - 1 ≡ length k = ap (λ n. n - 1) (length-append k (47 ∷ [])) ∙ omega arith in
    ap (λ key. take (length key - 1) key ++ 48 ∷ []) is
    ∙ ap (λ front. front ++ 48 ∷ []) (ap (λ n. take n (k ++ 47 ∷ [])) long ∙ take-append_seam k (47 ∷ []))

pub run_forward : (path : List (List ℕ)) → length path ≢ 0 → slice_cmp nat_cmp (path_key path) (end_key path) ≡ Less
run_forward path some = let key = ends_slash path some in rw (end_is path key.0 key.1, key.1) (before_next key.0 [])

-- the key of what is under a path

key_under : (path other : List (List ℕ)) → is_under path other ≡ true
    → (c : ℕ) × (s : List ℕ) × (path_key other ≡ path_key path ++ c ∷ s)
key_under path other h =
    let both = under_parts path other h in
    let n : ℕ = length path in
    let behind : List (List ℕ) = map uppers (drop n other) in
    let long : length behind ≡ length other - n = length-map (drop n other) uppers ∙ length-drop n other in
    let some = some_key behind (λ e. omega (arith, both.0, long, e)) in
    let whole : map uppers other ≡ map uppers path ++ behind =
    ap (map uppers) (sym (take-append-drop n other)) ∙ (map-append uppers (take n other) (drop n other) ∙ ap (λ us. us ++ behind) both.1) in (
      some.0,
      some.1,
      ap (λ us. fold with_key_name [] us) whole
          ∙ (key_joined [] (map uppers path) behind ∙ (key_from (path_key path) behind ∙ ap (λ r. path_key path ++ r) some.2)),
    )

key_behind : (path other : List (List ℕ)) → is_under path other ≡ true → slice_cmp nat_cmp (path_key path) (path_key other) ≡ Less
key_behind path other h = let more = key_under path other h in rw (more.2) (behind_prefix (path_key path) more.0 more.1)

key_before : (path other : List (List ℕ)) → length path ≢ 0 → is_under path other ≡ true → slice_cmp nat_cmp (path_key other) (end_key path) ≡ Less
key_before path other some h =
    let key = ends_slash path some in
    let more = key_under path other h in
    let whole : path_key other ≡ key.0 ++ 47 ∷ more.0 ∷ more.1 =
    more.2 ∙ (ap (λ r. r ++ more.0 ∷ more.1) key.1 ∙ append_assoc key.0 (47 ∷ []) (more.0 ∷ more.1)) in
    rw (whole, end_is path key.0 key.1) (before_next key.0 (more.0 ∷ more.1))

-- the place of a path

pub has_name_at : (p : Places) (i : ℕ) (path : List (List ℕ)) → IsIndexedAt p i path → length path ≢ 0
has_name_at p i path found e =
    some_name p.entries.items p.index (found.sound found.whole) i found.entry.0 found.entry.1
    (same_long found.entry.0.path path ((same_paths found.entry.0.path path).0 found.entry.2) ∙ e)

-- where the index has no key in the run of a directory, nothing stands in it
pub none_in_run : (p : Places) (i : ℕ) (path : List (List ℕ)) → IsIndexedAt p i path → (low high : Vec ℕ) → low.items ≡ path_key path
    → high.items ≡ end_key path → ((q : Vec ℕ) → IsInRange by_bytes (Excluded low) (Excluded high) q → get by_bytes p.index q ≡ None)
    → has_under (standing p.entries.items) path ≡ false
none_in_run p i path found low high low_is high_is none =
    false_from_ne_true (has_under (standing p.entries.items) path) (λ h.
    let one = passes (λ y. is_under path y.path) p.entries.items h in
    let other : List (List ℕ) = one.1.path in
    let place : place_at p.index (path_key other) ≡ Some one.0 = (found.sound found.whole).found one.0 one.1 one.2 in
    let at = place_from_lookup (tests (path_key other)) p.index.entries one.0 place in
    let k : Vec ℕ = at.1 in
    let key : path_key other ≡ k.items = (bytes_eq-Decides (path_key other) k.items).0 (sym (is_eq-slice_cmp (path_key other) k.items) ∙ at.3) in
    let behind : by_bytes low k ≡ Less = rw (low_is, ← key) (key_behind path other one.3) in
    let before : by_bytes k high ≡ Less = rw (high_is, ← key) (key_before path other (has_name_at p i path found) one.3) in
    let there : get by_bytes p.index k ≡ Some one.0 = ap (place_at p.index) (sym key) ∙ place in
    let clash : None ≡ Some one.0 = sym (none k (behind, before)) ∙ there in cc)
