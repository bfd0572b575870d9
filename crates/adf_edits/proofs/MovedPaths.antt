-- What each path leads to after a move.
-- Letters: xs are additions, ys what the move makes of them; y an addition; r the names behind a path; q a path.
use Rattle.std.proofs.Common.{◌≡◌, ℕ, List, [], ◌∷◌, ◌++◌, ◌<◌, length, map, refl, sym, ap, ◌∙◌, arith, true, false, Bool, None, Some, Option, drop}
use Rattle.std.proofs.{Common.option_map, Math.ListN.drop_of_length-le, Math.Seq.drop-append_seam, lemmas.Bool.false_from_ne_true, lemmas.Grind.common_steps}
use Rattle.std.specs.{Cmp.both_ways, List.filter, List.find, Option.option_or}
use Rattle.std.proofs.lemmas.Iterator.Adapters.{option_map_id}
use Rattle.std.proofs.lemmas.List.{append-nil, get_or-append-add, get_or-drop, length-append, length-drop, map-append, Folds.find-append, Folds.find-append}
use Rattle.adf_names.specs.Texts.{uppers}
use Rattle.adf_tree.specs.Additions.{Addition, AllHaveRoom, content_of, entries_of_additions}
use Rattle.adf_tree.specs.{Paths.Content, Paths.content_at, Tree.last_of}
use Rattle.adf_edits.specs.Edits.{can_move, is_at, is_within, moved_additions, only_if, rebased, without}
use Rattle.adf_edits.specs.Paths.{is_at_or_under}
use Rattle.adf_edits.proofs.FirstAt.{content_done, first_kept, first_left_out, first_through, first_unlike, none_first, or_nothing, told}
use Rattle.adf_edits.proofs.MovesKept.{MayMove, as_long, backs, fronts, front_is, free_rest, joined_within, may_move, move_kept, no_longer, rejoined}
use Rattle.adf_edits.proofs.{MovesKept.within_from, Places.same_paths, RoomKept.made_is}

-- paths

-- a path is within a directory however its names are written
within_alike : (d a b : List (List ℕ)) → map uppers a ≡ map uppers b → is_at_or_under d a ≡ true → is_at_or_under d b ≡ true
within_alike d a b same h = grind (arith, common_steps, no_longer, as_long, within_from, fronts, front_is)

nothing_or : (o n : Option Addition) → o ≡ None → option_or o n ≡ n
nothing_or None n h = refl
nothing_or (Some x) n h = cc

-- the last name of a path is that of what stands behind its first names
last_behind : (to p : List (List ℕ)) (n : ℕ) → n < length p → last_of (to ++ drop n p) ≡ last_of p
last_behind to p n lt = grind (arith, common_steps, length-append, length-drop, get_or-append-add, get_or-drop)

-- a move

module _ (from to : List (List ℕ)) (xs ys : List Addition) (room : AllHaveRoom xs)
    (h : only_if (can_move xs from to) (moved_additions from to xs) ≡ Some ys) where
  abbrev w : Addition → Bool
  w = is_within from

  abbrev rb : Addition → Addition
  rb = rebased from to

  abbrev n : ℕ
  n = length from

  abbrev rest : List Addition
  rest = without from xs

  may : MayMove from to xs
  may = may_move from to xs room (made_is (can_move xs from to) (moved_additions from to xs) ys h).0

  after : (q : List (List ℕ)) → content_at (entries_of_additions ys) q
      ≡ option_map content_of (option_or (find (is_at q) rest) (find (is_at q) (map rb (filter w xs))))
  after q = search (arith, told, move_kept, option_map, made_is, find-append)

  -- what is moved

  alike : (r : List (List ℕ)) (y : Addition) → w y ≡ true → is_at (to ++ r) (rb y) ≡ is_at (from ++ r) y
  alike r y within =
      let front : List (List ℕ) = from ++ r in
      let behind : drop n front ≡ r = drop-append_seam from r in
      both_ways (is_at (to ++ r) (rb y)) (is_at front y)
      (λ t. (same_paths y.path front).1
      (rejoined from to rest may.named may.place may.none y.path front within (joined_within from r front refl)
      ((same_paths (to ++ drop n y.path) (to ++ r)).0 t ∙ ap (λ us. map uppers (to ++ us)) (sym behind))))
      (λ t. (same_paths (to ++ drop n y.path) (to ++ r)).1
      (map-append uppers to (drop n y.path)
      ∙ (ap (λ us. map uppers to ++ us) (backs n y.path front ((same_paths y.path front).0 t) ∙ ap (map uppers) behind)
      ∙ sym (map-append uppers to r))))

  at_moved : (r : List (List ℕ))
      → content_at (entries_of_additions ys) (to ++ r) ≡ option_map content_of (option_map rb (find (is_at (from ++ r)) xs))
  at_moved r =
      let free : find (is_at (to ++ r)) rest ≡ None =
      none_first (is_at (to ++ r)) rest (free_rest from to rest may.named may.place may.none r) in
      after (to ++ r)
      ∙ ap (option_map content_of) (nothing_or (find (is_at (to ++ r)) rest) (find (is_at (to ++ r)) (map rb (filter w xs))) free
      ∙ first_through w (is_at (from ++ r)) (is_at (to ++ r)) rb xs (alike r)
      (λ y at. joined_within from r y.path ((same_paths y.path (from ++ r)).0 at)))

  top_named : (y : Addition) → is_at from y ≡ true → content_of (rb y) ≡ (record (content_of y) { name = last_of to })
  top_named y at = grind (arith, as_long, same_paths, drop_of_length-le, append-nil)

  pub moved_top : content_at (entries_of_additions ys) to
      ≡ option_map (λ (c : Content). record c { name = last_of to }) (content_at (entries_of_additions xs) from)
  moved_top =
      let g : Content → Content = λ c. record c { name = last_of to } in
      sym (ap (content_at (entries_of_additions ys)) (append-nil to))
      ∙ (at_moved [] ∙ (ap (λ q. option_map content_of (option_map rb (find (is_at q) xs))) (append-nil from)
      ∙ (content_done (is_at from) rb g xs top_named ∙ ap (option_map g) (sym (told xs room from)))))

  inner_named : (name : List ℕ) (r : List (List ℕ)) (y : Addition) → is_at (from ++ name ∷ r) y ≡ true
      → content_of (rb y) ≡ content_of y
  inner_named name r y at =
      let long = as_long y.path (from ++ name ∷ r) ((same_paths y.path (from ++ name ∷ r)).0 at) in
      let sum = length-append from (name ∷ r) in
      let under_name : List ℕ → Content = λ us. record (content_of y) { name = us } in
      ap under_name (last_behind to y.path n (omega (arith, long, sum)))

  pub moved_within : (name : List ℕ) (r : List (List ℕ))
      → content_at (entries_of_additions ys) (to ++ name ∷ r) ≡ content_at (entries_of_additions xs) (from ++ name ∷ r)
  moved_within name r =
      let q : List (List ℕ) = from ++ name ∷ r in
      at_moved (name ∷ r)
      ∙ (content_done (is_at q) rb (λ c. c) xs (inner_named name r)
      ∙ (option_map_id (option_map content_of (find (is_at q) xs)) ∙ sym (told xs room q)))

  -- other paths

  none_moved : (q : List (List ℕ)) → is_at_or_under to q ≡ false → find (is_at q) (map rb (filter w xs)) ≡ None
  none_moved q off = grind (arith, first_unlike, false_from_ne_true, joined_within, same_paths)

  pub source_gone : (q : List (List ℕ)) → is_at_or_under from q ≡ true → is_at_or_under to q ≡ false
      → content_at (entries_of_additions ys) q ≡ None
  source_gone q inside off =
      after q
      ∙ ap (option_map content_of) (or_nothing (find (is_at q) rest) (find (is_at q) (map rb (filter w xs))) (none_moved q off)
      ∙ first_left_out (is_at q) w xs (λ y at. within_alike from q y.path (sym ((same_paths y.path q).0 at)) inside))

  pub far_kept : (q : List (List ℕ)) → is_at_or_under from q ≡ false → is_at_or_under to q ≡ false
      → content_at (entries_of_additions ys) q ≡ content_at (entries_of_additions xs) q
  far_kept q outside off = grind (arith, false_from_ne_true, within_alike, same_paths, after, option_map, or_nothing, none_moved, first_kept, told)
