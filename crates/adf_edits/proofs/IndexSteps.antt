-- What is done to entries by place, and to what stands; the index stays sound.
-- Letters: ps are entries by place, index that of their paths; x, y, z, d additions; i, j, k places.
use Rattle.std.proofs.Common.{◌≡◌, ◌≢◌, ℕ, List, [], ◌∷◌, ◌++◌, inl, inr, length, set, refl, sym, ap, subst}
use Rattle.std.proofs.{Common.◌∙◌, Common.true, Common.false, Common.Bool}
use Rattle.std.proofs.{Common.Option, Common.Some, Common.None, Common.◌&&◌}
use Rattle.std.proofs.lemmas.Bool.{and_parts, cases_Bool, cases_eq, false_from_ne_true}
use Rattle.std.specs.{BTreeMap.BTreeMap, BTreeMap.insert_entry, Global.Vec, List.list_any, Str.bytes_eq}
use Rattle.std.proofs.lemmas.Slice.Eq.{bytes_eq-Decides}
use Rattle.adf_tree.specs.{Additions.Addition, Additions.same_path, Tree.is_dir_body, Tree.parents_of}
use Rattle.adf_edits.specs.Edits.{can_add, can_move, can_remove, can_replace, changed_at, changed_if, has_directory, has_path, has_under, is_at, is_directory_at, is_within, refilled_at}
use Rattle.adf_edits.specs.Edits.{moved_additions, only_if, rebased, refilled_if, removed, with_new}
use Rattle.adf_edits.specs.declared.edits.Change.{Change}
use Rattle.adf_edits.specs.Index.{by_bytes, HasPlaceLess, HasRoom, IsIndexed, IsRooted, IsSoundIndex, StandsIn}
use Rattle.adf_edits.specs.Index.{entry_placed, path_key, place_at, place_in_index, standing}
use Rattle.adf_edits.specs.{declared.index.Places.Places, Paths.is_under}
use Rattle.adf_edits.proofs.IndexKeys.{place_left, put_here, put_other}
use Rattle.adf_edits.proofs.IndexedPaths.{may_be_added, nothing_under_file, only_at, under_from_parents, within_either, within_itself}
use Rattle.adf_edits.proofs.StandingPlaces.{entry_from, one_done, one_taken, passing, pushed}
use Rattle.adf_edits.proofs.StandingPlaces.{stands_after, stands_before, stands_now, stands_other, stands_written}
use Rattle.adf_edits.proofs.{Places.same_paths, StandingPlaces.passes, StandingPlaces.within}

-- no entries
pub none_indexed : (index : BTreeMap (Vec ℕ) ℕ) → IsIndexed [] index
none_indexed index = record { found = λ i x s. cc; rooted = λ i x s. cc }

-- one entry more
module _ (ps : List (Option Addition)) (index new : BTreeMap (Vec ℕ) ℕ) (x : Addition) (key : Vec ℕ) (is : IsIndexed ps index)
    (rooted : IsRooted ps x.path) (free : entry_placed ps (place_in_index index x.path) ≡ None) (key_is : key.items ≡ path_key x.path)
    (put : new.entries ≡ insert_entry by_bytes index.entries key (length ps)) where
  rooted_more : (path : List (List ℕ)) → IsRooted ps path → IsRooted (ps ++ Some x ∷ []) path
  rooted_more path r = elim r [
    | inl one ↦ inl one
    | inr more ↦ inr (more.0, (more.1.0, more.1.1, stands_before ps x more.1.0 more.1.1 more.1.2, more.1.3))
  ]

  found_more : (i : ℕ) (y : Addition) → StandsIn (ps ++ Some x ∷ []) i y → place_in_index new y.path ≡ Some i
  found_more i y s = elim (stands_after ps x i y s) [
    | inr last ↦
        put_here index new key (length ps) put (path_key y.path) (ap (λ (z : Addition). path_key z.path) last.1 ∙ sym key_is) ∙ ap Some (sym last.0)
    | inl old ↦
        elim (put_other index new key (length ps) put (path_key y.path)) [
          | inl same ↦ same ∙ is.found i y old
          | inr here ↦
              let keys : path_key x.path ≡ path_key y.path = sym key_is ∙ sym here in
              let place : place_in_index index x.path ≡ Some i = ap (place_at index) keys ∙ is.found i y old in
              let clash : None ≡ Some y = sym free ∙ (ap (entry_placed ps) place ∙ entry_from ps i y old) in cc
        ]
  ]

  pub indexed_more : IsIndexed (ps ++ Some x ∷ []) new
  indexed_more = record {
    found = found_more;
    rooted = λ i y s. elim (stands_after ps x i y s) [
      | inl old ↦ rooted_more y.path (is.rooted i y old)
      | inr last ↦ subst (λ (z : Addition). IsRooted (ps ++ Some x ∷ []) z.path) (sym last.1) (rooted_more x.path rooted)
    ];
  }

-- one entry taken away
module _ (ps : List (Option Addition)) (index : BTreeMap (Vec ℕ) ℕ) (is : IsIndexed ps index) (i : ℕ) (x : Addition) (s : StandsIn ps i x) where
  rooted_less : has_under (standing ps) x.path ≡ false → (j : ℕ) (y : Addition) → StandsIn ps j y → IsRooted (set ps i None) y.path
  rooted_less none j y sy = elim (is.rooted j y sy) [
    | inl one ↦ inl one
    | inr more ↦
        elim (cases_eq more.1.0 i) [
          | inl here ↦
              let at : StandsIn ps i more.1.1 = subst (λ k. StandsIn ps k more.1.1) here more.1.2 in
              let same : more.1.1 ≡ x = cc in
              let both = and_parts (is_dir_body more.1.1.body) (same_path more.1.1.path (parents_of y.path)) more.1.3 in
              let under : is_under x.path y.path ≡ true =
              under_from_parents x.path y.path more.0 (subst (λ (z : Addition). same_path z.path (parents_of y.path) ≡ true) same both.1) in
              let clash : true ≡ false = sym (passing (λ z. is_under x.path z.path) ps j y sy under) ∙ none in cc
          | inr ne ↦ inr (more.0, (more.1.0, more.1.1, stands_other ps i None more.1.0 more.1.1 ne more.1.2, more.1.3))
        ]
  ]

  pub indexed_less : has_under (standing ps) x.path ≡ false → IsIndexed (set ps i None) index
  indexed_less none = record {
    found = λ j y w. elim (stands_written ps i None j y w) [ inl old ↦ is.found j y old.1 | inr new ↦ cc ];
    rooted = λ j y w. elim (stands_written ps i None j y w) [ inl old ↦ rooted_less none j y old.1 | inr new ↦ cc ];
  }

  -- one entry changed, with its path, and still a directory or still a file
  module _ (z : Addition) (path : z.path ≡ x.path) (body : is_dir_body z.body ≡ is_dir_body x.body) where
    rooted_changed : (other : List (List ℕ)) → IsRooted ps other → IsRooted (set ps i (Some z)) other
    rooted_changed other r = elim r [
      | inl one ↦ inl one
      | inr more ↦
          elim (cases_eq more.1.0 i) [
            | inl here ↦
                let at : StandsIn ps i more.1.1 = subst (λ k. StandsIn ps k more.1.1) here more.1.2 in
                let same : more.1.1 ≡ x = cc in
                let test : is_directory_at (parents_of other) x ≡ true = subst (λ (w : Addition). is_directory_at (parents_of other) w ≡ true) same more.1.3 in
                inr (more.0, (i, z, stands_now ps i z (within ps i x s), rw (path, body) test))
            | inr ne ↦ inr (more.0, (more.1.0, more.1.1, stands_other ps i (Some z) more.1.0 more.1.1 ne more.1.2, more.1.3))
          ]
    ]

    pub indexed_changed : IsIndexed (set ps i (Some z)) index
    indexed_changed = record {
      found = λ j y w. elim (stands_written ps i (Some z) j y w) [
        | inl old ↦ is.found j y old.1
        | inr new ↦
            let same : z ≡ y = cc in
            ap (place_in_index index) (ap (λ (v : Addition). v.path) (sym same) ∙ path) ∙ (is.found i x s ∙ ap Some (sym new.0))
      ];
      rooted = λ j y w. elim (stands_written ps i (Some z) j y w) [
        | inl old ↦ rooted_changed y.path (is.rooted j y old.1)
        | inr new ↦
            let same : z ≡ y = cc in
            subst (λ names. IsRooted (set ps i (Some z)) names) (sym path ∙ ap (λ (v : Addition). v.path) same) (rooted_changed x.path (is.rooted i x s))
      ];
    }

  -- what the edits make
  module _ (path : List (List ℕ)) (at : is_at path x ≡ true) where
    there : list_any (is_at path) (standing ps) ≡ true
    there = passing (is_at path) ps i x s at

    pub change_made : (what : Change) → only_if (has_path (standing ps) path) (changed_at path what (standing ps))
        ≡ Some (standing (set ps i (Some (changed_if path what x))))
    change_made what =
        rw there (ap Some (sym (one_done (changed_if path what) ps i x s (λ j y sy ne. rw (only_at ps index is path i x s at j y sy ne) refl))))

    pub replace_made : (bytes : List ℕ) → is_dir_body x.body ≡ false
        → only_if (can_replace (standing ps) path) (refilled_at path bytes (standing ps)) ≡ Some (standing (set ps i (Some (refilled_if path bytes x))))
    replace_made bytes file =
        rw (there, no_directory) (ap Some (sym (one_done (refilled_if path bytes) ps i x s others)))
      where
        no_directory : has_directory (standing ps) path ≡ false
        no_directory = false_from_ne_true (has_directory (standing ps) path) (λ h.
            let one = passes (is_directory_at path) ps h in
            let both = and_parts (is_dir_body one.1.body) (same_path one.1.path path) one.3 in
            elim (cases_eq one.0 i) [
              | inl here ↦
                  let at_i : StandsIn ps i one.1 = subst (λ k. StandsIn ps k one.1) here one.2 in
                  let same : one.1 ≡ x = cc in
                  let clash : true ≡ false = sym both.0 ∙ (ap (λ (w : Addition). is_dir_body w.body) same ∙ file) in cc
              | inr ne ↦ let clash : true ≡ false = sym both.1 ∙ only_at ps index is path i x s at one.0 one.1 one.2 ne in cc
            ])

        others : (j : ℕ) (y : Addition) → StandsIn ps j y → j ≢ i → refilled_if path bytes y ≡ y
        others j y sy ne = elim (cases_Bool (is_dir_body y.body)) [
          | inl t ↦ rw t refl
          | inr f ↦ rw (f, only_at ps index is path i x s at j y sy ne) refl
        ]

    pub remove_made : has_under (standing ps) path ≡ false → only_if (can_remove (standing ps) path) (removed path (standing ps))
        ≡ Some (standing (set ps i None))
    remove_made none =
        rw (there, none) (ap Some (sym (one_taken (is_at path) ps i x s at (λ j y sy ne. only_at ps index is path i x s at j y sy ne)).0))

-- an entry added
pub add_made : (ps : List (Option Addition)) (index : BTreeMap (Vec ℕ) ℕ) (x : Addition) → IsIndexed ps index → IsRooted ps x.path
    → entry_placed ps (place_in_index index x.path) ≡ None → with_new x (standing ps) ≡ Some (standing (ps ++ Some x ∷ []))
add_made ps index x is rooted free = rw (may_be_added ps index is x.path rooted free) (ap Some (sym (pushed ps x)))

-- a file moved
module _ (ps : List (Option Addition)) (index : BTreeMap (Vec ℕ) ℕ) (is : IsIndexed ps index) (i : ℕ) (x : Addition) (s : StandsIn ps i x)
    (from to : List (List ℕ)) (at : is_at from x ≡ true) (file : is_dir_body x.body ≡ false) where
  none_under : has_under (standing ps) from ≡ false
  none_under = nothing_under_file ps index is from i x s at file

  pub indexed_without : IsIndexed (set ps i None) index
  indexed_without = indexed_less ps index is i x s (nothing_under_file ps index is x.path i x s ((same_paths x.path x.path).1 refl) file)

  not_within : (j : ℕ) (y : Addition) → StandsIn ps j y → j ≢ i → is_within from y ≡ false
  not_within j y sy ne = false_from_ne_true (is_within from y) (λ h. elim (within_either from y.path h) [
    | inl same ↦ let clash : true ≡ false = sym same ∙ only_at ps index is from i x s at j y sy ne in cc
    | inr under ↦ let clash : true ≡ false = sym (passing (λ z. is_under from z.path) ps j y sy under) ∙ none_under in cc
  ])

  pub move_made : IsRooted (set ps i None) to → entry_placed (set ps i None) (place_in_index index to) ≡ None
      → only_if (can_move (standing ps) from to) (moved_additions from to (standing ps))
      ≡ Some (standing (set ps i None ++ Some (rebased from to x) ∷ []))
  move_made rooted free =
      let two = one_taken (is_within from) ps i x s (within_itself from x.path at) not_within in
      let room : can_add (standing (set ps i None)) to ≡ true = may_be_added (set ps i None) index indexed_without to rooted free in
      let there : list_any (is_at from) (standing ps) ≡ true = passing (is_at from) ps i x s at in
      rw (there, ← two.0, room, two.1) (ap Some (sym (pushed (set ps i None) (rebased from to x))))

-- the index stays sound

pub sound_more : (p : Places) (new : BTreeMap (Vec ℕ) ℕ) (x : Addition) (key : Vec ℕ) (room : Bool) → IsSoundIndex p
    → (room ≡ true → HasRoom p x.path) → key.items ≡ path_key x.path
    → new.entries ≡ insert_entry by_bytes p.index.entries key (length p.entries.items) → (p.is_whole && room) ≡ true
    → IsIndexed (p.entries.items ++ Some x ∷ []) new
sound_more p new x key room sound has key_is put whole =
    let both = and_parts p.is_whole room whole in
    let r = has both.1 in
    indexed_more p.entries.items p.index new x key (sound both.0) r.rooted r.free key_is put

pub sound_less : (p : Places) (new : BTreeMap (Vec ℕ) ℕ) (key : List ℕ) → IsSoundIndex p
    → entry_placed p.entries.items (place_at p.index key) ≡ None → HasPlaceLess p.index new key → p.is_whole ≡ true
    → IsIndexed p.entries.items new
sound_less p new key sound free less whole = record {
  found = λ i x s. elim (cases_Bool (bytes_eq (path_key x.path) key)) [
    | inl t ↦
        let same : path_key x.path ≡ key = (bytes_eq-Decides (path_key x.path) key).0 t in
        let place : place_at p.index key ≡ Some i = ap (place_at p.index) (sym same) ∙ (sound whole).found i x s in
        let clash : None ≡ Some x = sym free ∙ (ap (entry_placed p.entries.items) place ∙ entry_from p.entries.items i x s) in cc
    | inr f ↦
        place_left p.index new key (path_key x.path) less (λ e. let clash = sym ((bytes_eq-Decides (path_key x.path) key).1 e) ∙ f in cc)
        ∙ (sound whole).found i x s
  ];
  rooted = (sound whole).rooted;
}
