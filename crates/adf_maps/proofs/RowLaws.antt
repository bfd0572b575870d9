-- Rows that are read one by one. so_far is what was read of them, all the answer to all of them.
use Rattle.std.proofs.Common.{◌≡◌, ◌∙◌, ℕ, true, false, List, [], ◌∷◌, ◌++◌, Option, Some, None, ap, refl, sym, append_assoc, append-nil}
use Rattle.adf_maps.specs.{Maps.is_silent, Maps.rows_in, Maps.stretch_of, Maps.stretches_of, Maps.with_stretch, Maps.words_of, declared.stretch.Stretch.Stretch}

module _ (so_far : List (List (List ℕ))) (line : List ℕ) (more : List (List ℕ)) (all : List (List (List ℕ))) (h : so_far ++ rows_in (line ∷ more) ≡ all) where
  pub row_kept : is_silent (words_of line) ≡ false → (so_far ++ words_of line ∷ []) ++ rows_in more ≡ all
  row_kept speaks =
      let e : rows_in (line ∷ more) ≡ words_of line ∷ rows_in more = rw speaks in
      append_assoc so_far (words_of line ∷ []) (rows_in more) ∙ (ap (λ rows. so_far ++ rows) (sym e) ∙ h)

  pub row_left_out : is_silent (words_of line) ≡ true → so_far ++ rows_in more ≡ all
  row_left_out silent =
      let e : rows_in (line ∷ more) ≡ rows_in more = rw silent in
      ap (λ rows. so_far ++ rows) (sym e) ∙ h

-- what was read, and what is behind it
abbrev pub behind : List Stretch → Option (List Stretch) → Option (List Stretch)
behind so_far None = None
behind so_far (Some more) = Some (so_far ++ more)

pub stretch_kept : (so_far : List Stretch) (s : Stretch) (row : List (List ℕ)) (rows left : List (List (List ℕ))) (all : Option (List Stretch))
    → stretch_of row ≡ Some s → left ≡ row ∷ rows → behind so_far (stretches_of left) ≡ all → behind (so_far ++ s ∷ []) (stretches_of rows) ≡ all
unfolding stretches_of
stretch_kept so_far s row rows left all some front known =
    let h : behind so_far (stretches_of (row ∷ rows)) ≡ all = ap (λ l. behind so_far (stretches_of l)) (sym front) ∙ known in
    joined (stretches_of rows) ∙ (ap (λ o. behind so_far (with_stretch o (stretches_of rows))) (sym some) ∙ h)
  where
    joined : (left : Option (List Stretch)) → behind (so_far ++ s ∷ []) left ≡ behind so_far (with_stretch (Some s) left)
    joined None = refl
    joined (Some more) = ap Some (append_assoc so_far (s ∷ []) more)

pub no_stretch : (so_far : List Stretch) (row : List (List ℕ)) (rows left : List (List (List ℕ))) (all : Option (List Stretch))
    → stretch_of row ≡ None → left ≡ row ∷ rows → behind so_far (stretches_of left) ≡ all → None ≡ all
unfolding stretches_of
no_stretch so_far row rows left all none front known =
    let h : behind so_far (stretches_of (row ∷ rows)) ≡ all = ap (λ l. behind so_far (stretches_of l)) (sym front) ∙ known in
    ap (λ o. behind so_far (with_stretch o (stretches_of rows))) (sym none) ∙ h

pub stretches_done : (so_far : List Stretch) (left : List (List (List ℕ))) (all : Option (List Stretch)) → left ≡ [] → behind so_far (stretches_of left) ≡ all → Some so_far ≡ all
unfolding stretches_of
stretches_done so_far left all none h = ap Some (sym (append-nil so_far)) ∙ (ap (λ l. behind so_far (stretches_of l)) (sym none) ∙ h)
