-- Maps that are read one by one. Letters: ns names, ts their texts, n and t one of each; so_far the maps of those before, all the answer to all.
use Rattle.std.proofs.Common.{◌≡◌, ◌≤◌, ◌<◌, ◌+◌, ◌∙◌, ◌++◌, ℕ, suc, List, [], ◌∷◌, All, Option, None, Some, Result, Ok, Err, ap, sym, refl, arith, drop, get_or}
use Rattle.std.proofs.Common.{length, subst, IfErr}
use Rattle.std.proofs.{Common.append_assoc, Common.append-nil, lemmas.List.Elements.All-cons, lemmas.List.drop-drop, lemmas.List.drop_all}
use Rattle.std.proofs.{lemmas.List.get_or-drop, Math.Seq.drop-cons}
use Rattle.std.specs.Result.{IsErrAnd}
use Rattle.clap.specs.Words.{Text}
use Rattle.adf_maps.specs.Maps.{MapValue}
use Rattle.adf_readings.specs.{Mapped.MappedValue}
use Rattle.adf_merge_cmd.specs.Answers.{IsMapStop, mapped, named_map, named_maps, with_map}
use Rattle.adf_merge_cmd.specs.declared.maps.MapStop.{MapStop, TheVariants.Refused, TheVariants.NoMemory}

abbrev pub Told : Type 0
Told = Option (List (Option MapValue))

-- the maps so far, and what is told of those behind them
abbrev pub behind : List (Option MapValue) → Told → Told
behind so_far None = None
behind so_far (Some more) = Some (so_far ++ more)

next : {X : Type 0} (xs : List X) (i : ℕ) (x : X) → i < length xs → x ≡ get_or xs i x → drop i xs ≡ x ∷ drop (i + 1) xs
next xs i x lt at =
    drop-cons xs i x lt ∙ (ap (λ y. y ∷ drop (suc i) xs) (sym at) ∙ ap (λ k. x ∷ drop k xs) (let e : suc i ≡ i + 1 = omega arith in e))

one_more : (size : ℕ) (n : Text) (ns : List Text) (t : List ℕ) (ts : List (List ℕ))
    → named_maps size (n ∷ ns) (t ∷ ts) ≡ with_map (named_map size n t) (named_maps size ns ts)
unfolding named_maps
one_more size n ns t ts = refl

none_left : (size : ℕ) (ts : List (List ℕ)) → named_maps size [] ts ≡ Some []
unfolding named_maps
none_left size ts = refl

joined : (so_far : List (Option MapValue)) (m : Option MapValue) (told : Told)
    → behind (so_far ++ m ∷ []) told ≡ behind so_far (with_map (Some m) told)
joined so_far m None = refl
joined so_far m (Some more) = ap Some (append_assoc so_far (m ∷ []) more)

module _ (size : ℕ) (ns : List Text) (ts : List (List ℕ)) (i : ℕ) (n : Text) (t : List ℕ) (lt : i < length ns) (less : i < length ts)
    (at : n ≡ get_or ns i n) (is : t ≡ get_or ts i t) (so_far : List (Option MapValue)) (all : Told) where
  left : named_maps size (drop i ns) (drop i ts) ≡ with_map (named_map size n t) (named_maps size (drop (i + 1) ns) (drop (i + 1) ts))
  left = ap (λ x. named_maps size x (drop i ts)) (next ns i n lt at)
      ∙ (ap (named_maps size (n ∷ drop (i + 1) ns)) (next ts i t less is) ∙ one_more size n (drop (i + 1) ns) t (drop (i + 1) ts))

  -- a map that is taken
  pub map_taken : (m : Option MapValue) → named_map size n t ≡ Some m → behind so_far (named_maps size (drop i ns) (drop i ts)) ≡ all
      → behind (so_far ++ m ∷ []) (named_maps size (drop (i + 1) ns) (drop (i + 1) ts)) ≡ all
  map_taken m e h =
      let rest : Told = named_maps size (drop (i + 1) ns) (drop (i + 1) ts) in
      joined so_far m rest ∙ (ap (λ o. behind so_far (with_map o rest)) (sym e) ∙ (ap (behind so_far) (sym left) ∙ h))

  -- one that is not
  pub map_stopped : (stop : MapStop) → IsMapStop (with_map (named_map size n t) (named_maps size (drop (i + 1) ns) (drop (i + 1) ts))) stop
      → behind so_far (named_maps size (drop i ns) (drop i ts)) ≡ all → IsMapStop all stop
  map_stopped (Refused line) e h = sym h ∙ (ap (behind so_far) left ∙ ap (behind so_far) e)
  map_stopped NoMemory e h = e

pub maps_end : (size : ℕ) (ns : List Text) (ts : List (List ℕ)) (i : ℕ) (so_far : List (Option MapValue)) (all : Told) → length ns ≤ i
    → behind so_far (named_maps size (drop i ns) (drop i ts)) ≡ all → all ≡ Some so_far
maps_end size ns ts i so_far all past h =
    sym h ∙ (ap (λ x. behind so_far (named_maps size x (drop i ts))) (drop_all i ns past)
    ∙ (ap (behind so_far) (none_left size (drop i ts)) ∙ ap Some (append-nil so_far)))

-- readings with their maps, one by one

mapped_cons : (r : List ℕ) (rs : List (List ℕ)) (maps : List (Option MapValue)) (m : Option MapValue) → m ≡ get_or maps 0 None
    → mapped (r ∷ rs) maps ≡ record { image = r; map = m } ∷ mapped rs (drop 1 maps)
unfolding mapped
mapped_cons r rs [] m e = ap (λ m. record { image = r; map = m } ∷ mapped rs []) (sym e)
mapped_cons r rs (x ∷ maps) m e = ap (λ m. record { image = r; map = m } ∷ mapped rs maps) (sym e)

pub mapped_each : (P : List ℕ → Type 0) (rs : List (List ℕ)) (maps : List (Option MapValue)) → All P rs → All (λ m. P m.image) (mapped rs maps)
unfolding mapped
mapped_each P [] maps all = λ k d lt. absurd (omega arith)
mapped_each P (r ∷ rs) [] all = All-cons (λ m. P m.image) (record { image = r; map = None }) (mapped rs []) (all 0 r (omega arith))
    (mapped_each P rs [] (λ k d lt. all (suc k) d (omega arith)))
mapped_each P (r ∷ rs) (m ∷ maps) all = All-cons (λ m. P m.image) (record { image = r; map = m }) (mapped rs maps) (all 0 r (omega arith))
    (mapped_each P rs maps (λ k d lt. all (suc k) d (omega arith)))

pub mapped_long : (rs : List (List ℕ)) (maps : List (Option MapValue)) → length (mapped rs maps) ≡ length rs
unfolding mapped
mapped_long [] maps = refl
mapped_long (r ∷ rs) [] = ap suc (mapped_long rs [])
mapped_long (r ∷ rs) (m ∷ maps) = ap suc (mapped_long rs maps)

pub mapped_next : (rs : List (List ℕ)) (maps : List (Option MapValue)) (i : ℕ) (r : List ℕ) (m : Option MapValue) (so_far all : List MappedValue)
    → i < length rs → r ≡ get_or rs i r → m ≡ get_or maps i None → so_far ++ mapped (drop i rs) (drop i maps) ≡ all
    → (so_far ++ record { image = r; map = m } ∷ []) ++ mapped (drop (i + 1) rs) (drop (i + 1) maps) ≡ all
mapped_next rs maps i r m so_far all lt at is h =
    let one : MappedValue = record { image = r; map = m } in
    let behind_it : drop 1 (drop i maps) ≡ drop (i + 1) maps = drop-drop 1 i maps in
    let here : m ≡ get_or (drop i maps) 0 None = is ∙ sym (get_or-drop i maps 0 None ∙ ap (λ k. get_or maps k None) (let e : i + 0 ≡ i = omega arith in e)) in
    let left : mapped (drop i rs) (drop i maps) ≡ one ∷ mapped (drop (i + 1) rs) (drop (i + 1) maps) =
    ap (λ xs. mapped xs (drop i maps)) (next rs i r lt at) ∙ (mapped_cons r (drop (i + 1) rs) (drop i maps) m here
    ∙ ap (λ ms. one ∷ mapped (drop (i + 1) rs) ms) behind_it) in
    append_assoc so_far (one ∷ []) (mapped (drop (i + 1) rs) (drop (i + 1) maps)) ∙ (ap (λ ms. so_far ++ ms) (sym left) ∙ h)

mapped_none : (maps : List (Option MapValue)) → mapped [] maps ≡ []
unfolding mapped
mapped_none maps = refl

pub mapped_end : (rs : List (List ℕ)) (maps : List (Option MapValue)) (i : ℕ) (so_far all : List MappedValue) → length rs ≤ i
    → so_far ++ mapped (drop i rs) (drop i maps) ≡ all → so_far ≡ all
mapped_end rs maps i so_far all past h =
    sym (append-nil so_far) ∙ (ap (λ ms. so_far ++ ms) (sym (ap (λ xs. mapped xs (drop i maps)) (drop_all i rs past) ∙ mapped_none (drop i maps))) ∙ h)

-- the stop of one map is that of all
pub stop_is : {T : Type 0} (result : Result T MapStop) (all : Told) (u : MapStop)
    → IsErrAnd result (λ e. e ≡ u) → IsMapStop all u → IfErr result (IsMapStop all)
stop_is (Ok x) all u e is = tt
stop_is (Err f) all u e is = subst (IsMapStop all) (sym e) is
