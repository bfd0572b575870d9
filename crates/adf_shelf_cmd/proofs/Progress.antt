-- What a run of names has done so far. `may` says what may be reported of the file of a name, `a` is what was left of the names before the run
-- and `b` what is left, and `o` and `o'` are what output held and holds.
use Rattle.std.proofs.Common.{◌≡◌, ◌∙◌, ℕ, max, Bool, true, false, List, [], ◌∷◌, ◌++◌, Option, None, Some, IfSome, append-nil, append_assoc, inl, inr, refl}
use Rattle.std.proofs.{Common.sym, Common.ap, Common.subst, Common.arith, lemmas.Grind.common_steps}
use Rattle.std.specs.Io.KnownBytes.{Appends}
use Rattle.adf_volume.specs.declared.types.Types.{Types}
use Rattle.adf_runs.proofs.{KnownBytes.appends_two, PendingText.appends_nil}
use Rattle.adf_shelf_cmd.specs.Lines.{AreBatchLines, BreaksLine, IsReport, IsRunStatus, Reports, WritesLines, WritesPart}
use Rattle.adf_shelf_cmd.specs.Names.{AreGiven}

-- lines of names were written
abbrev pub Progress : Reports → Option (List (List ℕ)) → Option (List (List ℕ)) → ℕ → Option (List ℕ) → Option (List ℕ) → Type 0
Progress may a b status o o' = (names : List (List ℕ)) × AreGiven a b names × WritesLines may names status o o'

-- the line of a name was written
abbrev pub Line : Reports → List ℕ → ℕ → Option (List ℕ) → Option (List ℕ) → Type 0
Line may name status o o' = (line : List ℕ) × may name status line × Appends o o' line

-- a line behind others
lines_added : (may : Reports) (names : List (List ℕ)) (s t : ℕ) (output name text : List ℕ) → AreBatchLines may names s output → may name t text
    → AreBatchLines may (names ++ name ∷ []) (max s t) (output ++ text)
unfolding AreBatchLines
lines_added may [] s t output name text h tells = grind (arith, common_steps, append-nil)
lines_added may (n ∷ ns) s t output name text (a, b, line, rest, is_first, lines, e, whole) tells = (
  a,
  max b t,
  line,
  rest ++ text,
  is_first,
  lines_added may ns b t rest name text lines tells,
  omega (arith, e),
  rw (whole) (append_assoc line rest text),
)

given_none : (a : Option (List (List ℕ))) → AreGiven a a []
given_none None = tt
given_none (Some xs) = refl

given_more : (a b c : Option (List (List ℕ))) (xs ys : List (List ℕ)) → AreGiven a b xs → AreGiven b c ys → AreGiven a c (xs ++ ys)
given_more None b c xs ys p q = tt
given_more (Some x) None c xs ys p q = absurd p
given_more (Some x) (Some y) None xs ys p q = absurd q
given_more (Some x) (Some y) (Some z) xs ys p q = p ∙ ap (λ l. xs ++ l) q ∙ sym (append_assoc xs ys z)

pub started : (may : Reports) (a : Option (List (List ℕ))) (o : Option (List ℕ)) → Progress may a a 0 o o
unfolding AreBatchLines
started may a o = ([], given_none a, ([], (refl, refl), appends_nil o))

pub stepped : (may : Reports) (a b c : Option (List (List ℕ))) (s t : ℕ) (o o' o'' : Option (List ℕ)) (name : List ℕ)
    → Progress may a b s o o' → AreGiven b c (name ∷ []) → Line may name t o' o'' → Progress may a c (max s t) o o''
stepped may a b c s t o o' o'' name (names, given, (output, lines, written)) one (text, tells, more) = (
  names ++ name ∷ [],
  given_more a b c names (name ∷ []) given one,
  (output ++ text, lines_added may names s t output name text lines tells, appends_two o o' o'' output text _ refl written more),
)

-- no more line was begun
pub stopped : (may : Reports) (a b : Option (List (List ℕ))) (s : ℕ) (broke : Bool) (o o' : Option (List ℕ)) → broke ≡ false
    → Progress may a b s o o' → WritesPart may a broke o o'
stopped may None b s broke o o' works (names, given, written) = (names, [], tt, s, o', written, (works, refl))
stopped may (Some x) None s broke o o' works (names, given, written) = absurd given
stopped may (Some x) (Some []) s broke o o' works (names, given, written) = (names, [], given, s, o', written, (works, refl))
stopped may (Some x) (Some (n ∷ ns)) s true o o' works (names, given, written) = cc
stopped may (Some x) (Some (n ∷ ns)) s false o o' works (names, given, written) = (names, n ∷ ns, given, s, o', written, refl)

-- the line of one name more was begun where output failed, else nothing was written
pub broken : (may : Reports) (a b c : Option (List (List ℕ))) (s : ℕ) (broke : Bool) (o o' o'' : Option (List ℕ)) (name : List ℕ)
    → Progress may a b s o o' → AreGiven b c (name ∷ []) → BreaksLine may name broke o' o'' → WritesPart may a broke o o''
broken may None b c s broke o o' o'' name (names, given, written) one breaks = (names, name ∷ [], tt, s, o', written, breaks)
broken may (Some x) None c s broke o o' o'' name (names, given, written) one breaks = absurd given
broken may (Some x) (Some y) None s broke o o' o'' name (names, given, written) one breaks = absurd one
broken may (Some x) (Some y) (Some z) s broke o o' o'' name (names, given, written) one breaks =
    (names, name ∷ z, given ∙ ap (λ l. names ++ l) one, s, o', written, breaks)

-- what is reported of the bytes that a source gives is reported of the known bytes of its file
pub report_known : (types : Types) (known left : Option (List ℕ)) (m n : Bool) (s : ℕ) (text : List ℕ) → IfSome known (λ bytes. left ≡ Some bytes)
    → (m ≡ false → n ≡ false)
    → IsReport types left n s text → IsReport types known m s text
report_known types None left m n s text e fails (inl (sound, (bytes, given, is), e')) = inl (sound, (bytes, tt, is), e')
report_known types None left true n s text e fails (inr (inl h)) = inr (inl (refl, h.1, h.2))
report_known types None left false n s text e fails (inr (inl h)) = let no = fails refl in absurd (cc)
report_known types None left m n s text e fails (inr (inr h)) = inr (inr h)
report_known types (Some bytes) left m n s text e fails (inl (sound, (all, given, is), e')) =
    inl (sound, (all, subst (λ k. IfSome k (λ x. x ≡ all)) e given, is), e')
report_known types (Some bytes) left true n s text e fails (inr (inl h)) = inr (inl (refl, h.1, h.2))
report_known types (Some bytes) left false n s text e fails (inr (inl h)) = let no = fails refl in absurd (cc)
report_known types (Some bytes) left m n s text e fails (inr (inr h)) = inr (inr h)

-- the greater of two statuses
pub max_status : (s t u : ℕ) → u ≡ max s t → IsRunStatus s → IsRunStatus t → IsRunStatus u
max_status s t u e h i = (omega (arith, e, h.0, i.0), λ two. omega (arith, e, h.1, i.1, two))

-- no line is those of no names
pub nothing_written : (may : Reports) (known : Option (List (List ℕ))) (failed : Bool) (o : Option (List ℕ)) → failed ≡ false
    → WritesPart may known failed o o
nothing_written may known failed o works = stopped may known known 0 failed o o works (started may known o)
