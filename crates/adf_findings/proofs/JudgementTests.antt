-- The judgement of a part by tests.
use Rattle.std.specs.Prelude.{Bool, true, false, ◌&&◌, ◌||◌, cond, nat_le, slice_index, Option, Some, None}
use Rattle.std.proofs.Common.{◌≡◌, ℕ, List, [], ◌∷◌, ◌++◌, inl, inr, ◌<◌, ◌≤◌, refl, sym, subst, ap, arith, rules}
use Rattle.std.proofs.{Math.Bool.or-true, lemmas.Bool.and_parts, lemmas.Bool.Decides.nat_tests, lemmas.Grind.common_steps}
use Rattle.adf_blocks.specs.{declared.cause.Cause.Cause, HeadBlock.is_name_at, Sizes.blocks, Sizes.in_range, declared.layout.TheConstants.NAME}
use Rattle.adf_blocks.specs.declared.cause.Cause.TheVariants.{BadName, OutOfRange, SameName, ShortFile, Taken}
use Rattle.adf_blocks.specs.Forms.{Clause, first_cause, text_at}
use Rattle.adf_base.specs.Words.{block}
use Rattle.adf_names.specs.{declared.kind.Kind.Kind, declared.kind.Kind.TheVariants.Ofs, declared.kind.Kind.TheVariants.Ffs, Texts.is_name}
use Rattle.adf_volume.specs.Demands.{Demand, demand, demands_at, data_demands, AllHold, FirstFails}
use Rattle.adf_volume.proofs.FormDemands.{all_demanded, demanded}
use Rattle.adf_volume.specs.{Image.name_of, Walk.Role, Walk.Enough, Walk.IsAbsent, Walk.Walk, Walk.Role.Page, Walk.Role.Head, Walk.Role.Data, Parts.role_of}
use Rattle.adf_findings.specs.Demands.{NewNameIn, demands_in, form_demands_in}
use Rattle.adf_volume.specs.declared.part.Part.{Part, TheVariants.Head as HeadPart}
use Rattle.adf_findings.specs.{declared.forms.Context.Context, declared.judge.Facts.Facts, Found.HasValidName}
use Rattle.adf_findings.specs.Survey.{IsItself, Judged, JudgementValue, is_kept, JudgementValue.clean, JudgementValue.reported}
use Rattle.adf_findings.specs.Forms.{IsContext, Knows, Tells, data_clauses, first_failing, first_of_five, form_of, itself_by, judged_by, keeps, of_form}

-- what fails first of the demands, or nothing
abbrev pub FirstIs : List Demand → Option (ℕ × Cause) → Type 0
FirstIs xs None = AllHold xs
FirstIs xs (Some x) = FirstFails xs x.0 x.1

tells_range : (image : List ℕ) (b : ℕ) → Tells (in_range image b) ((2 ≤ b) × (b < blocks image))
tells_range image b = grind (arith, common_steps, nat_tests)

-- the form and what stands behind it
first_more : (b : ℕ) (form : List Clause) (ys : List Demand) (rest : Option (ℕ × Cause)) → FirstIs ys rest
    → FirstIs (demands_at b form ++ ys) (of_form b (first_cause form) rest)
first_more b [] ys rest h = h
first_more b ((true, c) ∷ cs) ys rest h = grind (arith, common_steps, first_more b cs ys rest h)
first_more b ((false, c) ∷ cs) ys rest h = inl ((λ (e : false ≡ true). cc), refl, refl)

pass_on : (x : Demand) (xs : List Demand) (o : Option (ℕ × Cause)) → x.holds → FirstIs xs o → FirstIs (x ∷ xs) o
pass_on x xs None h k = (h, k)
pass_on x xs (Some y) h k = inr (h, k)

first_new : (b : ℕ) (n : Bool) (N : Type 0) → Tells n N → FirstIs (demand SameName b N ∷ []) (cond n None (Some (b, SameName)))
first_new b true N h = (h, tt)
first_new b false N h = inl (h, refl, refl)

first_is : (a b : ℕ) (e r t n : Bool) (form : List Clause) (E R T N : Type 0) → Tells e E → Tells r R → (r ≡ true → Tells t T) → Tells n N
    → FirstIs (demand ShortFile a E ∷ demand OutOfRange a R ∷ demand Taken b T ∷ demands_at b form ++ demand SameName b N ∷ [])
    (first_of_five a b e r t (first_cause form) n)
first_is a b false r t n form E R T N he hr ht hn = inl (he, refl, refl)
first_is a b true false t n form E R T N he hr ht hn = inr (he, inl (hr, refl, refl))
first_is a b true true false n form E R T N he hr ht hn = inr (he, inr (hr, inl (ht refl, refl, refl)))
first_is a b true true true n form E R T N he hr ht hn =
    let o : Option (ℕ × Cause) = of_form b (first_cause form) (cond n None (Some (b, SameName))) in
    let xs : List Demand = demands_at b form ++ demand SameName b N ∷ [] in
    pass_on (demand ShortFile a E) (demand OutOfRange a R ∷ demand Taken b T ∷ xs) o he
    (pass_on (demand OutOfRange a R) (demand Taken b T ∷ xs) o hr
    (pass_on (demand Taken b T) xs o (ht refl) (first_more b form (demand SameName b N ∷ []) (cond n None (Some (b, SameName)))
    (first_new b n N hn))))

itself_clause : (k c : Bool) → Tells (k || c) (k ≡ false → c ≡ true)
itself_clause k c = grind (arith, common_steps)

both : (s t : Bool) (P Q : Type 0) → Tells s P → Tells t Q → Tells (s && t) (P × Q)
both s t P Q h k = grind (arith, common_steps)

-- the form and what stands behind it, of slight causes
itself_more : (r : Role) (b : ℕ) (form : List Clause) (ys : List Demand) → IsItself r ys
    → Tells (itself_by r form) (IsItself r (demands_at b form ++ ys))
itself_more r b [] ys h = h
itself_more r b (c ∷ cs) ys h = grind (arith, common_steps, both, itself_clause, itself_more r b cs ys h)

-- but for pages, of which it is not asked, short files and equal names are slight
short_slight : (image : List ℕ) (w : Walk) (r : Role) → is_kept r ShortFile ≡ false → Enough image w r
short_slight image w (Data n k) e = cc
short_slight image w _ e = tt

same_slight : (image : List ℕ) (w : Walk) (r : Role) (b : ℕ) → is_kept r SameName ≡ false → NewNameIn image w r b
same_slight image w (Head n p s j) b e = cc
same_slight image w _ b e = tt

-- neither range nor an owner is slight
pub keeps_range : (r : Role) → is_kept r OutOfRange ≡ false
keeps_range (Page i) = refl
keeps_range _ = refl

pub keeps_taken : (r : Role) → is_kept r Taken ≡ false
keeps_taken (Page i) = refl
keeps_taken _ = refl

-- the block of a part that is itself is in the image, and no one else's
pub record ItselfHolds (image : List ℕ) (w : Walk) (b : ℕ) : Type 0 where
  pub past_boot : 2 ≤ b
  pub inside : b < blocks image
  pub unowned : IsAbsent w b

pub itself_holds : (image : List ℕ) (w : Walk) (r : Role) (a b : ℕ) → IsItself r (demands_in image w r a b) → ItselfHolds image w b
itself_holds image w r a b h = grind (arith, common_steps, keeps_range, keeps_taken)

itself_is : (role : Role) (a b : ℕ) (r t : Bool) (form : List Clause) (E R T N : Type 0) → (is_kept role ShortFile ≡ false → E) → Tells r R
    → (r ≡ true → Tells t T) → (is_kept role SameName ≡ false → N)
    → Tells (r && (t && itself_by role form))
    (IsItself role (demand ShortFile a E ∷ demand OutOfRange a R ∷ demand Taken b T ∷ demands_at b form ++ demand SameName b N ∷ []))
itself_is role a b false t form E R T N he hr ht hn = λ h. hr (h.1.0 (keeps_range role))
itself_is role a b true false form E R T N he hr ht hn = λ h. ht refl (h.1.1.0 (keeps_taken role))
itself_is role a b true true form E R T N he hr ht hn = go (itself_by role form) (itself_more role b form (demand SameName b N ∷ []) (hn, tt))
  where
    xs : List Demand
    xs = demands_at b form ++ demand SameName b N ∷ []

    go : (k : Bool) → Tells k (IsItself role (demands_at b form ++ demand SameName b N ∷ []))
        → Tells k (IsItself role (demand ShortFile a E ∷ demand OutOfRange a R ∷ demand Taken b T ∷ demands_at b form ++ demand SameName b N ∷ []))
    go true h = (he, ((λ e. hr), ((λ e. ht refl), h)))
    go false h = λ k. h k.1.1.1

judged_is : (r : Role) (xs : List Demand) (o : Option (ℕ × Cause)) (k : Bool) → FirstIs xs o → Tells k (IsItself r xs) → Judged r xs (judged_by o k)
judged_is r xs o k h l = grind (arith, common_steps)

data_is : (image : List ℕ) (kind : Kind) (b h k n next y : ℕ) → (kind ≡ Ofs → next ≡ y)
    → data_demands image kind b h k n y ≡ demands_at b (data_clauses kind h k n next (block image b))
data_is image Ofs b h k n next y e = ap (data_demands image Ofs b h k n) (sym (e refl))
data_is image Ffs b h k n next y e = refl

form_is : (image : List ℕ) (w : Walk) (part : Part) (b : ℕ) (x : Context) → IsContext image w (role_of part) x
    → form_demands_in image w (role_of part) b ≡ demands_at b (form_of image part b x)
form_is image w part b x h = grind (arith, common_steps, data_is)

-- a part is judged as the tests tell
pub judged : (image : List ℕ) (w : Walk) (part : Part) (a b : ℕ) (f : Facts) (new : Bool) → Knows image w part b f
    → Tells new (NewNameIn image w (role_of part) b)
    → Judged (role_of part) (demands_in image w (role_of part) a b) (judged_by (first_failing image part a b f new) (keeps image part b f))
judged image w part a b f new k named =
    let r : Role = role_of part in
    let form : List Clause = form_of image part b f.context in
    let before : List Demand → List Demand =
    λ ds. demand ShortFile a (Enough image w r) ∷ demand OutOfRange a ((2 ≤ b) × (b < blocks image)) ∷ demand Taken b (IsAbsent w b)
    ∷ ds ++ demand SameName b (NewNameIn image w r b) ∷ [] in
    let P : List Demand → Type 0 = λ ds. Judged r (before ds) (judged_by (first_failing image part a b f new) (keeps image part b f)) in
    subst P (sym (form_is image w part b f.context k.context))
    (judged_is r (before (demands_at b form)) (first_failing image part a b f new) (keeps image part b f)
    (first_is a b f.is_enough (in_range image b) f.is_absent new form (Enough image w r) ((2 ≤ b) × (b < blocks image)) (IsAbsent w b)
    (NewNameIn image w r b) k.enough (tells_range image b) k.absent named)
    (itself_is r a b (in_range image b) f.is_absent form (Enough image w r) ((2 ≤ b) × (b < blocks image)) (IsAbsent w b) (NewNameIn image w r b)
    (short_slight image w r) (tells_range image b) k.absent (same_slight image w r b)))

some_cause : (x : ℕ × Cause) (kept : Bool) → judged_by (Some x) kept ≡ clean → ⊥
some_cause x true h = cc
some_cause x false h = cc

-- a form without a cause identifies its part
pub itself_whole : (r : Role) (form : List Clause) → first_cause form ≡ None → itself_by r form ≡ true
itself_whole r [] h = refl
itself_whole r ((true, c) ∷ cs) h = rw (or-true (is_kept r c)) (itself_whole r cs h)
itself_whole r ((false, c) ∷ cs) h = cc

-- the tests of a part, by whether its file has extension blocks, its block is in range and has no owner, and the part is itself
module _ (a b : ℕ) where
  -- another cause than that of the name
  pub other_cause : (e r t new kept : Bool) (form : Option Cause) (o : JudgementValue)
      → judged_by (first_of_five a b e r t form true) kept ≡ o → (o ≡ clean → ⊥) → judged_by (first_of_five a b e r t form new) kept ≡ o
  other_cause e r t new kept form o h k = grind (arith, common_steps)

  -- no other cause
  pub no_cause : (e r t kept : Bool) (form : Option Cause) → judged_by (first_of_five a b e r t form true) kept ≡ clean → form ≡ None
  no_cause e r t kept form h = grind (arith, common_steps, some_cause)

  -- then that of the name counts
  pub name_cause : (e r t itself new : Bool) (form : Option Cause) → (form ≡ None → itself ≡ true)
      → judged_by (first_of_five a b e r t form true) (r && (t && itself)) ≡ clean
      → judged_by (first_of_five a b e r t form new) (r && (t && itself)) ≡ cond new clean (reported b SameName)
  name_cause e r t itself new form h k = grind (arith, common_steps, some_cause)

-- a header without a cause in its form has a valid name
pub valid_name : (image : List ℕ) (part : Part) (b : ℕ) (x : Context) → first_cause (form_of image part b x) ≡ None → HasValidName image part b
unfolding name_of
valid_name image (HeadPart n p s j) b x h =
    let bytes = block image b in
    let form = form_of image (HeadPart n p s j) b x in
    let both = demanded b form (is_name_at bytes NAME) BadName (all_demanded b form h) (search rules) in
    (and_parts (nat_le (slice_index bytes NAME) 30) (is_name (text_at bytes NAME)) both).1
valid_name image _ b x h = tt
