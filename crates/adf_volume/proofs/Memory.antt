-- No first fault is NoMemory.
use Rattle.std.proofs.Common.{◌≡◌, ◌≢◌, ℕ, zero, suc, Bool, true, false, not, ◌&&◌, List, [], ◌∷◌, ◌++◌, inl, inr, refl, subst, arith, rules}
use Rattle.std.proofs.{lemmas.Bool.and_parts, lemmas.Grind.common_steps}
use Rattle.adf_base.specs.declared.hash.Letters.{Letters}
use Rattle.adf_names.specs.declared.kind.Kind.{Kind, TheVariants.Ofs, TheVariants.Ffs}
use Rattle.adf_blocks.specs.declared.cause.Cause.{Cause, TheVariants.NoMemory}
use Rattle.adf_volume.specs.Demands.{Demand, FirstFails, boot_demands_by, data_demands, root_demands}
use Rattle.adf_volume.specs.{Image.root_of, Walk.FirstFaultBy.at_boot, Walk.FirstFaultBy.at_due, Walk.FirstFaultBy.at_bitmap}
use Rattle.adf_volume.specs.Walk.{FirstFaultBy, Role, bitmap_demands, demands_by, form_demands_by, Walk}

-- no demand has the cause
abbrev pub NoneHas : Cause → List Demand → Type 0
NoneHas c [] = Unit {0}
NoneHas c (x ∷ xs) = (x.cause ≢ c) × NoneHas c xs

none_fails : (xs : List Demand) (b : ℕ) (c : Cause) → NoneHas c xs → FirstFails xs b c → ⊥
none_fails [] b c n h = absurd h
none_fails (x ∷ xs) b c n (inl h) = n.0 h.2
none_fails (x ∷ xs) b c n (inr h) = none_fails xs b c n.1 h.1

none_append : (c : Cause) (xs ys : List Demand) → NoneHas c xs → NoneHas c ys → NoneHas c (xs ++ ys)
none_append c [] ys h k = k
none_append c (x ∷ xs) ys h k = (h.0, none_append c xs ys h.1 k)

-- whether a cause is want of memory
abbrev is_memory : Cause → Bool
is_memory NoMemory = true
is_memory _ = false

-- whether no demand has it as its cause
abbrev is_clear : List Demand → Bool
is_clear [] = true
is_clear (x ∷ xs) = not (is_memory x.cause) && is_clear xs

other_cause : (c : Cause) → not (is_memory c) ≡ true → c ≢ NoMemory
other_cause c e is = let none : false ≡ true = subst (λ (d : Cause). not (is_memory d) ≡ true) is e in cc

none_of : (xs : List Demand) → is_clear xs ≡ true → NoneHas NoMemory xs
none_of [] h = tt
none_of (x ∷ xs) h = search (rules, and_parts, other_cause, none_of xs (and_parts (not (is_memory x.cause)) (is_clear xs) h).1)

of_data : (image : List ℕ) (kind : Kind) (b h k n next : ℕ) → NoneHas NoMemory (data_demands image kind b h k n next)
of_data image Ofs b h k n next = none_of (data_demands image Ofs b h k n next) refl
of_data image Ffs b h k n next = tt

of_form : (letters : Letters) (image : List ℕ) (w : Walk) (r : Role) (b : ℕ) → NoneHas NoMemory (form_demands_by letters image w r b)
of_form letters image w r b = grind (arith, common_steps, of_data, none_of)

of_role : (letters : Letters) (image : List ℕ) (w : Walk) (r : Role) (a b : ℕ) → NoneHas NoMemory (demands_by letters image w r a b)
of_role letters image w r a b = grind (arith, common_steps, none_append, of_form letters)

of_bitmap : (image : List ℕ) (w : Walk) (b n : ℕ) → NoneHas NoMemory (bitmap_demands image w b n)
of_bitmap image w b zero = tt
of_bitmap image w b (suc n) = ((λ e. cc), ((λ e. cc), of_bitmap image w (suc b) n))

of_start : (letters : Letters) (image : List ℕ) → NoneHas NoMemory (boot_demands_by letters image ++ root_demands image (root_of image))
of_start letters image = none_of (boot_demands_by letters image ++ root_demands image (root_of image)) refl

no_memory : {letters : Letters} (image : List ℕ) (b : ℕ) → FirstFaultBy letters image b NoMemory → ⊥
no_memory {letters = letters} image b (at_boot h) =
    none_fails (boot_demands_by letters image ++ root_demands image (root_of image)) b NoMemory (of_start letters image) h
no_memory {letters = letters} image b (at_due _ w r a i v d h) = search (rules, none_fails, of_role letters)
no_memory {letters = letters} image b (at_bitmap _ w v whole h) = none_fails (bitmap_demands image w 2 _) b NoMemory (of_bitmap image w 2 _) h

pub fault_of_image : {letters : Letters} (image : List ℕ) (b : ℕ) (c : Cause) → FirstFaultBy letters image b c → c ≢ NoMemory
fault_of_image {letters = letters} image b c h e = no_memory image b (subst (FirstFaultBy letters image b) e h)
