-- The entries and the numbers kept for blocks are those of the parts that have them.
use Rattle.std.specs.Prelude.{cond, ◌==◌, Some, None, map, slice_get}
use Rattle.std.specs.Option.{option_and_then, unwrap_or}
use Rattle.std.proofs.Common.{◌≡◌, ℕ, zero, suc, List, [], ◌∷◌, Option, ◌≤◌, inl, inr, refl, sym, ap, ◌∙◌, arith}
use Rattle.std.proofs.{lemmas.Bool.cases_Bool, lemmas.Bool.Decides.eqb_tells, lemmas.Grind.common_steps}
use Rattle.adf_volume.specs.{declared.owner.Owner.Owner, Parts.entry_of}
use Rattle.adf_volume.specs.Owners.{owner_at}
use Rattle.adf_volume.specs.Walk.{Role, Asks, Has, Walk, Role.Head, Role.Ext, Role.Data}
use Rattle.adf_volume.proofs.Gathered.{IsGathered, asked_file, number_of, IsGathered.start, IsGathered.step}
use Rattle.adf_volume.proofs.Roles.{asks_number}
use Rattle.adf_findings.specs.{declared.finding.Finding.Finding, Concerned.taker_of, Concerned.is_taken, Members.data_number, Members.role_entry}
use Rattle.adf_findings.specs.{Members.number_at, Members.owning_entry, Parts.finding_value, SurveyResult.entry_at, SurveyResult.owner_for}

-- the number of an entry, which is not 0
from_number : (o : Option ℕ) → ((n : ℕ) → o ≡ Some n → 1 ≤ n) → cond (unwrap_or o 0 == 0) None (Some (unwrap_or o 0)) ≡ o
from_number o h = grind (arith, common_steps, eqb_tells)

module _ (image : List ℕ) where
  -- a part that is asked for is that of an entry with a number from 1
  asked_number : {w : Walk} → IsGathered image w → (r : Role) (a i n : ℕ) → Asks image w r a i → role_entry r ≡ Some n → 1 ≤ n
  asked_number {w = w} v (Head m p s j) a i n d e = grind (arith, common_steps, asks_number)
  asked_number v (Ext m k) a i n d e =
      let l = number_of image v (asked_file image v m k a i d).1.header in
      let same : m ≡ n = cc in omega arith
  asked_number v (Data m zero) a i n d e = absurd d
  asked_number v (Data m (suc k)) a i n d e =
      let l = number_of image v d.0.1.header in
      let same : m ≡ n = cc in omega arith
  asked_number v _ a i n d e = cc

  -- an entry that holds a block has a number from 1
  owner_number : {w : Walk} → IsGathered image w → (b n : ℕ) → owning_entry w b ≡ Some n → 1 ≤ n
  owner_number (start) b n e = grind (arith, common_steps, start, cases_Bool)
  owner_number (step {w = w} {r = r} a i c v d l) b n e = elim (cases_Bool (c == b)) [
    | inl y ↦ asked_number v r a i n d (ap (λ t. cond t (role_entry r) (owning_entry w b)) (sym y) ∙ e)
    | inr y ↦ owner_number v b n (ap (λ t. cond t (role_entry r) (owning_entry w b)) (sym y) ∙ e)
  ]

  -- the entry kept for a block is the one that holds it
  pub owner_is : {w : Walk} → IsGathered image w → (owners : List Owner) → ((b : ℕ) → entry_of (owner_at owners b) ≡ unwrap_or (owning_entry w b) 0)
      → (b : ℕ) → entry_at owners b ≡ owning_entry w b
  owner_is {w = w} v owners h b = ap (λ n. cond (n == 0) None (Some n)) (h b) ∙ from_number (owning_entry w b) (owner_number v b)

-- of each finding that its block is taken the entry is the one that holds the block
pub owner_nth_is : (w : Walk) (owners : List Owner) → ((b : ℕ) → entry_at owners b ≡ owning_entry w b) → (xs : List Finding) (k : ℕ)
    → option_and_then (owner_for owners) (slice_get xs k) ≡ option_and_then (taker_of w) (slice_get (map finding_value xs) k)
owner_nth_is w owners h [] k = refl
owner_nth_is w owners h (x ∷ xs) zero = ap (λ o. cond (is_taken x.cause) o None) (h x.block)
owner_nth_is w owners h (x ∷ xs) (suc k) = owner_nth_is w owners h xs k

-- a block that one role has tells its entry and its number
pub first_with : (w : Walk) (r : Role) (b : ℕ) → Has w r b → ((q : Role) → Has w q b → q ≡ r)
    → (owning_entry w b ≡ role_entry r) × (number_at w b ≡ data_number r)
first_with [] r b h one = absurd h
first_with (x ∷ w) r b h one = elim (eqb_tells x.1 b) [
  | inl y ↦
      let e : x.0 ≡ r = one x.0 (inl (refl, y.1)) in (
        ap (λ t. cond t (role_entry x.0) (owning_entry w b)) y.0 ∙ ap role_entry e,
        ap (λ t. cond t (data_number x.0) (number_at w b)) y.0 ∙ ap data_number e,
      )
  | inr y ↦
      let g : Has w r b = elim h [ inl e ↦ absurd (y.1 e.1) | inr g ↦ g ] in
      let z = first_with w r b g (λ q k. one q (inr k)) in (
        ap (λ t. cond t (role_entry x.0) (owning_entry w b)) y.0 ∙ z.0,
        ap (λ t. cond t (data_number x.0) (number_at w b)) y.0 ∙ z.1,
      )
]

-- a role with the number of a data block is one
of_number : (r : Role) (k : ℕ) → data_number r ≡ suc k → (n : ℕ) × (r ≡ Data n (suc k))
of_number (Data n j) k e = (n, ap (Data n) e)
of_number _ k e = absurd (omega (arith, e))

-- so is what has a block with such a number
pub held_data : (w : Walk) (b k : ℕ) → number_at w b ≡ suc k → (n : ℕ) × Has w (Data n (suc k)) b × (owning_entry w b ≡ Some n)
held_data [] b k e = absurd (omega (arith, e))
held_data (x ∷ w) b k e = elim (eqb_tells x.1 b) [
  | inl y ↦
      let r = of_number x.0 k (ap (λ t. cond t (data_number x.0) (number_at w b)) (sym y.0) ∙ e) in
      (r.0, inl (r.1, y.1), ap (λ t. cond t (role_entry x.0) (owning_entry w b)) y.0 ∙ ap role_entry r.1)
  | inr y ↦
      let z = held_data w b k (ap (λ t. cond t (data_number x.0) (number_at w b)) (sym y.0) ∙ e) in
      (z.0, inr z.1, ap (λ t. cond t (role_entry x.0) (owning_entry w b)) y.0 ∙ z.2)
]
