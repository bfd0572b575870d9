-- One step of a check: the next role is claimed and kept, or refused as the first fault.
use Rattle.adf_check.specs.{Claims.InRange, Claims.IsClaimFault, Reading.HasRead, Own.IsOwnFault}
use Rattle.std.proofs.Common.{◌≡◌, ℕ, suc, List, [], ◌∷◌, ◌++◌, ◌+◌, ◌≤◌, length, set, count_by, inl, inr, refl, sym, ap, subst, ◌∙◌, arith, Result, Ok, Err}
use Rattle.std.specs.Prelude.{IfErr, IsOk, OnOk}
use Rattle.std.proofs.lemmas.Grind.{common_steps}
use Rattle.adf_blocks.specs.{declared.cause.Cause.Cause, declared.cause.Cause.TheVariants.SameName, declared.cause.Cause.TheVariants.ShortFile, Sizes.blocks}
use Rattle.adf_volume.specs.{Demands.Demand, Demands.demand, Demands.AllHold, Demands.FirstFails, Image.word_in, Image.letters_of, Walk.FirstFaultBy.at_due}
use Rattle.adf_volume.specs.{Positions.Position, Positions.IsUpTo, Positions.behind, Positions.position_of, declared.fault.Fault.Fault, Fault.fault}
use Rattle.adf_volume.specs.Walk.{Role, first, heads, Asks, IsDue, Enough, Walk, FirstFaultBy, demands_by, form_demands_by, NewNameBy, Role.Head, IsWalkBy.step}
use Rattle.adf_volume.proofs.Lists.{fails_left, fails_right, all_append, snoc_length}
use Rattle.adf_volume.proofs.{Memory.fault_of_image, Gathered.IsGathered, PositionSteps.not_taken, PositionSteps.past_taken, Roles.asks_number, Walks.of_walk}
use Rattle.adf_volume.specs.{declared.kept_header.KeptHeader.KeptHeader, KeptOwner.kept_at, KeptOwner.no_owner}
use Rattle.adf_check.specs.Store.{StoreValue, next_kept, push_header, push_block, ext_file, data_file, is_dir_at, stored, StoreMatches}
use Rattle.adf_check.proofs.StoreSteps.{free_absent, taken_present, tells_more}

-- what is said of an error, said otherwise
pub if_err : {T : Type 0} (r : Result T Fault) (P Q : Fault → Type 0) → IfErr r P → ((f : Fault) → P f → Q f) → IfErr r Q
if_err (Ok x) P Q h g = tt
if_err (Err f) P Q h g = g f h

-- what is said of an Ok
pub on_ok : {X Y P : Type 0} (r : Result X Y) → IsOk r → OnOk r P → P
on_ok (Ok x) h p = p
on_ok (Err y) h p = cc

-- the first fault of the image is a true one: it is not want of memory
pub first_fault : (image : List ℕ) (b : ℕ) (c : Cause) → FirstFaultBy (letters_of image) image b c → IsOwnFault image (fault b c)
first_fault image b c h = record { first = (λ _. h); memory = (λ e. absurd (fault_of_image image b c h e)) }

-- a reader at one position is at another, where its walk has as much up to there
pub read_to : {image : List ℕ} {store : StoreValue} {w : Walk} {n : ℕ} {old new : Position} → HasRead image store w n old
    → IsUpTo image w [] new → HasRead image store w n new
read_to read up_to = record { begun = read.begun; tells = read.tells; started = read.started; within = read.within; is_walk = read.is_walk; up_to = up_to }

-- its walk was gathered
pub gathered : {image : List ℕ} {store : StoreValue} {w : Walk} {n : ℕ} {at : Position} → HasRead image store w n at → IsGathered image w
gathered {image = image} read = of_walk image read.is_walk

-- the role comes next, and a word of block a names block b for it
pub record IsNextAt (image : List ℕ) (store : StoreValue) (w : Walk) (r : Role) (a b : ℕ) : Type 0 where
  pub read : HasRead image store w (first r) (position_of r)
  pub index : ℕ
  pub asked : Asks image w r a index
  pub names : word_in image a index ≡ b

-- the new store is the old one with block b in this role, field by field
pub record IsStored (image : List ℕ) (old new : StoreValue) (r : Role) (b : ℕ) : Type 0 where
  pub owners : new.owners ≡ set old.owners b (next_kept old r)
  pub headers : new.headers ≡ push_header r b old.headers
  pub dirs : new.dirs ≡ count_by (is_dir_at image) (push_header r b old.headers)
  pub starts : new.starts ≡ old.starts
  pub exts : new.exts ≡ push_block ext_file r b old.exts
  pub datas : new.datas ≡ push_block data_file r b old.datas
  pub used : new.used ≡ old.used + 1

stored_is : (image : List ℕ) (old new : StoreValue) (r : Role) (b : ℕ) → IsStored image old new r b → stored image old r b ≡ new
stored_is image old new r b s = grind (arith, common_steps)

longer_headers : (r : Role) (b : ℕ) (headers : List KeptHeader) → length headers ≤ length (push_header r b headers)
longer_headers (Head n p s j) b headers = omega (arith, snoc_length headers (record { parent = p; head = b }))
longer_headers _ b headers = omega arith

module _ {image : List ℕ} {store : StoreValue} {w : Walk} {r : Role} {a b : ℕ} (st : IsNextAt image store w r a b) where
  is_due : IsDue image w r a st.index
  is_due = grind (arith, not_taken)

  is_fault : (x : ℕ) (c : Cause) → FirstFails (demands_by (letters_of image) image w r a b) x c → IsOwnFault image (fault x c)
  is_fault x c h =
      first_fault image x c (at_due st.read.begun w r a st.index st.read.is_walk is_due
      (subst (λ b. FirstFails (demands_by (letters_of image) image w r a b) x c) (sym st.names) h))

  in_image : InRange (length store.owners) b → InRange (blocks image) b
  in_image h = subst (λ n. InRange n b) st.read.tells.owns.size h

  -- the file has too few extension blocks
  pub short_fault : (Enough image w r → ⊥) → IsOwnFault image (fault a ShortFile)
  short_fault h = is_fault a ShortFile (inl (h, refl, refl))

  module _ (enough : Enough image w r) where
    -- the block is not claimed
    claim_fault : (f : Fault) → IsClaimFault store.owners a b f → IsOwnFault image f
    claim_fault f h = grind (arith, is_fault, in_image, taken_present)

    pub claim_refused : {T : Type 0} (x : Result T Fault) → IfErr x (IsClaimFault store.owners a b) → IfErr x (IsOwnFault image)
    claim_refused (Ok y) h = tt
    claim_refused (Err f) h = claim_fault f h

    module _ (range : InRange (length store.owners) b) (free : kept_at store.owners b ≡ no_owner) where
      abbrev late_demands : List Demand
      late_demands = form_demands_by (letters_of image) image w r b ++ demand SameName b (NewNameBy (letters_of image) image w r b) ∷ []

      late_fault : (c : Cause) → FirstFails late_demands b c → IsOwnFault image (fault b c)
      late_fault c h = is_fault b c (inr (enough, inr (in_image range, inr (free_absent image store.owners w st.read.tells.owns b free, h))))

      -- it has not the form of the role
      pub form_fault : (c : Cause) → FirstFails (form_demands_by (letters_of image) image w r b) b c → IsOwnFault image (fault b c)
      form_fault c h = grind (arith, common_steps, late_fault, fails_left)

      module _ (form : AllHold (form_demands_by (letters_of image) image w r b)) where
        -- an earlier header of the chain has the name
        pub name_fault : (NewNameBy (letters_of image) image w r b → ⊥) → IsOwnFault image (fault b SameName)
        name_fault h = late_fault SameName (fails_right (form_demands_by (letters_of image) image w r b) _ b SameName form (inl (h, refl, refl)))

        -- it is claimed and kept: the reader has read one role more
        pub read_one : NewNameBy (letters_of image) image w r b → {new : StoreValue} → IsStored image store new r b
            → HasRead image new ((r, b) ∷ w) (first r) (behind r)
        read_one fresh {new = new} s =
            let within = in_image range in
            let started : length store.starts ≡ first r = st.read.started in
            let late : AllHold late_demands = all_append (form_demands_by (letters_of image) image w r b)
            (demand SameName b (NewNameBy (letters_of image) image w r b) ∷ []) form (fresh, tt) in
            let number : (n p s j : ℕ) → r ≡ Head n p s j → n ≡ suc (heads w) =
            λ n p s j z. asks_number image w n p s j a st.index (subst (λ r. Asks image w r a st.index) z st.asked) in
            record {
              begun = st.read.begun;
              tells = subst (λ t. StoreMatches image t ((r, b) ∷ w)) (stored_is image store new r b s)
                  (tells_more image store w r b number (omega arith) st.read.tells within.0 within.1 free);
              started = ap length s.starts ∙ started;
              within = omega (arith, st.read.within, longer_headers r b store.headers, ap length s.headers);
              is_walk = step st.read.is_walk is_due st.names (enough, (within, (free_absent image store.owners w st.read.tells.owns b free, late)));
              up_to = past_taken image r st.read.up_to (gathered st.read) a st.index b st.asked;
            }
