-- The steps along the bitmap, and the facts known at its end.
use Rattle.std.proofs.Common.{◌≡◌, ◌≢◌, inl, inr, ℕ, zero, suc, List, ◌++◌, ◌+◌, ◌-◌, ◌*◌, ◌/◌, ◌%◌, ◌<◌, ◌≤◌, refl, sym, ap, subst, ◌∙◌, arith, Bool, true}
use Rattle.std.proofs.Common.{false, not, IfErr, Result, Ok, Err, slice_index, IsTrue, ◌↔◌, ◌==◌, ◌^◌, IsBitSet}
use Rattle.std.specs.Int.Bits.{bit_and}
use Rattle.std.proofs.{lemmas.Bool.Decides.nat_tests, lemmas.Grind.common_steps}
use Rattle.adf_blocks.specs.declared.cause.Cause.{Cause, TheVariants.LostBlock, TheVariants.OwnedFree}
use Rattle.adf_blocks.specs.Sizes.{blocks, pages_needed}
use Rattle.adf_volume.specs.Image.{word_in, IsFreeAt, letters_of}
use Rattle.adf_volume.specs.{Demands.AllHold, Demands.FirstFails, Walk.FirstFaultBy.at_bitmap, declared.fault.Fault.Fault, Start.IsOwnBegun}
use Rattle.adf_volume.specs.Walk.{Has, IsAbsent, IsFreeIn, bitmap_demands, Walk, FirstFaultBy, Role.Page, FirstFaultBy.at_bitmap, Role.Page}
use Rattle.adf_volume.proofs.{Gathered.one_block, Images.page_in, WalkFits.fits, Walks.asked_block, Walks.page_word, Walks.of_walk, WholeWalks.all_map_exts}
use Rattle.adf_volume.proofs.Lists.{all_append, all_split, fails_right}
use Rattle.adf_check.specs.{Pages.AreListed, Pages.IsBitFault, Store.StoreValue, Own.IsOwnFault}
use Rattle.adf_check.specs.Reading.{block_of_page, IsListed, IsMapped, StoreFits}
use Rattle.adf_volume.specs.KeptOwner.{kept_at, no_owner}
use Rattle.adf_check.proofs.{ClaimSteps.first_fault, NodeSteps.at_or, PageSteps.page_is, StoreSteps.free_absent, StoreSteps.taken_present}

clash : {t : Bool} → t ≡ true → t ≡ false → ⊥
clash a b = let e : true ≡ false = sym a ∙ b in cc

-- the demands of n blocks, and then those of the blocks behind them
bitmap_split : (image : List ℕ) (w : Walk) (b n m : ℕ)
    → bitmap_demands image w b (n + m) ≡ bitmap_demands image w b n ++ bitmap_demands image w (b + n) m
bitmap_split image w b zero m = grind (arith, common_steps)
bitmap_split image w b (suc n) m =
    let e : suc b + n ≡ b + suc n = omega arith in
    let z : suc n + m ≡ suc (n + m) = omega arith in
    rw (z, bitmap_split image w (suc b) n m, e) refl

-- what the reader sees of block b: its page, the bit there and the table
module _ (free : Bool) {image : List ℕ} {store : StoreValue} {b page : ℕ} {list : List ℕ} (hi : b < blocks image)
    (listed : IsListed image list (pages_needed (blocks image))) (page_is_at : page ≡ slice_index list ((b - 2) / 4064))
    (free_is : IsTrue free ↔ IsFreeAt image page ((b - 2) % 4064)) (st : IsMapped image store b) where
  has_page : Has st.walk (Page ((b - 2) / 4064)) page
  has_page =
      let lo : 2 ≤ b = st.low in
      let q : ℕ = (b - 2) / 4064 in
      let lt : q < pages_needed (blocks image) = page_in (blocks image) b lo hi in
      let m = page_word image st.walk q lt (λ j y. all_map_exts image st.walk st.read.whole j (omega arith)) in
      let x = asked_block image st.walk st.read.whole (Page q) m.0 m.1 m.2 (omega arith) in
      let k : block_of_page image q ≡ x.0 = page_is image st.walk q x.0 st.read.is_walk x.1 in
      let l : block_of_page image q ≡ slice_index list q = listed.pages q (slice_index list q) (at_or list q 0 (omega arith)) in
      subst (Has st.walk (Page q)) (sym k ∙ l ∙ sym page_is_at) x.1

  only_page : (c : ℕ) → Has st.walk (Page ((b - 2) / 4064)) c → c ≡ page
  only_page c h = grind (arith, common_steps, one_block, of_walk, has_page)

  free_then : free ≡ true → IsFreeIn image st.walk b
  free_then e = (page, has_page, free_is.0 e)

  then_free : IsFreeIn image st.walk b → free ≡ true
  then_free f = free_is.1 (subst (λ p. IsFreeAt image p ((b - 2) % 4064)) (only_page f.0 f.1) f.2)

  absent_then : kept_at store.owners b ≡ no_owner → IsAbsent st.walk b
  absent_then h = free_absent image store.owners st.walk st.read.tells.owns b h

  then_absent : IsAbsent st.walk b → kept_at store.owners b ≢ no_owner → ⊥
  then_absent a h = taken_present image store.owners st.walk st.read.tells.owns b st.low hi h a

  length_of : 2 + (b - 2) ≡ b
  length_of = let lo : 2 ≤ b = st.low in omega arith

  -- the demands of the blocks up to b, and then those of m blocks from b on
  split : (m : ℕ) → bitmap_demands image st.walk 2 (b - 2 + m) ≡ bitmap_demands image st.walk 2 (b - 2) ++ bitmap_demands image st.walk b m
  split m = bitmap_split image st.walk 2 (b - 2) m ∙ ap (λ c. bitmap_demands image st.walk 2 (b - 2) ++ bitmap_demands image st.walk c m) length_of

  fails : IsOwnBegun image → (c : Cause) → FirstFails (bitmap_demands image st.walk b (suc (blocks image - suc b))) b c
      → FirstFaultBy (letters_of image) image b c
  fails sound c f =
      let z : b - 2 + suc (blocks image - suc b) ≡ blocks image - 2 = omega arith in
      at_bitmap sound st.walk st.read.is_walk st.read.whole (subst (λ m. FirstFails (bitmap_demands image st.walk 2 m) b c) z
      (rw (split (suc (blocks image - suc b))) (fails_right (bitmap_demands image st.walk 2 (b - 2)) _ b c st.agrees f)))

  pub lost : IsOwnBegun image → free ≡ false → kept_at store.owners b ≡ no_owner → FirstFaultBy (letters_of image) image b LostBlock
  lost sound f h = fails sound LostBlock (inl ((λ k. clash (then_free (k (absent_then h))) f), refl, refl))

  pub owned_free : IsOwnBegun image → free ≡ true → kept_at store.owners b ≢ no_owner → FirstFaultBy (letters_of image) image b OwnedFree
  owned_free sound f h = fails sound OwnedFree (inr ((λ a. absurd (then_absent a h)), inl ((λ k. then_absent (k (free_then f)) h), refl, refl)))

  mapped : (IsAbsent st.walk b → IsFreeIn image st.walk b) → (IsFreeIn image st.walk b → IsAbsent st.walk b) → IsMapped image store (suc b)
  mapped f g =
      let e : b - 2 + 1 ≡ suc b - 2 = omega arith in
      record {
        walk = st.walk;
        read = st.read;
        low = omega arith;
        agrees = subst (λ n. AllHold (bitmap_demands image st.walk 2 n)) e
            (rw (split 1) (all_append (bitmap_demands image st.walk 2 (b - 2)) (bitmap_demands image st.walk b 1) st.agrees (f, (g, tt))));
      }

  agrees_by : (t : Bool) → free ≡ t → IsTrue free ↔ (kept_at store.owners b ≡ no_owner) → IsMapped image store (suc b)
  agrees_by t h k = grind (arith, mapped, free_then, absent_then, clash, then_absent, then_free)

  pub agrees : IsTrue free ↔ (kept_at store.owners b ≡ no_owner) → IsMapped image store (suc b)
  agrees h = agrees_by free refl h

pub fits_alone : (image : List ℕ) (store : StoreValue) (b : ℕ) → IsOwnBegun image → b ≡ blocks image → IsMapped image store b → StoreFits image store
fits_alone image store b begun e st = grind (arith, common_steps, all_split, fits)

-- where the bit of block b stands in word i
module _ (i b : ℕ) (lo : 2 + 32 * i ≤ b) (within : b < 2 + 32 * i + 32) where
  page_at : (b - 2) / 4064 ≡ i / 127
  page_at = omega arith

  word_at : 1 + (b - 2) % 4064 / 32 ≡ 1 + i % 127
  word_at = omega arith

  bit_at : (b - 2) % 4064 % 32 ≡ b - (2 + 32 * i)
  bit_at = omega arith

-- the bit of block b in word i, in a volume whose bitmap agrees below the block
module _ (i b : ℕ) {image : List ℕ} {store : StoreValue} {pages : List ℕ} (lo : 2 + 32 * i ≤ b) (within : b < 2 + 32 * i + 32)
    (hi : b < blocks image) (begun : IsOwnBegun image) (listed : AreListed image pages (pages_needed (blocks image)))
    (st : IsMapped image store b) {word : ℕ} {free : Bool}
    (word_is : word ≡ word_in image (slice_index pages (i / 127)) (1 + i % 127)) (told : IsTrue free ↔ IsBitSet word (b - (2 + 32 * i))) where
  here : IsTrue free ↔ IsFreeAt image (slice_index pages ((b - 2) / 4064)) ((b - 2) % 4064)
  here = rw (page_at i b lo within, word_at i b lo within, bit_at i b lo within, sym word_is) told

  bit_fault : (f : Fault) → IsBitFault store.owners b free f → IsOwnFault image f
  bit_fault f (inl y) = subst (IsOwnFault image) (sym y.2) (first_fault image b LostBlock (lost free hi listed.listed refl here st begun y.0 y.1))
  bit_fault f (inr y) =
      subst (IsOwnFault image) (sym y.2) (first_fault image b OwnedFree (owned_free free hi listed.listed refl here st begun y.0 y.1))

  -- what the bit tells is not what the owner does
  pub bit_refused : {T : Type 0} (x : Result T Fault) → IfErr x (IsBitFault store.owners b free) → IfErr x (IsOwnFault image)
  bit_refused (Ok y) h = tt
  bit_refused (Err f) h = bit_fault f h

  -- or it is
  pub bit_agrees : IsTrue free ↔ (kept_at store.owners b ≡ no_owner) → IsMapped image store (b + 1)
  bit_agrees h = let next : suc b ≡ b + 1 = omega arith in subst (IsMapped image store) next (agrees free hi listed.listed refl here st h)

-- whether a bit is set
bit_told : (word bit : ℕ) → (free : Bool) × (IsTrue free ↔ IsBitSet word bit)
bit_told word bit = (not (bit_and word (2 ^ bit) == 0), grind (arith, nat_tests))

-- where the bits of a word are set for the blocks without an owner alone, the bitmap agrees on these blocks
pub word_agrees : (i n : ℕ) {image : List ℕ} {store : StoreValue} {pages : List ℕ} {word : ℕ} → n ≤ 32 → 2 + 32 * i + n ≤ blocks image
    → IsOwnBegun image → AreListed image pages (pages_needed (blocks image)) → word ≡ word_in image (slice_index pages (i / 127)) (1 + i % 127)
    → ((b : ℕ) → 2 + 32 * i ≤ b → b < 2 + 32 * i + n → IsBitSet word (b - (2 + 32 * i)) ↔ (kept_at store.owners b ≡ no_owner))
    → IsMapped image store (2 + 32 * i) → IsMapped image store (2 + 32 * i + n)
word_agrees i zero {image = image} {store = store} few hi begun listed is agree st = grind (arith, common_steps)
word_agrees i (suc n) {image = image} {store = store} {word = word} few hi begun listed is agree st =
    let b : ℕ = 2 + 32 * i + n in
    let before : IsMapped image store b = word_agrees i n (omega arith) (omega arith) begun listed is (λ c lo lt. agree c lo (omega arith)) st in
    let told = bit_told word (b - (2 + 32 * i)) in
    let here : IsBitSet word (b - (2 + 32 * i)) ↔ (kept_at store.owners b ≡ no_owner) = agree b (omega arith) (omega arith) in
    let next : 2 + 32 * i + n + 1 ≡ 2 + 32 * i + suc n = omega arith in
    subst (IsMapped image store) next
    (bit_agrees i b (omega arith) (omega arith) (omega arith) begun listed before is told.1
    ((λ t. here.0 (told.1.0 t)), (λ h. told.1.1 (here.1 h))))
