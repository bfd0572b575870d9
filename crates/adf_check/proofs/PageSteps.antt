-- The steps along the bitmap pages and the bitmap extension blocks.
use Rattle.adf_check.specs.{Claims.InRange, Pages.AreListed, Store.StoreValue, Own.IsOwnWalk, Own.IsOwnFault}
use Rattle.std.proofs.Common.{◌≡◌, inl, ℕ, zero, suc, List, [], ◌∷◌, ◌++◌, ◌+◌, ◌-◌, ◌/◌, ◌%◌, ◌<◌, ◌≤◌, length, refl, sym, ap, subst, ◌∙◌, arith, Some, None}
use Rattle.std.proofs.{Common.nat_lt, Common.slice_index, lemmas.Grind.common_steps}
use Rattle.std.proofs.lemmas.Bool.{cond-true, cond-false, le-ltb, lt-ltb}
use Rattle.adf_base.specs.Words.{block}
use Rattle.adf_blocks.specs.{declared.cause.Cause.Cause, Forms.first_cause, PageBlock.page_form, Sizes.blocks, Sizes.pages_needed}
use Rattle.adf_blocks.specs.declared.layout.TheConstants.{MAP_EXT_PAGES, ROOT_PAGES}
use Rattle.adf_volume.specs.{Demands.AllHold, Demands.page_demands, Image.word_in, Positions.word_of_map_ext, Positions.word_of_page, Fault.fault}
use Rattle.adf_volume.specs.Walk.{Has, NamesPage, Walk, Role.MapExt, Role.Page}
use Rattle.adf_volume.proofs.FormDemands.{all_demanded, first_demanded}
use Rattle.adf_volume.proofs.{Lists.at_snoc, Lists.snoc_length, MemberFacts.kept, MemberFacts.names_up, PositionSteps.end_pages}
use Rattle.adf_volume.proofs.Pointers.{behind_map_ext, behind_page, map_ext_asks, map_ext_next, names_first, names_page, next_holder, page_next}
use Rattle.adf_check.specs.Reading.{HasRead, IsAtNode, IsAtPage, IsBeforePage, block_of_page, block_of_map_ext}
use Rattle.adf_volume.specs.KeptOwner.{kept_at, no_owner}
use Rattle.adf_check.proofs.ClaimSteps.{IsNextAt, IsStored, form_fault, read_one, read_to}

-- where no bitmap extension block comes before page k
pub same_holder : (image : List ℕ) (store : StoreValue) (k a : ℕ) → IsBeforePage image store k a
    → (ROOT_PAGES ≤ k → (k - ROOT_PAGES) % MAP_EXT_PAGES ≡ 0 → ⊥) → IsAtPage image store k a
same_holder image store k a st other = grind (arith, common_steps, read_to, page_next, names_page)

-- behind the last page
pub pages_end : (image : List ℕ) (store : StoreValue) (a : ℕ) → IsBeforePage image store (pages_needed (blocks image)) a → IsAtNode image store 0
pages_end image store a st = grind (arith, common_steps, read_to, end_pages)

-- pages by the words alone
map_ext_is : (image : List ℕ) (w : Walk) (j a : ℕ) → IsOwnWalk image w → Has w (MapExt j) a → block_of_map_ext image j ≡ a
map_ext_is image w zero a v h = (kept image v (MapExt 0) a h).1
map_ext_is image w (suc j) a v h =
    let k = (kept image v (MapExt (suc j)) a h).1 in ap (λ a. word_in image a 127) (map_ext_is image w j k.0 v k.1) ∙ k.2

names_is : (image : List ℕ) (w : Walk) (k b a i : ℕ) → IsOwnWalk image w → NamesPage image w k a i → word_in image a i ≡ b
    → block_of_page image k ≡ b
names_is image w k b a i h l m = grind (arith, common_steps, cond-true, lt-ltb, cond-false, nat_lt, le-ltb, map_ext_is)

pub page_is : (image : List ℕ) (w : Walk) (k b : ℕ) → IsOwnWalk image w → Has w (Page k) b → block_of_page image k ≡ b
page_is image w k b v h = let x = (kept image v (Page k) b h).1 in names_is image w k b x.0 x.1 v x.2 x.3

-- page i comes next, and a word of block a names it as block b
module _ {image : List ℕ} {store : StoreValue} {i a b : ℕ} (needed : i < pages_needed (blocks image))
    (st : IsAtPage image store i a) (named : b ≡ word_in image a (word_of_page i)) where
  pub page_named : IsNextAt image store st.walk (Page i) a b
  page_named = grind (arith, common_steps)

  pub page_by_number : b ≡ block_of_page image i
  page_by_number = sym (names_is image st.walk i b a (word_of_page i) st.read.is_walk st.named (sym named))

  module _ (range : InRange (length store.owners) b) (free : kept_at store.owners b ≡ no_owner) {bytes : List ℕ} (is_block : bytes ≡ block image b) where
    pub page_fault : (c : Cause) → first_cause (page_form bytes) ≡ Some c → IsOwnFault image (fault b c)
    page_fault c f =
        form_fault page_named tt range free c (first_demanded b (page_form (block image b)) c
        (ap (λ x. first_cause (page_form x)) (sym is_block) ∙ f))

    pub page_done : first_cause (page_form bytes) ≡ None → {new : StoreValue} → IsStored image store new (Page i) b → IsBeforePage image new (i + 1) a
    page_done f {new = new} stored =
        let form : AllHold (page_demands image b) =
        all_demanded b (page_form (block image b)) (ap (λ x. first_cause (page_form x)) (sym is_block) ∙ f) in
        record {
          walk = (Page i, b) ∷ st.walk;
          read = subst (HasRead image new ((Page i, b) ∷ st.walk) 0) (behind_page i) (read_one page_named tt range free form tt stored);
          holder = next_holder image ((Page i, b) ∷ st.walk) i a (word_of_page i) (names_up image st.walk (Page i, b) i a (word_of_page i) st.named);
        }

-- the bitmap extension block whose first page is page i comes next, and a word of block a names it as block b
module _ {image : List ℕ} {store : StoreValue} {i a b : ℕ} (needed : i < pages_needed (blocks image)) (past : 25 ≤ i)
    (begins : (i - 25) % 127 ≡ 0) (st : IsBeforePage image store i a) (named : b ≡ word_in image a (word_of_map_ext i)) where
  abbrev pub number : ℕ
  number = (i - 25) / 127

  pub map_ext_named : IsNextAt image store st.walk (MapExt number) a b
  map_ext_named = grind (arith, common_steps, read_to, map_ext_next, map_ext_asks)

  pub map_ext_done : InRange (length store.owners) b → kept_at store.owners b ≡ no_owner → {new : StoreValue} → IsStored image store new (MapExt number) b
      → IsAtPage image new i b
  map_ext_done range free {new = new} stored = record {
    walk = (MapExt number, b) ∷ st.walk;
    read = subst (HasRead image new ((MapExt number, b) ∷ st.walk) 0) (behind_map_ext i past begins)
        (read_one map_ext_named tt range free tt tt stored);
    named = names_first image ((MapExt number, b) ∷ st.walk) i b past begins (inl (refl, refl));
  }

all_below : (xs : List ℕ) (b n j : ℕ) → ((i : ℕ) → i < length xs → slice_index xs i < n) → b < n → j < length (xs ++ b ∷ [])
    → slice_index (xs ++ b ∷ []) j < n
all_below xs b n j h lt below = grind (arith, common_steps, h)

-- one page more is listed
pub list_done : (image pages : List ℕ) (b i : ℕ) → AreListed image pages i → b ≡ block_of_page image i → b < blocks image
    → AreListed image (pages ++ b ∷ []) (i + 1)
list_done image pages b i h e lt = grind (arith, common_steps, snoc_length, at_snoc, all_below)
