-- The steps along the extension blocks of a file.
use Rattle.adf_check.specs.{Claims.InRange, Datas.ext_link, declared.claims.Link.Link, declared.file.File.File, Store.StoreValue, Own.IsOwnFault}
use Rattle.std.proofs.Common.{◌≡◌, ◌≢◌, inl, inr, ℕ, zero, suc, List, [], ◌∷◌, ◌++◌, length, refl, sym, ap, arith, subst, ◌∙◌, Some, None}
use Rattle.std.proofs.lemmas.Grind.{common_steps}
use Rattle.adf_blocks.specs.declared.layout.TheConstants.{EXTENSION, SIZE}
use Rattle.adf_base.specs.Words.{block, word}
use Rattle.adf_blocks.specs.{declared.cause.Cause.Cause, Forms.first_cause, ExtBlock.ext_form}
use Rattle.adf_volume.specs.{Demands.Demand, Demands.AllHold, Demands.FirstFails, Demands.ext_demands, Image.word_in, Image.letters_of, Lists.At, Fault.fault}
use Rattle.adf_volume.specs.Walk.{Role, FileAt, MemberAt, ext_count, form_demands_by, Role.Ext}
use Rattle.adf_volume.proofs.{FormDemands.all_demanded, FormDemands.first_demanded, Lists.at_snoc, Lists.snoc_length, Roles.count_own, Roles.member_up}
use Rattle.adf_volume.proofs.{Roles.typed_up, Pointers.ext_asks, Pointers.ext_ends, Walks.file_is}
use Rattle.adf_volume.proofs.PositionSteps.{end_exts, enter_file, no_exts}
use Rattle.adf_check.specs.Reading.{HasExtTable, IsInDatas, IsInExts, IsInNode}
use Rattle.adf_volume.specs.KeptOwner.{kept_at, no_owner}
use Rattle.adf_check.proofs.ClaimSteps.{IsNextAt, IsStored, form_fault, gathered, read_one, read_to}

-- a file's table begins with its header
pub enter_exts : (image : List ℕ) (store : StoreValue) (file : File) (st : IsInNode image store file.node) → FileAt image st.walk file.node file.head
    → file.size ≡ word_in image file.head SIZE → file.ext ≡ word_in image file.head EXTENSION
    → IsInExts image store file (file.head ∷ []) (ext_link file)
enter_exts image store file st is_file size ext =
    record {
      walk = st.walk;
      extra = 0;
      read = read_to st.read (enter_file image file.node st.read.up_to);
      holds = record { head = is_file; size = size; members = member; counted = ap suc (sym none) };
      counted = none;
      member = is_file;
      named = sym ext;
    }
  where
    member : (m c : ℕ) → At (file.head ∷ []) m c → MemberAt image st.walk file.node m c
    member zero c x = subst (FileAt image st.walk file.node) x is_file
    member (suc m) c x = absurd x

    none : ext_count st.walk file.node ≡ 0
    none = no_exts image (gathered st.read) file.node st.read.up_to

-- no extension block follows
pub exts_end : (image : List ℕ) (store : StoreValue) (file : File) (table : List ℕ) (link : Link) → IsInExts image store file table link
    → link.block ≡ 0 → IsInDatas image store file table 0
exts_end image store file table link st end = record {
  walk = st.walk;
  read = read_to st.read (end_exts image file.node st.extra st.read.up_to
      (ext_ends image st.walk (gathered st.read) file.node st.extra link.holder st.member (st.named ∙ end)));
  holds = st.holds;
}

-- a link of the file is next
module _ {image : List ℕ} {store : StoreValue} {file : File} {table : List ℕ} {link : Link}
    (st : IsInExts image store file table link) (ne : link.block ≢ 0) where
  pub ext_named : IsNextAt image store st.walk (Ext file.node (suc st.extra)) link.holder link.block
  ext_named = grind (arith, common_steps, ext_asks)

  form_at : (P : List Demand → Type 0) → P (ext_demands image link.block file.head)
      → P (form_demands_by (letters_of image) image st.walk (Ext file.node (suc st.extra)) link.block)
  form_at P = subst (λ x. P (ext_demands image link.block x)) (sym (file_is image st.walk file.node file.head st.read.is_walk st.holds.head))

  -- what was read of it
  module _ (range : InRange (length store.owners) link.block) (free : kept_at store.owners link.block ≡ no_owner) {bytes : List ℕ}
      (is_block : bytes ≡ block image link.block) where
    cause_is : first_cause (ext_form link.block file.head bytes) ≡ first_cause (ext_form link.block file.head (block image link.block))
    cause_is = ap (λ x. first_cause (ext_form link.block file.head x)) is_block

    pub ext_fault : (c : Cause) → first_cause (ext_form link.block file.head bytes) ≡ Some c → IsOwnFault image (fault link.block c)
    ext_fault c f = form_fault ext_named tt range free c (form_at (λ ds. FirstFails ds link.block c)
        (first_demanded link.block (ext_form link.block file.head (block image link.block)) c (sym cause_is ∙ f)))

    pub ext_done : first_cause (ext_form link.block file.head bytes) ≡ None → {ext : List ℕ} → ext ≡ bytes
        → {next : ℕ} → next ≡ word ext EXTENSION → {longer : List ℕ} → longer ≡ table ++ link.block ∷ []
        → {new : StoreValue} → IsStored image store new (Ext file.node (length table)) link.block
        → IsInExts image new file longer (record { holder = link.block; block = next })
    ext_done f same next_is longer_is {new = new} stored =
        let r : Role = Ext file.node (suc st.extra) in
        let number : length table ≡ suc st.extra = st.holds.counted ∙ ap suc st.counted in
        let form = all_demanded link.block (ext_form link.block file.head (block image link.block)) (sym cause_is ∙ f) in
        let one : ext_count ((r, link.block) ∷ st.walk) file.node ≡ suc (ext_count st.walk file.node) =
        count_own file.node (suc st.extra) (ext_count st.walk file.node) in
        record {
          walk = (r, link.block) ∷ st.walk;
          extra = suc st.extra;
          read = read_one ext_named tt range free (form_at AllHold form) tt (subst (λ k. IsStored image store new (Ext file.node k) link.block) number stored);
          holds = subst (HasExtTable image ((r, link.block) ∷ st.walk) file) (sym longer_is) (record {
            head = typed_up (r, link.block) st.holds.head;
            size = st.holds.size;
            members = (λ m c x. elim (at_snoc table link.block m c x) [
              | inl y ↦ member_up image st.walk (r, link.block) file.node m c (st.holds.members m c y)
              | inr y ↦ subst (λ m. MemberAt image ((r, link.block) ∷ st.walk) file.node m c) (sym number ∙ sym y.0) (inl (refl, y.1))
            ]);
            counted = snoc_length table link.block ∙ ap suc (st.holds.counted ∙ sym one);
          });
          counted = one ∙ ap suc st.counted;
          member = inl (refl, refl);
          named = (ap (λ x. word x EXTENSION) (sym (same ∙ is_block)) ∙ sym next_is);
        }
