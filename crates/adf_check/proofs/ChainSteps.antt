-- The steps along the headers of a chain.
use Rattle.adf_check.specs.{Claims.InRange, declared.chains.Chain.Chain, declared.claims.Link.Link, Store.StoreValue, Own.IsOwnFault}
use Rattle.std.proofs.Common.{◌≡◌, ◌≢◌, ◌⊎◌, inl, inr, ℕ, suc, List, ◌∷◌, ◌+◌, ◌<◌, length, true, false, refl, sym, ap, subst, ◌∙◌, arith, Some, None, ◌↔◌}
use Rattle.std.proofs.{lemmas.Bool.Decides.Decides-or, lemmas.Slice.Eq.bytes_eq-Decides, lemmas.Grind.common_steps}
use Rattle.std.specs.Str.{bytes_eq}
use Rattle.adf_blocks.specs.declared.layout.TheConstants.{FIRST_SLOT, NAME, NEXT_IN_CHAIN, SLOTS}
use Rattle.adf_base.specs.{Words.block, Words.word, declared.hash.Letters.Letters}
use Rattle.adf_names.specs.{Texts.uppers_by, declared.kind.Kind.Kind}
use Rattle.adf_tree.specs.NameSet.{has, HasMore, Names}
use Rattle.adf_blocks.specs.declared.cause.Cause.{Cause, TheVariants.SameName}
use Rattle.adf_blocks.specs.{Forms.Clause, Forms.first_cause, Forms.text_at, HeadBlock.head_form_by}
use Rattle.adf_volume.specs.{Demands.Demand, Demands.AllHold, Demands.FirstFails, Demands.head_demands_by, Image.kind_of, Image.name_of, Image.word_in}
use Rattle.adf_volume.specs.{Image.letters_of, Walk.Role, Walk.heads, Walk.Walk, Walk.form_demands_by, Walk.Role.Head, Fault.fault}
use Rattle.adf_volume.proofs.{Gathered.node_is, Pointers.link_asks, Pointers.link_ends, PositionSteps.end_chain, Roles.dir_is_node, Roles.dir_up}
use Rattle.adf_volume.proofs.FormDemands.{all_demanded, first_demanded}
use Rattle.adf_check.specs.Reading.{IsAtSlot, IsInChain, Sees, sees_of}
use Rattle.adf_volume.specs.KeptOwner.{kept_at, no_owner}
use Rattle.adf_check.proofs.ClaimSteps.{IsNextAt, IsStored, form_fault, gathered, name_fault, read_one, read_to}

-- the next header, at position j of the chain
abbrev pub next_head : Walk → Chain → ℕ → Role
next_head w chain j = Head (suc (heads w)) chain.parent chain.slot j

-- a chain that ends leaves its slot
pub chain_ends : (image : List ℕ) (store : StoreValue) (chain : Chain) (link : Link) (seen : List ℕ → Type 0)
    → IsInChain image store chain link seen → link.block ≡ 0 → IsAtSlot image store chain.parent chain.up (suc chain.slot)
chain_ends image store chain link seen st end =
    grind (arith, common_steps, read_to, link_ends, end_chain image chain.parent chain.slot st.place st.read.up_to, gathered st.read)

-- a slot's chain begins at the directory, and nothing of it was seen
pub chain_begins : (image : List ℕ) (store : StoreValue) (chain : Chain) (b : ℕ) (seen : List ℕ → Type 0) → ((x : List ℕ) → seen x → ⊥)
    → b ≡ word_in image chain.up (FIRST_SLOT + chain.slot) → IsAtSlot image store chain.parent chain.up chain.slot
    → IsInChain image store chain (record { holder = chain.up; block = b }) seen
chain_begins image store chain b seen none is st = grind (arith, common_steps)

-- a slot whose word is 0 has no chain
pub empty_chain : (image : List ℕ) (store : StoreValue) (p up s : ℕ) → IsAtSlot image store p up s → word_in image up (FIRST_SLOT + s) ≡ 0
    → IsAtSlot image store p up (s + 1)
empty_chain image store p up s st none =
    let chain : Chain = record { parent = p; up = up; slot = s } in
    let link : Link = record { holder = up; block = word_in image up (FIRST_SLOT + s) } in
    let seen : List ℕ → Type 0 = λ x. ⊥ in
    let next : suc s ≡ s + 1 = omega arith in
    let begins : IsInChain image store chain link seen = chain_begins image store chain link.block seen (λ x h. h) refl st in
    subst (IsAtSlot image store p up) next (chain_ends image store chain link seen begins none)

-- one name more is seen
seen_more : (old new : Names) (name : List ℕ) → HasMore old new name → (x : List ℕ) → sees_of new x ↔ ((name ≡ x) ⊎ sees_of old x)
seen_more old new name h x = rw (h x) (Decides-or (bytes_eq name x) (has old x) (bytes_eq-Decides name x) ((λ s. s), (λ s. s)))

-- a link of the chain is next
module _ {image : List ℕ} {store : StoreValue} {chain : Chain} {link : Link} {seen : List ℕ → Type 0} (lt : chain.slot < SLOTS)
    (st : IsInChain image store chain link seen) (ne : link.block ≢ 0) where
  pub head_named : IsNextAt image store st.walk (next_head st.walk chain st.place) link.holder link.block
  head_named = grind (arith, common_steps, link_asks)

  form_at : (P : List Demand → Type 0) → P (head_demands_by (letters_of image) image (kind_of image) link.block chain.up chain.slot)
      → P (form_demands_by (letters_of image) image st.walk (next_head st.walk chain st.place) link.block)
  form_at P =
      subst (λ u. P (head_demands_by (letters_of image) image (kind_of image) link.block u chain.slot))
      (sym (node_is image (gathered st.read) chain.parent chain.up (dir_is_node image st.walk chain.parent chain.up st.dir)))

  sees_more : (seen' : List ℕ → Type 0) → ((x : List ℕ) → seen' x ↔ ((uppers_by (letters_of image) (name_of image link.block) ≡ x) ⊎ seen x))
      → Sees image ((next_head st.walk chain st.place, link.block) ∷ st.walk) chain.parent chain.slot seen'
  sees_more seen' g = record {
    all = (λ m k c h. elim h [
      | inl y ↦ (g (uppers_by (letters_of image) (name_of image c))).1 (inl (ap (λ c. uppers_by (letters_of image) (name_of image c)) y.1))
      | inr y ↦ (g (uppers_by (letters_of image) (name_of image c))).1 (inr (st.sees.all m k c y))
    ]);
    only = (λ x h. elim ((g x).0 h) [
      | inl y ↦ (suc (heads st.walk), st.place, link.block, inl (refl, refl), y)
      | inr y ↦ let z = st.sees.only x y in (z.0, z.1, z.2, inr z.3, z.4)
    ]);
  }

  -- the block is free
  module _ (range : InRange (length store.owners) link.block) (free : kept_at store.owners link.block ≡ no_owner) where
    -- and holds a header, whose name was not seen
    pub next_chain : AllHold (head_demands_by (letters_of image) image (kind_of image) link.block chain.up chain.slot)
        → (seen (uppers_by (letters_of image) (name_of image link.block)) → ⊥) → (seen' : List ℕ → Type 0)
        → ((x : List ℕ) → seen' x ↔ ((uppers_by (letters_of image) (name_of image link.block) ≡ x) ⊎ seen x)) → {new : StoreValue}
        → IsStored image store new (next_head st.walk chain st.place) link.block
        → IsInChain image new chain (record { holder = link.block; block = word_in image link.block NEXT_IN_CHAIN }) seen'
    next_chain form fresh seen' g stored =
        let r : Role = next_head st.walk chain st.place in
        record {
          walk = (r, link.block) ∷ st.walk;
          place = suc st.place;
          read = read_one head_named tt range free (form_at AllHold form) (λ m k c has eq. fresh (subst seen eq (st.sees.all m k c has))) stored;
          dir = dir_up image st.walk (r, link.block) chain.parent chain.up st.dir;
          index = NEXT_IN_CHAIN;
          pointer = ((suc (heads st.walk), inl (refl, refl)), refl);
          named = refl;
          sees = sees_more seen' g;
        }

-- what was read of it
module _ {image : List ℕ} {store : StoreValue} {chain : Chain} {link : Link} (names : Names) (lt : chain.slot < SLOTS)
    (st : IsInChain image store chain link (sees_of names)) (ne : link.block ≢ 0) (range : InRange (length store.owners) link.block)
    (free : kept_at store.owners link.block ≡ no_owner)
    {kind : Kind} {l : Letters} {bytes : List ℕ} (is_kind : kind ≡ kind_of image) (is_letters : l ≡ letters_of image)
    (is_block : bytes ≡ block image link.block) where
  -- the form of the block, as it is read and as the image has it
  abbrev form_read : List Clause
  form_read = head_form_by l kind link.block chain.up chain.slot bytes

  abbrev form_here : List Clause
  form_here = head_form_by (letters_of image) (kind_of image) link.block chain.up chain.slot (block image link.block)

  cause_is : first_cause form_read ≡ first_cause form_here
  cause_is = λ i. first_cause (head_form_by (is_letters i) (is_kind i) link.block chain.up chain.slot (is_block i))

  -- it is no header
  pub head_fault : (c : Cause) → first_cause form_read ≡ Some c → IsOwnFault image (fault link.block c)
  head_fault c h = form_fault (head_named lt st ne) tt range free c
      (form_at lt st ne (λ ds. FirstFails ds link.block c) (first_demanded link.block form_here c (sym cause_is ∙ h)))

  -- it is one, with this name
  module _ (none : first_cause form_read ≡ None) {head : List ℕ} (same : head ≡ bytes) {name : List ℕ} (told : name ≡ text_at head NAME) where
    form : AllHold (head_demands_by (letters_of image) image (kind_of image) link.block chain.up chain.slot)
    form = all_demanded link.block form_here (sym cause_is ∙ none)

    name_is : uppers_by l name ≡ uppers_by (letters_of image) (name_of image link.block)
    unfolding name_of
    name_is = λ i. uppers_by (is_letters i) ((told ∙ ap (λ x. text_at x NAME) (same ∙ is_block)) i)

    pub twice_fault : has names (uppers_by l name) ≡ true → IsOwnFault image (fault link.block SameName)
    twice_fault h = name_fault (head_named lt st ne) tt range free (form_at lt st ne AllHold form)
        (λ k. let x = st.sees.only (uppers_by (letters_of image) (name_of image link.block)) (ap (has names) (sym name_is) ∙ h) in k x.0 x.1 x.2 x.3 x.4)

    pub head_done : has names (uppers_by l name) ≡ false → (more : Names) → HasMore names more (uppers_by l name)
        → {next : ℕ} → next ≡ word head NEXT_IN_CHAIN → {new : StoreValue}
        → IsStored image store new (next_head st.walk chain st.place) link.block
        → IsInChain image new chain (record { holder = link.block; block = next }) (sees_of more)
    head_done fresh more grows next_is {new = new} stored =
        subst (λ n. IsInChain image new chain (record { holder = link.block; block = n }) (sees_of more))
        (ap (λ x. word x NEXT_IN_CHAIN) (sym (same ∙ is_block)) ∙ sym next_is)
        (next_chain lt st ne range free form (λ h. let e : true ≡ false = sym h ∙ ap (has names) (sym name_is) ∙ fresh in cc) (sees_of more)
        (seen_more names more (uppers_by (letters_of image) (name_of image link.block)) (subst (HasMore names more) name_is grows)) stored)
