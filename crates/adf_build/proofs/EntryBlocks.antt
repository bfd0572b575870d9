-- The place of each built entry, and the pointer of its header to the next one in its chain.
use Rattle.std.proofs.Common.{◌≡◌, ℕ, zero, suc, List, [], ◌∷◌, ◌+◌, ◌^◌, ◌<◌, ◌≤◌, map, refl, sym, ap, subst, ◌∙◌, arith, slice_index}
use Rattle.std.proofs.{lemmas.List.FromFn.get_or-map-range_with_len, lemmas.Grind.common_steps}
use Rattle.adf_base.specs.{Hash.slot_by, Words.block, Words.word}
use Rattle.adf_tree.specs.{Bounds.IsBoundedEntry, declared.entry.Entry.Entry, declared.entry.Body.TheVariants.Dir, Tree.Tree}
use Rattle.adf_names.specs.declared.kind.Kind.{Kind}
use Rattle.adf_blocks.specs.declared.layout.TheConstants.{FIRST_SLOT, NEXT_IN_CHAIN, SLOTS}
use Rattle.adf_blocks.specs.{Sizes.middle, HeadBlock.FitsHead, HeadBlock.head_block, HeadBlock.BodyFields.DirFields}
use Rattle.adf_blocks.proofs.{HeadLaws.head_block-next, HeadLaws.head_block-slot, RootLaws.root_block-slot}
use Rattle.adf_volume.specs.{Lists.At, Lists.Spelled, Image.word_in}
use Rattle.adf_volume.specs.Layout.{Place, nodes_from_by, chain_nodes_by, head_at, exts_at, datas_at, at_node}
use Rattle.adf_build.specs.Plan.{exts_needed, data_blocks, entry_blocks, entries_blocks, nth_free, allocated, places_from, planned}
use Rattle.adf_build.specs.Writes.{HoldsBlocks}
use Rattle.adf_build.specs.Laid.{body_writes, entries_writes, first_block, heads_from, node_blocks, planned_body, slots_by, volume}
use Rattle.adf_build.proofs.{ChainLinks.LinksBy, ChainLinks.spelled_chain, WholeBlocks.fits_head, WholeBlocks.entry_head}
use Rattle.adf_build.proofs.LaidWrites.{CanHold, has_free, near, entry_sound, fits_root, volume_blocks, holds_entries, holds_root}
use Rattle.adf_build.proofs.WrittenBlocks.{holds_left, holds_right}

-- entry j of a list of places, which is entry i of the volume: from which free block on it lies, and what stands there
pub record Standing (v : List ℕ) (n total : ℕ) (t : Tree) (qs : List Place) (j i : ℕ) (e : Entry) : Type 0 where
  pub k : ℕ
  pub rest : List Entry
  pub room : k + entry_blocks t.kind e ≤ total
  pub head : block v (nth_free n k) ≡ head_block (entry_head n t i k e rest)
  pub body : HoldsBlocks v (body_writes n t.kind k e.body)
  pub at : head_at qs j ≡ nth_free n k
  pub exts : exts_at qs j ≡ allocated n (suc k) (exts_needed (data_blocks t.kind e.body))
  pub datas : datas_at qs j ≡ allocated n (suc k + exts_needed (data_blocks t.kind e.body)) (data_blocks t.kind e.body)

all_stand : (v : List ℕ) (n total : ℕ) (t : Tree) (i k : ℕ) (es : List Entry)
    → HoldsBlocks v (entries_writes n t i k es) → k + entries_blocks t.kind es ≤ total
    → (j : ℕ) (e : Entry) → At es j e → Standing v n total t (places_from n t.kind k es) j (i + j) e
all_stand v n total t i k [] h l j e a = absurd a
all_stand v n total t i k (x ∷ es) h l zero e a =
    let z : i ≡ i + 0 = omega arith in
    subst (λ m. Standing v n total t (places_from n t.kind k (x ∷ es)) 0 m e) z
    (subst (λ e. Standing v n total t (places_from n t.kind k (x ∷ es)) 0 i e) a
    (record {
      k = k;
      rest = es;
      room = omega arith;
      head = h.0;
      body = holds_left v (body_writes n t.kind k x.body) (entries_writes n t (suc i) (k + entry_blocks t.kind x) es) h.1;
      at = refl;
      exts = refl;
      datas = refl;
    }))
all_stand v n total t i k (x ∷ es) h l (suc j) e a = grind (arith, common_steps, holds_right, all_stand v n total t (suc i) (k + entry_blocks t.kind x) es)

heads_places : (n : ℕ) (kind : Kind) (k : ℕ) (es : List Entry) (j : ℕ) → slice_index (heads_from n kind k es) j ≡ head_at (places_from n kind k es) j
heads_places n kind k [] j = refl
heads_places n kind k (e ∷ es) zero = refl
heads_places n kind k (e ∷ es) (suc j) = heads_places n kind (k + entry_blocks kind e) es j

first_near : (at : ℕ → ℕ) (ns : List ℕ) → ((j : ℕ) → at j < 2 ^ 32) → first_block at ns < 2 ^ 32
first_near at [] f = omega arith
first_near at (m ∷ ms) f = f m

module _ {t : Tree} {n : ℕ} (can : CanHold t n) where
  -- where each entry stands
  pub standing : (i : ℕ) (e : Entry) → At t.entries i e
      → Standing (volume t n) n (entries_blocks t.kind t.entries) t (places_from n t.kind 0 t.entries) i (suc i) e
  standing i e h =
      let z : 1 + i ≡ suc i = omega arith in
      subst (λ m. Standing (volume t n) n (entries_blocks t.kind t.entries) t (places_from n t.kind 0 t.entries) i m e) z
      (all_stand (volume t n) n (entries_blocks t.kind t.entries) t 1 0 t.entries (holds_entries can) (omega arith) i e h)

  pub nodes_at : (j : ℕ) → slice_index (node_blocks t n) j ≡ at_node (volume t n) (planned t n) j
  nodes_at zero = ap middle (sym (volume_blocks can))
  nodes_at (suc j) = heads_places n t.kind 0 t.entries j

  -- the fields of each header are words
  pub head_fits : (i : ℕ) (e : Entry) (h : At t.entries i e) → FitsHead (entry_head n t (suc i) (standing i e h).k e (standing i e h).rest)
  head_fits i e h =
      let s = standing i e h in
      let r : s.k + entry_blocks t.kind e ≤ entries_blocks t.kind t.entries = s.room in
      let b = entry_sound can i e h in
      fits_head (has_free can) t (suc i) s.k e s.rest (near can) (omega arith) b.name b.meta.comment

  links : (i k : ℕ) (es : List Entry) → ((j : ℕ) → slice_index (node_blocks t n) (i + j) ≡ slice_index (heads_from n t.kind k es) j)
      → HoldsBlocks (volume t n) (entries_writes n t i k es)
      → k + entries_blocks t.kind es ≤ entries_blocks t.kind t.entries
      → ((j : ℕ) (e : Entry) → At es j e → IsBoundedEntry e)
      → LinksBy t.letters (λ b. word_in (volume t n) b NEXT_IN_CHAIN) (slice_index (node_blocks t n)) i es
  links i k [] f h l g = tt
  links i k (e ∷ es) f h l g =
      let z : i + 0 ≡ i = omega arith in
      let a : slice_index (node_blocks t n) i ≡ nth_free n k = ap (slice_index (node_blocks t n)) (sym z) ∙ f 0 in
      let b = g 0 e refl in
      let fh = fits_head (has_free can) t i k e es (near can) (omega arith) b.name b.meta.comment in
      let nx = first_near (slice_index (node_blocks t n)) (nodes_from_by t.letters (suc i) es e.parent (slot_by t.letters e.name)) (near can) in (
        ap (λ b. word_in (volume t n) b NEXT_IN_CHAIN) a
            ∙ (ap (λ bs. word bs NEXT_IN_CHAIN) h.0 ∙ head_block-next (entry_head n t i k e es) fh nx),
        links (suc i) (k + entry_blocks t.kind e) es
            (λ j. let y : suc i + j ≡ i + suc j = omega arith in ap (slice_index (node_blocks t n)) y ∙ f (suc j))
            (holds_right (volume t n) (body_writes n t.kind k e.body) (entries_writes n t (suc i) (k + entry_blocks t.kind e) es) h.1)
            (omega arith) (λ j d q. g (suc j) d q),
      )

  all_links : LinksBy t.letters (λ b. word_in (volume t n) b NEXT_IN_CHAIN) (slice_index (node_blocks t n)) 1 t.entries
  all_links = links 1 0 t.entries (λ j. let y : 1 + j ≡ suc j = omega arith in ap (slice_index (node_blocks t n)) y)
      (holds_entries can) (omega arith) (entry_sound can)

  -- a chain whose first header stands in this word
  pub chain_laid : (p s w : ℕ) → w ≡ first_block (slice_index (node_blocks t n)) (chain_nodes_by t.letters t p s)
      → Spelled (λ b. word_in (volume t n) b NEXT_IN_CHAIN) w (map (at_node (volume t n) (planned t n)) (chain_nodes_by t.letters t p s))
  chain_laid p s w e =
      let same : slice_index (node_blocks t n) ≡ at_node (volume t n) (planned t n) = λ i j. nodes_at j i in
      subst (λ at. Spelled (λ b. word_in (volume t n) b NEXT_IN_CHAIN) w (map at (chain_nodes_by t.letters t p s))) same
      (subst (λ w. Spelled (λ b. word_in (volume t n) b NEXT_IN_CHAIN) w (map (slice_index (node_blocks t n)) (chain_nodes_by t.letters t p s)))
      (sym e)
      (spelled_chain t.letters (λ b. word_in (volume t n) b NEXT_IN_CHAIN) (slice_index (node_blocks t n)) 1 t.entries p s all_links))

  slot_is : (p s : ℕ) → s < SLOTS
      → slice_index (slots_by t.letters (node_blocks t n) t.entries p) s ≡ first_block (slice_index (node_blocks t n))
      (chain_nodes_by t.letters t p s)
  slot_is p s l =
      let z : 0 + s ≡ s = omega arith in
      get_or-map-range_with_len (λ s. first_block (slice_index (node_blocks t n)) (nodes_from_by t.letters 1 t.entries p s)) 0 SLOTS s s 0 l z

  -- the slots of the root and of directories
  pub root_slot : (s : ℕ) → s < SLOTS
      → word_in (volume t n) (middle n) (FIRST_SLOT + s) ≡ first_block (slice_index (node_blocks t n)) (chain_nodes_by t.letters t 0 s)
  root_slot s l = grind (arith, common_steps, slot_is, first_near, near, holds_root, root_block-slot, fits_root)

  pub dir_slot : (i s : ℕ) (e : Entry) (h : At t.entries i e) → e.body ≡ Dir → s < SLOTS
      → word_in (volume t n) (nth_free n (standing i e h).k) (FIRST_SLOT + s) ≡ first_block (slice_index (node_blocks t n))
      (chain_nodes_by t.letters t (suc i) s)
  dir_slot i s e h d l =
      let p = standing i e h in
      let ls : List ℕ = slots_by t.letters (node_blocks t n) t.entries (suc i) in
      let y = slot_is (suc i) s l in
      let small : slice_index ls s < 2 ^ 32 =
      subst (λ m. m < 2 ^ 32) (sym y) (first_near (slice_index (node_blocks t n)) (chain_nodes_by t.letters t (suc i) s) (near can)) in
      let b : planned_body n p.k t.kind ls e.body ≡ DirFields ls = ap (planned_body n p.k t.kind ls) d in
      ap (λ bs. word bs (FIRST_SLOT + s)) p.head
      ∙ (head_block-slot (entry_head n t (suc i) p.k e p.rest) ls s (head_fits i e h) b l small ∙ y)
