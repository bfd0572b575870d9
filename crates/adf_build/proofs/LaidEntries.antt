-- The entries of a tree fit the built volume.
use Rattle.std.proofs.Common.{◌≡◌, ℕ, zero, suc, List, ◌+◌, ◌-◌, ◌*◌, ◌/◌, ◌%◌, ◌^◌, ◌<◌, ◌≤◌, length, min, refl, sym, ap, subst, ◌∙◌, arith}
use Rattle.std.specs.Prelude.{slice_index}
use Rattle.std.proofs.{lemmas.Bool.Decides.nat_tests, lemmas.Grind.common_steps}
use Rattle.adf_base.specs.{Hash.slot_by, Hash.slot_of, declared.hash.Letters.Letters, Words.block, Words.word}
use Rattle.adf_names.specs.declared.kind.Kind.{Kind, TheVariants.Ofs, TheVariants.Ffs}
use Rattle.adf_tree.specs.declared.entry.Body.{Body, TheVariants.Dir, TheVariants.File}
use Rattle.adf_tree.specs.{declared.entry.Entry.Entry, Tree.Tree}
use Rattle.adf_blocks.specs.{Sizes.chunk, Sizes.count, Forms.text_at}
use Rattle.adf_blocks.specs.declared.layout.TheConstants.{EXTENSION, FIRST_POINTER, NAME, POINTERS, SECONDARY_TYPE, SIZE}
use Rattle.adf_blocks.specs.HeadBlock.{HeadFields, meta_at, secondary_of, ext_of, head_form, head_form_by, BodyFields.FileFields}
use Rattle.adf_blocks.proofs.HeadLaws.{head_block-form, head_block-name, head_block-meta, head_block-secondary, head_block-size, head_block-ext}
use Rattle.adf_blocks.proofs.{HeadLaws.head_block-pointer, FieldLaws.long_number}
use Rattle.adf_volume.specs.{Lists.At, Lists.Spelled, Demands.AllHold, Demands.demands_at, Demands.head_demands_by, Demands.data_demands, Layout.at_node}
use Rattle.adf_volume.specs.{Layout.exts_of, Layout.datas_of, Fits.EntryFitsBy, Fits.FileFits, Fits.BodyFits, Fits.TableAt}
use Rattle.adf_volume.specs.Image.{word_in, held, content, table_word, name_of, meta_of}
use Rattle.adf_volume.proofs.FormDemands.{all_demanded}
use Rattle.adf_build.specs.Plan.{exts_needed, data_blocks, entries_blocks, nth_free, allocated, places_from, planned}
use Rattle.adf_build.specs.Writes.{HoldsBlocks}
use Rattle.adf_build.specs.Laid.{body_writes, data_writes, ext_writes, node_blocks, nth_free_or_none, planned_body, slots_by, volume}
use Rattle.adf_build.proofs.{AllocatedBlocks.length_allocated, WholeBlocks.free_small, WholeBlocks.next_small, WholeBlocks.entry_head, LaidWrites.CanHold}
use Rattle.adf_build.proofs.{LaidWrites.has_free, LaidWrites.small, LaidWrites.entry_sound, WrittenBlocks.holds_left, WrittenBlocks.holds_right}
use Rattle.adf_build.proofs.{EntryBlocks.Standing, EntryBlocks.head_fits, EntryBlocks.nodes_at, EntryBlocks.standing, FreeBlocks.size_small}
use Rattle.adf_build.proofs.LaidFiles.{allocated_at, allocated_index, exts_linked, exts_formed, exts_point, bytes_held, datas_formed, held_long}

chunks_cover : (kind : Kind) (size : ℕ) → size ≤ count kind size * chunk kind
unfolding count chunk
chunks_cover Ofs size = omega arith
chunks_cover Ffs size = omega arith

no_exts : exts_needed 0 ≡ 0
unfolding exts_needed
no_exts = refl

exts_enough : (c : ℕ) → c ≤ POINTERS * suc (exts_needed c)
unfolding exts_needed
exts_enough c = omega arith

-- a block that has the form of a header by ASCII letters has it by any others, in the slot of its name by these
form_by : (letters : Letters) (kind : Kind) (own up s : ℕ) (b name : List ℕ) → text_at b NAME ≡ name
    → AllHold (demands_at own (head_form kind own up s b))
    → AllHold (demands_at own (head_form_by letters kind own up (slot_by letters name) b))
form_by letters kind own up s b name e h = grind (arith, common_steps, nat_tests)

module _ {t : Tree} {n : ℕ} (can : CanHold t n) (i : ℕ) (e : Entry) (h : At t.entries i e) where
  abbrev here : Standing (volume t n) n (entries_blocks t.kind t.entries) t (places_from n t.kind 0 t.entries) i (suc i) e
  here = standing can i e h

  abbrev fields : HeadFields
  fields = entry_head n t (suc i) here.k e here.rest

  form_laid : AllHold (head_demands_by t.letters (volume t n) t.kind (nth_free n here.k) (at_node (volume t n) (planned t n) e.parent)
      (slot_by t.letters e.name))
  form_laid =
      form_by t.letters t.kind (nth_free n here.k) (at_node (volume t n) (planned t n) e.parent) (slot_of e.name)
      (block (volume t n) (nth_free n here.k)) e.name (ap (λ bs. text_at bs NAME) here.head ∙ (head_block-name fields (head_fits can i e h)).1)
      (all_demanded (nth_free n here.k) (head_form t.kind (nth_free n here.k) (at_node (volume t n) (planned t n) e.parent) (slot_of e.name)
      (block (volume t n) (nth_free n here.k)))
      (rw (here.head, ← nodes_at can e.parent) (head_block-form t.kind fields (head_fits can i e h))))

  name_laid : e.name ≡ name_of (volume t n) (nth_free n here.k)
  unfolding name_of
  name_laid = sym (ap (λ bs. text_at bs NAME) here.head ∙ (head_block-name fields (head_fits can i e h)).1)

  meta_laid : e.meta ≡ meta_of (volume t n) (nth_free n here.k)
  unfolding meta_of
  meta_laid = sym (ap meta_at here.head ∙ head_block-meta fields (head_fits can i e h) (entry_sound can i e h).meta)

  type_laid : word_in (volume t n) (nth_free n here.k) SECONDARY_TYPE
      ≡ secondary_of (planned_body n here.k t.kind (slots_by t.letters (node_blocks t n) t.entries (suc i)) e.body)
  type_laid = ap (λ bs. word bs SECONDARY_TYPE) here.head ∙ head_block-secondary fields (head_fits can i e h)

  -- the blocks that the entry takes
  kept_blocks : here.k + (1 + exts_needed (data_blocks t.kind e.body) + data_blocks t.kind e.body) ≤ entries_blocks t.kind t.entries
  kept_blocks = here.room

  module _ (bytes : List ℕ) (is : e.body ≡ File bytes) where
    -- how many data blocks and extension blocks the file has
    abbrev file_datas : ℕ
    file_datas = count t.kind (length bytes)

    abbrev file_exts : ℕ
    file_exts = exts_needed file_datas

    -- where they lie, and what is written there
    abbrev ext_run : List ℕ
    ext_run = allocated n (suc here.k) file_exts

    abbrev data_run : List ℕ
    data_run = allocated n (suc here.k + file_exts) file_datas

    abbrev ext_parts : List (ℕ × List ℕ)
    ext_parts = ext_writes n here.k file_datas

    abbrev data_parts : List (ℕ × List ℕ)
    data_parts = data_writes n t.kind here.k bytes

    file_blocks : here.k + (1 + file_exts + file_datas) ≤ entries_blocks t.kind t.entries
    file_blocks = grind (arith, common_steps, kept_blocks)

    size_word : length bytes < 2 ^ 32
    size_word = omega (arith, size_small t.kind (length bytes), file_blocks, small can)

    body_is : planned_body n here.k t.kind (slots_by t.letters (node_blocks t n) t.entries (suc i)) e.body
        ≡ FileFields (length bytes) (allocated n (suc here.k + file_exts) (min POINTERS file_datas)) (nth_free_or_none n (suc here.k) file_exts)
    body_is = ap (planned_body n here.k t.kind (slots_by t.letters (node_blocks t n) t.entries (suc i))) is

    writes_hold : HoldsBlocks (volume t n) (body_writes n t.kind here.k (File bytes))
    writes_hold = subst (λ b. HoldsBlocks (volume t n) (body_writes n t.kind here.k b)) is here.body

    exts_hold : HoldsBlocks (volume t n) ext_parts
    exts_hold = holds_left (volume t n) ext_parts data_parts writes_hold

    datas_hold : HoldsBlocks (volume t n) data_parts
    datas_hold = holds_right (volume t n) ext_parts data_parts writes_hold

    exts_are : exts_of (planned t n) (suc i) ≡ ext_run
    exts_are = here.exts ∙ ap (λ b. allocated n (suc here.k) (exts_needed (data_blocks t.kind b))) is

    datas_are : datas_of (planned t n) (suc i) ≡ data_run
    datas_are = here.datas ∙ ap (λ b. allocated n (suc here.k + exts_needed (data_blocks t.kind b)) (data_blocks t.kind b)) is

    size_laid : word_in (volume t n) (nth_free n here.k) SIZE ≡ length bytes
    size_laid = grind (arith, common_steps, fields, body_is, here, head_block-size, head_fits, size_word)

    content_laid : bytes ≡ content (volume t n) t.kind (nth_free n here.k) data_run
    unfolding content
    content_laid = grind (arith, common_steps, data_run, size_laid, bytes_held, has_free, here, file_blocks, datas_hold, chunks_cover)

    -- the header or the extension block that names data block j
    named_laid : (q j b a : ℕ) → j / POINTERS ≡ q → At data_run j b
        → TableAt (volume t n) (planned t n) (suc i) q a → word_in (volume t n) a (table_word j) ≡ b
    named_laid zero j b a z at ta =
        let place = allocated_at n (suc here.k + file_exts) file_datas j b at in
        let m : j % POINTERS ≡ j = omega arith in
        let lt : j < POINTERS = omega arith in
        let fb = file_blocks in
        let idx : slice_index (allocated n (suc here.k + file_exts) (min POINTERS file_datas)) j ≡ nth_free n (suc here.k + file_exts + j) =
        allocated_index n (suc here.k + file_exts) (min POINTERS file_datas) j (omega arith) in
        let s = free_small (has_free can) (suc here.k + file_exts + j) (omega arith) in
        let at_head : nth_free n here.k ≡ a = sym here.at ∙ ta in
        ap (λ a. word_in (volume t n) a (FIRST_POINTER - j % POINTERS)) (sym at_head)
        ∙ (ap (λ m. word_in (volume t n) (nth_free n here.k) (FIRST_POINTER - m)) m
        ∙ (ap (λ bs. word bs (FIRST_POINTER - j)) here.head
        ∙ (head_block-pointer fields (length bytes) (allocated n (suc here.k + file_exts) (min POINTERS file_datas))
        (nth_free_or_none n (suc here.k) file_exts) j (head_fits can i e h) body_is lt
        ∙ (long_number (slice_index (allocated n (suc here.k + file_exts) (min POINTERS file_datas)) j) (omega arith)
        ∙ (idx ∙ sym place.1)))))
    named_laid (suc q) j b a z at ta =
        let place = allocated_at n (suc here.k + file_exts) file_datas j b at in
        let ax : At ext_run q a = subst (λ xs. At xs q a) exts_are ta in
        let y : suc here.k + file_exts + (POINTERS * suc q + j % POINTERS) ≡ suc here.k + file_exts + j = omega arith in
        exts_point (volume t n) (has_free can) here.k file_datas file_blocks exts_hold q a (j % POINTERS) ax (omega arith) (omega arith)
        ∙ (ap (nth_free n) y ∙ sym place.1)

    formed_laid : (kind : Kind) → t.kind ≡ kind → (j b : ℕ) → At data_run j b
        → AllHold (data_demands (volume t n) kind b (nth_free n here.k) (suc j) (held kind (length bytes) (suc j)) (slice_index data_run (suc j)))
    formed_laid Ffs z j b at = tt
    formed_laid Ofs z j b at =
        let e : ℕ = count Ofs (length bytes) in
        let co : file_datas ≡ e = ap (λ k. count k (length bytes)) z in
        let fb : here.k + (1 + exts_needed e + e) ≤ entries_blocks t.kind t.entries = rw co at file_blocks in
        let ho : HoldsBlocks (volume t n) (data_writes n Ofs here.k bytes) =
        subst (λ k. HoldsBlocks (volume t n) (data_writes n k here.k bytes)) z datas_hold in
        let run : At (allocated n (suc here.k + exts_needed e) e) j b = rw co at at in
        rw (co, ← held_long bytes j) (datas_formed (volume t n) (has_free can) here.k bytes fb ho j b run)

    file_at : FileFits (volume t n) t (planned t n) (suc i) (nth_free n here.k) bytes
    file_at =
        let fb = file_blocks in
        let first : word_in (volume t n) (nth_free n here.k) EXTENSION ≡ nth_free_or_none n (suc here.k) file_exts =
        ap (λ bs. word bs EXTENSION) here.head
        ∙ (head_block-ext fields (head_fits can i e h)
        (subst (λ b. ext_of b < 2 ^ 32) (sym body_is) (next_small (has_free can) (suc here.k) file_exts (omega arith)))
        ∙ ap ext_of body_is) in
        record {
          exts = subst (λ xs. Spelled (λ b. word_in (volume t n) b EXTENSION) (word_in (volume t n) (nth_free n here.k) EXTENSION) xs) (sym exts_are)
              (subst (λ w. Spelled (λ b. word_in (volume t n) b EXTENSION) w ext_run) (sym first)
              (exts_linked (volume t n) (has_free can) here.k file_datas file_blocks exts_hold));
          ext_form = (λ k b a. exts_formed (volume t n) (has_free can) here.k file_datas file_blocks exts_hold k b
              (subst (λ xs. At xs k b) exts_are a));
          enough = (let a = exts_enough file_datas in let l : length (exts_of (planned t n) (suc i)) ≡ file_exts =
              ap length exts_are ∙ length_allocated n (suc here.k) file_exts in omega arith);
          datas = ap length datas_are ∙ length_allocated n (suc here.k + file_exts) file_datas;
          named = (λ k b a at ta. named_laid (k / POINTERS) k b a refl (subst (λ xs. At xs k b) datas_are at) ta);
          data_form =
              (λ k b at. subst (λ xs. AllHold (data_demands (volume t n) t.kind b (nth_free n here.k) (suc k) (held t.kind (length bytes) (suc k))
              (slice_index xs (suc k)))) (sym datas_are) (formed_laid t.kind refl k b (subst (λ xs. At xs k b) datas_are at)));
        }

    pub file_laid : FileFits (volume t n) t (planned t n) (suc i) (at_node (volume t n) (planned t n) (suc i)) bytes
    file_laid = subst (λ b. FileFits (volume t n) t (planned t n) (suc i) b bytes) (sym here.at) file_at

  body_laid : (b : Body) → e.body ≡ b → BodyFits (volume t n) t.kind (planned t n) (suc i) (nth_free n here.k) b
  body_laid Dir z = grind (arith, common_steps, type_laid, here, no_exts)
  body_laid (File bytes) z = grind (arith, common_steps, type_laid, here, content_laid, datas_are, size_laid)

  pub entry_laid : EntryFitsBy t.letters (volume t n) t (planned t n) (suc i) (at_node (volume t n) (planned t n) (suc i)) e
  entry_laid = grind (arith, common_steps, here, form_laid, name_laid, meta_laid, body_laid)
