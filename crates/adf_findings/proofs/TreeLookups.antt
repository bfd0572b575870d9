-- Where a tree fits an image, look-up in its survey is look-up in the tree, and its files are sound, with the bytes of the tree.
use Rattle.std.specs.Prelude.{◌==◌, ◌↔◌, Option, Some, None, cond, get_or}
use Rattle.std.proofs.Common.{◌≡◌, ℕ, zero, suc, List, [], ◌∷◌, ◌-◌, ◌≤◌, ◌<◌, true, refl, sym, ap, subst, ◌∙◌, add-one, arith}
use Rattle.adf_blocks.specs.declared.layout.TheConstants.{SECONDARY_TYPE, ST_DIR, ST_FILE}
use Rattle.adf_base.specs.declared.hash.Letters.TheVariants.{Ascii}
use Rattle.adf_names.specs.Texts.{uppers_by}
use Rattle.adf_tree.specs.{declared.entry.Body.TheVariants.Dir, declared.entry.Body.TheVariants.File, declared.entry.Entry.Entry}
use Rattle.adf_tree.specs.Tree.{IsTree, Tree, child, entry, find, find_from, find_from_by, is_child}
use Rattle.adf_tree.proofs.ChildLookup.{child_is, child_says, found_is, is_child_from}
use Rattle.adf_volume.specs.{Fits.FitsBy, Image.content, Image.kind_of, Image.letters_of, Image.name_of, Image.root_of, Image.word_in, Layout.Layout, Lists.At}
use Rattle.adf_volume.specs.{Made.datas_in, Made.entries_in, Made.entry_in, Made.layout_in, Made.tree_in, Demands.boot_demands, Demands.root_demands}
use Rattle.adf_volume.specs.Walk.{Has, HeadAt, IsWalk, IsWhole, heads, node_block, Walk, Role.Head}
use Rattle.adf_volume.proofs.{Chains.entry_is_at, FitWalks.one_fit, ImageStart.plain_letters, Lists.all_split, Lists.at_below, Lists.at_index_or, Roles.head_at}
use Rattle.adf_volume.proofs.{WalkMembers.entries_length, WalkMembers.entry_has, WholeWalks.file_at}
use Rattle.adf_volume.proofs.Walks.{file_is, number_of, numbered as has_number}
use Rattle.adf_findings.specs.{Files.IsSoundFile, Files.file_content, Files.file_in, Sound.IsOfItsKind, Survey.FindingValue, Survey.IsSurvey}
use Rattle.adf_findings.specs.Lookup.{IsFirstChild, IsNamedChild, LeadsTo}
use Rattle.adf_findings.proofs.{AllSound.all_sound, PlainFindings.finds_none, PlainFindings.none_found, PlainFindings.shown}

module _ (image : List ℕ) (w : Walk) (v : IsWalk image w) (tree : IsTree (entries_in image w w)) (plain : letters_of image ≡ Ascii) where
  abbrev entries : List Entry
  entries = entries_in image w w

  -- a child by its name is the one that the tree has
  child_entry : (p n : ℕ) (name : List ℕ) → IsNamedChild image w p name n → child entries p name ≡ Some n
  child_entry p zero name (s, j, b, has, same) = let u : (1 ≤ 0) × (0 ≤ heads w) = number_of image v (head_at 0 p s j b has) in absurd (omega arith)
  child_entry p (suc i) name (s, j, b, has, same) =
      let x : Entry = entry_in image w (suc i) p b in
      let at : At entries i x = entry_has image w v (head_at (suc i) p s j b has) in
      let holds : is_child p name (get_or entries i x) ≡ true =
      ap (is_child p name) (at_index_or entries i x x at)
      ∙ is_child_from p name x refl (subst (λ l. uppers_by l (name_of image b) ≡ uppers_by l name) plain same) in
      child_is entries p name i x tree (at_below entries i x at) holds ∙ ap Some (add-one i)

  entry_child : (p n : ℕ) (name : List ℕ) → child entries p name ≡ Some n → IsNamedChild image w p name n
  entry_child p zero name e = let f = found_is entries p name 0 (entry_in image w 0 0 0) e in let lt : 0 < 0 = f.0 in absurd (omega arith)
  entry_child p (suc i) name e =
      let d : Entry = entry_in image w 0 0 0 in
      let f = found_is entries p name (suc i) d e in
      let k = has_number image v (suc i) (omega arith) (omega (arith, f.1, entries_length image w w)) in
      let x : Entry = entry_in image w (suc i) k.1.parent k.0 in
      let z : suc i - 1 ≡ i = omega arith in
      let holds : is_child p name x ≡ true =
      sym (ap (is_child p name) (at_index_or entries i x d (entry_has image w v k.1)))
      ∙ subst (λ i. is_child p name (get_or entries i d) ≡ true) z f.2 in
      let says = child_says p name x holds in (
        k.1.slot,
        k.1.place,
        k.0,
        subst (λ p. Has w (Head (suc i) p k.1.slot k.1.place) k.0) says.0 k.1.has,
        subst (λ l. uppers_by l (name_of image k.0) ≡ uppers_by l name) (sym plain) says.1,
      )

  child_first : (p n : ℕ) (name : List ℕ) → child entries p name ≡ Some n → IsFirstChild image w p name n
  child_first p n name e = (
    entry_child p n name e,
    (λ m lt other.
        let z : Some m ≡ Some n = sym (child_entry p m name other) ∙ e in
        let same : m ≡ n = cc in
        omega arith),
  )

  leads_found : (path : List (List ℕ)) (p n : ℕ) → LeadsTo image w p path n → find_from entries p path ≡ Some n
  leads_found [] p n e = ap Some e
  leads_found (name ∷ names) p n x = rw (child_entry p x.0 name x.1.0, find_from_by) (leads_found names x.0 n x.2)

  found_leads : (path : List (List ℕ)) (p n : ℕ) → find_from entries p path ≡ Some n → LeadsTo image w p path n
  found_leads [] p n e = cc
  found_leads (name ∷ names) p n e = go (child entries p name) refl e (λ m. found_leads names m n)
    where
      go : (o : Option ℕ) → child entries p name ≡ o → elim o [ None ↦ None | Some m ↦ find_from entries m names ] ≡ Some n
          → ((m : ℕ) → find_from entries m names ≡ Some n → LeadsTo image w m names n) → LeadsTo image w p (name ∷ names) n
      go None z e again = cc
      go (Some m) z e again = (m, child_first p m name z, again m e)

  pub paths_lead : (path : List (List ℕ)) (n : ℕ) → LeadsTo image w 0 path n ↔ (find entries path ≡ Some n)
  paths_lead path n = (leads_found path 0 n, found_leads path 0 n)

  -- the entry of a header
  pub header_entry : (n b : ℕ) (h : HeadAt w n b) → entry entries n ≡ Some (entry_in image w n h.parent b)
  header_entry zero b h = let u : (1 ≤ 0) × (0 ≤ heads w) = number_of image v h in absurd (omega arith)
  header_entry (suc i) b h = (entry_is_at (tree_in image w) (suc i) (entry_in image w (suc i) h.parent b)).0 (entry_has image w v h)

  pub sound_entry : (fs : List FindingValue) (n : ℕ) → IsSoundFile image w fs n
      → (e : Entry) × (entry entries n ≡ Some e) × (e.body ≡ File (file_content (file_in image w n)))
  sound_entry fs n sound =
      let h = sound.0.header in (
        entry_in image w n h.parent (node_block w n),
        header_entry n (node_block w n) h,
        ap (λ t. cond (t == ST_DIR) Dir (File (content image (kind_of image) (node_block w n) (datas_in w n)))) sound.1,
      )

  pub file_sound : (fs : List FindingValue) → IsSurvey image w fs → fs ≡ [] → IsOfItsKind image w → IsWhole image w → (n : ℕ) (e : Entry) (bytes : List ℕ)
      → entry entries n ≡ Some e → e.body ≡ File bytes → IsSoundFile image w fs n × (file_content (file_in image w n) ≡ bytes)
  file_sound fs survey none own whole n e bytes at body =
      let x = file_at image w v whole n e bytes ((entry_is_at (tree_in image w) n e).1 at) body in
      let here : node_block w n ≡ x.0 = file_is image w n x.0 v x.1 in (
        (
          all_sound image w fs n (node_block w n) survey none own (subst (HeadAt w n) (sym here) x.1.header),
          subst (λ h. word_in image h SECONDARY_TYPE ≡ ST_FILE) (sym here) x.1.type,
        ),
        ap (λ h. content image (kind_of image) h (datas_in w n)) here ∙ sym x.2,
      )

module _ (image : List ℕ) (t : Tree) (l : Layout) (w : Walk) (fs : List FindingValue) (fit : FitsBy Ascii image t l)
    (survey : IsSurvey image w fs) where
  none : fs ≡ []
  none = finds_none image t l w fs fit survey

  clean : IsSurvey image w []
  clean = subst (IsSurvey image w) none survey

  made : FitsBy Ascii image (tree_in image w) (layout_in w)
  made = none_found image w clean

  plain : letters_of image ≡ Ascii
  plain = plain_letters image (all_split (boot_demands image) (root_demands image (root_of image)) (shown image clean).0).0

  same : tree_in image w ≡ t
  same = sym (one_fit image t (tree_in image w) l (layout_in w) fit made).0

  pub paths_as_in_tree : (path : List (List ℕ)) (n : ℕ) → LeadsTo image w 0 path n ↔ (find t.entries path ≡ Some n)
  paths_as_in_tree path n = rw (← same) (paths_lead image w (shown image clean).1 made.tree plain path n)

  pub files_as_in_tree : IsOfItsKind image w → (n : ℕ) (e : Entry) (bytes : List ℕ) → entry t.entries n ≡ Some e → e.body ≡ File bytes
      → IsSoundFile image w fs n × (file_content (file_in image w n) ≡ bytes)
  files_as_in_tree own n e bytes at body =
      file_sound image w (shown image clean).1 made.tree plain fs survey none own (shown image clean).2 n e bytes
      (subst (λ (t : Tree). entry t.entries n ≡ Some e) (sym same) at) body

  pub entries_as_in_tree : (n : ℕ) → IsSoundFile image w fs n
      → (e : Entry) × (entry t.entries n ≡ Some e) × (e.body ≡ File (file_content (file_in image w n)))
  entries_as_in_tree n sound = rw (← same) (sound_entry image w (shown image clean).1 made.tree plain fs n sound)
