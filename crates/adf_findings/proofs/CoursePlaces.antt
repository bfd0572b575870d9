-- The positions of a course: by chain in a directory, extension blocks before data blocks in a file, node by node.
use Rattle.std.specs.Prelude.{Bool, true, false, cond, nat_le, nat_lt, ◌||◌, ◌%◌, Option, Some, None, slice_index}
use Rattle.std.proofs.Common.{◌≡◌, ◌≢◌, ℕ, zero, suc, length, List, ◌⊎◌, inl, ◌+◌, ◌-◌, ◌*◌, ◌/◌, ◌<◌, ◌≤◌, refl, sym, subst, ap, ◌∙◌, add-one, arith}
use Rattle.std.proofs.{lemmas.Bool.eq-eqb, lemmas.Bool.eqb-true, lemmas.Bool.Decides.nat_tests, lemmas.Grind.common_steps}
use Rattle.adf_names.specs.declared.kind.Kind.TheVariants.{Ofs}
use Rattle.adf_blocks.specs.declared.layout.TheConstants.{EXTENSION, FIRST_POINTER, FIRST_SLOT, NEXT_IN_CHAIN, POINTERS, SECONDARY_TYPE, SLOTS, ST_DIR, ST_FILE}
use Rattle.adf_blocks.specs.Sizes.{blocks}
use Rattle.adf_volume.specs.Image.{kind_of, table_word, word_in}
use Rattle.adf_volume.specs.{Positions.before_node, Positions.position_of, Walk.Role.Head, Walk.Role.Ext, Walk.Role.Data}
use Rattle.adf_volume.specs.Walk.{Has, NodeAt, DirAt, FileAt, MemberAt, Asks, Enough, data_count, ext_count, heads, member_block, next_data, node_block, Walk}
use Rattle.adf_volume.proofs.Gathered.{IsGathered, ext_below, ext_counted, file_one, head_block, member_is, node_is, node_there}
use Rattle.adf_volume.proofs.Pointers.{ext_asks, ext_ends, link_asks, link_ends}
use Rattle.adf_volume.proofs.PositionSteps.{chain_broken, end_chain, end_datas, end_exts, end_node, end_nodes, enter_dir, enter_file, exts_broken, no_exts}
use Rattle.adf_volume.proofs.Roles.{count_own, dir_is_node, dir_up, member_up, typed_up}
use Rattle.adf_volume.specs.declared.part.Part.TheVariants.{Head as HeadPart, Ext as ExtPart, Data as DataPart}
use Rattle.adf_findings.specs.{declared.course.Due.Due, declared.course.FileTable.FileTable, Survey.Course, Found.IsFinished, Forms.Tells}
use Rattle.adf_findings.specs.declared.progress.Progress.{Progress}
use Rattle.adf_findings.specs.Courses.{HasReached, HasReachedData, HasReachedExt, HasReachedHeader, HasReachedSlot, HasReachedTable, HasReachedMember}
use Rattle.adf_findings.specs.Courses.{HasReachedNamed, HasTable, Holds, IsGoneOn, IsNamed, IsTrueIn, due_below, due_in, end_in, next_in, noted, table_block_in}
use Rattle.adf_findings.proofs.{CourseSteps.moved, Members.member_inside, Members.member_next, Members.member_none, OneSurvey.gathered}

module _ {image : List ℕ} where
  module _ {f : Progress} {s : Course} where
    -- what a directory names comes behind the places of a file
    pub dir_begins : (n b : ℕ) → Holds image f (before_node n) s → DirAt image s.walk n b → HasReachedSlot image f n 0 b
    dir_begins n b h d = (s, moved h (omega arith) (enter_dir image (gathered image h.course) n b d h.up_to), d)

    -- behind the last node nothing is next
    pub nodes_end : (n : ℕ) → length f.found.nodes.items ≤ n → Holds image f (before_node n) s → IsFinished image f.found (noted f)
    nodes_end n le h = (s, h.course, end_nodes image (gathered image h.course) n (let c = h.stands.count in omega arith) h.up_to, h.stands, h.told)

    module _ {n b : ℕ} (h : Holds image f (before_node n) s) (lt : n < length f.found.nodes.items) (at : b ≡ slice_index f.found.nodes.items n) where
      -- a node that is found has its block
      node_at : NodeAt s.walk n b
      node_at =
          let count = h.stands.count in
          subst (NodeAt s.walk n) (sym (at ∙ h.stands.node n)) (node_there image (gathered image h.course) n (omega arith))

      pub dir_there : (n ≡ 0) ⊎ (word_in image b SECONDARY_TYPE ≡ ST_DIR) → DirAt image s.walk n b
      dir_there = grind (arith, common_steps, node_at)

      pub file_there : (n ≡ 0 → ⊥) → word_in image b SECONDARY_TYPE ≡ ST_FILE → FileAt image s.walk n b
      file_there = grind (arith, common_steps, node_at)

      pub nothing_there : (n ≡ 0 → ⊥) → word_in image b SECONDARY_TYPE ≢ ST_DIR → word_in image b SECONDARY_TYPE ≢ ST_FILE
          → HasReached image f (before_node (n + 1))
      nothing_there other no_dir no_file = rw add-one (grind (arith, common_steps, moved, end_node, gathered, node_at))

    -- the extension blocks of a file come first
    pub exts_begin : (n b : ℕ) → Holds image f (before_node n) s → FileAt image s.walk n b → HasReachedExt image f n b 0 b
    exts_begin n b h file = grind (arith, common_steps, moved, enter_file, no_exts, gathered)

-- a chain that is gone through
module _ {image : List ℕ} {f : Progress} {p slot j a i b : ℕ} (x : HasReachedHeader image f p slot j a i b) where
  pub header_named : slot < SLOTS → word_in image a i ≢ 0 → IsNamed image f (due_below (HeadPart 0 p slot j) b) a i x.course
  header_named lt ne = record {
    holds = x.holds;
    asked = link_asks image x.course.walk p slot j a i lt x.link ne;
    said = record {
      context = sym (node_is image (gathered image x.holds.course) p b (dir_is_node image x.course.walk p b x.dir));
      enough = tt;
    };
  }

  -- behind a header that is taken comes the next of its chain
  pub header_taken : {g : Progress} {o : Option ℕ} {c : ℕ} → o ≡ Some c → IsGoneOn image x.course (HeadPart 0 p slot j) a i g o
      → HasReachedHeader image g p slot (j + 1) c NEXT_IN_CHAIN b
  header_taken {g} {o} {c} e gone =
      let w : Walk = x.course.walk in
      let on = subst (IsGoneOn image x.course (HeadPart 0 p slot j) a i g) e gone in
      rw add-one (record {
        course = _;
        holds = on.holds;
        dir = dir_up image w (Head (suc (heads w)) p slot j, word_in image a i) p b x.dir;
        link = ((suc (heads w), inl (refl, sym on.block)), refl);
      })

  -- behind a header that was skipped its chain ends
  pub header_skipped : {g : Progress} {o : Option ℕ} → o ≡ None → IsGoneOn image x.course (HeadPart 0 p slot j) a i g o
      → HasReachedSlot image g p (slot + 1) b
  header_skipped {g} {o} e gone =
      let on = subst (IsGoneOn image x.course (HeadPart 0 p slot j) a i g) e gone in
      rw add-one (_, moved on.holds (omega arith) (end_chain image p slot (suc j) on.holds.up_to (chain_broken image x.holds.up_to)), x.dir)

  -- a chain ends where its word names no block
  pub chain_done : word_in image a i ≡ 0 → HasReachedSlot image f p (slot + 1) b
  chain_done e =
      let end = link_ends image x.course.walk (gathered image x.holds.course) p slot j a i x.link e in
      rw add-one (_, moved x.holds (omega arith) (end_chain image p slot j x.holds.up_to end), x.dir)

-- a slot that names no block has no chain
pub slot_empty : {image : List ℕ} {f : Progress} (p slot b : ℕ) → HasReachedSlot image f p slot b
    → word_in image b (FIRST_SLOT + slot) ≡ 0 → HasReachedSlot image f p (slot + 1) b
slot_empty p slot b x e = chain_done (record { course = x.0; holds = x.1; dir = x.2; link = (x.2, refl) }) e

-- the extension blocks of a file that are gone through
module _ {image : List ℕ} {f : Progress} {n b m a : ℕ} (x : HasReachedExt image f n b m a) where
  one_more : suc m ≡ m + 1
  one_more = omega arith

  gone_on : {g : Progress} {o : Option ℕ} (q : Option ℕ) → o ≡ q → IsGoneOn image x.course (ExtPart n (m + 1)) a EXTENSION g o
      → IsGoneOn image x.course (ExtPart n (suc m)) a EXTENSION g q
  gone_on {g} q e gone = grind (arith, common_steps, one_more)

  pub ext_is_named : word_in image a EXTENSION ≢ 0 → IsNamed image f (due_below (ExtPart n (m + 1)) b) a EXTENSION x.course
  ext_is_named ne = rw add-one (record {
    holds = x.holds;
    asked = ext_asks image x.course.walk n m a x.member ne;
    said = record { context = sym (head_block image (gathered image x.holds.course) x.file.header); enough = tt };
  })

  pub ext_taken : {g : Progress} {o : Option ℕ} {c : ℕ} → o ≡ Some c → IsGoneOn image x.course (ExtPart n (m + 1)) a EXTENSION g o
      → HasReachedExt image g n b (m + 1) c
  ext_taken {g} {o} {c} e gone =
      let on = gone_on (Some c) e gone in
      rw add-one (record {
        course = _;
        holds = on.holds;
        file = typed_up (Ext n (suc m), word_in image a EXTENSION) x.file;
        member = inl (refl, sym on.block);
        count = count_own n (suc m) (ext_count x.course.walk n) ∙ ap suc x.count;
      })

  -- behind an extension block that was skipped come the data blocks
  pub ext_skipped : {g : Progress} {o : Option ℕ} → o ≡ None → IsGoneOn image x.course (ExtPart n (m + 1)) a EXTENSION g o
      → HasReachedData image g n b m
  ext_skipped {g} {o} e gone = grind (arith, common_steps, gone_on, moved, end_exts, exts_broken)

  -- and behind the last one
  pub exts_done : word_in image a EXTENSION ≡ 0 → HasReachedData image f n b m
  exts_done e = record {
    course = x.course;
    holds = moved x.holds (omega arith)
        (end_exts image n m x.holds.up_to (ext_ends image x.course.walk (gathered image x.holds.course) n m a x.member e));
    file = x.file;
    count = x.count;
  }

-- what is said of a data block
module _ {image : List ℕ} {f : Progress} {s : Course} {x : FileTable} (h : HasTable image f s x) where
  g : IsGathered image s.walk
  g = gathered image h.course

  up_is : x.head ≡ node_block s.walk x.node
  up_is = sym (head_block image g h.file.header)

  enough_is : (k : ℕ) → Tells (nat_lt 0 k || nat_le x.count x.room) (Enough image s.walk (Data x.node (k + 1)))
  enough_is k = go (nat_lt 0 k) refl (nat_le x.count x.room) refl
    where
      one_file : (b : ℕ) → FileAt image s.walk x.node b → b ≡ x.head
      one_file b file = file_one image g x.node b x.head file h.file

      go : (t : Bool) → nat_lt 0 k ≡ t → (u : Bool) → nat_le x.count x.room ≡ u
          → Tells (t || u) (Enough image s.walk (Data x.node (k + 1)))
      go true e u i = λ one. absurd (grind (arith, common_steps, nat_tests))
      go false e true i = grind (arith, common_steps, one_file, nat_tests)
      go false e false i = grind (arith, common_steps, nat_tests)

  -- that block a of the table points to
  module _ (k a : ℕ) (at : MemberAt image s.walk x.node (k / POINTERS) a) where
    -- the block that points to the next one
    begins : (u : Bool) → nat_lt (k + 1) x.room ≡ u → (k + 1) % POINTERS ≡ 0
        → cond u (word_in image a EXTENSION) 0 ≡ member_block s.walk x.node (suc (k / POINTERS))
    begins true e z =
        let room = h.room in
        let lt : k + 1 < x.room = grind (arith, nat_tests) in
        let c = ext_counted image g x.node (k / POINTERS) (omega (arith, lt, room, z)) in
        member_next h.course x.node (k / POINTERS) a c.0 at c.1 ∙ sym (member_is image g x.node (suc (k / POINTERS)) c.0 c.1)
    begins false e z = grind (arith, common_steps, nat_tests, member_none, g)

    holder_is : table_block_in image x (k + 1) a ≡ member_block s.walk x.node ((k + 1) / POINTERS)
    holder_is = grind (arith, common_steps, eqb-true, begins, eq-eqb, member_is, g)

    next_is : (next : ℕ) → next ≡ next_in image x (k + 1) a → next ≡ next_data image s.walk x.node (k + 1)
    next_is next e = grind (arith, common_steps, up_is, holder_is)

    pub data_said : (next : ℕ) (t : Bool)
        → (kind_of image ≡ Ofs → next ≡ next_in image x (k + 1) a) → t ≡ (nat_lt 0 k || nat_le x.count x.room)
        → IsTrueIn image s.walk (record { part = DataPart x.node (k + 1); context = record { up = x.head; next = next }; is_enough = t })
    data_said next t e is = record {
      context = (up_is, (λ ofs. next_is next (e ofs)));
      enough = subst (λ t. Tells t (Enough image s.walk (Data x.node (k + 1)))) (sym is) (enough_is k);
    }

-- the data blocks of a file begin with the first of its table
pub datas_begin : {image : List ℕ} {f : Progress} {n b exts count : ℕ} → HasReachedData image f n b exts
    → count ≡ data_count image b
    → HasReachedTable image f (record { node = n; head = b; count = count; room = POINTERS * (exts + 1) }) 0
datas_begin x e = grind (arith, common_steps)

-- the data blocks of a file that are gone through
module _ {image : List ℕ} {f : Progress} {x : FileTable} {k : ℕ} (at : HasReachedTable image f x k) where
  v : IsGathered image at.0.walk
  v = gathered image at.1.course

  -- behind the last data block comes the next node
  pub datas_done : ((j : ℕ) → j < x.count → j < x.room → j < k) → HasReached image f (before_node (x.node + 1))
  datas_done all = rw add-one (at.0, moved at.1 (omega arith) (end_datas image v x.node k x.head at.2.file asked at.1.up_to))
    where
      few : (j m a : ℕ) → j / POINTERS ≡ m → MemberAt image at.0.walk x.node m a → j < x.room
      few j zero a e member = let room = at.2.room in omega arith
      few j (suc m) a e member = let room = at.2.room in let y = ext_below image v x.node m a member in omega arith

      asked : (j a i : ℕ) → Asks image at.0.walk (Data x.node (suc j)) a i → j < k
      asked j a i h =
          let y : h.0.0 ≡ x.head = file_one image v x.node h.0.0 x.head h.0.1 at.2.file in
          let lt : j < x.count = subst (λ c. j < c) (sym at.2.count) (subst (λ h. j < data_count image h) y h.0.2) in
          all j lt (few j (j / POINTERS) a refl h.1)

-- the blocks of a table that are gone through
module _ {image : List ℕ} {f : Progress} {x : FileTable} where
  pub member_first : HasReachedTable image f x 0 → HasReachedMember image f x 0 x.head 0
  member_first at = record { course = at.0; holds = at.1; table = at.2; member = λ lt. at.2.file }

  module _ {m a k : ℕ} (y : HasReachedMember image f x m a k) where
    pub member_named : POINTERS * m < x.room → HasReachedNamed image f x m a k
    member_named lt = record { course = y.course; holds = y.holds; table = y.table; member = y.member lt }

    pub member_table : HasReachedTable image f x k
    member_table = (y.course, y.holds, y.table)

-- the data blocks that one block of a table points to
module _ {image : List ℕ} {f : Progress} {x : FileTable} {m a k : ℕ} (y : HasReachedNamed image f x m a k) where
  -- the next block of the table, if it has one more
  pub member_ends : HasReachedMember image f x (suc m) (word_in image a EXTENSION) k
  member_ends = record {
    course = y.course;
    holds = y.holds;
    table = y.table;
    member = λ lt.
        let room = y.table.room in
        let c = ext_counted image (gathered image y.holds.course) x.node m (omega (arith, lt, room)) in
        subst (λ c. Has y.course.walk (Ext x.node (suc m)) c) (sym (member_next y.holds.course x.node m a c.0 y.member c.1)) c.1;
  }

  pub holder_inside : a < blocks image
  holder_inside = member_inside y.holds.course x.node m a y.member

  module _ {due : Due} {next : ℕ} (from : POINTERS * m ≤ k) (to : k < end_in x (m + 1)) (is : due ≡ due_in x k next)
      (told : kind_of image ≡ Ofs → next ≡ next_in image x (k + 1) a) where
    number : m ≡ k / POINTERS
    number = omega arith

    word : table_word k ≡ FIRST_POINTER - (k - POINTERS * m)
    word = omega arith

    one : suc k ≡ k + 1
    one = omega arith

    inside : k < data_count image x.head
    inside = let count = y.table.count in omega arith

    here : MemberAt image y.course.walk x.node (k / POINTERS) a
    here = subst (λ m. MemberAt image y.course.walk x.node m a) number y.member

    pub due_named : IsNamed image f (due_in x k next) a (table_word k) y.course
    due_named = record {
      holds = subst (λ j. Holds image f (position_of (Data x.node j)) y.course) one y.holds;
      asked = subst (λ j. Asks image y.course.walk (Data x.node j) a (table_word k)) one ((x.head, y.table.file, inside), here, refl);
      said = data_said y.table k a here next (nat_lt 0 k || nat_le x.count x.room) told refl;
    }

    pub data_is_named : IsNamed image f due a (FIRST_POINTER - (k - POINTERS * m)) y.course
    data_is_named = grind (arith, common_steps, word, due_named)

  pub data_gone : {due : Due} {g : Progress} {o : Option ℕ} {i next : ℕ} → due ≡ due_in x k next
      → IsGoneOn image y.course due.part a i g o → HasReachedNamed image g x m a (k + 1)
  data_gone {due} {g} {o} {i} {next} e gone = go o (subst (λ due. IsGoneOn image y.course due.part a i g o) e gone)
    where
      go : (o : Option ℕ) → IsGoneOn image y.course (DataPart x.node (k + 1)) a i g o → HasReachedNamed image g x m a (k + 1)
      go None gone = record {
        course = _;
        holds = gone.holds;
        table = record {
          course = gone.holds.course;
          stands = gone.holds.stands;
          file = y.table.file;
          count = y.table.count;
          room = y.table.room;
        };
        member = y.member;
      }
      go (Some c) gone = record {
        course = _;
        holds = gone.holds;
        table = record {
          course = gone.holds.course;
          stands = gone.holds.stands;
          file = typed_up (Data x.node (k + 1), word_in image a i) y.table.file;
          count = y.table.count;
          room = y.table.room;
        };
        member = member_up image y.course.walk (Data x.node (k + 1), word_in image a i) x.node m a y.member;
      }
