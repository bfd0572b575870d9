-- The state of a survey along its course.
-- Letters: s a course, w its walk; f, g the progress of a survey; k a position; a, i the block and the word that point to a part;
-- b a block; n, p nodes; y a part that is due; x a reference, or the table of a file; m the number of a block in it; j a judgement.
use Rattle.std.specs.Prelude.{◌≡◌, ◌≤◌, ◌<◌, ◌+◌, ◌*◌, ◌%◌, ◌==◌, ◌||◌, ℕ, true, false, cond, nat_le, nat_lt, min, map, List, ◌∷◌, Option, Some, None, IfSome}
use Rattle.std.proofs.Common.{suc}
use Rattle.adf_blocks.specs.{declared.layout.TheConstants.EXTENSION, declared.layout.TheConstants.POINTERS, Sizes.blocks}
use Rattle.adf_volume.specs.{Image.table_word, Image.word_in, Walk.Role.Page, Walk.Role.Head, Walk.Role.Ext, Walk.Role.Data, Parts.renumbered, Parts.role_of}
use Rattle.adf_volume.specs.Positions.{Position, IsLink, IsPageHolder, IsUpTo, before_node, before_page, behind, position_of, word_of_page}
use Rattle.adf_volume.specs.Walk.{Role, Asks, DirAt, Enough, FileAt, MemberAt, NamesPage, data_count, ext_count, heads, Walk}
use Rattle.adf_volume.specs.declared.part.Part.{Part, TheVariants.Data as DataPart}
use Rattle.adf_findings.specs.{declared.course.Due.Due, declared.course.FileTable.FileTable, declared.course.Reference.Reference}
use Rattle.adf_findings.specs.{declared.progress.Progress.Progress, declared.judge.Judgement.Judgement, declared.judge.Judgement.TheVariants.Skipped}
use Rattle.adf_findings.specs.{Demands.demands_in, Forms.IsContext, Forms.Tells, Forms.judgement_value, Survey.Course, Survey.FindingValue, Survey.IsCourse}
use Rattle.adf_findings.specs.{Survey.IsNext, Survey.Judged, Parts.finding_value, Found.AreNamed, Found.KeepsName, Found.Stands, Members.owns}
use Rattle.adf_tree.specs.NameSet.{Names}

-- the findings noted
abbrev pub noted : Progress → List FindingValue
noted f = map finding_value f.findings.items

-- the progress is that of a course that has reached a position
pub record Holds (image : List ℕ) (f : Progress) (k : Position) (s : Course) : Type 0 where
  pub told : s.findings ≡ noted f
  pub course : IsCourse image s
  pub stands : Stands image f.found s
  pub up_to : IsUpTo image s.walk s.skipped k
  pub names : AreNamed image s.walk k f.found.names
  pub small : blocks image ≤ 8388608

-- some course has reached a position
abbrev pub HasReached : List ℕ → Progress → Position → Type 0
HasReached image f k = (s : Course) × Holds image f k s

-- the role asked for, with its number
abbrev pub role_asked : Course → Part → Role
role_asked s part = renumbered (suc (heads s.walk)) (role_of part)

-- what is said of a part that is due is so: its context, and whether its file has enough extension blocks
pub record IsTrueIn (image : List ℕ) (w : Walk) (y : Due) : Type 0 where
  pub context : IsContext image w (role_of y.part) y.context
  pub enough : Tells y.is_enough (Enough image w (role_of y.part))

-- a part with this block as its context, of which nothing more is asked
abbrev pub due_below : Part → ℕ → Due
due_below part up = record { part = part; context = record { up = up; next = 0 }; is_enough = true }

-- a course has reached a part that word i of block a points to
pub record IsNamed (image : List ℕ) (f : Progress) (y : Due) (a i : ℕ) (s : Course) : Type 0 where
  pub holds : Holds image f (position_of (role_of y.part)) s
  pub asked : Asks image s.walk (role_asked s y.part) a i
  pub said : IsTrueIn image s.walk y

-- a part that word i of block a points to is next
abbrev pub HasReachedPart : List ℕ → Progress → Due → ℕ → ℕ → Type 0
HasReachedPart image f y a i = (s : Course) × IsNamed image f y a i s

-- the reference is next in the course
abbrev pub IsNextReference : List ℕ → Course → Reference → Type 0
IsNextReference image s x =
    (i : ℕ) × IsNext image s (role_asked s x.due.part) x.holder i × (word_in image x.holder i ≡ x.block) × IsTrueIn image s.walk x.due

-- the judgement is that of the part, in any course in which it is next
abbrev pub IsJudged : List ℕ → Progress → Reference → Part → Judgement → Type 0
IsJudged image f x part j =
    (s : Course) → Holds image f (position_of (role_of x.due.part)) s → IsNextReference image s x → role_of part ≡ role_asked s x.due.part
    → Judged (role_of part) (demands_in image s.walk (role_of part) x.holder x.block) (judgement_value j)

-- the name of a part that is not skipped is kept
abbrev pub KeepsNameBy : List ℕ → Part → ℕ → Judgement → Names → Names → Type 0
KeepsNameBy image part b (Skipped at c) old new = new ≡ old
KeepsNameBy image part b _ old new = KeepsName image part b old new

-- the course after a role at block b is taken or skipped, with the findings noted
abbrev pub course_on : Course → Role → ℕ → Option ℕ → Progress → Course
course_on s r b None g = record { walk = s.walk; skipped = (r, b) ∷ s.skipped; findings = noted g }
course_on s r b (Some c) g = record { walk = (r, b) ∷ s.walk; skipped = s.skipped; findings = noted g }

-- the part is skipped
pub record IsSkipped (image : List ℕ) (s : Course) (x : Reference) (f g : Progress) : Type 0 where
  pub course : IsCourse image (course_on s (role_asked s x.due.part) x.block None g)
  pub stands : Stands image g.found (course_on s (role_asked s x.due.part) x.block None g)
  pub left : g.found.left ≡ f.found.left
  pub names : g.found.names ≡ f.found.names

-- the part is to be taken
pub record IsToTake (image : List ℕ) (s : Course) (x : Reference) (f g : Progress) (part : Part) : Type 0 where
  pub role : role_of part ≡ role_asked s x.due.part
  pub past_boot : 2 ≤ x.block
  pub inside : x.block < blocks image
  pub free : owns s.walk x.block ≡ false
  pub course : IsCourse image (course_on s (role_asked s x.due.part) x.block (Some x.block) g)
  pub stands : Stands image g.found (record { walk = s.walk; skipped = s.skipped; findings = noted g })
  pub left : g.found.left ≡ f.found.left
  pub names : KeepsName image part x.block f.found.names g.found.names

-- the part is skipped or to be taken
abbrev pub IsOutcome : List ℕ → Course → Reference → Progress → Progress → Option Part → Type 0
IsOutcome image s x f g None = IsSkipped image s x f g
IsOutcome image s x f g (Some part) = IsToTake image s x f g part

-- a course continues after a part that word i of block a points to
pub record IsGoneOn (image : List ℕ) (s : Course) (part : Part) (a i : ℕ) (g : Progress) (o : Option ℕ) : Type 0 where
  pub holds : Holds image g (behind (role_of part)) (course_on s (role_asked s part) (word_in image a i) o g)
  pub block : IfSome o (λ b. b ≡ word_in image a i)

-- a course has reached a page, or the bitmap extension block before it; block a points to the page before
abbrev pub HasReachedPage : List ℕ → Progress → ℕ → ℕ → Type 0
HasReachedPage image f page a = (s : Course) × Holds image f (before_page page) s × IsPageHolder image s.walk page a

-- a course has reached a page that block a points to, or the nodes if no block does
abbrev pub IsPageNamed : List ℕ → Progress → ℕ → Option ℕ → Type 0
IsPageNamed image f page None = HasReached image f (before_node 0)
IsPageNamed image f page (Some a) = (s : Course) × Holds image f (position_of (Page page)) s × NamesPage image s.walk page a (word_of_page page)

-- a course has reached a slot of a directory at block b
abbrev pub HasReachedSlot : List ℕ → Progress → ℕ → ℕ → ℕ → Type 0
HasReachedSlot image f p slot b = (s : Course) × Holds image f (position_of (Head 0 p slot 0)) s × DirAt image s.walk p b

-- a course has reached a position of a chain, at word i of block a, in a directory at block b
pub record HasReachedHeader (image : List ℕ) (f : Progress) (p slot place a i b : ℕ) : Type 0 where
  pub course : Course
  pub holds : Holds image f (position_of (Head 0 p slot place)) course
  pub dir : DirAt image course.walk p b
  pub link : IsLink image course.walk p slot place a i

-- a course has reached a file with its header at block b
abbrev pub HasReachedFile : List ℕ → Progress → ℕ → ℕ → Type 0
HasReachedFile image f n b = (s : Course) × Holds image f (before_node n) s × FileAt image s.walk n b

-- a course has reached the extension block after block m of the table, at block a, of a file with header b
pub record HasReachedExt (image : List ℕ) (f : Progress) (n b m a : ℕ) : Type 0 where
  pub course : Course
  pub holds : Holds image f (position_of (Ext n (suc m))) course
  pub file : FileAt image course.walk n b
  pub member : MemberAt image course.walk n m a
  pub count : ext_count course.walk n ≡ m

-- a course has reached the data blocks of a file with header b and this many extension blocks
pub record HasReachedData (image : List ℕ) (f : Progress) (n b exts : ℕ) : Type 0 where
  pub course : Course
  pub holds : Holds image f (position_of (Data n 1)) course
  pub file : FileAt image course.walk n b
  pub count : ext_count course.walk n ≡ exts

-- in a course, x is the table of a file
pub record HasTable (image : List ℕ) (f : Progress) (s : Course) (x : FileTable) : Type 0 where
  pub course : IsCourse image s
  pub stands : Stands image f.found s
  pub file : FileAt image s.walk x.node x.head
  pub count : x.count ≡ data_count image x.head
  pub room : x.room ≡ POINTERS * suc (ext_count s.walk x.node)

-- how many data blocks the first m blocks of a table point to
abbrev pub end_in : FileTable → ℕ → ℕ
end_in x m = min (min x.count x.room) (POINTERS * m)

-- the block of the table that points to data block k + 1, where block a points to data block k; 0 if there is no such block
abbrev pub table_block_in : List ℕ → FileTable → ℕ → ℕ → ℕ
table_block_in image x k a = cond (k % POINTERS == 0) (cond (nat_lt k x.room) (word_in image a EXTENSION) 0) a

-- the pointer to data block k + 1, where block a points to data block k; 0 past the last
abbrev pub next_in : List ℕ → FileTable → ℕ → ℕ → ℕ
next_in image x k a = cond (nat_lt k x.count) (word_in image (table_block_in image x k a) (table_word k)) 0

-- data block k + 1 of a file, with the block that comes next
abbrev pub due_in : FileTable → ℕ → ℕ → Due
due_in x k next = record {
  part = DataPart x.node (k + 1);
  context = record { up = x.head; next = next };
  is_enough = nat_lt 0 k || nat_le x.count x.room;
}

-- a course has reached a data block, after `done` others, of a file with this table
abbrev pub HasReachedTable : List ℕ → Progress → FileTable → ℕ → Type 0
HasReachedTable image f x done = (s : Course) × Holds image f (position_of (Data x.node (suc done))) s × HasTable image f s x

-- a course has reached a data block, after `done` others, of a file with this table; block a is number m of the table
pub record HasReachedNamed (image : List ℕ) (f : Progress) (x : FileTable) (m a done : ℕ) : Type 0 where
  pub course : Course
  pub holds : Holds image f (position_of (Data x.node (suc done))) course
  pub table : HasTable image f course x
  pub member : MemberAt image course.walk x.node m a

-- a course has reached a data block, after `done` others, of a file with this table; block a is number m of the table, if it has so many
pub record HasReachedMember (image : List ℕ) (f : Progress) (x : FileTable) (m a done : ℕ) : Type 0 where
  pub course : Course
  pub holds : Holds image f (position_of (Data x.node (suc done))) course
  pub table : HasTable image f course x
  pub member : POINTERS * m < x.room → MemberAt image course.walk x.node m a
