-- The forms of parts, and the judgement of a part by them.
-- Letters: b the block of a part, a the block that points to it; x the context of a part; f the facts about it;
-- r a role; w a walk.
use Rattle.std.specs.Prelude.{◌≡◌, ℕ, Bool, true, false, ◌&&◌, ◌||◌, cond, List, [], ◌∷◌, Option, Some, None}
use Rattle.adf_base.specs.Words.{block}
use Rattle.adf_names.specs.declared.kind.Kind.{Kind, TheVariants.Ofs, TheVariants.Ffs}
use Rattle.adf_blocks.specs.declared.cause.Cause.{Cause, TheVariants.OutOfRange, TheVariants.SameName, TheVariants.ShortFile, TheVariants.Taken}
use Rattle.adf_blocks.specs.declared.layout.TheConstants.{SIZE}
use Rattle.adf_blocks.specs.{Sizes.in_range, Forms.Clause, Forms.first_cause, DataBlock.data_form, ExtBlock.ext_form, PageBlock.page_form}
use Rattle.adf_volume.specs.{Image.held, Image.kind_of, Image.word_in, declared.part.Part.Part, Parts.role_of}
use Rattle.adf_volume.specs.Walk.{Role, Enough, IsAbsent, next_data, node_block, Walk, Role.Head, Role.Ext, Role.Data}
use Rattle.adf_findings.specs.{Demands.head_form_in, declared.forms.Context.Context, declared.judge.Facts.Facts}
use Rattle.adf_volume.specs.declared.part.Part.TheVariants.{Root as RootPart, Page as PagePart, MapExt as MapExtPart, Head as HeadPart, Ext as ExtPart}
use Rattle.adf_volume.specs.declared.part.Part.TheVariants.{Data as DataPart}
use Rattle.adf_findings.specs.declared.judge.Judgement.{Judgement, TheVariants.Clean, TheVariants.Reported, TheVariants.Skipped}
use Rattle.adf_findings.specs.Survey.{JudgementValue, is_kept, JudgementValue.clean, JudgementValue.reported, JudgementValue.skipped}

-- the form of a data block; none for FFS
abbrev pub data_clauses : Kind → ℕ → ℕ → ℕ → ℕ → List ℕ → List Clause
data_clauses Ofs h k n next b = data_form h k n next b
data_clauses Ffs h k n next b = []

-- the form of block b as the part
abbrev pub form_of : List ℕ → Part → ℕ → Context → List Clause
form_of image RootPart b x = []
form_of image (PagePart i) b x = page_form (block image b)
form_of image (MapExtPart j) b x = []
form_of image (HeadPart n p s j) b x = head_form_in image (kind_of image) b x.up s (block image b)
form_of image (ExtPart n k) b x = ext_form b x.up (block image b)
form_of image (DataPart n k) b x = data_clauses (kind_of image) x.up k (held (kind_of image) (word_in image x.up SIZE) k) x.next (block image b)

-- every clause holds, except those with slight causes
abbrev pub itself_by : Role → List Clause → Bool
itself_by r [] = true
itself_by r (c ∷ cs) = (is_kept r c.1 || c.0) && itself_by r cs

-- the cause in the form, otherwise the rest
abbrev pub of_form : ℕ → Option Cause → Option (ℕ × Cause) → Option (ℕ × Cause)
of_form b None rest = rest
of_form b (Some c) rest = Some (b, c)

-- the first cause of five tests: enough extension blocks, in range, no owner, the form, a new name
abbrev pub first_of_five : ℕ → ℕ → Bool → Bool → Bool → Option Cause → Bool → Option (ℕ × Cause)
first_of_five a b false ranges absent form new = Some (a, ShortFile)
first_of_five a b true false absent form new = Some (a, OutOfRange)
first_of_five a b true true false form new = Some (b, Taken)
first_of_five a b true true true form new = of_form b form (cond new None (Some (b, SameName)))

-- the first cause of a part whose name is new or not, and its block
abbrev pub first_failing : List ℕ → Part → ℕ → ℕ → Facts → Bool → Option (ℕ × Cause)
first_failing image part a b f new =
    first_of_five a b f.is_enough (in_range image b) f.is_absent (first_cause (form_of image part b f.context)) new

-- the part is taken, whatever slight causes it has
abbrev pub keeps : List ℕ → Part → ℕ → Facts → Bool
keeps image part b f = in_range image b && (f.is_absent && itself_by (role_of part) (form_of image part b f.context))

-- the judgement of a part with this first cause
abbrev pub judged_by : Option (ℕ × Cause) → Bool → JudgementValue
judged_by None kept = clean
judged_by (Some x) true = reported x.0 x.1
judged_by (Some x) false = skipped x.0 x.1

-- the value of a judgement in the code
abbrev pub judgement_value : Judgement → JudgementValue
judgement_value Clean = clean
judgement_value (Reported at c) = reported at c
judgement_value (Skipped at c) = skipped at c

-- the test is true if and only if the fact holds
abbrev pub Tells : Bool → Type 0 → Type 0
Tells true P = P
Tells false P = P → ⊥

-- the context of the role is this one; of what is next only OFS asks
abbrev pub IsContext : List ℕ → Walk → Role → Context → Type 0
IsContext image w (Head n p s j) x = x.up ≡ node_block w p
IsContext image w (Ext n k) x = x.up ≡ node_block w n
IsContext image w (Data n k) x = (x.up ≡ node_block w n) × (kind_of image ≡ Ofs → x.next ≡ next_data image w n k)
IsContext image w _ x = Unit {0}

-- the facts about a part are true
pub record Knows (image : List ℕ) (w : Walk) (part : Part) (b : ℕ) (f : Facts) : Type 0 where
  pub enough : Tells f.is_enough (Enough image w (role_of part))
  pub absent : in_range image b ≡ true → Tells f.is_absent (IsAbsent w b)
  pub context : IsContext image w (role_of part) f.context
