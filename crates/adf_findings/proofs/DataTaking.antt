-- The data blocks of an FFS file that are taken as they are.
-- Letters: x the table of the file; k the number of the data block, b its block; a, m the block of the table that points to it,
-- and its number; f the progress of a survey.
use Rattle.std.specs.Prelude.{Bool, true, not, nat_le, nat_lt, ◌&&◌, ◌||◌}
use Rattle.std.proofs.Common.{◌≡◌, ℕ, List, ◌+◌, ◌-◌, ◌*◌, ◌<◌, ◌≤◌, length, refl, sym, subst, ◌∙◌, arith}
use Rattle.std.proofs.{lemmas.Bool.and_parts, lemmas.Bool.le-leb, lemmas.Bool.lt-ltb, lemmas.Grind.common_steps}
use Rattle.adf_names.specs.declared.kind.Kind.{Kind, TheVariants.Ofs, TheVariants.Ffs}
use Rattle.adf_blocks.specs.{Forms.first_cause, Sizes.in_range, declared.layout.TheConstants.FIRST_POINTER, declared.layout.TheConstants.POINTERS}
use Rattle.adf_volume.specs.{declared.owner.Owner.TheVariants.Free, Image.kind_of, Image.word_in}
use Rattle.adf_volume.specs.Owners.{owner_at}
use Rattle.adf_volume.specs.declared.part.Part.{Part, TheVariants.Data as DataPart}
use Rattle.adf_findings.specs.{declared.course.FileTable.FileTable, declared.course.Reference.Reference, declared.found.Found.Found}
use Rattle.adf_findings.specs.{declared.progress.Progress.Progress, declared.judge.Facts.Facts, declared.judge.Judgement.TheVariants.Clean}
use Rattle.adf_findings.specs.{Survey.JudgementValue.clean, Courses.HasReachedNamed, Courses.IsNamed, Courses.IsToTake, Courses.due_in, Courses.end_in}
use Rattle.adf_findings.specs.{Forms.data_clauses, Forms.first_of_five, Forms.judged_by, Found.IsNextPart, Found.IsTaken, Found.is_owned}
use Rattle.adf_findings.proofs.{CoursePlaces.data_gone, CoursePlaces.data_is_named, Judgements.judged_named, Outcomes.clean_outcome}
use Rattle.adf_findings.proofs.CourseSteps.{is_next, taken_next, taken_on}

-- nothing is asked of the form of an FFS data block
no_cause : {kind : Kind} {e r t : Bool} (a b h k n next : ℕ) (bytes : List ℕ) (kept : Bool) → kind ≡ Ffs → e ≡ true → r ≡ true → t ≡ true
    → clean ≡ judged_by (first_of_five a b e r t (first_cause (data_clauses kind h k n next bytes)) true) kept
no_cause a b h k n next bytes kept is enough ranges absent = grind (arith, common_steps)

module _ {image : List ℕ} {f : Progress} {x : FileTable} {m a k b : ℕ} (y : HasReachedNamed image f x m a k)
    (ffs : kind_of image ≡ Ffs) (from : POINTERS * m ≤ k) (to : k < end_in x (m + 1)) (named : b ≡ word_in image a (FIRST_POINTER - (k - POINTERS * m)))
    (whole : x.count ≤ x.room) (lo : 2 ≤ b) (hi : b < length f.found.owners.owners) (free : owner_at f.found.owners.owners b ≡ Free) where
  tests : ((nat_lt 0 k || nat_le x.count x.room) && (in_range image b && not (is_owned f.found b))) ≡ true
  tests = grind (arith, common_steps, le-leb, lt-ltb)

  abbrev i : ℕ
  i = FIRST_POINTER - (k - POINTERS * m)

  abbrev c : ℕ
  c = word_in image a i

  abbrev part : Part
  part = DataPart x.node (k + 1)

  is_named : IsNamed image f (due_in x k 0) a i y.course
  is_named = data_is_named y from to refl (λ ofs. absurd (let e : Ffs ≡ Ofs = sym ffs ∙ ofs in cc))

  abbrev facts : Facts
  facts = record {
    is_enough = nat_lt 0 k || nat_le x.count x.room;
    is_absent = not (is_owned f.found c);
    context = record { up = x.head; next = 0 };
  }

  abbrev reference : Reference
  reference = record { due = due_in x k 0; holder = a; block = c }

  parts : ((nat_lt 0 k || nat_le x.count x.room) ≡ true) × (in_range image c ≡ true) × (not (is_owned f.found c) ≡ true)
  parts = grind (arith, common_steps, tests, and_parts)

  to_take : IsToTake image y.course reference f f part
  to_take =
      let told = judged_named image f reference part facts refl refl refl true (no_cause _ _ _ _ _ _ _ _ ffs parts.0 parts.1 parts.2)
      (λ w names chain valid. refl) Clean refl in
      let next = is_next is_named in
      clean_outcome reference y.holds.course y.holds.stands y.holds.told next part refl Clean (told y.course is_named.holds next refl) refl refl refl

  pub data_next : IsNextPart part b f.found
  data_next = subst (λ b. IsNextPart part b f.found) (sym named) (taken_next is_named to_take)

  pub data_taken : {g : Found} → IsTaken part b f.found g → HasReachedNamed image (record { found = g; findings = f.findings }) x m a (k + 1)
  data_taken {g} t = data_gone y {next = 0} refl (taken_on is_named to_take (subst (λ b. IsTaken part b f.found g) named t))
