-- The judgement of a part that is next, by what is found of it and by its name.
use Rattle.std.proofs.Common.{Bool, cond, not, true, ◌≡◌, ℕ, List, sym, subst, ap, ◌∙◌}
use Rattle.adf_blocks.specs.{declared.cause.Cause.TheVariants.SameName, Forms.first_cause, Sizes.in_range}
use Rattle.adf_volume.specs.{Positions.position_of, Walk.Walk, declared.part.Part.Part, Parts.role_of}
use Rattle.adf_findings.specs.{Demands.demands_in, declared.course.Reference.Reference, declared.judge.Facts.Facts, declared.judge.Judgement.Judgement}
use Rattle.adf_findings.specs.{declared.progress.Progress.Progress, Found.AreNamed, Found.HasValidName, Found.IsChain, Found.is_owned, Found.new_in}
use Rattle.adf_findings.specs.Survey.{Course, Judged, JudgementValue, JudgementValue.clean, JudgementValue.reported}
use Rattle.adf_findings.specs.Forms.{first_failing, form_of, itself_by, judged_by, judgement_value, keeps}
use Rattle.adf_findings.specs.Courses.{Holds, IsJudged, IsNamed, IsNextReference, role_asked}
use Rattle.adf_findings.proofs.{CourseSteps.known, CourseSteps.known_chain, CourseSteps.known_named, Known.new_is}
use Rattle.adf_findings.proofs.JudgementTests.{itself_whole, judged, name_cause, no_cause, other_cause, valid_name}

module _ (image : List ℕ) (f : Progress) (x : Reference) (part : Part) (facts : Facts) where
  -- the judgement by all but the name, and by a name that is new or not
  abbrev by_name : Bool → JudgementValue
  by_name new = judged_by (first_failing image part x.holder x.block facts new) (keeps image part x.block facts)

  module _ (enough : facts.is_enough ≡ x.due.is_enough) (absent : facts.is_absent ≡ not (is_owned f.found x.block))
      (context : facts.context ≡ x.due.context) where
    judged_in : (s : Course) → Holds image f (position_of (role_of x.due.part)) s → IsNextReference image s x → role_of part ≡ role_asked s x.due.part
        → Judged (role_of part) (demands_in image s.walk (role_of part) x.holder x.block) (by_name (new_in image s.walk part x.block))
    judged_in s h (i, next, word, said) is =
        judged image s.walk part x.holder x.block facts (new_in image s.walk part x.block)
        (known (record { holds = h; asked = next.asked; said = said }) facts is enough absent context) (new_is image f.found s h.stands part x.block)

    -- another cause than that of the name
    pub judged_else : (j : Judgement) → judgement_value j ≡ by_name true → (judgement_value j ≡ clean → ⊥) → IsJudged image f x part j
    judged_else j e some = λ s h n is.
        let form = form_of image part x.block facts.context in
        subst (Judged (role_of part) (demands_in image s.walk (role_of part) x.holder x.block))
        (other_cause x.holder x.block facts.is_enough (in_range image x.block) facts.is_absent (new_in image s.walk part x.block)
        (keeps image part x.block facts) (first_cause form) (judgement_value j) (sym e) some)
        (judged_in s h n is)

    -- no other cause
    pub judged_named : (new : Bool) → clean ≡ by_name true
        → ((w : Walk) → AreNamed image w (position_of (role_of part)) f.found.names → IsChain w part → HasValidName image part x.block
        → new ≡ new_in image w part x.block)
        → (j : Judgement) → cond new clean (reported x.block SameName) ≡ judgement_value j → IsJudged image f x part j
    judged_named new e tells j is_j = λ s h n is.
        let (i, next, word, said) = n in
        let form = form_of image part x.block facts.context in
        let named : IsNamed image f x.due x.holder i s = record { holds = h; asked = next.asked; said = said } in
        let valid = valid_name image part x.block facts.context
        (no_cause x.holder x.block facts.is_enough (in_range image x.block) facts.is_absent (keeps image part x.block facts)
        (first_cause form) (sym e)) in
        let now = tells s.walk (known_named named part is) (known_chain named part is) valid in
        subst (Judged (role_of part) (demands_in image s.walk (role_of part) x.holder x.block))
        (name_cause x.holder x.block facts.is_enough (in_range image x.block) facts.is_absent (itself_by (role_of part) form)
        (new_in image s.walk part x.block) (first_cause form) (itself_whole (role_of part) form) (sym e)
        ∙ (ap (λ t. cond t clean (reported x.block SameName)) (sym now) ∙ is_j))
        (judged_in s h n is)
