-- A part without a cause is clean.
-- Letters: a the block that points to a part, b its block; e, r, t whether its file has enough extension blocks, and
-- its block is in range and has no owner.
use Rattle.std.proofs.Common.{Bool, true, ◌&&◌, Option, None, ◌≡◌, ℕ, List, arith}
use Rattle.std.specs.Option.{is_none}
use Rattle.std.proofs.lemmas.Grind.{common_steps}
use Rattle.adf_blocks.specs.{declared.cause.Cause.Cause, Forms.first_cause, Sizes.in_range}
use Rattle.adf_volume.specs.declared.part.Part.{Part}
use Rattle.adf_findings.specs.{declared.judge.Facts.Facts, Survey.JudgementValue.clean}
use Rattle.adf_findings.specs.Forms.{first_failing, first_of_five, form_of, judged_by, keeps}

nothing_fails : (a b : ℕ) (e r t : Bool) (form : Option Cause) → (e && (r && (t && is_none form))) ≡ true
    → first_of_five a b e r t form true ≡ None
nothing_fails a b e r t form h = grind (arith, common_steps)

pub clean_judged : (image : List ℕ) (part : Part) (a b : ℕ) (f : Facts) (t : Bool)
    → t ≡ (f.is_enough && (in_range image b && (f.is_absent && is_none (first_cause (form_of image part b f.context))))) → t ≡ true
    → clean ≡ judged_by (first_failing image part a b f true) (keeps image part b f)
clean_judged image part a b f t e h = grind (arith, common_steps, nothing_fails)
