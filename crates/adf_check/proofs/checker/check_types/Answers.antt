use Rattle.std.proofs.Common.{◌≤◌, ◌≢◌, inr, subst, arith}
use Rattle.std.specs.Prelude.{IfErr}
use Rattle.std.proofs.lemmas.Bool.Decides.{nat_tests}
use Rattle.adf_blocks.specs.{Sizes.blocks, declared.cause.Cause.TheVariants.NoMemory}
use Rattle.adf_volume.specs.{Types.letters_for, Types.most_blocks, Walk.FirstFaultBy, Walk.FirstFaultOf}
use Rattle.adf_check.proofs.ClaimSteps.{if_err}
use Rattle.adf_check.proofs.checker.check_types.Goals as goal

pub returns-clause-first : goal.returns-clause-first
returns-clause-first c =
    let image = c.args.image.now in
    let types = c.args.types in
    let few : blocks image ≤ most_blocks types = grind (arith, nat_tests, c.is_too_large.ensures, c.if-is_too_large.false) in
    if_err c.check_by.result (λ f. f.cause ≢ NoMemory → FirstFaultBy (letters_for types image) image f.block f.cause)
    (λ f. f.cause ≢ NoMemory → FirstFaultOf types image f.block f.cause)
    (subst (λ l. IfErr c.check_by.result (λ f. f.cause ≢ NoMemory → FirstFaultBy l image f.block f.cause)) c.letters_for.ensures c.check_by.ensures.first)
    (λ f first other. inr (few, first other))
