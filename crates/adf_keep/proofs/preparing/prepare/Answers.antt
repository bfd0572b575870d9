use Rattle.std.proofs.Common.{◌∙◌, List, ap, arith, length, refl, subst}
use Rattle.adf_keep.specs.{Kept.setting_of, Rescued.ProposesClaims, declared.proposal.Proposed.Proposed}
use Rattle.adf_keep.specs.Verdicts.{AreVerdicts, Setting}
use Rattle.adf_keep.proofs.Rescues.{all_told, claims_told}
use Rattle.adf_keep.proofs.preparing.prepare.Goals as goal

pub returns-clause-kept : goal.returns-clause-kept
returns-clause-kept c =
    let g : Setting = setting_of c.args.input.now c.min.result c.terms_for-keeping.result in
    let ps : List Proposed = c.in_ok-proposal.proposal.entries.items in
    let outcome = c.in_ok-kept.ensures.kept in
    let verdicts = subst (λ (qs : List Proposed). AreVerdicts g qs outcome.0) c.deref-3.ensures.value outcome.1.verdicts in
    let cs = c.args.judgement.now.claims.items in
    let ds = c.args.judgement.now.deleted.items in
    let proposes = subst (λ xs. ProposesClaims xs ps) c.deref.ensures.value c.in_ok-proposal.ensures.claims in
    let claims = ap length c.deref.ensures.value in
    let headers = ap length c.deref-2.ensures.value in
    record {
      setting = g;
      held = c.min.result;
      image = refl;
      kind = c.terms_for-keeping.ensures.kind;
      letters = c.terms_for-keeping.ensures.letters;
      size = c.in_ok-prepared.ensures.size;
      room = c.terms_for-keeping.ensures.size;
      ps = ps;
      vs = outcome.0;
      verdicts = verdicts;
      tree = c.in_ok-prepared.ensures.tree ∙ outcome.1.tree;
      once = outcome.1.once;
      claims = proposes;
      alone = λ no. c.in_ok-proposal.ensures.alone no ∙ claims;
      told = claims_told g cs ps outcome.0 c.in_ok-kept.kept.left_out.items _ proposes verdicts
          outcome.1.left_out c.in_ok-prepared.ensures.told;
      deleted_told = λ asked. all_told g cs ds ps outcome.0 c.in_ok-kept.kept.left_out.items _
          (omega (arith, c.in_ok-proposal.ensures.deleted asked, claims, headers)) verdicts outcome.1.left_out c.in_ok-prepared.ensures.deleted;
    }
