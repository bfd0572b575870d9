use Rattle.std.proofs.Common.{◌≡◌, ◌∙◌, ℕ, List, ap, arith, subst}
use Rattle.adf_volume.specs.declared.types.Types.TheVariants.{WithInternational}
use Rattle.adf_memory.specs.CheckCalls.{TellsOwners}
use Rattle.adf_uncached.specs.Uncached.{uncached}
use Rattle.adf_memory_types.specs.CachedOwners.{with_cache_roles}
use Rattle.adf_memory_types.proofs.KeptImages.{kept_told}
use Rattle.adf_memory_types.proofs.owners.owners_right.Goals as goal

pub returns-then-number-eq0 : goal.returns-then-number-eq0
returns-then-number-eq0 c = λ image read.
    let p = c.owners_of-number in
    let u = c.args.uncached.now in
    let old = c.args.roles.now in
    let plain = p.new.roles in
    let zero : p.result ≡ 0 = omega (arith, c.if-number-eq0.true) in
    let fills = subst (λ (v : List ℕ). TellsOwners WithInternational v old plain p.result) c.deref.ensures.value p.ensures in
    let (b, checked) = fills.checked in
    record {
      checked = (b, kept_told image u read b p.result checked);
      roles = λ also w fs survey.
          let is = read.kept w fs survey in
          let here = subst (λ (v : List ℕ). TellsOwners WithInternational v old plain p.result) is.bytes fills in (
            plain,
            subst (λ n. TellsOwners WithInternational (uncached image w) old plain n) zero here,
            c.put_cache_roles.ensures ∙ ap (λ (bs : List ℕ). with_cache_roles bs plain) (c.deref-then-number-eq0.ensures.value ∙ is.blocks),
          );
      unchanged = λ some. absurd (some zero);
    }

pub returns-else-number-eq0 : goal.returns-else-number-eq0
returns-else-number-eq0 c = λ image read.
    let p = c.owners_of-number in
    let u = c.args.uncached.now in
    let fills = subst (λ (v : List ℕ). TellsOwners WithInternational v c.args.roles.now p.new.roles p.result) c.deref.ensures.value p.ensures in
    let (b, checked) = fills.checked in
    record {
      checked = (b, kept_told image u read b p.result checked);
      roles = λ zero. absurd (omega (arith, c.if-number-eq0.false, zero));
      unchanged = fills.unchanged;
    }
