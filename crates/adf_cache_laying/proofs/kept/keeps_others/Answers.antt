use Rattle.std.specs.Prelude.{Some}
use Rattle.std.proofs.Common.{◌≡◌, ℕ, arith, below_more, false}
use Rattle.adf_base.specs.Words.{block}
use Rattle.adf_findings.specs.Members.{owning_entry}
use Rattle.adf_caches.specs.Caches.{is_found_directory}
use Rattle.adf_cache_laying.proofs.kept.keeps_others.Goals as goal

pub loop-b-preserved : goal.loop-b-preserved
loop-b-preserved c = λ w fs s k n lt.
    let volume = c.args.found.now.image in
    below_more (λ b. (m : ℕ) → owning_entry w b ≡ Some m → is_found_directory volume w m ≡ false → block c.args.image.now b ≡ block volume b)
    c.loop-b.b (λ b below m. c.loop-b.invariant w fs s b m below) (c.keeps_block.ensures w fs s c.if-not-keeps_block.false) k lt n

pub returns : goal.returns
returns c = λ w fs s yes b n lt. c.loop-b.invariant w fs s b n (omega (arith, lt, c.loop-b-test.false))
