use Rattle.std.proofs.Common.{◌≡◌, ◌∙◌, ℕ, List, length, ap, arith}
use Rattle.std.proofs.lemmas.Grind.{common_steps}
use Rattle.adf_volume.specs.Counts.{counts_of}
use Rattle.adf_check.specs.Store.{store_value}
use Rattle.adf_check.proofs.{StoreStands.stands_as, VolumeCounts.counts_are}
use Rattle.adf_check.proofs.checked.Checked.counts.Goals as goal

pub overflow_sub-result-3 : goal.overflow_sub-result-3
overflow_sub-result-3 c = grind (arith, common_steps)

pub returns-clause-exact : goal.returns-clause-exact
returns-clause-exact c = λ letters t l fits.
    let all : c.len.result ≡ length c.self.inside.store.headers.items = omega (arith, c.len.ensures) in
    counts_are c.self.inside.image (store_value c.self.inside.store) t.letters t l c.kind.result c.blocks-blocks.result c.used-used.result
    c.self.inside.store.dirs c.len.result (stands_as c.self.invariant.tells c.self.view_is fits) c.kind.ensures.kind c.blocks-blocks.ensures.blocks
    c.used-used.ensures.used c.self.invariant.tells.read.tells.dirs all
    ∙ ap (λ (i : List ℕ). counts_of i t l) c.self.view_is
