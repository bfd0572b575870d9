use Rattle.std.proofs.Common.{◌≡◌, true, arith, rules}
use Rattle.std.proofs.lemmas.Grind.{common_steps}
use Rattle.adf_volume.proofs.OwnerTables.{claim_kept}
use Rattle.adf_volume.proofs.owner_table.OwnerTable.claim.Goals as goal

pub invariant_of-self : goal.invariant_of-self
invariant_of-self c =
    let free : c.is_free.result ≡ true = search rules in
    (claim_kept c.self.inside.owners.items c.of.result c.of.ensures c.self.view_is c.self.invariant c.requires.from c.requires.below c.requires.part
    c.index.ensures (c.is_free.ensures.0 free)).table

pub returns : goal.returns
returns c =
    let free : c.is_free.result ≡ true = search rules in
    let kept = claim_kept c.self.inside.owners.items c.of.result c.of.ensures c.self.view_is c.self.invariant c.requires.from c.requires.below
    c.requires.part c.index.ensures (c.is_free.ensures.0 free) in
    record {
      free = grind (arith, common_steps);
      ok = kept.view;
      taken = search rules;
      unchanged = search rules;
      count = kept.count;
      bound = kept.bound;
    }

pub index-requires : goal.index-requires
index-requires c = grind (arith, common_steps)

pub returns-then-not-is_free-clause-free : goal.returns-then-not-is_free-clause-free
returns-then-not-is_free-clause-free c = grind (arith, common_steps)

pub returns-then-not-is_free-clause-bound : goal.returns-then-not-is_free-clause-bound
returns-then-not-is_free-clause-bound c = grind (arith, common_steps)

pub index_mut-requires : goal.index_mut-requires
index_mut-requires c = grind (arith, common_steps)

pub overflow_add-self : goal.overflow_add-self
overflow_add-self c = grind (arith, common_steps)
