use Rattle.std.proofs.Common.{◌≡◌, take, fold}
use Rattle.adf_memory_types.specs.CachedOwners.{with_cache_role}
use Rattle.adf_memory_types.proofs.owners.put_cache_roles.Given as goal

abbrev pub invariant-loop-b : goal.invariant-loop-b
invariant-loop-b l = l.roles ≡ fold with_cache_role l.initial.roles (take l.b-index l.blocks)
