use Rattle.std.proofs.Common.{arith}
use Rattle.adf_partitions.proofs.Products.{below_product, parted_product}
use Rattle.adf_partitions.proofs.place.place_within.Goals as goal

pub returns-in_default : goal.returns-in_default
returns-in_default c = grind (arith, below_product, parted_product)

pub returns-then-blocks-end : goal.returns-then-blocks-end
returns-then-blocks-end c = grind (arith, below_product, parted_product)

pub overflow_mul-result : goal.overflow_mul-result
overflow_mul-result c = grind (arith, below_product, parted_product)

pub overflow_mul-result-2 : goal.overflow_mul-result-2
overflow_mul-result-2 c = grind (arith, below_product, parted_product)

pub returns : goal.returns
returns c = grind (arith, below_product, parted_product)
