-- One partition more.
use Rattle.std.proofs.Common.{◌≡◌, ◌≢◌, ℕ, List, [], ◌∷◌, ◌++◌, None, ap, sym, subst, ◌∙◌}
use Rattle.adf_base.specs.Words.{block, word}
use Rattle.adf_partitions.specs.declared.layout.TheConstants.{NEXT_PART, NO_BLOCK}
use Rattle.adf_partitions.specs.{declared.partition.Partition.Partition, declared.tables.Tables.Tables, Faults.first_failed, Partitions.partition_of}
use Rattle.adf_partitions.specs.Disks.{IsFound, part_form, IsFound.step}

-- the partition block that was named is read, its partition kept, and the next block taken from it
pub one_more : {bytes : List ℕ} {n : ℕ} {t : Tables} {ps : List Partition} {a b : ℕ} → IsFound bytes n t ps a b → b ≢ NO_BLOCK
    → first_failed (part_form bytes ps a b) ≡ None → {p : List ℕ} → p ≡ block bytes b → {q : Partition} → q ≡ partition_of n t ps b p
    → {more : List Partition} → more ≡ ps ++ q ∷ [] → {next : ℕ} → next ≡ word p NEXT_PART → IsFound bytes n t more b next
one_more {bytes} {n} {t} {ps} {a} {b} h some sound {p = p} is_block is_partition {more = more} is_more is_next =
    let e = is_more ∙ ap (λ q. ps ++ q ∷ []) (is_partition ∙ ap (partition_of n t ps b) is_block) in
    let f = is_next ∙ ap (λ p. word p NEXT_PART) is_block in
    let moved : IsFound bytes n t more b (word (block bytes b) NEXT_PART) =
    subst (λ m. IsFound bytes n t m b (word (block bytes b) NEXT_PART)) (sym e) (step h some sound) in
    subst (IsFound bytes n t more b) (sym f) moved
