-- The parts of a built image, as written.
use Rattle.std.proofs.Common.{◌≡◌, ℕ, suc, List, [], ◌∷◌, ◌++◌, inl, inr, ◌+◌, ◌*◌, length, refl, sym, ap, subst, arith}
use Rattle.std.proofs.lemmas.Grind.{common_steps}
use Rattle.adf_names.specs.declared.kind.Kind.{Kind}
use Rattle.adf_tree.specs.declared.entry.Body.{Body, TheVariants.Dir, TheVariants.File}
use Rattle.adf_tree.specs.{declared.entry.Entry.Entry, Tree.Tree}
use Rattle.adf_volume.specs.Lists.{In}
use Rattle.adf_blocks.specs.Sizes.{count}
use Rattle.adf_volume.proofs.DistinctBlocks.{Distinct}
use Rattle.adf_build.specs.{Plan.exts_needed, Plan.data_blocks, Plan.entry_blocks, Plan.entries_blocks, Plan.allocated, Writes.with_blocks, Writes.AreBlocks}
use Rattle.adf_build.specs.{Writes.NoneTwice, Writes.HoldsBlocks, Writes.numbers_of, Laid.body_writes, Laid.data_part, Laid.entries_writes, Laid.ext_part}
use Rattle.adf_build.proofs.{AllocatedBlocks.allocated-append, BlockWrites.with_blocks_same, Parts.free_numbers}

pub number_in : (ps : List (ℕ × List ℕ)) (q : ℕ × List ℕ) → In ps q → In (numbers_of ps) q.0
number_in [] q h = absurd h
number_in (p ∷ ps) q (inl e) = inl (ap (λ p. p.0) e)
number_in (p ∷ ps) q (inr h) = inr (number_in ps q h)

pub none_twice : (ps : List (ℕ × List ℕ)) → Distinct (numbers_of ps) → NoneTwice ps
none_twice [] d = tt
none_twice (p ∷ ps) d = ((λ q i e. d.0 (subst (λ b. In (numbers_of ps) b) (sym e) (number_in ps q i))), none_twice ps d.1)

-- an image that was laid holds what was laid
pub laid_holds : (n : ℕ) (image : List ℕ) (all ps : List (ℕ × List ℕ)) → AreBlocks n all → NoneTwice all → length image ≡ n * 512
    → ((q : ℕ × List ℕ) → In ps q → In all q) → HoldsBlocks (with_blocks image all) ps
laid_holds n image all [] a d len f = tt
laid_holds n image all (p ∷ ps) a d len f =
    grind (arith, common_steps, with_blocks_same n image all p.0 p.1 a d len (f p (inl refl)), laid_holds n image all ps a d len)

pub holds_left : (image : List ℕ) (ps qs : List (ℕ × List ℕ)) → HoldsBlocks image (ps ++ qs) → HoldsBlocks image ps
holds_left image [] qs h = tt
holds_left image (p ∷ ps) qs h = (h.0, holds_left image ps qs h.1)

pub holds_right : (image : List ℕ) (ps qs : List (ℕ × List ℕ)) → HoldsBlocks image (ps ++ qs) → HoldsBlocks image qs
holds_right image [] qs h = h
holds_right image (p ∷ ps) qs h = holds_right image ps qs h.1

-- which blocks are written
pub numbers_of-append : (ps qs : List (ℕ × List ℕ)) → numbers_of (ps ++ qs) ≡ numbers_of ps ++ numbers_of qs
numbers_of-append [] qs = refl
numbers_of-append (p ∷ ps) qs = ap (λ l. p.0 ∷ l) (numbers_of-append ps qs)

body_numbers : (n : ℕ) (kind : Kind) (k : ℕ) (body : Body)
    → numbers_of (body_writes n kind k body) ≡ allocated n (suc k) (exts_needed (data_blocks kind body) + data_blocks kind body)
unfolding exts_needed
body_numbers n kind k Dir = refl
body_numbers n kind k (File bytes) =
    let c : ℕ = count kind (length bytes) in
    let x : ℕ = exts_needed c in
    let parts = allocated-append n (suc k) x c in
    let exts = free_numbers (ext_part n k c) n (suc k) 0 x (λ i. refl) in
    let datas = free_numbers (data_part n kind k bytes) n (suc k + x) 0 c (λ i. refl) in
    let z : suc k + 0 ≡ suc k = omega arith in
    let y : suc k + x + 0 ≡ suc k + x = omega arith in
    simp (numbers_of-append) (cc)

-- the blocks of entries that are written are a run of free blocks: those of the layout
pub entries_numbers : (n : ℕ) (t : Tree) (i k : ℕ) (es : List Entry)
    → numbers_of (entries_writes n t i k es) ≡ allocated n k (entries_blocks t.kind es)
entries_numbers n t i k [] = refl
entries_numbers n t i k (e ∷ es) =
    grind (arith, common_steps, allocated-append, numbers_of-append, body_numbers, entries_numbers n t (suc i) (k + entry_blocks t.kind e) es)
