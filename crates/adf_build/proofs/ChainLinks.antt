-- Chains with correct pointers to the next member are spelled.
use Rattle.std.proofs.Common.{◌≡◌, ℕ, suc, List, [], ◌∷◌, refl, map, arith}
use Rattle.std.proofs.lemmas.Grind.{common_steps}
use Rattle.adf_base.specs.{Hash.slot_by, declared.hash.Letters.Letters}
use Rattle.adf_tree.specs.declared.entry.Entry.{Entry}
use Rattle.adf_volume.specs.{Lists.Spelled, Layout.nodes_from_by}
use Rattle.adf_build.specs.Laid.{first_block}
use Rattle.adf_volume.proofs.Comparisons.{both_equal}

-- what a link word of each member must be, so that the chain is spelled; names have these letters
abbrev pub LinksBy : Letters → (ℕ → ℕ) → (ℕ → ℕ) → ℕ → List Entry → Type 0
LinksBy letters link at n [] = Unit {0}
LinksBy letters link at n (e ∷ es) =
    (link (at n) ≡ first_block at (nodes_from_by letters (suc n) es e.parent (slot_by letters e.name))) × LinksBy letters link at (suc n) es

-- each chain is spelled
pub spelled_chain : (letters : Letters) (link at : ℕ → ℕ) (n : ℕ) (es : List Entry) (p s : ℕ) → LinksBy letters link at n es
    → Spelled link (first_block at (nodes_from_by letters n es p s)) (map at (nodes_from_by letters n es p s))
spelled_chain letters link at n [] p s h = refl
spelled_chain letters link at n (e ∷ es) p s h = grind (arith, common_steps, both_equal, spelled_chain letters link at (suc n) es p s h.1)
