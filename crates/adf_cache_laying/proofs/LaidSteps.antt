-- What holds of the first directories and entries holds of all.
-- Letters: w the walk of an image's survey; d a directory, n an entry, by their nodes; P what holds of one; i a number of entries, as it is counted.
use Rattle.std.specs.Prelude.{◌&&◌, ◌==◌, nat_le}
use Rattle.std.proofs.Common.{◌≡◌, ◌<◌, ◌≤◌, ◌∙◌, ◌+◌, ◌-◌, ℕ, Bool, true, false, List, arith, inl, inr, subst, sym}
use Rattle.std.proofs.lemmas.Bool.{and_parts, cond-false, Decides.eqb_tells, Decides.nat_tests}
use Rattle.adf_blocks.specs.declared.layout.TheConstants.{SECONDARY_TYPE, ST_DIR}
use Rattle.adf_volume.specs.{Image.root_of, Image.word_in, Walk.Walk, Walk.heads, Walk.node_block}
use Rattle.adf_findings.specs.Members.{owns}
use Rattle.adf_caches.specs.Entries.{has_entry}
use Rattle.adf_caches.specs.Caches.{is_found_directory}

-- an entry has a number from 1 on
entry_within : (w : Walk) (n : ℕ) → has_entry w n ≡ true → (1 ≤ n) × (n ≤ heads w)
entry_within w n h =
    let parts : (nat_le 1 n ≡ true) × (nat_le n (heads w) ≡ true) = and_parts _ _ h in
    (grind (arith, nat_tests), grind (arith, nat_tests))

-- what holds of the first entries, from 1 on
pub all_entries : (w : Walk) (P : ℕ → Type 0) (count i : ℕ) → count ≡ heads w → count ≤ i → ((k : ℕ) → k < i → P (k + 1))
    → (n : ℕ) → has_entry w n ≡ true → P n
all_entries w P count i is end all n h =
    let within = entry_within w n h in
    let low : 1 ≤ n = within.0 in
    let high : n ≤ heads w = within.1 in
    let same : n - 1 + 1 ≡ n = omega (arith, low) in
    subst P same (all (n - 1) (omega (arith, low, high, is, end)))

-- a directory that is found, and is not the root, is an entry
directory_entry : (image : List ℕ) (w : Walk) (d : ℕ) → (d == 0) ≡ false → is_found_directory image w d ≡ true → has_entry w d ≡ true
directory_entry image w d other found =
    let is_dir : Bool = word_in image (node_block w d) SECONDARY_TYPE == ST_DIR in
    (and_parts (has_entry w d) is_dir (sym (cond-false (d == 0) (owns w (root_of image)) (has_entry w d && is_dir) other) ∙ found)).0

-- what holds of the root and of each entry, if it is a directory that is found, holds of all that are found
pub all_directories : (image : List ℕ) (w : Walk) (Q : ℕ → Type 0) → (is_found_directory image w 0 ≡ true → Q 0)
    → ((k : ℕ) → k < heads w → is_found_directory image w (k + 1) ≡ true → Q (k + 1)) → (d : ℕ) → is_found_directory image w d ≡ true → Q d
all_directories image w Q root entries d found = elim (eqb_tells d 0) [
  | inl y ↦ subst Q (sym y.1) (root (subst (λ n. is_found_directory image w n ≡ true) y.1 found))
  | inr y ↦
      let within = entry_within w d (directory_entry image w d y.0 found) in
      let low : 1 ≤ d = within.0 in
      let high : d ≤ heads w = within.1 in
      let same : d - 1 + 1 ≡ d = omega (arith, low) in
      subst Q same (entries (d - 1) (omega (arith, low, high)) (subst (λ n. is_found_directory image w n ≡ true) (sym same) found))
]
