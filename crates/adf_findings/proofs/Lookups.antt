-- Look-up of paths among the entries found, and which of these are files.
use Rattle.std.proofs.Common.{Bool, true, ◌↔◌, drop, get_or, ◌≡◌, ℕ, zero, suc, List, ◌∷◌, ◌+◌, ◌==◌, length, ◌<◌, ◌≤◌, sym, ap, subst, ◌∙◌, arith}
use Rattle.std.proofs.{Math.Seq.drop-cons, lemmas.Bool.eqb-true, lemmas.Bool.eq-eqb, lemmas.Slice.Eq.bytes_eq-Decides, lemmas.Grind.common_steps}
use Rattle.std.specs.Str.{bytes_eq}
use Rattle.adf_volume.specs.{Image.name_of, Image.word_in, Walk.FileAt, Walk.Has, Walk.HeadAt, Walk.heads, Walk.node_block, Walk.Walk, Walk.Role.Head}
use Rattle.adf_blocks.specs.declared.layout.TheConstants.{SECONDARY_TYPE, ST_FILE}
use Rattle.adf_volume.proofs.{Gathered.head_block, Gathered.number_of, Gathered.parent_below, Gathered.node_there, Roles.head_at}
use Rattle.adf_findings.specs.{Demands.uppers_in, Lookup.IsNamedChild, Lookup.IsFirstChild, Lookup.LeadsTo}
use Rattle.adf_findings.specs.Survey.{FindingValue, IsSurvey, IsSurvey.read, IsSurvey.unread}
use Rattle.adf_findings.proofs.OneSurvey.{gathered}

-- the number of an entry is greater than its directory's, and at most the count
pub child_between : (image : List ℕ) (w : Walk) (fs : List FindingValue) → IsSurvey image w fs → (p n : ℕ) (name : List ℕ)
    → IsNamedChild image w p name n → (p < n) × (n ≤ heads w)
child_between image w fs (unread f) p n name (s, j, b, has, same) = absurd has
child_between image w fs (read v d t) p n name (s, j, b, has, same) =
    let h : HeadAt w n b = head_at n p s j b has in (parent_below image (gathered image v) h, (number_of image (gathered image v) h).1)

-- the header of an entry, by its number
pub header_at : (image : List ℕ) (w : Walk) (fs : List FindingValue) → IsSurvey image w fs → (n : ℕ) → 1 ≤ n → n ≤ heads w
    → HeadAt w n (node_block w n)
header_at image w fs (unread f) n lo hi = absurd (omega arith)
header_at image w fs (read v d t) zero lo hi = absurd (omega arith)
header_at image w fs (read v d t) (suc n) lo hi = node_there image (gathered image v) (suc n) hi

header_one : (image : List ℕ) (w : Walk) (fs : List FindingValue) → IsSurvey image w fs → (n p s j b : ℕ) → Has w (Head n p s j) b
    → node_block w n ≡ b
header_one image w fs (unread f) n p s j b g = absurd g
header_one image w fs (read v d t) n p s j b g = head_block image (gathered image v) (head_at n p s j b g)

-- the number of an entry that is found
pub file_between : (image : List ℕ) (w : Walk) (fs : List FindingValue) → IsSurvey image w fs → (n h : ℕ) → FileAt image w n h
    → (1 ≤ n) × (n ≤ heads w)
file_between image w fs (unread f) n h at = absurd at.header.has
file_between image w fs (read v d t) n h at = number_of image (gathered image v) at.header

-- an entry is a file where its header says so
pub file_told : (image : List ℕ) (w : Walk) (fs : List FindingValue) → IsSurvey image w fs → (n : ℕ) (t : Bool) → 1 ≤ n → n ≤ heads w
    → t ≡ (word_in image (node_block w n) SECONDARY_TYPE == ST_FILE) → (t ≡ true) ↔ ((h : ℕ) × FileAt image w n h)
file_told image w fs survey n t lo hi e = grind (arith, common_steps, header_one, header_at, eqb-true, eq-eqb)

-- an entry of the directory is a child by its name
pub child_told : (image : List ℕ) (w : Walk) (fs : List FindingValue) → IsSurvey image w fs → (p n : ℕ) (name text : List ℕ)
    (t : Bool) (up : ℕ) → 1 ≤ n → n ≤ heads w → ((q s j b : ℕ) → Has w (Head n q s j) b → up ≡ q) → up ≡ p → text ≡ name_of image (node_block w n)
    → t ≡ bytes_eq (uppers_in image text) (uppers_in image name) → (t ≡ true) ↔ IsNamedChild image w p name n
child_told image w fs h p n name text t up lo hi parent same is_text is_t =
    let x = header_at image w fs h n lo hi in
    let e : x.parent ≡ p = sym (parent x.parent x.slot x.place (node_block w n) x.has) ∙ same in
    let has : Has w (Head n p x.slot x.place) (node_block w n) = subst (λ p. Has w (Head n p x.slot x.place) (node_block w n)) e x.has in
    let decides = bytes_eq-Decides (uppers_in image text) (uppers_in image name) in (
      (λ y. (x.slot, x.place, node_block w n, has, ap (uppers_in image) (sym is_text) ∙ decides.0 (sym is_t ∙ y))),
      (λ k. is_t ∙ decides.1 (ap (uppers_in image) (is_text ∙ ap (name_of image) (header_one image w fs h n p k.0 k.1 k.2 k.3)) ∙ k.4)),
    )

module _ (image : List ℕ) (w : Walk) where
  -- there is one first child
  pub one_first : (p : ℕ) (name : List ℕ) (n m : ℕ) → IsFirstChild image w p name n → IsFirstChild image w p name m → n ≡ m
  one_first p name n m x y =
      let low : n < m → ⊥ = (λ u. y.1 n u x.0) in
      let high : m < n → ⊥ = (λ u. x.1 m u y.0) in
      omega arith

  -- names lead where those after the first lead from the first child
  pub leads_on : (p m n : ℕ) (name : List ℕ) (names : List (List ℕ)) → IsFirstChild image w p name m → LeadsTo image w p (name ∷ names) n
      → LeadsTo image w m names n
  leads_on p m n name names x y = subst (λ m. LeadsTo image w m names n) (one_first p name y.0 m y.1 x) y.2

-- the names from one on
pub split_at : (path : List (List ℕ)) (i : ℕ) (name : List ℕ) → i < length path → name ≡ get_or path i name → drop i path ≡ name ∷ drop (i + 1) path
split_at path i name lt e = grind (arith, common_steps, drop-cons)
