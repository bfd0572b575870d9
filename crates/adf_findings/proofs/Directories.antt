-- The directories of entries, and the paths that lead through them.
use Rattle.std.proofs.Common.{◌≡◌, ℕ, List, [], ◌∷◌, ◌++◌, ◌<◌, ◌∙◌, arith}
use Rattle.adf_volume.specs.{Image.name_of, Walk.HeadAt, Walk.NodeAt, Walk.node_block, Walk.Walk}
use Rattle.adf_volume.proofs.Gathered.{head_block, number_of, node_there, parent_below}
use Rattle.adf_findings.specs.{Members.parent_node, Lookup.path_to, Survey.FindingValue, Survey.IsSurvey, Survey.IsSurvey.read, Survey.IsSurvey.unread}
use Rattle.adf_findings.proofs.{EntryPaths.path_next, Keeping.parent_is, OneSurvey.gathered}

-- the directory of an entry is in the walk, with a smaller number
pub directory_first : (image : List ℕ) (w : Walk) (fs : List FindingValue) (n h : ℕ) → IsSurvey image w fs → (g : HeadAt w n h)
    → (g.parent < n) × ((up : ℕ) × NodeAt w g.parent up)
directory_first image w fs n h (unread f) g = absurd g.has
directory_first image w fs n h (read {s = s} v d t) g =
    let lt : g.parent < n = parent_below image (gathered image v) g in
    let u = number_of image (gathered image v) g in
    (lt, (node_block s.walk g.parent, node_there image (gathered image v) g.parent (omega arith)))

-- the path of an entry is that of its directory and its name
pub path_of_directory : (image : List ℕ) (w : Walk) (fs : List FindingValue) (n h : ℕ) → IsSurvey image w fs → (g : HeadAt w n h)
    → path_to image w n ≡ path_to image w g.parent ++ name_of image h ∷ []
path_of_directory image w fs n h (unread f) g = absurd g.has
path_of_directory image w fs n h (read {s = s} {bits = bits} v d t) g =
    let survey : IsSurvey image s.walk (s.findings ++ bits) = read v d t in
    let u = number_of image (gathered image v) g in
    let up : parent_node s.walk n ≡ g.parent = parent_is image s.walk (s.findings ++ bits) survey n g.parent g.slot g.place h g.has in
    let at : node_block s.walk n ≡ h = head_block image (gathered image v) g in
    path_next image s.walk (s.findings ++ bits) survey n u.0 u.1 ∙ (λ i. path_to image s.walk (up i) ++ name_of image (at i) ∷ [])
