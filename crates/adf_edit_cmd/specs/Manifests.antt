-- Manifests in place of images: what the first line of one says of letters. `text` is a manifest, `plain` one that says nothing of them.
use Rattle.std.specs.Prelude.{◌≡◌, ℕ, Bool, List, ◌++◌, Option, None, Some, codes, drop, if◌then◌else◌, is_some, length, option_map, take}
use Rattle.std.specs.{Option.option_or, Str.bytes_eq}
use Rattle.adf_base.specs.declared.hash.Letters.{Letters, TheVariants.Ascii, TheVariants.International}
use Rattle.adf_manifest.specs.Manifest.{IsManifest}
use Rattle.adf_tree.specs.Tree.{Tree}

-- what stands behind these first bytes of a text, if it begins with them
abbrev pub behind_front : List ℕ → List ℕ → Option (List ℕ)
behind_front front text = if bytes_eq (take (length front) text) front then Some (drop (length front) text) else None

-- whether it is a manifest: it begins with the first word of one
abbrev pub is_manifest : List ℕ → Bool
is_manifest text = is_some (behind_front (codes "volume ") text)

-- a text with other first bytes, if it begins with these
abbrev pub with_front : List ℕ → List ℕ → List ℕ → Option (List ℕ)
with_front front new text = option_map (λ rest. new ++ rest) (behind_front front text)

-- the plain manifest of one whose volume has international letters: `volume KIND BLOCKS` for `volume KIND-international BLOCKS`
abbrev pub international_plain : List ℕ → Option (List ℕ)
international_plain text =
    option_or (with_front (codes "volume ofs-international ") (codes "volume ofs ") text)
    (with_front (codes "volume ffs-international ") (codes "volume ffs ") text)

-- the plain manifest of any
abbrev pub plain_of : Option (List ℕ) → List ℕ → List ℕ
plain_of None text = text
plain_of (Some plain) text = plain

-- the letters of its volume
abbrev pub letters_of_plain : Option (List ℕ) → Letters
letters_of_plain None = Ascii
letters_of_plain (Some plain) = International

-- a text is a manifest of this tree, by the letters of its volume, and of n blocks
abbrev pub IsManifestBy : List ℕ → Tree → ℕ → Type 0
IsManifestBy text t n =
    (u : Tree) × IsManifest (plain_of (international_plain text) text) u n × (t ≡ record u { letters = letters_of_plain (international_plain text) })
