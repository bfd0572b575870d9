-- What of an image is that of a volume, by what was found of its blocks.
-- Letters: b a block; i the number of a word.
use Rattle.std.proofs.Common.{◌≡◌, ◌<◌, ◌≤◌, [], ℕ, Bool, List, sym, subst, ap, ◌∙◌}
use Rattle.adf_base.specs.Words.{block, long_sum}
use Rattle.adf_blocks.specs.{Forms.text_at, HeadBlock.meta_stated}
use Rattle.adf_blocks.specs.declared.layout.TheConstants.{NAME}
use Rattle.adf_volume.specs.Image.{name_of, root_of}
use Rattle.adf_keep.specs.declared.links_places.Place.{Place}
use Rattle.adf_keep.specs.Links.{ArePlaces, IsAtPath, IsAtPath.entry, IsAtPath.root, IsHeaderBeside, IsWordBeside, place_of_header}

-- a header that has a place is at a path
pub placed_header : (volume : List ℕ) (places : List Place) (b : ℕ) (p : Place) → ArePlaces volume places → p ≡ place_of_header places b
    → 1 ≤ p.directory → (path : List (List ℕ)) × IsAtPath volume b path
placed_header volume places b p are is low =
    let place = are b (subst (λ q. 1 ≤ q.directory) is low) in
    (_, entry place.directory.at place.directory.slots place.few place.chain)

pub root_header : (volume : List ℕ) (b : ℕ) → b ≡ root_of volume → (path : List (List ℕ)) × IsAtPath volume b path
root_header volume b is = ([], subst (λ h. IsAtPath volume h []) (sym is) root)

pub header_beside : (volume image : List ℕ) (b : ℕ) (one other : List ℕ) (links : List Bool) → one ≡ block volume b → other ≡ block image b
    → (path : List (List ℕ)) × IsAtPath volume b path → long_sum other ≡ long_sum one → text_at other NAME ≡ text_at one NAME
    → meta_stated other ≡ meta_stated one → ((i : ℕ) → i < 128 → IsWordBeside volume image links b i) → IsHeaderBeside volume image links b
unfolding name_of
header_beside volume image b one other links is are at sum name meta words = record {
  path = at.0;
  at = at.1;
  sum = sym (ap long_sum are) ∙ (sum ∙ ap long_sum is);
  name = sym (ap (λ x. text_at x NAME) are) ∙ (name ∙ ap (λ x. text_at x NAME) is);
  meta = sym (ap meta_stated are) ∙ (meta ∙ ap meta_stated is);
  words = words;
}
