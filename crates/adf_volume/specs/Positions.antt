-- Positions in the order of roles, what a walk has up to one, and the words that point to what comes next.
-- Letters: w a walk; over the parts that were skipped; q, r roles; x, y positions; k the number of a page; n a node;
-- p a directory's node; s a slot; j a position in a chain; a, i the block and the word that point to a part.
use Rattle.std.specs.Prelude.{◌≡◌, ℕ, List, ◌+◌, ◌-◌, ◌/◌, ◌%◌, ◌<◌, ◌≤◌, ◌==◌, cond, nat_lt}
use Rattle.std.proofs.Common.{zero, suc}
use Rattle.adf_blocks.specs.declared.layout.TheConstants.{FIRST_MAP_EXT, FIRST_PAGE, FIRST_SLOT, MAP_EXT_NEXT, MAP_EXT_PAGES, NEXT_IN_CHAIN, ROOT_PAGES}
use Rattle.adf_volume.specs.Image.{root_of}
use Rattle.adf_volume.specs.Walk.{Role, first, second, third, Has, DirAt, Asks, Lacks, Walk, Role.MapExt, Role.Head}

-- three numbers, compared as those of roles are
pub record Position : Type 0 where
  pub first : ℕ
  pub second : ℕ
  pub third : ℕ

-- the position of a role
abbrev pub position_of : Role → Position
position_of r = record { first = first r; second = second r; third = third r }

-- the position behind a role
abbrev pub behind : Role → Position
behind r = record { first = first r; second = second r; third = suc (third r) }

-- a position among the pages and the bitmap extension blocks
abbrev pub in_map : ℕ → Position
in_map z = record { first = 0; second = 1; third = z }

-- the position before page k, and before the bitmap extension block that it begins
abbrev pub before_page : ℕ → Position
before_page k = in_map (k + (k + (MAP_EXT_PAGES - ROOT_PAGES - 1)) / MAP_EXT_PAGES)

-- the position before the parts of node n
abbrev pub before_node : ℕ → Position
before_node n = record { first = suc n; second = 0; third = 0 }

-- a role comes before a position
abbrev pub IsBelow : Role → Position → Type 0
IsBelow q x = (first q ≤ x.first) × (first q ≡ x.first → second q ≤ x.second) × (first q ≡ x.first → second q ≡ x.second → third q < x.third)

-- a position is another one, or comes before it
abbrev pub IsNoLater : Position → Position → Type 0
IsNoLater x y = (x.first ≤ y.first) × (x.first ≡ y.first → x.second ≤ y.second) × (x.first ≡ y.first → x.second ≡ y.second → x.third ≤ y.third)

-- a walk has come to a position: its parts and those skipped come before it, and are all that it asks for there
pub record IsUpTo (image : List ℕ) (w over : Walk) (x : Position) : Type 0 where
  pub taken : (q : Role) (b : ℕ) → Has w q b → IsBelow q x
  pub skipped : (q : Role) (b : ℕ) → Has over q b → IsBelow q x
  pub gone : (q : Role) (a i : ℕ) → Asks image w q a i → Lacks w q → Lacks over q → IsBelow q x → ⊥

-- the word that points to page k, in the root or in a bitmap extension block
abbrev pub word_of_page : ℕ → ℕ
word_of_page k = cond (nat_lt k ROOT_PAGES) (FIRST_PAGE + k) ((k - ROOT_PAGES) % MAP_EXT_PAGES)

-- the word that points to the bitmap extension block that page k begins, in the root or in the extension block before
abbrev pub word_of_map_ext : ℕ → ℕ
word_of_map_ext k = cond (k == ROOT_PAGES) FIRST_MAP_EXT MAP_EXT_NEXT

-- block a points to the page before page k, or is the root if there is none
pub record IsPageHolder (image : List ℕ) (w : Walk) (k a : ℕ) : Type 0 where
  pub root : k ≤ ROOT_PAGES → a ≡ root_of image
  pub ext : ROOT_PAGES < k → Has w (MapExt ((k - 1 - ROOT_PAGES) / MAP_EXT_PAGES)) a

-- word i of block a is the one for the header at position j of slot s of directory p
abbrev pub IsLink : List ℕ → Walk → ℕ → ℕ → ℕ → ℕ → ℕ → Type 0
IsLink image w p s zero a i = DirAt image w p a × (i ≡ FIRST_SLOT + s)
IsLink image w p s (suc j) a i = ((m : ℕ) × Has w (Head m p s j) a) × (i ≡ NEXT_IN_CHAIN)
