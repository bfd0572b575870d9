-- Whether a list of parts, each asked for in turn, asks for a role.
use Rattle.std.proofs.Common.{◌≡◌, ℕ, zero, suc, List, inl, inr, ◌+◌, ◌-◌, ◌*◌, ◌/◌, ◌%◌, ◌<◌, ◌≢◌, refl, ap, subst, ◌∙◌, arith}
use native.Mathlib.Decide.{dec_le, dec_lt, map_dec, ℕ_discrete}
use Rattle.std.proofs.lemmas.Grind.{common_steps}
use Rattle.adf_blocks.specs.declared.layout.TheConstants.{EXTENSION, FIRST_MAP_EXT, FIRST_PAGE, FIRST_SLOT, MAP_EXT_NEXT, MAP_EXT_PAGES, NEXT_IN_CHAIN}
use Rattle.adf_blocks.specs.declared.layout.TheConstants.{POINTERS, ROOT_PAGES, SECONDARY_TYPE, SLOTS, ST_DIR, ST_FILE}
use Rattle.adf_blocks.specs.Sizes.{blocks, pages_needed}
use Rattle.adf_volume.specs.{Image.root_of, Image.word_in, Image.table_word, Parts.renumbered}
use Rattle.adf_volume.specs.Walk.{Asks, Role, second, Has, heads, HeadAt, TypedAt, DirAt, FileAt, MemberAt, data_count, Walk}
use Rattle.adf_volume.specs.Walk.Role.{Root, Page, MapExt, Head, Ext, Data}
use Rattle.adf_volume.proofs.Roles.{dec_has, has_low, head_key, same_refl}
use Rattle.adf_volume.proofs.Gathered.{IsGathered, root_in, number_of, numbered, one_block, one_head, dir_one, file_one}

-- whether what is unique passes a test
pub dec_where : (A T : ℕ → Type 0) → ((a b : ℕ) → A a → A b → a ≡ b) → ((a : ℕ) → Dec (T a)) → Dec ((a : ℕ) × A a) → Dec ((a : ℕ) × A a × T a)
dec_where A T one test (no n) = no (λ x. n (x.0, x.1))
dec_where A T one test (yes x) = elim (test x.0) [ yes y ↦ yes (x.0, x.1, y) | no n ↦ no (λ y. n (subst T (one y.0 x.0 y.1 x.1) y.2)) ]

pub dec_not_zero : (x : ℕ) → Dec (x ≢ 0)
dec_not_zero x = elim (ℕ_discrete x 0) [ yes e ↦ no (λ n. n e) | no n ↦ yes n ]

-- the walk asks for the role by some word, with the next number if it is a header's
abbrev pub Asked : List ℕ → Walk → Role → Type 0
Asked image w r = (a i : ℕ) × Asks image w (renumbered (suc (heads w)) r) a i

module _ (image : List ℕ) (w : Walk) (v : IsGathered image w) where
  -- whether the walk has a role that is no header's
  pub dec_low : (r : Role) → second r < 2 → Dec ((b : ℕ) × Has w r b)
  dec_low r low = elim (has_low w r low) [ inl l ↦ no (λ x. l r x.0 x.1 (same_refl r)) | inr y ↦ yes y ]

  pub one_low : (r : Role) (a b : ℕ) → Has w r a → Has w r b → a ≡ b
  one_low r a b h k = (one_block image v r r a b h k (same_refl r)).1

  abbrev InChain : ℕ → ℕ → ℕ → ℕ → Type 0
  InChain p s j a = (m : ℕ) × Has w (Head m p s j) a

  -- whether the walk has a header at a place
  dec_chain : (p s j : ℕ) → Dec ((a : ℕ) × InChain p s j a)
  dec_chain p s j = grind (arith, common_steps, dec_has w (Head 0 p s j), head_key)

  one_chain : (p s j a b : ℕ) → InChain p s j a → InChain p s j b → a ≡ b
  one_chain p s j a b h k = (one_block image v (Head h.0 p s j) (Head k.0 p s j) a b h.1 k.1 (refl, refl, refl)).1

  -- whether the walk has a header of a number
  dec_head : (n : ℕ) → Dec ((a : ℕ) × HeadAt w n a)
  dec_head n =
      elim (dec_le 1 n) [
        | no l ↦ no (λ x. l (number_of image v x.1).0)
        | yes l ↦ elim (dec_le n (heads w)) [
          | no u ↦ no (λ x. u (number_of image v x.1).1)
          | yes u ↦ yes (numbered image v n l u)
        ]
      ]

  -- whether a node has a header of a type
  dec_typed : (t n : ℕ) → Dec ((a : ℕ) × TypedAt image w t n a)
  dec_typed t n =
      map_dec (λ x. (x.0, record { header = x.1; type = x.2 })) (λ x. (x.0, x.1.header, x.1.type))
      (dec_where (HeadAt w n) (λ a. word_in image a SECONDARY_TYPE ≡ t) (λ a b h k. (one_head image v h k).1)
      (λ a. ℕ_discrete (word_in image a SECONDARY_TYPE) t) (dec_head n))

  -- whether a node is a directory
  dec_dir : (p : ℕ) → Dec ((a : ℕ) × DirAt image w p a)
  dec_dir zero = yes (root_of image, root_in image v)
  dec_dir (suc i) = dec_typed ST_DIR (suc i)

  -- whether a node is a file
  pub dec_file : (n : ℕ) → Dec ((a : ℕ) × FileAt image w n a)
  dec_file n = dec_typed ST_FILE n

  dec_member : (n m : ℕ) → Dec ((a : ℕ) × MemberAt image w n m a)
  dec_member n zero = dec_file n
  dec_member n (suc m) = dec_low (Ext n (suc m)) (omega arith)

  dec_page : (k : ℕ) → Dec (Asked image w (Page k))
  dec_page k =
      let j : ℕ = (k - ROOT_PAGES) / MAP_EXT_PAGES in
      elim (dec_lt k (pages_needed (blocks image))) [
        | no n ↦ no (λ x. n x.2.0)
        | yes lt ↦ elim (dec_lt k ROOT_PAGES) [
          | yes l ↦ yes (root_of image, FIRST_PAGE + k, (lt, inl (l, refl, refl)))
          | no l ↦ elim (dec_low (MapExt j) (omega arith)) [
            | yes m ↦ yes (m.0, (k - ROOT_PAGES) % MAP_EXT_PAGES, (lt, inr (j, m.1, omega arith, omega arith)))
            | no n ↦ no (λ x. elim x.2.1 [
              | inl e ↦ l e.0
              | inr y ↦
                  let e : y.0 ≡ j = omega arith in
                  n (x.0, subst (λ j. Has w (MapExt j) x.0) e y.1)
            ])
          ]
        ]
      ]

  -- whether the walk asks for a role
  pub dec_asked : (r : Role) → Dec (Asked image w r)
  dec_asked Root = no (λ x. x.2)
  dec_asked (Page k) = dec_page k
  dec_asked (MapExt zero) =
      elim (dec_lt ROOT_PAGES (pages_needed (blocks image))) [
        | yes l ↦ yes (root_of image, FIRST_MAP_EXT, (l, refl, refl))
        | no n ↦ no (λ x. n x.2.0)
      ]
  dec_asked (MapExt (suc j)) =
      elim (dec_lt (ROOT_PAGES + MAP_EXT_PAGES * suc j) (pages_needed (blocks image))) [
        | yes l ↦ elim (dec_low (MapExt j) (omega arith)) [
          | yes m ↦ yes (m.0, MAP_EXT_NEXT, (l, m.1, refl))
          | no n ↦ no (λ x. n (x.0, x.2.1))
        ]
        | no n ↦ no (λ x. n x.2.0)
      ]
  dec_asked (Head n p s zero) =
      elim (dec_lt s SLOTS) [
        | yes l ↦ elim (dec_where (DirAt image w p) (λ a. word_in image a (FIRST_SLOT + s) ≢ 0) (dir_one image v p)
            (λ a. dec_not_zero (word_in image a (FIRST_SLOT + s))) (dec_dir p)) [
              | yes y ↦ yes (y.0, FIRST_SLOT + s, (refl, l, y.1, refl, y.2))
              | no m ↦ no (λ x. m (x.0, x.2.2, (λ z. x.2.4 (ap (word_in image x.0) x.2.3 ∙ z))))
            ]
        | no m ↦ no (λ x. m x.2.1)
      ]
  dec_asked (Head n p s (suc j)) =
      elim (dec_where (InChain p s j) (λ a. word_in image a NEXT_IN_CHAIN ≢ 0) (one_chain p s j)
      (λ a. dec_not_zero (word_in image a NEXT_IN_CHAIN)) (dec_chain p s j)) [
        | yes y ↦ yes (y.0, NEXT_IN_CHAIN, (refl, y.1, refl, y.2))
        | no m ↦ no (λ x. m (x.0, x.2.1, (λ z. x.2.3 (ap (word_in image x.0) x.2.2 ∙ z))))
      ]
  dec_asked (Ext n zero) = no (λ x. x.2)
  dec_asked (Ext n (suc zero)) =
      elim (dec_where (FileAt image w n) (λ a. word_in image a EXTENSION ≢ 0) (file_one image v n)
      (λ a. dec_not_zero (word_in image a EXTENSION)) (dec_file n)) [
        | yes y ↦ yes (y.0, EXTENSION, (y.1, refl, y.2))
        | no m ↦ no (λ x. m (x.0, x.2.0, (λ z. x.2.2 (ap (word_in image x.0) x.2.1 ∙ z))))
      ]
  dec_asked (Ext n (suc (suc k))) =
      elim (dec_where (Has w (Ext n (suc k))) (λ a. word_in image a EXTENSION ≢ 0) (one_low (Ext n (suc k)))
      (λ a. dec_not_zero (word_in image a EXTENSION)) (dec_low (Ext n (suc k)) (omega arith))) [
        | yes y ↦ yes (y.0, EXTENSION, (y.1, refl, y.2))
        | no m ↦ no (λ x. m (x.0, x.2.0, (λ z. x.2.2 (ap (word_in image x.0) x.2.1 ∙ z))))
      ]
  dec_asked (Data n zero) = no (λ x. x.2)
  dec_asked (Data n (suc k)) =
      elim (dec_where (FileAt image w n) (λ h. k < data_count image h) (file_one image v n) (λ h. dec_lt k (data_count image h)) (dec_file n)) [
        | yes h ↦ elim (dec_member n (k / POINTERS)) [
          | yes m ↦ yes (m.0, table_word k, ((h.0, h.1, h.2), m.1, refl))
          | no m ↦ no (λ x. m (x.0, x.2.1))
        ]
        | no h ↦ no (λ x. h (x.2.0.0, x.2.0.1, x.2.0.2))
      ]
