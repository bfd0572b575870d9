-- The store still matches a walk with one more member.
use Rattle.std.proofs.Common.{◌≡◌, ◌==◌, ℕ, suc, List, [], ◌∷◌, ◌++◌, inl, inr, ◌+◌, ◌<◌, ◌≤◌, ◌≢◌, length, Option, Bool, refl, sym, ap, subst, ◌∙◌, arith, set}
use Rattle.std.proofs.Common.{is_some, length-set, get_or-set_same, get_or-set_other, count_by}
use Rattle.std.specs.Int.{from_bool}
use Rattle.std.proofs.{lemmas.List.Sums.sum_by-append, lemmas.Grind.common_steps}
use native.Mathlib.Decide.{ℕ_discrete}
use Rattle.adf_blocks.specs.{declared.layout.TheConstants.SECONDARY_TYPE, declared.layout.TheConstants.ST_DIR, Sizes.blocks}
use Rattle.adf_volume.specs.{Image.word_in, Lists.At, Made.picked}
use Rattle.adf_volume.specs.Walk.{Role, first, second, Has, head_count, heads, IsAbsent, Walk, Role.Head, Role.Ext, Role.Data}
use Rattle.adf_volume.proofs.Lists.{at_new, at_old, at_below, snoc_length}
use Rattle.adf_volume.specs.{declared.kept_header.KeptHeader.KeptHeader, declared.kept_owner.KeptOwner.KeptOwner, KeptOwner.kept_at, KeptOwner.no_owner}
use Rattle.adf_check.specs.Store.{StoreValue, IsKeptOwner, Owns, KeepsHeaders, StoreMatches, file_blocks, next_kept, push_header, push_block, ext_file}
use Rattle.adf_check.specs.Store.{data_file, is_dir_at, blocks_before, stored}
use Rattle.adf_check.proofs.FileBlocks.{TellsFile, data_tells, ext_tells, not_below}

-- no block of a role is kept as free
kept_not_free : (w : Walk) (r : Role) (b : ℕ) (o : KeptOwner) → IsKeptOwner w r b o → o ≢ no_owner
kept_not_free w r b o h = grind (arith, common_steps)

-- a place in the list of a walk stays where it is
at_more : (f : Role → Bool) (w : Walk) (x : Role × ℕ) (i b : ℕ) → At (picked f w) i b → At (picked f (x ∷ w)) i b
at_more f w x i b h = grind (arith, common_steps, at_old)

kept_more : (w : Walk) (x : Role × ℕ) (r : Role) (b : ℕ) (o : KeptOwner) → IsKeptOwner w r b o → IsKeptOwner (x ∷ w) r b o
kept_more w x (Ext n m) b o k = (k.0, at_more (λ r. is_some (ext_file r)) w x k.0 b k.1, k.2)
kept_more w x (Data n m) b o k = (k.0, at_more (λ r. is_some (data_file r)) w x k.0 b k.1, k.2)
kept_more w x _ b o k = k

-- what is kept of the next block
kept_next : (store : StoreValue) (w : Walk) → store.exts ≡ file_blocks ext_file w → store.datas ≡ file_blocks data_file w
    → (r : Role) (b : ℕ) → IsKeptOwner ((r, b) ∷ w) r b (next_kept store r)
kept_next store w h k r b = grind (arith, common_steps, at_new)

row_same : (p b q c : ℕ) → p ≡ q → b ≡ c → ◌≡◌ {A = KeptHeader} (record { parent = p; head = b }) (record { parent = q; head = c })
row_same p b q c x z = λ i. record { parent = x i; head = z i }

module _ (image : List ℕ) (owners : List KeptOwner) (w : Walk) (t : Owns image owners w) where
  -- a free block is in no role
  pub free_absent : (b : ℕ) → kept_at owners b ≡ no_owner → IsAbsent w b
  free_absent b h q k = kept_not_free w q b (kept_at owners b) (t.assigned q b k) h

  -- and the other way round
  pub taken_present : (b : ℕ) → 2 ≤ b → b < blocks image → kept_at owners b ≢ no_owner → IsAbsent w b → ⊥
  taken_present b lo hi h a = let x = t.owned b lo hi h in a x.0 x.1

  other : (o : KeptOwner) (x b : ℕ) → (x ≡ b → ⊥) → kept_at (set owners b o) x ≡ kept_at owners x
  other o x b ne = let ne' : x ≢ b = ne in rw get_or-set_other refl

  -- a free block gets an owner
  owns_more : (r : Role) (b : ℕ) (o : KeptOwner) → IsKeptOwner ((r, b) ∷ w) r b o → 2 ≤ b → b < blocks image → kept_at owners b ≡ no_owner
      → Owns image (set owners b o) ((r, b) ∷ w)
  owns_more r b o is lo hi h =
      let size : length owners ≡ blocks image = t.size in
      let here : kept_at (set owners b o) b ≡ o = get_or-set_same owners b o no_owner (omega arith) in
      record {
        size = length-set owners b o ∙ size;
        boot = (λ x l m. other o x b (λ e. omega arith) ∙ t.boot x l m);
        assigned = (λ q x k. elim k [
          | inl y ↦
              let at : kept_at (set owners b o) x ≡ o = ap (kept_at (set owners b o)) (sym y.1) ∙ here in
              subst (IsKeptOwner ((r, b) ∷ w) q x) (sym at)
              (subst (λ x. IsKeptOwner ((r, b) ∷ w) q x o) y.1 (subst (λ q. IsKeptOwner ((r, b) ∷ w) q b o) y.0 is))
          | inr y ↦
              let at = other o x b (λ e. free_absent b h q (subst (Has w q) e y)) in
              subst (IsKeptOwner ((r, b) ∷ w) q x) (sym at) (kept_more w (r, b) q x (kept_at owners x) (t.assigned q x y))
        ]);
        owned = (λ x l m f. elim (ℕ_discrete x b) [
          | yes e ↦ (r, inl (refl, sym e))
          | no e ↦
              let z : kept_at (set owners b o) x ≡ kept_at owners x = other o x b (λ u. e u) in
              let y = t.owned x l m (λ u. f (z ∙ u)) in
              (y.0, inr y.1)
        ]);
      }

-- the rows, one member of a walk more; a header has the next number
module _ (headers : List KeptHeader) (w : Walk) (t : KeepsHeaders headers w) where
  no_header : (r : Role) (b : ℕ) → ((n p s j : ℕ) → second r ≡ second (Head n p s j) → ⊥) → head_count r (heads w) ≡ heads w
      → KeepsHeaders headers ((r, b) ∷ w)
  no_header r b none c = grind (arith, common_steps)

  pub headers_more : (r : Role) (b : ℕ) → ((n p s j : ℕ) → r ≡ Head n p s j → n ≡ suc (heads w)) → KeepsHeaders (push_header r b headers) ((r, b) ∷ w)
  headers_more (Head n p s j) b f = grind (arith, common_steps, snoc_length, row_same, at_new, at_old)
  headers_more r b f = no_header r b (λ n p s j e. omega (arith, e)) refl

-- one header more: it is counted if it is that of a directory
pub dirs_more : (image : List ℕ) (headers : List KeptHeader) (p b : ℕ) {dirs one : ℕ} {is_dir : Bool} → dirs ≡ count_by (is_dir_at image) headers
    → is_dir ≡ (word_in image b SECONDARY_TYPE == ST_DIR) → one ≡ from_bool is_dir
    → dirs + one ≡ count_by (is_dir_at image) (headers ++ record { parent = p; head = b } ∷ [])
dirs_more image headers p b {dirs = dirs} {one = one} {is_dir = is_dir} before is counts = grind (arith, common_steps, sum_by-append)

-- one member of a walk more
pub tells_more : (image : List ℕ) (store : StoreValue) (w : Walk) (r : Role) (b : ℕ)
    → ((n p s j : ℕ) → r ≡ Head n p s j → n ≡ suc (heads w))
    → length store.starts ≤ first r → StoreMatches image store w → 2 ≤ b → b < blocks image → kept_at store.owners b ≡ no_owner
    → StoreMatches image (stored image store r b) ((r, b) ∷ w)
tells_more image store w r b f l t lo hi h = record {
  owns = owns_more image store.owners w t.owns r b (next_kept store r) (kept_next store w t.exts t.datas r b) lo hi h;
  headers = headers_more store.headers w t.headers r b f;
  dirs = refl;
  exts = ap (push_block ext_file r b) t.exts;
  datas = ap (push_block data_file r b) t.datas;
  used = ap suc t.used;
  starts = (λ m x a.
      let u : m < length store.starts = at_below store.starts m x a in
      let y = t.starts m x a in
      (y.0 ∙ same ext_file ext_tells m (omega arith), y.1 ∙ same data_file data_tells m (omega arith)));
}
  where
    same : (file : Role → Option ℕ) → TellsFile file → (m : ℕ) → m < first r → blocks_before file w m ≡ blocks_before file ((r, b) ∷ w) m
    same file tells m lt = grind (arith, common_steps, not_below)
