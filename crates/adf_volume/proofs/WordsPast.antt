-- Words past the end of an image are 0.
use Rattle.std.proofs.Common.{◌≡◌, ℕ, List, [], ◌+◌, ◌-◌, ◌*◌, ◌≤◌, length, take, zero, suc, refl, sym, ap, ◌∙◌, arith}
use Rattle.std.proofs.lemmas.List.{drop_all}
use Rattle.adf_base.specs.Words.{block, word}
use Rattle.adf_blocks.specs.Sizes.{blocks}
use Rattle.adf_volume.specs.Image.{word_in}

take_nil : (n : ℕ) → take {A = ℕ} n [] ≡ []
take_nil zero = refl
take_nil (suc n) = refl

-- past the last block there is none
none_past : (image : List ℕ) (b : ℕ) → length image ≤ b * 512 → block image b ≡ []
unfolding block
none_past image b h = rw (drop_all (b * 512) image h) (take_nil (b * 512 + 512 - b * 512))

no_word : (i : ℕ) → 0 ≡ word [] i
unfolding word
no_word i = grind arith

pub past_word : (image : List ℕ) (b i : ℕ) → length image ≡ 512 * blocks image → (b * 512 + 512 ≤ length image → ⊥) → 0 ≡ word_in image b i
past_word image b i e h = no_word i ∙ ap (λ bs. word bs i) (sym (none_past image b (omega arith)))
