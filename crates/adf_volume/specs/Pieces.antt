-- The positions of a file's data blocks in an image.
use Rattle.std.specs.Prelude.{ℕ, List, ◌+◌, ◌*◌, ◌^◌, ◌≤◌, ◌<◌, length, get_or}

-- the image has the data blocks, numbered from k on
pub record AreInside (image datas : List ℕ) (k : ℕ) : Type 0 where
  pub inside : (i d : ℕ) → i < length datas → get_or datas i d * 512 + 512 ≤ length image
  pub from : 1 ≤ k
  pub few : k + length datas < 2 ^ 32
