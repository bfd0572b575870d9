-- Laws of the parts of a line.
use Rattle.std.proofs.Common.{◌≡◌, ◌≤◌, ◌++◌, ◌∙◌, ℕ, List, ◌∷◌, sym, arith, codes}
use Rattle.std.specs.Fmt.{decimal}
use Rattle.std.proofs.{lemmas.List.append_cancel_left, lemmas.Grind.common_steps}
use Rattle.adf_base.specs.{Dates.plain_text, Dates.IsStamp, declared.dates.Stamp.Stamp}
use Rattle.adf_manifest.specs.{Tokens.LacksByte, Lines.fields_text, Lines.fill_line, Lines.most_fill}
use Rattle.adf_names.specs.Digits.{hex_word, pair}
use Rattle.adf_manifest.proofs.TokenLaws.{CutTwice, one_cut, one_cut_twice, space_lacks, stamp_lacks}
use Rattle.adf_manifest.proofs.DigitLaws.{word_lacks}

-- what stands behind the word of a fill line
pub fill_text : (line text : List ℕ) (count byte : ℕ) → line ≡ codes "fill " ++ text → line ≡ fill_line count byte
    → text ≡ decimal count ++ 32 ∷ pair byte
fill_text line text count byte e g = append_cancel_left (codes "fill ") text (decimal count ++ 32 ∷ pair byte) (sym e ∙ g)

-- the parts of a fill line
pub fill_parts : {line text a b : List ℕ} (count byte : ℕ) → line ≡ codes "fill " ++ text → (text ≡ a ++ 32 ∷ b) × LacksByte 32 a → count ≤ most_fill
    → line ≡ fill_line count byte → (a ≡ decimal count) × (b ≡ pair byte)
fill_parts {line = line} {text = text} {a = a} {b = b} count byte e cut h g = grind (arith, common_steps, one_cut, space_lacks, fill_text)

-- the parts of the fields of an entry line
pub fields_parts : {text x y z : List ℕ} (s : Stamp) (p : ℕ) (path : List ℕ) → CutTwice 32 text x y z → IsStamp s → text ≡ fields_text s p path
    → (x ≡ plain_text s) × (y ≡ hex_word p) × (z ≡ path)
fields_parts {text = text} {x = x} {y = y} {z = z} s p path cut h e = one_cut_twice 32 text x y z (plain_text s) (hex_word p) path cut
    (e, stamp_lacks s h, word_lacks p)
