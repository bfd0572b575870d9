-- The fields of a written bitmap extension block.
use Rattle.std.proofs.Common.{◌≡◌, ◌≤◌, ◌<◌, ℕ, ◌+◌, ◌^◌, List, length, sym, ap, ◌∙◌, arith, rules, inl, inr, slice_index}
use Rattle.std.proofs.{lemmas.Bool.cases_lt, lemmas.List.get_or_past}
use Rattle.adf_base.specs.Words.{word}
use Rattle.adf_base.proofs.WordLaws.{length_longs}
use Rattle.adf_blocks.specs.declared.layout.TheConstants.{MAP_EXT_FIRST, MAP_EXT_NEXT, MAP_EXT_PAGES}
use Rattle.adf_blocks.specs.{Fields.Descends, Fields.block_of_fields, MapExtBlock.map_ext_block, MapExtBlock.map_ext_table}
use Rattle.adf_blocks.proofs.FieldLaws.{fields_between, fields_long, fields_longs, length-block_of_fields, long_number}

-- the fields fit side by side
pub map_ext_descends : (pages : List ℕ) (next : ℕ) → length pages ≤ MAP_EXT_PAGES → Descends 512 (map_ext_table pages next)
map_ext_descends pages next few = search (rules, length_longs)

-- a bitmap extension block is a whole block
pub length_map_ext_block : (pages : List ℕ) (next : ℕ) → length pages ≤ MAP_EXT_PAGES → length (map_ext_block pages next) ≡ 512
unfolding map_ext_block
length_map_ext_block pages next few = length-block_of_fields 512 (map_ext_table pages next) (omega arith) (map_ext_descends pages next few)

-- a page that is named, or 0 past the last
pub map_ext_block-page : (pages : List ℕ) (next j : ℕ) → length pages ≤ MAP_EXT_PAGES → j < MAP_EXT_PAGES → slice_index pages j < 2 ^ 32
    → word (map_ext_block pages next) j ≡ slice_index pages j
unfolding map_ext_block
map_ext_block-page pages next j few lt small = elim (cases_lt j (length pages)) [
  | inl in_pages ↦
      let z : j ≡ MAP_EXT_FIRST + j = omega arith in
      ap (word (block_of_fields (map_ext_table pages next))) z
      ∙ fields_longs (map_ext_table pages next) MAP_EXT_FIRST j pages (map_ext_descends pages next few) (search rules) in_pages
      ∙ long_number (slice_index pages j) small
  | inr past ↦
      let m = length_longs pages in
      fields_between (map_ext_table pages next) j (map_ext_descends pages next few) (omega arith) (inl (omega arith), (inr (omega arith), tt))
      ∙ sym (get_or_past pages j 0 past)
]

-- the next bitmap extension block
pub map_ext_block-next : (pages : List ℕ) (next : ℕ) → length pages ≤ MAP_EXT_PAGES → next < 2 ^ 32
    → word (map_ext_block pages next) MAP_EXT_NEXT ≡ next
unfolding map_ext_block
map_ext_block-next pages next few small =
    fields_long (map_ext_table pages next) MAP_EXT_NEXT next (map_ext_descends pages next few) (search rules) ∙ long_number next small
