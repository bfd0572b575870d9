-- The blocks that are written of fields are bytes.
-- Letters: f a field, fs a table of fields; r the fields of a root, h those of a header; ws words.
use Rattle.std.proofs.Common.{◌≤◌, ℕ, List, [], ◌∷◌, length, reverse, arith}
use Rattle.std.proofs.lemmas.List.Elements.{All-cons, All-replicate}
use Rattle.adf_base.proofs.ByteLists.{AreBytes, IsByte, number_bytes, numbers_bytes, sealed_bytes, written_bytes}
use Rattle.adf_base.specs.declared.dates.Stamp.{Stamp}
use Rattle.adf_blocks.specs.declared.layout.TheConstants.{CHECKSUM, SLOTS, ST_ROOT, T_SHORT, VALID}
use Rattle.adf_blocks.specs.Fields.{Field, block_of_fields, long, longs, stamp, text}
use Rattle.adf_blocks.specs.HeadBlock.{BodyFields, HeadFields, count_of, ext_of, first_of, head_block, head_table, secondary_of, size_of, table_of}
use Rattle.adf_blocks.specs.{HeadBlock.BodyFields.DirFields, HeadBlock.BodyFields.FileFields, RootBlock.RootFields, RootBlock.root_block, RootBlock.root_table}

-- the bytes of each field are bytes
abbrev AreByteFields : List Field → Type 0
AreByteFields [] = Unit {0}
AreByteFields (f ∷ fs) = AreBytes f.1 × AreByteFields fs

fields_bytes : (fs : List Field) → AreByteFields fs → AreBytes (block_of_fields fs)
fields_bytes [] are = All-replicate IsByte 512 0 (omega arith)
fields_bytes (f ∷ fs) are = written_bytes (block_of_fields fs) f.0 f.1 (fields_bytes fs are.1) are.0

-- the bytes of a word, of words and of a date
long_bytes : (w : ℕ) → AreBytes (long w)
long_bytes w = number_bytes 4 w

longs_bytes : (ws : List ℕ) → AreBytes (longs ws)
longs_bytes ws = numbers_bytes 4 ws

stamp_bytes : (s : Stamp) → AreBytes (stamp s)
stamp_bytes s = longs_bytes (s.days ∷ s.mins ∷ s.ticks ∷ [])

-- a text is bytes if it is short enough for its length
text_bytes : (bs : List ℕ) → length bs ≤ 255 → AreBytes bs → AreBytes (text bs)
text_bytes bs short are = All-cons IsByte (length bs) bs (omega arith) are

pub root_bytes : (r : RootFields) → length r.label ≤ 255 → AreBytes r.label → AreBytes (root_block r)
unfolding root_block
root_bytes r short label =
    sealed_bytes CHECKSUM (block_of_fields (root_table r)) (fields_bytes (root_table r) (
      long_bytes ST_ROOT,
      (
        stamp_bytes r.stamps.created,
        (
          stamp_bytes r.stamps.altered,
          (
            text_bytes r.label short label,
            (
              stamp_bytes r.stamps.root,
              (
                long_bytes r.map_ext,
                (
                  longs_bytes r.pages,
                  (
                    long_bytes VALID,
                    (
                      longs_bytes r.slots,
                      (
                        long_bytes SLOTS,
                        (long_bytes T_SHORT, tt),
                      ),
                    ),
                  ),
                ),
              ),
            ),
          ),
        ),
      ),
    ))

table_bytes : (b : BodyFields) → AreBytes (table_of b).1
table_bytes (DirFields slots) = longs_bytes slots
table_bytes (FileFields size table ext) = longs_bytes (reverse table)

pub head_bytes : (h : HeadFields) → length h.name ≤ 255 → AreBytes h.name → length h.meta.comment ≤ 255 → AreBytes h.meta.comment
    → AreBytes (head_block h)
unfolding head_block
head_bytes h short name brief comment =
    sealed_bytes CHECKSUM (block_of_fields (head_table h)) (fields_bytes (head_table h) (
      long_bytes (secondary_of h.body),
      (
        long_bytes (ext_of h.body),
        (
          long_bytes h.parent,
          (
            long_bytes h.next,
            (
              text_bytes h.name short name,
              (
                stamp_bytes h.meta.stamp,
                (
                  text_bytes h.meta.comment brief comment,
                  (
                    long_bytes (size_of h.body),
                    (
                      long_bytes h.meta.protect,
                      (
                        table_bytes h.body,
                        (
                          long_bytes (first_of h.body),
                          (
                            long_bytes (count_of h.body),
                            (
                              long_bytes h.own,
                              (long_bytes T_SHORT, tt),
                            ),
                          ),
                        ),
                      ),
                    ),
                  ),
                ),
              ),
            ),
          ),
        ),
      ),
    ))
