use Rattle.std.proofs.Common.{◌≡◌, ◌++◌, ◌/◌, ℕ, List, None, Some, rules, sym, subst}
use Rattle.adf_base.specs.{Words.block, declared.hash.Letters.Letters}
use Rattle.adf_blocks.specs.{Forms.first_cause, RootBlock.root_form, Sizes.blocks, declared.cause.Cause.Cause}
use Rattle.adf_volume.specs.Demands.{FirstFails, boot_demands_by, root_demands}
use Rattle.adf_volume.specs.{Image.letters_of, Image.root_of, Start.IsBegunBy, Start.IsOwnBegun, Start.start_form_by}
use Rattle.adf_volume.proofs.ImageStart.{begins, boot_holds, fails_start, fails_root, own_letters}
use Rattle.adf_volume.proofs.start.open_by.Goals as goal

-- the block in the middle is the root's
module _ (letters : Letters) (image root : List ℕ) (count : ℕ) (start : first_cause (start_form_by letters image) ≡ None)
    (is : count ≡ blocks image) (at : root ≡ block image (count / 2)) where
  root_begins : first_cause (root_form root) ≡ None → IsBegunBy letters image
  root_begins = rw (at, is) (begins letters image start)

  root_own : letters_of image ≡ letters
  root_own = own_letters letters image (boot_holds letters image start)

  own_begins : first_cause (root_form root) ≡ None → IsOwnBegun image
  own_begins h = subst (λ l. IsBegunBy l image) (sym root_own) (root_begins h)

  root_fails : (c : Cause) → first_cause (root_form root) ≡ Some c
      → FirstFails (boot_demands_by letters image ++ root_demands image (root_of image)) (count / 2) c
  root_fails c = rw (at, is) (fails_root letters image c start)

pub new-requires : goal.new-requires
new-requires c =
    record {
      begun = own_begins c.args.letters c.args.bytes.now c.unwrap.result c.in-Ok.start.blocks c.in-Ok.ensures.0 c.in-Ok.ensures.1.0 (search rules)
          c.in-Ok-read_root.ensures.0;
      kind = c.in-Ok.ensures.1.1;
      own = sym (root_own c.args.letters c.args.bytes.now c.unwrap.result c.in-Ok.start.blocks c.in-Ok.ensures.0 c.in-Ok.ensures.1.0 (search rules));
      blocks = c.in-Ok.ensures.1.0;
    }

pub returns-in-Err-clause-fails : goal.returns-in-Err-clause-fails
returns-in-Err-clause-fails c =
    rw c.fault_at.ensures (fails_start c.args.letters c.args.bytes.now c.in-Err.cause c.in-Err.ensures)

pub returns-in-Err-read_root-clause-fails : goal.returns-in-Err-read_root-clause-fails
returns-in-Err-read_root-clause-fails c =
    rw c.fault_at-in-Err-read_root.ensures
    (root_fails c.args.letters c.args.bytes.now c.unwrap.result c.in-Ok.start.blocks c.in-Ok.ensures.0 c.in-Ok.ensures.1.0 (search rules)
    c.in-Err-read_root.cause c.in-Err-read_root.ensures)
