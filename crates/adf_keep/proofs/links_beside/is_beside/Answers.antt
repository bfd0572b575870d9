use Rattle.std.proofs.Common.{◌≡◌, ◌∙◌, arith, length, refl, subst, sym, true}
use Rattle.adf_blocks.specs.Sizes.{blocks, is_allowed}
use Rattle.adf_keep.proofs.LinkEntries.{has_entries, marked_inside, root_known}
use Rattle.adf_keep.proofs.links_beside.is_beside.Goals as goal

pub returns-clause-links : goal.returns-clause-links
returns-clause-links c = λ are is.
    let size : length c.args.links.now ≡ blocks c.args.volume.now = omega arith in
    record {
      long = omega arith;
      each = c.if-not-are_blocks_beside.ensures are refl;
      bits = c.if-not-are_bits_beside.ensures refl;
      inside = λ b mark. marked_inside c.args.links.now b (blocks c.args.volume.now) size mark;
    }

pub returns-clause-entries : goal.returns-clause-entries
returns-clause-entries c = λ are is.
    let volume = c.args.volume.now in
    let allowed = subst (λ n. is_allowed n ≡ true) c.blocks-4.ensures.blocks (sym c.is_allowed_size.ensures ∙ c.if-not-is_allowed_size.false) in
    let known = root_known volume c.args.places.now allowed in
    has_entries volume c.args.image.now c.args.places.now c.args.links.now (returns-clause-links c are is) (c.are_closed.ensures is) known
