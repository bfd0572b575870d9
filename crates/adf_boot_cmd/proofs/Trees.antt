-- Images that are written have the tree of the image that they are made of.
use Rattle.std.proofs.Common.{◌≡◌, ◌≢◌, ℕ, List, ◌++◌, ◌+◌, ◌-◌, ◌≤◌, Option, None, Some, sym, ◌∙◌, refl, arith, drop, take, length, replicate}
use Rattle.std.proofs.Common.{slice_range, subst, length-append, length-drop, length-take}
use Rattle.std.proofs.lemmas.List.{drop_at, length-take-le, take-append-le, take-take}
use Rattle.adf_base.specs.Words.{with_bytes, with_word}
use Rattle.adf_blocks.specs.Sizes.{blocks, middle}
use Rattle.adf_tree.specs.Tree.{Tree}
use Rattle.adf_volume.specs.{Fits.Fits, Layout.Layout}
use Rattle.adf_boot_blocks.specs.{BootBlocks.IsOtherBoot, declared.refusal.BootRefusal.BootRefusal, declared.standard.TheConstants.STANDARD_CODE}
use Rattle.adf_boot_blocks.specs.Writing.{cleared, copied, installed}
use Rattle.adf_boot_blocks.specs.declared.boot.TheConstants.{BOOT_LEN, CODE, ROOT}
use Rattle.adf_boot_blocks.proofs.{OtherBoots.other_fits, Writes.other_bytes, Writes.other_next, Writes.other_sum, Writes.other_word, Writes.same_boot}
use Rattle.adf_runs.specs.Commands.{Reply}
use Rattle.adf_boot_cmd.proofs.Replies.{taken}
use Rattle.adf_boot_cmd.specs.Answers.{BootAnswer, Order, Writes, changed_boot, clear, copy, install, order_refusal, tell}

length_copied : (boot : List ℕ) → length (slice_range boot 4 BOOT_LEN) ≤ BOOT_LEN - 4
length_copied boot = omega (arith, length-take {A = ℕ})

other_cleared : (front : List ℕ) → BOOT_LEN ≤ length front → IsOtherBoot front (cleared front)
unfolding cleared
other_cleared front long = other_bytes front front 4 (replicate (BOOT_LEN - 4) 0) (same_boot front) long (omega arith) (omega arith)

other_copied : (front boot : List ℕ) → BOOT_LEN ≤ length front → IsOtherBoot front (copied front boot)
other_copied front boot long =
    let bytes : List ℕ = slice_range boot 4 BOOT_LEN in
    let o : IsOtherBoot front (with_bytes front 4 bytes) =
    other_bytes front front 4 bytes (same_boot front) long (omega arith) (omega (arith, length_copied boot)) in
    other_next front (with_bytes front 4 bytes) (copied front boot) o (other_sum (with_bytes front 4 bytes) (omega (arith, o.long)))

other_installed : (front : List ℕ) (root : ℕ) (code : List ℕ) → BOOT_LEN ≤ length front → CODE + length code ≤ BOOT_LEN
    → IsOtherBoot front (installed front root code)
other_installed front root code long room =
    let numbered : List ℕ = with_word (cleared front) ROOT root in
    let o : IsOtherBoot front numbered = other_word front (cleared front) ROOT root (other_cleared front long) long (omega arith) (omega arith) in
    let p : IsOtherBoot front (with_bytes numbered CODE code) = other_bytes front numbered CODE code o long (omega arith) room in
    other_next front (with_bytes numbered CODE code) (installed front root code) p (other_sum (with_bytes numbered CODE code) (omega (arith, p.long)))

-- the boot blocks that an order leaves, and what is behind them
other_changed : (order : Order) (image : List ℕ) → BOOT_LEN ≤ length image → IsOtherBoot (take BOOT_LEN image) (changed_boot order image)
other_changed tell image long = same_boot (take BOOT_LEN image)
other_changed install image long =
    other_installed (take BOOT_LEN image) (middle (blocks image)) STANDARD_CODE (omega (arith, length-take-le BOOT_LEN image long)) (omega arith)
other_changed clear image long = other_cleared (take BOOT_LEN image) (omega (arith, length-take-le BOOT_LEN image long))
other_changed (copy boot) image long = other_copied (take BOOT_LEN image) boot (omega (arith, length-take-le BOOT_LEN image long))

other_image : (image boot : List ℕ) → BOOT_LEN ≤ length image → IsOtherBoot (take BOOT_LEN image) boot → IsOtherBoot image (boot ++ drop BOOT_LEN image)
other_image image boot long o =
    let size : length boot ≡ BOOT_LEN = o.long ∙ length-take-le BOOT_LEN image long in
    record {
      long = length-append boot (drop BOOT_LEN image) ∙ omega (arith, size, length-drop BOOT_LEN image);
      begins = take-append-le 4 boot (drop BOOT_LEN image) (omega (arith, size)) ∙ o.begins ∙ take-take 4 BOOT_LEN image (omega arith);
      behind = drop_at boot (drop BOOT_LEN image) BOOT_LEN size;
    }

-- what is written at status 0
written_fits : (order : Order) (image : List ℕ) (reply : Reply) (t : Tree) (l : Layout) (r : Option BootRefusal) → order_refusal order image ≡ r
    → Writes r order image reply → reply.status ≡ 0 → Fits image t l → Fits reply.output t l
written_fits order image reply t l (Some refusal) e h s fit = absurd (omega (arith, h.0, s))
written_fits order image reply t l None e h s fit =
    let long : BOOT_LEN ≤ length image = omega (arith, (taken order image e).taken.least) in
    subst (λ (r : Reply). Fits r.output t l) (sym h)
    (other_fits image (changed_boot order image ++ drop BOOT_LEN image)
    (other_image image (changed_boot order image) long (other_changed order image long)) t l fit)

pub trees_stay : (order : Order) (image : List ℕ) (reply : Reply) (t : Tree) (l : Layout) → order ≢ tell → BootAnswer order image reply
    → reply.status ≡ 0 → Fits image t l → Fits reply.output t l
trees_stay tell image reply t l writes h s fit = absurd (writes refl)
trees_stay install image reply t l writes h s fit = written_fits install image reply t l (order_refusal install image) refl h s fit
trees_stay clear image reply t l writes h s fit = written_fits clear image reply t l (order_refusal clear image) refl h s fit
trees_stay (copy boot) image reply t l writes h s fit = written_fits (copy boot) image reply t l (order_refusal (copy boot) image) refl h s fit
