-- The answers to orders, case by case.
use Rattle.std.proofs.Common.{◌≡◌, ◌≢◌, ◌⊎◌, ℕ, Bool, List, [], Option, Some, None, IfSome, ◌++◌, ◌+◌, ◌<◌, ◌≤◌, true, false, drop, length, min, nat_le}
use Rattle.std.proofs.Common.{take, ap, ◌∙◌, refl, subst, sym, arith, inl, inr}
use Rattle.std.proofs.{Common.length-take, lemmas.Bool.cases_lt, lemmas.Bool.lt-leb, lemmas.Bool.le-leb, lemmas.List.take-take, lemmas.List.take_all}
use Rattle.std.proofs.lemmas.List.{take_min}
use Rattle.adf_boot_blocks.specs.BootBlocks.{is_bootable}
use Rattle.adf_boot_blocks.specs.{declared.boot.TheConstants.BOOT_LEN, declared.refusal.BootRefusal.BootRefusal, declared.refusal.TheConstants.MOST_BYTES}
use Rattle.adf_boot_blocks.proofs.Taken.{IsTaken, copy_taken, image_taken}
use Rattle.adf_runs.specs.Commands.{Reply, on_output}
use Rattle.adf_boot_cmd.specs.Answers.{BootAnswer, Order, Writes, changed_boot, line_status, order_refusal, told_status}
use Rattle.adf_boot_cmd.specs.{Answers.clear, Answers.copy, Answers.install, Answers.tell, Changing.Answers, Work.HasBoot, Work.order_of, declared.work.Work.Work}

-- as many bytes are told of as boot blocks have
pub counted : (bytes : List ℕ) (n : ℕ) → n ≡ min (length bytes) BOOT_LEN → take n bytes ≡ take BOOT_LEN bytes
counted bytes n e =
    let swapped : n ≡ min BOOT_LEN (length bytes) = omega (arith, e) in
    ap (λ (k : ℕ). take k bytes) swapped ∙ take_min BOOT_LEN bytes

pub told_short : (image : List ℕ) → length image < BOOT_LEN → told_status image ≡ 1
told_short image lt = rw (lt-leb BOOT_LEN (length image) lt) refl

pub told_long : (image : List ℕ) → BOOT_LEN ≤ length image → told_status image ≡ line_status (is_bootable image)
told_long image le = rw (le-leb BOOT_LEN (length image) le) refl

pub refused : (order : Order) (image : List ℕ) (refusal : BootRefusal) (reply : Reply) → order_refusal order image ≡ Some refusal
    → (reply.status ≡ 1) × (reply.output ≡ []) → Writes (order_refusal order image) order image reply
refused order image refusal reply e h = rw e h

pub is_written : (order : Order) (image : List ℕ) (reply : Reply) → order_refusal order image ≡ None
    → reply ≡ on_output 0 (changed_boot order image ++ drop BOOT_LEN image) → Writes (order_refusal order image) order image reply
is_written order image reply e h = rw e h

-- an order that is not refused has boot blocks, and an image that gets them
pub record IsOrderTaken (order : Order) (image : List ℕ) : Type 0 where
  pub boot : HasBoot order
  pub taken : IsTaken image

pub taken : (order : Order) (image : List ℕ) → order_refusal order image ≡ None → IsOrderTaken order image
taken tell image e = record { boot = tt; taken = image_taken image e }
taken install image e = record { boot = tt; taken = image_taken image e }
taken clear image e = record { boot = tt; taken = image_taken image e }
taken (copy boot) image e = let both = copy_taken image boot e in record { boot = both.boot; taken = both.taken }

not_taken : (order : Order) (image : List ℕ) → MOST_BYTES < length image → order_refusal order image ≢ None
not_taken order image lt e = omega (arith, lt, (taken order image e).taken.most)

-- what is refused is answered so, whichever image it is
both_refused : (order : Order) (image bytes : List ℕ) (one other : Option BootRefusal) (reply : Reply) → one ≢ None → other ≢ None
    → Writes one order image reply → Writes other order bytes reply
both_refused order image bytes None other reply none more h = absurd (none refl)
both_refused order image bytes (Some why) None reply none more h = absurd (more refl)
both_refused order image bytes (Some why) (Some reason) reply none more h = h

pub refused_both : (order : Order) (image bytes : List ℕ) (reply : Reply) → order_refusal order image ≢ None → MOST_BYTES < length bytes
    → Writes (order_refusal order image) order image reply → Writes (order_refusal order bytes) order bytes reply
refused_both order image bytes reply none more h =
    both_refused order image bytes (order_refusal order image) (order_refusal order bytes) reply none (not_taken order bytes more) h

-- what is past one byte more than the largest image does not count
pub long_answers : (order : Order) (image bytes : List ℕ) → image ≡ take (MOST_BYTES + 1) bytes → MOST_BYTES < length image → MOST_BYTES < length bytes
    → (reply : Reply) → BootAnswer order image reply → BootAnswer order bytes reply
long_answers tell image bytes front lt more reply h =
    h ∙ ap told_status (ap (take BOOT_LEN) front ∙ take-take BOOT_LEN (MOST_BYTES + 1) bytes (omega arith))
long_answers install image bytes front lt more reply h = refused_both install image bytes reply (not_taken install image lt) more h
long_answers clear image bytes front lt more reply h = refused_both clear image bytes reply (not_taken clear image lt) more h
long_answers (copy boot) image bytes front lt more reply h = refused_both (copy boot) image bytes reply (not_taken (copy boot) image lt) more h

-- the answer to what was read of an input is that to the whole
pub whole_answers : (order : Order) (image : List ℕ) (left : Option (List ℕ)) (n : ℕ) (new : List ℕ) → IfSome left (λ bytes. image ≡ take (MOST_BYTES + 1) bytes)
    → BootAnswer order image (record { status = n; output = new; errors = [] }) → Answers order left n new
whole_answers order image None n new front h = tt
whole_answers order image (Some bytes) n new front h = elim (cases_lt MOST_BYTES (length bytes)) [
  | inr short ↦ subst (λ all. BootAnswer order all (record { status = n; output = new; errors = [] }))
      (front ∙ take_all (MOST_BYTES + 1) bytes (omega arith)) h
  | inl long ↦
      let cut : MOST_BYTES < length image = rw front (omega (arith, length-take {A = ℕ})) in
      long_answers order image bytes front cut long (record { status = n; output = new; errors = [] }) h
]

-- what is told of an image, and an order that writes is answered by what is written
pub told_answer : (order : Order) (image : List ℕ) (reply : Reply) → order ≡ tell → reply.status ≡ told_status (take BOOT_LEN image)
    → BootAnswer order image reply
told_answer order image reply e h = rw e h

pub work_writes : (w v : Work) → w ≡ v → order_of v ≢ tell → order_of w ≢ tell
work_writes w v e writes told = writes (ap order_of (sym e) ∙ told)

pub writes_answer : (order : Order) (image : List ℕ) (reply : Reply) → order ≢ tell → Writes (order_refusal order image) order image reply
    → BootAnswer order image reply
writes_answer tell image reply none h = absurd (none refl)
writes_answer install image reply none h = h
writes_answer clear image reply none h = h
writes_answer (copy boot) image reply none h = h

pub refusal_answer : (order : Order) (image : List ℕ) → order ≢ tell → order_refusal order image ≢ None
    → BootAnswer order image (record { status = 1; output = []; errors = [] })
refusal_answer order image none refuses = writes_answer order image (record { status = 1; output = []; errors = [] }) none (some (order_refusal order image) refuses)
  where
    some : (why : Option BootRefusal) → why ≢ None → Writes why order image (record { status = 1; output = []; errors = [] })
    some None none = absurd (none refl)
    some (Some why) none = (refl, refl)
