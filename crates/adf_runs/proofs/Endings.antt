-- How a work ends, and by which answers.
use Rattle.std.proofs.Common.{◌≡◌, ◌<◌, ◌+◌, ◌∙◌, inl, inr, ℕ, Bool, false, List, Option, Some, None, IfSome, Err, refl, subst, sym, arith, length, take}
use Rattle.std.proofs.{Common.length-take, lemmas.Bool.cases_lt, lemmas.List.take_all}
use Rattle.adf_runs.specs.{Commands.Reply, Commands.WritesFront, Streams.Seen, Streams.is_device, Streams.still}
use Rattle.adf_runs.specs.Outcomes.{Does, DoesSilently, EndsBy, after_writing, outcome_text, status_of}
use Rattle.adf_runs.specs.declared.outcome.Outcome.{Outcome, TheVariants.ReadFault, TheVariants.WriteFault, TheVariants.NoMemory}
use Rattle.adf_runs.specs.declared.streams.StreamFault.{StreamFault, TheVariants.Device, TheVariants.NoMemory as StreamNoMemory}
use Rattle.adf_runs.proofs.PendingText.{appends_nil}

-- what ends by some answers ends by others that they are
pub ends_weaker : (few more : Reply → Type 0) (w : Outcome) (o o' : Option (List ℕ)) → ((reply : Reply) → few reply → more reply)
    → EndsBy few w o o' → EndsBy more w o o'
ends_weaker few more ReadFault o o' f h = h
ends_weaker few more WriteFault o o' f h = (h.0, f h.0 h.1, h.2)
ends_weaker few more NoMemory o o' f (inl none) = inl none
ends_weaker few more NoMemory o o' f (inr h) = inr (h.0, f h.0 h.1, h.2)
ends_weaker few more w o o' f h = (h.0, f (record { status = status_of w; output = h.0; errors = outcome_text w }) h.1, h.2)

-- what does one of some answers does one of others that they are
pub does_weaker : (few more : Reply → Type 0) {w : Outcome} {output : Seen} → ((reply : Reply) → few reply → more reply)
    → Does few w output → Does more w output
does_weaker few more {w} {output} f h =
    record { ends = ends_weaker few more w output.before output.after f h.ends; read = h.read; written = h.written }

-- what does one reply does another that it is
pub does_same : {a b : Reply} {w : Outcome} {output : Seen} → a ≡ b → Does (λ r. r ≡ b) w output → Does (λ r. r ≡ a) w output
does_same {w = w} {output = output} e h = subst (λ (x : Reply). Does (λ r. r ≡ x) w output) (sym e) h

-- an answer that writes nothing is done so to any output that works
pub silently : {answers : Reply → Type 0} {w : Outcome} {o : Option (List ℕ)} {failed : Bool} → failed ≡ false → DoesSilently answers w
    → Does answers w (still o failed)
silently {o = o} works h = record { ends = h.ends o; read = h.read; written = works ∙ sym h.written }

-- nothing is done without memory
pub nothing_done : {answers : Reply → Type 0} → DoesSilently answers NoMemory
nothing_done = record { ends = λ o. inl (appends_nil o); read = refl; written = refl }

-- a fault in writing leaves a front part of an answer, and not all where the device failed
pub front_ends : (f : StreamFault) (w : Outcome) (answers : Reply → Type 0) (output : Seen) → w ≡ after_writing f
    → output.failed ≡ is_device {T = ℕ} (Err f) → WritesFront answers output.failed output.before output.after → Does answers w output
front_ends Device w answers output e d h = rw e (record { ends = rw d at h; read = refl; written = d })
front_ends StreamNoMemory w answers output e d h = rw e (record { ends = inr (rw d at h); read = refl; written = d })

-- what is done with the bytes that are read is done with the whole input, where that is known and what answers a long front answers the whole
pub read_ends : (w : Outcome) (limit : ℕ) (answers : List ℕ → Reply → Type 0) (image : List ℕ) (left o o' : Option (List ℕ))
    → ((bytes : List ℕ) → image ≡ take (limit + 1) bytes → limit < length image → limit < length bytes
    → (reply : Reply) → answers image reply → answers bytes reply)
    → IfSome left (λ bytes. image ≡ take (limit + 1) bytes)
    → EndsBy (answers image) w o o' → IfSome left (λ bytes. EndsBy (answers bytes) w o o')
read_ends w limit answers image None o o' both e h = tt
read_ends w limit answers image (Some bytes) o o' both e h = elim (cases_lt limit (length bytes)) [
  | inr short ↦ subst (λ l. EndsBy (answers l) w o o') (e ∙ take_all (limit + 1) bytes (omega arith)) h
  | inl long ↦
      let cut : limit < length image = rw e (omega (arith, length-take {A = ℕ})) in
      ends_weaker (answers image) (answers bytes) w o o' (both bytes e cut long) h
]
