-- Laws of what is pending.
use Rattle.std.proofs.Common.{◌≡◌, ◌≢◌, ◌++◌, ◌∙◌, ℕ, Bool, List, Option, Some, None, [], ◌∷◌, refl, sym, ap, append_assoc, append-nil}
use Rattle.std.specs.Io.KnownBytes.{Appends}
use Rattle.adf_runs.specs.Streams.{AppendsPart, KeepsPending, Pending}
use Rattle.adf_runs.proofs.KnownBytes.{appends_two}

pub appends_nil : (a : Option (List ℕ)) → Appends a a []
appends_nil None = tt
appends_nil (Some x) = sym (append-nil x)

-- what waits before anything is written
pub pending_begun : (a : Option (List ℕ)) (text done : List ℕ) → done ≡ text → Pending a a text done
pending_begun a text done e = ([], appends_nil a, e)

pub pending_more : (a b : Option (List ℕ)) (text done more done' : List ℕ) → done' ≡ done ++ more → Pending a b text done
    → Pending a b (text ++ more) done'
pending_more a b text done more done' e p = (p.0, p.1, rw (e, p.2, append_assoc))

pub pending_end : (a b c : Option (List ℕ)) (text done : List ℕ) → Pending a b text done → Appends b c text → Appends a c done
pending_end a b c text done p q = appends_two a b c p.0 text done p.2 p.1 q

-- where something is left of a text, something is left of a longer one
left_more : (rest more : List ℕ) → rest ≢ [] → rest ++ more ≢ []
left_more [] more some e = some refl
left_more (x ∷ xs) more some e = cc

pub pending_fails : {failed : Bool} (a b c : Option (List ℕ)) (text done rest whole : List ℕ) → whole ≡ done ++ rest → Pending a b text done
    → AppendsPart failed b c text → AppendsPart failed a c whole
pending_fails a b c text done rest whole e p q = (
  p.0 ++ q.0,
  q.1 ++ rest,
  rw (e, p.2, q.2) (simp append_assoc),
  λ fails. left_more q.1 rest (q.3 fails),
  appends_two a b c p.0 q.0 (p.0 ++ q.0) refl p.1 q.4,
)

pub pending_cleared : (b c : Option (List ℕ)) (text text' : List ℕ) → text' ≡ [] → Appends b c text → KeepsPending b text c text'
pending_cleared b c text text' e q = λ a done p. (done, pending_end a b c text done p q, sym (ap (λ l. done ++ l) e ∙ append-nil done))

-- the text that waits is written, and more waits in its place
pub pending_flushed : (b c : Option (List ℕ)) (text more text' : List ℕ) → text' ≡ more → Appends b c text → KeepsPending b (text ++ more) c text'
pending_flushed b c text more text' e q = λ a done p.
    (p.0 ++ text, appends_two a b c p.0 text (p.0 ++ text) refl p.1 q, rw (e, p.2) (sym (append_assoc p.0 text more)))

-- a front part of a text is one of a longer text
pub part_of_more : {failed : Bool} (b c : Option (List ℕ)) (text more : List ℕ) → AppendsPart failed b c text → AppendsPart failed b c (text ++ more)
part_of_more b c text more q = pending_fails b b c text text more (text ++ more) refl (pending_begun b text text refl) q

-- the text that waits is written, and a front part of more
pub part_behind : {failed : Bool} (b c d : Option (List ℕ)) (text more : List ℕ) → Appends b c text → AppendsPart failed c d more
    → AppendsPart failed b d (text ++ more)
part_behind b c d text more p q = pending_fails b c d more (text ++ more) [] (text ++ more) (sym (append-nil (text ++ more))) (text, p, refl) q
