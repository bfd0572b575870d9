use Rattle.std.proofs.Common.{◌≡◌, ◌++◌, ◌∷◌, [], ◌∙◌, List, ℕ, Bor, ap, sym, subst, map, if◌then◌else◌, arith}
use Rattle.std.specs.{List.All, Str.IsUtf8}
use Rattle.std.proofs.lemmas.Grind.{common_steps}
use Rattle.adf_memory.specs.Words.{between_zeros}
use Rattle.adf_memory.proofs.WordParts.{no_text, pushed_split, pushed_texts}
use Rattle.adf_memory.proofs.words.words_in.Goals as goal

pub returns-in_default-from_utf8-clause-err : goal.returns-in_default-from_utf8-clause-err
returns-in_default-from_utf8-clause-err c _ = grind (arith, common_steps, no_text)

pub loop-rest-preserved : goal.loop-rest-preserved
loop-rest-preserved c =
    let items : List (Bor (List ℕ)) = c.loop-rest.words.items in
    let text : Bor (List ℕ) = c.in-Ok.text in
    let more : List (Bor (List ℕ)) = items ++ text ∷ [] in
    let pushed : c.push.new.self.items ≡ more = c.push.ensures.items ∙ ap (λ b. if b then more else items) c.if-is_err.ensures.negation in
    let back : more ≡ c.push.new.self.items = sym pushed in
    let is = c.in-Ok.ensures.cases in
    record {
      split = subst (λ (ws : List (Bor (List ℕ))). between_zeros c.args.bytes.now ≡ map (λ w. w.now) ws ++ between_zeros c.in-Some.after.now) back
          (pushed_split c.args.bytes.now c.loop-rest.rest.now c.in-Some.word.now c.in-Some.after.now items text
          c.loop-rest.invariant.split c.in-Some.ensures.some is.0);
      texts = subst (λ (ws : List (Bor (List ℕ))). All IsUtf8 (map (λ w. w.now) ws)) back
          (pushed_texts items text c.loop-rest.invariant.texts (subst IsUtf8 (sym is.0) is.1));
    }
