use Rattle.std.proofs.Common.{◌≡◌, ◌∙◌, ap, refl, rules, subst, sym, ℕ, List}
use Rattle.adf_tree.specs.Tree.{Tree}
use Rattle.adf_volume.specs.{Fits.FitsBy, Layout.Layout, Types.letters_for}
use Rattle.adf_memory.specs.{CheckCalls.IsCheckedOf, Tables.contents_of, Tables.refused_at, declared.tables.Contents.Contents}
use Rattle.adf_memory.proofs.{CheckedVolumes.acceptance_told, ToldCauses.refusal_told, ToldCauses.some_number}
use Rattle.adf_memory.proofs.index.put_index.Goals as goal

pub returns-in-Ok : goal.returns-in-Ok
returns-in-Ok c =
    let image = c.args.image.now in
    let ls = letters_for c.args.types image in
    let is = c.in-Ok.ensures.image in
    let put = c.put_volume.ensures in
    let told = c.put_volume.new.contents in
    let (u, m, own) = c.in-Ok.ensures.fits in
    let here : (t : Tree) (l : Layout) → FitsBy ls image t l → FitsBy ls c.in-Ok.volume t l =
    λ t l fits. subst (λ (i : List ℕ). FitsBy ls i t l) (sym is) fits in
    record {
      checked = acceptance_told c.in-Ok.volume image told.block is (u, m, own);
      entries = λ zero t l fits. put.entries ls t l (here t l fits.1);
      blocks = λ zero t l fits. put.blocks ls t l (here t l fits.1);
      contents = λ zero t l fits. subst (λ (i : List ℕ). told ≡ contents_of i t l) is (put.contents ls t l (here t l fits.1));
      letters = λ zero. put.letters ls u m (subst (λ (i : List ℕ). FitsBy (letters_for c.args.types i) c.in-Ok.volume u m) is own.1);
      few = λ zero. put.few;
      used = λ zero. put.used;
      refused = λ some. absurd (some refl);
      unchanged = λ some. absurd (some refl);
    }

pub returns-in-Err : goal.returns-in-Err
returns-in-Err c =
    let f = c.in-Err.fault in
    let e = c.in-Err.ensures in
    let image = c.args.image.now in
    let block = ap (λ (x : Contents). x.block) c.refused_at.ensures in
    let told = refusal_told image f.cause f.block c.number.result c.number.ensures e.first e.none e.memory e.begun in
    let nothing : (X : Type 0) → c.number.result ≡ 0 → X = λ X zero. absurd (some_number f.cause (sym c.number.ensures ∙ zero)) in
    record {
      checked = subst (λ b. IsCheckedOf c.args.types image b c.number.result) (sym block) told;
      entries = nothing _;
      blocks = nothing _;
      contents = nothing _;
      letters = nothing _;
      few = nothing _;
      used = nothing _;
      refused = λ some. c.refused_at.ensures ∙ ap refused_at (sym block);
      unchanged = search rules;
    }
