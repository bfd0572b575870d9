use Rattle.std.proofs.Common.{slice_index, ◌≡◌, ◌+◌, ◌/◌, ◌++◌, ap, suc, sym, ◌∙◌, add-one, arith}
use Rattle.adf_blocks.specs.declared.layout.TheConstants.{EXTENSION, POINTERS}
use Rattle.adf_volume.specs.{Image.table_word, Image.word_in, Image.kind_of}
use Rattle.adf_findings.specs.Files.{member_from, named_from}
use Rattle.adf_findings.specs.Remains.{below, bytes_in, bytes_left, data_at, gaps_left, named_below, own_data, with_lost}
use Rattle.adf_findings.proofs.survey_result.Survey.left_of.Goals as goal
use Rattle.adf_findings.proofs.survey_result.Survey.left_of.Goals.{then-k-eq0, else-k-eq0}

pub loop-k-preserved : goal.loop-k-preserved
loop-k-preserved c =
    let image = c.args.image.now in
    let head = c.number_at-head.result in
    let size = c.size_stated-size.result in
    let k = c.loop-k.k in
    let end = c.args.end in
    let found = named_below end image c.args.self.now c.args.n head in
    let v = c.args.self.now in
    let block : c.word-b.result ≡ named_from image head k = c.word-b.ensures ∙ ap (λ m. word_in image m (table_word k)) c.loop-k.invariant.0 in
    let node : slice_index v.nodes c.args.n ≡ head =
    sym (c.number_at-head.ensures ∙ (λ i. slice_index (c.self.view_is i).nodes (c.n.view_is i))) in
    let named : c.below-left.result ≡ found k =
    c.below-left.ensures.below
    ∙ ap (below end) (c.own_at.ensures.own ∙ (λ i. own_data (kind_of image) image (node i) k (data_at image v c.args.n k (block i)))) in (
      elim c.if-k-eq0.branch [
        | then-k-eq0 w ↦
            let e : suc (k / POINTERS) ≡ (k + 1) / POINTERS = omega (arith, w.if-k-eq0.true) in
            w.member-is ∙ (w.word-member.ensures ∙ (ap (λ m. word_in image m EXTENSION) c.loop-k.invariant.0 ∙ ap (member_from image head) e))
        | else-k-eq0 w ↦
            let e : k / POINTERS ≡ (k + 1) / POINTERS = omega (arith, w.if-k-eq0.false) in
            w.member-is ∙ (c.loop-k.invariant.0 ∙ ap (member_from image head) e)
      ],
      c.in_ok-add.ensures.bytes
          ∙ ((λ i. c.loop-k.invariant.1 i ++ bytes_in image size k (named i)) ∙ ap (bytes_left image size found) (sym (add-one k))),
      c.in_ok-add.ensures.gaps
          ∙ ((λ i. with_lost image size (c.loop-k.invariant.2 i) k (named i)) ∙ ap (gaps_left image size found) (sym (add-one k))),
    )
