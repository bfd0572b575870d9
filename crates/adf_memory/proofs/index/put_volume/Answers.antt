use Rattle.std.proofs.Common.{ap, arith}
use Rattle.adf_volume.specs.declared.counts.Counts.{Counts}
use Rattle.adf_memory.proofs.TableLaws.{contents_small, letters_told, used_small}
use Rattle.adf_memory.proofs.index.put_volume.Goals as goal

pub put_tables-data_blocks-requires : goal.put_tables-data_blocks-requires
put_tables-data_blocks-requires c = record {
  few = λ ls t l fits. omega (arith, ap (λ (n : Counts). n.used) (c.counts-counts.ensures.exact ls t l fits));
}

pub returns-clause-contents : goal.returns-clause-contents
returns-clause-contents c = λ ls t l fits.
    c.contents_of.ensures ls t l fits (c.counts-counts.ensures.exact ls t l fits) (c.put_tables-data_blocks.ensures.count ls t l fits)

pub returns-clause-few : goal.returns-clause-few
returns-clause-few c =
    let (own, t, l, fits) = c.requires.fits in
    contents_small c.args.volume.now t l c.contents_of.result fits (returns-clause-contents c own t l fits)

pub returns-clause-used : goal.returns-clause-used
returns-clause-used c =
    let (own, t, l, fits) = c.requires.fits in
    used_small c.args.volume.now t l c.counts-counts.result c.contents_of.result (c.counts-counts.ensures.exact own t l fits)
    c.counts-counts.ensures.all (returns-clause-contents c own t l fits)

pub returns-clause-letters : goal.returns-clause-letters
returns-clause-letters c = λ ls t l fits. letters_told c.args.volume.now t l c.contents_of.result fits (returns-clause-contents c ls t l fits)
