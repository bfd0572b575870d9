use Rattle.std.specs.Prelude.{Some}
use Rattle.std.proofs.Common.{◌∙◌, ap, sym}
use Rattle.std.proofs.lemmas.Option.{same_Some}
use Rattle.adf_volume.specs.declared.owner_class.OwnerClass.TheVariants.{Page}
use Rattle.adf_cached_files.proofs.SameParts.{page_only, page_told}
use Rattle.adf_cached_files.proofs.sameness.is_page.Goals as goal

pub returns-in-Some : goal.returns-in-Some
returns-in-Some c = record {
  page = λ ls t l fits page.
      let told = page_told c.args.volume.now t l fits c.args.b c.owner_class.result (c.owner_class.ensures.part ls t l fits) page in
      c.is_page_class.ensures.1 (same_Some c.in-Some.class Page (sym c.in-Some.is ∙ told));
  other = λ ls t l fits none yes.
      page_only c.args.volume.now t l fits c.args.b c.owner_class.result (c.owner_class.ensures.part ls t l fits) c.owner_class.ensures.boot
      (c.owner_class.ensures.free ls t l fits) c.requires (c.in-Some.is ∙ ap (λ x. Some x) (c.is_page_class.ensures.0 yes)) none;
}
