use Rattle.std.proofs.Common.{◌≡◌, ◌∙◌, ap, option_map, refl, sym}
use Rattle.std.specs.Option.{unwrap_or}
use Rattle.adf_boot_cmd.specs.{Changing.AsksChange, Changing.BootChange, CommandLine.boot_request_value, Work.order_of}
use Rattle.adf_boot_cmd.proofs.Changes.{change_of, made, no_change, not_made, unwrapped, words_refused}
use Rattle.adf_file_runs.specs.FileRuns.{KnownFiles, known_files}
use Rattle.adf_boot_cmd.proofs.changing.change_boot.Goals as goal

pub returns-in-Err : goal.returns-in-Err
returns-in-Err g c =
    words_refused c.args.change.now (known_files g.F.Files.bytes_of g.F.Files.may_fail g.F.Files.may_open c.args.files.now) _ _ _ c.in-Err.fault refl
    (ap (λ (o : BootChange). o.words) c.change.view_is) c.in-Err.ensures.refused (rw c.from.ensures at c.refuse.ensures.status)

pub returns-in-None : goal.returns-in-None
returns-in-None g c =
    no_change c.args.change.now (known_files g.F.Files.bytes_of g.F.Files.may_fail g.F.Files.may_open c.args.files.now) _ _ _
    (boot_request_value c.in-Ok.asked.request) _ refl
    (ap (λ (o : BootChange). o.words) c.change.view_is) c.in-Ok.ensures.ok c.in-Ok.ensures.file
    (sym c.image_asked.ensures ∙ ap (option_map (λ s. s.now)) c.in-None.is) refl

pub returns-in-Err-image_from : goal.returns-in-Err-image_from
returns-in-Err-image_from g c =
    let files : KnownFiles = known_files g.F.Files.bytes_of g.F.Files.may_fail g.F.Files.may_open c.args.files.now in
    let asked : AsksChange c.args.change.now.words (boot_request_value c.in-Ok.asked.request) c.in-Some.image.now =
    change_of _ _ _ _ _ c.in-Some.image.now (ap (λ (o : BootChange). o.words) c.change.view_is) c.in-Ok.ensures.ok c.in-Ok.ensures.file
    c.image_asked.ensures (ap (option_map (λ s. s.now)) c.in-Some.is) in
    not_made c.args.change.now files _ _ _ c.in-Some.image.now (order_of c.in-Ok-work_for.work) _ asked c.in-Ok-work_for.ensures.ok
    (rw c.as_bytes-2.ensures.value at c.in-Ok-open.ensures.bytes) refl (rw (← c.finish.ensures.status) at c.in-Err-image_from.ensures.refused)

pub returns-in-Ok-replace : goal.returns-in-Ok-replace
returns-in-Ok-replace g c =
    let files : KnownFiles = known_files g.F.Files.bytes_of g.F.Files.may_fail g.F.Files.may_open c.args.files.now in
    let asked : AsksChange c.args.change.now.words (boot_request_value c.in-Ok.asked.request) c.in-Some.image.now =
    change_of _ _ _ _ _ c.in-Some.image.now (ap (λ (o : BootChange). o.words) c.change.view_is) c.in-Ok.ensures.ok c.in-Ok.ensures.file
    c.image_asked.ensures (ap (option_map (λ s. s.now)) c.in-Some.is) in
    let named : c.unwrap_or-target.result.now ≡ unwrap_or c.args.change.now.target c.in-Some.image.now =
    ap (λ s. s.now) c.unwrap_or-target.ensures ∙ (unwrapped (λ s. s.now) c.change.inside.target c.in-Some.image
    ∙ ap (λ (o : BootChange). unwrap_or o.target c.in-Some.image.now) c.change.view_is) in
    made c.args.change.now files _ _ _ c.in-Some.image.now (order_of c.in-Ok-work_for.work) _ asked c.in-Ok-work_for.ensures.ok
    (rw c.as_bytes-2.ensures.value at c.in-Ok-open.ensures.bytes) c.in-Ok-image_from.new.items c.as_bytes-3.result.now c.deref.result.now
    c.in-Ok-image_from.ensures.new (c.as_bytes-3.ensures.value ∙ named) c.deref.ensures.value c.in-Ok-replace.ensures.replaced refl
