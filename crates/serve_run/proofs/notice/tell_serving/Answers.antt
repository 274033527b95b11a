use Rattle.std.proofs.Common.{◌≡◌, sym, ap}
use Rattle.command_words.specs.FileNames.{FileNames}
use Rattle.run_status.proofs.CallerLemmas.{told_by_push}
use Rattle.serve_run.proofs.notice.tell_serving.Goals as goal

pub returns : goal.returns
returns g c =
    let model : c.args.files.now.model ≡ c.files.inside.model.now = ap (λ (f : FileNames). f.model) (sym c.files.view_is) in
    rw model (told_by_push _ _ _ _ _ _ c.push_serving.ensures)
