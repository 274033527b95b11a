use Rattle.std.proofs.Common.{◌≤◌, [], ◌∷◌, length, rules}
use Rattle.std.proofs.lemmas.Result.{err_from_is_err_and}
use Rattle.outside.specs.Faults.{Rose}
use Rattle.outside.specs.Files.{Holds}
use Rattle.outside.specs.Log.{Adds, call}
use Rattle.run_status.specs.Parts.{limit_of}
use Rattle.run_status.specs.declared.part.Part.TheVariants as part
use Rattle.run_files.proofs.ReadingLemmas.{model_stops}
use Rattle.run_files.proofs.files.read_model_file.Goals as goal

pub returns-in_err-read_model-clause-stopped : goal.returns-in_err-read_model-clause-stopped
returns-in_err-read_model-clause-stopped g c =
    let p = err_from_is_err_and c.from_residual-in_err-read_model.result c.from_residual-in_err-read_model.ensures.1 in
    let holds : Holds (g.F.Shelf.files c.args.shelf.now) c.args.name.now c.deref.result.now = search rules in
    let within : length c.deref.result.now ≤ limit_of part.Model = search rules in
    rw (p.1, p.2) (model_stops (g.F.Shelf.files c.args.shelf.now) c.args.name.now (λ failed. Adds (g.F.Shelf.calls c.args.shelf.now) (g.F.Shelf.calls c.fetch.new.shelf) (call c.args.name.now failed ∷ [])) (Rose (g.F.Shelf.faults c.args.shelf.now) (g.F.Shelf.faults c.fetch.new.shelf)) c.deref.result.now c.in_err-read_model.field-0.0 holds within (search rules) c.in_err-read_model.ensures.fault)
