use Rattle.std.proofs.Common.{◌≤◌, [], ◌∷◌, length, rules}
use Rattle.std.proofs.lemmas.Result.{err_from_is_err_and}
use Rattle.outside.specs.Faults.{Rose}
use Rattle.outside.specs.Files.{Holds}
use Rattle.outside.specs.Log.{Adds, call}
use Rattle.run_status.specs.Parts.{limit_of}
use Rattle.run_status.specs.declared.part.Part.TheVariants as part
use Rattle.run_files.proofs.ReadingLemmas.{policy_stops}
use Rattle.run_files.proofs.files.read_policy_file.Goals as goal

pub returns-in_err-read_policy-clause-stopped : goal.returns-in_err-read_policy-clause-stopped
returns-in_err-read_policy-clause-stopped g c =
    let p = err_from_is_err_and c.from_residual-in_err-read_policy.result c.from_residual-in_err-read_policy.ensures.1 in
    let holds : Holds (g.F.Shelf.files c.args.shelf.now) c.args.name.now c.deref.result.now = search rules in
    let within : length c.deref.result.now ≤ limit_of part.Policy = search rules in
    rw (p.1, p.2) (policy_stops (g.F.Shelf.files c.args.shelf.now) c.args.name.now c.args.shapes.now (λ failed. Adds (g.F.Shelf.calls c.args.shelf.now) (g.F.Shelf.calls c.fetch.new.shelf) (call c.args.name.now failed ∷ [])) (Rose (g.F.Shelf.faults c.args.shelf.now) (g.F.Shelf.faults c.fetch.new.shelf)) c.deref.result.now c.in_err-read_policy.field-0.0 holds within (search rules) c.in_err-read_policy.ensures.fault)
