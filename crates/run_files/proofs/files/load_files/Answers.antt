use Rattle.std.proofs.Common.{◌≡◌, [], ◌∷◌, Err, false, rules}
use Rattle.outside.specs.Faults.{Rose}
use Rattle.outside.specs.Log.{Adds, call}
use Rattle.run_files.specs.Files.{ModelSuits}
use Rattle.run_files.specs.Helps.ReadStops.{PolicyStops}
use Rattle.run_files.proofs.LoadLemmas.{both_told, policy_load}
use Rattle.run_files.proofs.files.load_files.Goals as goal

pub returns-in_err-tables-clause-stopped : goal.returns-in_err-tables-clause-stopped
returns-in_err-tables-clause-stopped g c =
    let names = c.args.files.now in
    let options = c.args.options.now in
    let old = c.args.shelf.now in
    let mid = c.read_model_file.new.shelf in
    let new = c.read_policy_file.new.shelf in
    let reason = c.in_err-tables.field-0.0 in
    let stop : c.from_residual-in_err-tables.result ≡ Err reason = search rules in
    let first : Adds (g.F.Shelf.calls old) (g.F.Shelf.calls mid) (call names.model false ∷ []) = search rules in
    let fits : ModelSuits (g.F.Shelf.files old) names options c.in_ok-model.model = record { is_model = search rules; none_absent = search rules } in
    let stops : PolicyStops (g.F.Shelf.files mid) names.policy c.in_ok-shapes.shapes (λ failed. Adds (g.F.Shelf.calls mid) (g.F.Shelf.calls new) (call names.policy failed ∷ [])) (Rose (g.F.Shelf.faults mid) (g.F.Shelf.faults new)) reason = search rules in
    rw stop (policy_load (g.F.Shelf.files old) (g.F.Shelf.files mid) names options c.in_ok-model.model c.in_ok-shapes.shapes (g.F.Shelf.calls old) (g.F.Shelf.calls mid) (g.F.Shelf.calls new) (g.F.Shelf.faults old) (g.F.Shelf.faults mid) (g.F.Shelf.faults new) reason
    (search rules) (search rules) first (search rules) fits stops)

pub returns-clause-fetched : goal.returns-clause-fetched
returns-clause-fetched g c =
    both_told (g.F.Shelf.calls c.args.shelf.now) (g.F.Shelf.calls c.read_model_file.new.shelf) (g.F.Shelf.calls c.read_policy_file.new.shelf) c.args.files.now false (search rules) (search rules)
