use Rattle.std.proofs.Common.{◌≡◌, Err, refl, rules}
use Rattle.std.proofs.lemmas.Result.{err_from_is_err_and}
use Rattle.loaded_work.specs.declared.loaded.Loaded.{Loaded}
use Rattle.enforce_core.specs.Opened.{Fits, Given}
use Rattle.enforce_core.proofs.OpeningLemmas.{model_stop, opened_from, options_stop, policy_stop, shapes_stop, stands_new}
use Rattle.enforce_core.proofs.parts.open_parts.Goals as goal

pub returns-in_err-options-clause-stopped : goal.returns-in_err-options-clause-stopped
returns-in_err-options-clause-stopped c =
    let given : Given = record { model = c.args.model.now; policy = c.args.policy.now; options = c.args.options.now } in
    let stop : c.from_residual.result ≡ Err c.in_err-options.field-0.0 = search rules in
    rw stop (options_stop given c.in_err-options.field-0.0 c.in_err-options.ensures.stopped)

pub returns-in_err-model-clause-stopped : goal.returns-in_err-model-clause-stopped
returns-in_err-model-clause-stopped c =
    let given : Given = record { model = c.args.model.now; policy = c.args.policy.now; options = c.args.options.now } in
    let p = err_from_is_err_and c.from_residual-in_err-model.result c.from_residual-in_err-model.ensures.1 in
    rw (p.1, p.2) (model_stop given c.in_err-model.field-0.0 c.in_err-model.ensures.fault)

pub returns-in_err-shapes-clause-stopped : goal.returns-in_err-shapes-clause-stopped
returns-in_err-shapes-clause-stopped c =
    let given : Given = record { model = c.args.model.now; policy = c.args.policy.now; options = c.args.options.now } in
    let stop : c.from_residual-in_err-shapes.result ≡ Err c.in_err-shapes.field-0.0 = search rules in
    rw stop (shapes_stop given c.in_ok-options.options c.in_ok-model.model c.in_err-shapes.field-0.0 c.in_ok-options.ensures.said c.in_ok-model.ensures.found c.in_err-shapes.ensures.stopped)

pub returns-in_err-tables-clause-stopped : goal.returns-in_err-tables-clause-stopped
returns-in_err-tables-clause-stopped c =
    let given : Given = record { model = c.args.model.now; policy = c.args.policy.now; options = c.args.options.now } in
    let fits : Fits given c.in_ok-model.model c.in_ok-options.options = record { said = c.in_ok-options.ensures.said; is_model = c.in_ok-model.ensures.found; present = c.in_ok-shapes.ensures.fits } in
    let stop : c.from_residual-in_err-tables.result ≡ Err c.in_err-tables.field-0.0 = search rules in
    rw stop (policy_stop given c.in_ok-options.options c.in_ok-model.model c.in_ok-shapes.shapes c.in_err-tables.field-0.0 fits c.in_ok-shapes.ensures.found c.in_err-tables.ensures.stopped)

pub parts_of-requires : goal.parts_of-requires
parts_of-requires c = record { valid = c.in_ok-shapes.ensures.valid; sound = c.in_ok-tables.ensures.sound; suits = c.in_ok-shapes.ensures.suits }

pub returns-in_err-parts-clause-stopped : goal.returns-in_err-parts-clause-stopped
returns-in_err-parts-clause-stopped c =
    let p = err_from_is_err_and c.from_residual-in_err-parts.result c.from_residual-in_err-parts.ensures.1 in
    rw (p.1, p.2) tt

pub returns-clause-opened : goal.returns-clause-opened
returns-clause-opened c =
    let given : Given = record { model = c.args.model.now; policy = c.args.policy.now; options = c.args.options.now } in
    let fits : Fits given c.in_ok-model.model c.in_ok-options.options = record { said = c.in_ok-options.ensures.said; is_model = c.in_ok-model.ensures.found; present = c.in_ok-shapes.ensures.fits } in
    let loaded : Loaded = record { model = c.in_ok-model.model; shapes = c.in_ok-shapes.shapes; tables = c.in_ok-tables.tables } in
    opened_from given c.in_ok-options.options c.in_ok-model.model loaded c.in_ok-parts.parts.0 c.in_ok-parts.parts.1 refl c.in_ok-shapes.ensures.found fits c.in_ok-tables.ensures.read c.in_ok-parts.ensures

pub returns-clause-suits : goal.returns-clause-suits
returns-clause-suits c = c.in_ok-parts.ensures.suits

pub returns-clause-stands : goal.returns-clause-stands
returns-clause-stands c = stands_new c.in_ok-parts.parts.1.state c.in_ok-parts.ensures.version

pub returns-clause-pending : goal.returns-clause-pending
returns-clause-pending c = c.in_ok-parts.ensures.pending
