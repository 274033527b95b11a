use Rattle.std.proofs.Common.{◌≡◌, ◌++◌, List, ap, ◌∙◌, refl, rules}
use Rattle.std.specs.Prelude.{string_bytes}
use Rattle.desk_session.proofs.CallerLemmas.{asked_decided, on_err_of}
use Rattle.near_miss.specs.Lines.{miss_lines}
use Rattle.near_miss.specs.declared.misses.NearMiss.{NearMiss}
use Rattle.perm_base.specs.declared.shapes.TableId.TheVariants.{P}
use Rattle.policy_state.specs.States.{tables}
use Rattle.policy_table.specs.Tables.{rows}
use Rattle.loaded_work.proofs.ExplainLemmas.{tells_misses, tells_no_misses}
use Rattle.loaded_work.proofs.guide.push_misses.Goals as goal

pub returns-in-Err-clause-told : goal.returns-in-Err-clause-told
returns-in-Err-clause-told g c =
    tells_no_misses c.args.guide.now.explainer.now c.args.guide.now.most c.args.guide.now.program.now c.args.guide.now.state.now c.args.request.now _ c.args.text.now c.in-Err.ensures.refused.0

pub returns-in_err-misses-clause-stopped : goal.returns-in_err-misses-clause-stopped
returns-in_err-misses-clause-stopped g c = on_err_of c.from_residual.result (asked_decided c.args.guide.now.program.now c.args.request.now _ _ (c.in_default.ensures.taken.0 refl) c.near_misses.ensures.used)

pub returns-in_err-push_near_misses-clause-stopped : goal.returns-in_err-push_near_misses-clause-stopped
returns-in_err-push_near_misses-clause-stopped g c =
    on_err_of c.from_residual-in_err-push_near_misses.result (asked_decided c.args.guide.now.program.now c.args.request.now _ _ (c.in_default.ensures.taken.0 refl) c.near_misses.ensures.used)

pub returns-clause-told : goal.returns-clause-told
returns-clause-told g c =
    let parts = c.args.guide.now.explainer.now in
    let state = c.args.guide.now.state.now in
    let old = string_bytes c.args.text.now in
    let found = c.in_ok-misses.misses.items in
    let same : c.as_slice.result.now ≡ found = search rules in
    let text : string_bytes c.push_near_misses.new.text ≡ old ++ miss_lines parts (rows (tables state) P) found
    = c.in_ok-push_near_misses.ensures ∙ ap (λ (misses : List NearMiss). old ++ miss_lines parts (rows (tables state) P) misses) same in
    tells_misses parts c.args.guide.now.most c.args.guide.now.program.now state c.args.request.now _ _ found c.args.text.now c.push_near_misses.new.text (c.in_default.ensures.taken.0 refl) c.near_misses.ensures.used c.in_ok-misses.ensures.misses text
