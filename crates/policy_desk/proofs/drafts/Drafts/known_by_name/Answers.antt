use Rattle.std.proofs.Common.{◌∷◌, [], List, ℕ, ap, subst, sym, ◌∙◌}
use Rattle.std.specs.Prelude.{IfSome}
use Rattle.perm_base.specs.declared.shapes.TableId.TheVariants.{G, P}
use Rattle.policy_table.specs.Tables.{Fields, Policy, rows}
use Rattle.edit_calls.specs.Found.{FindFitting, KnownPlaces}
use Rattle.policy_desk.proofs.DraftLemmas.{some_items}
use Rattle.policy_desk.proofs.drafts.Drafts.known_by_name.Goals as goal

pub returns-clause-links : goal.returns-clause-links
returns-clause-links c =
    subst (λ (k : KnownPlaces). IfSome k.rules (FindFitting c.args.column (c.args.name.now ∷ []) (rows c.args.self.now (G 1)))) (sym c.new.ensures)
    (some_items c.places-links.result (λ places. places.items) (FindFitting c.args.column (c.args.name.now ∷ []) (rows c.args.self.now (G 1)))
    (subst (λ (values : Fields). IfSome c.places-links.result (λ places. FindFitting c.args.column values (rows c.args.self.now (G 1)) places.items)) c.from_ref-values.ensures.value c.places-links.ensures.found))

pub returns-clause-subjects : goal.returns-clause-subjects
returns-clause-subjects c =
    subst (λ (k : KnownPlaces). IfSome k.subjects (FindFitting c.args.shapes.now.subject_column (c.args.name.now ∷ []) (rows c.args.self.now P))) (sym c.new.ensures)
    (some_items c.places-subjects.result (λ places. places.items) (FindFitting c.args.shapes.now.subject_column (c.args.name.now ∷ []) (rows c.args.self.now P))
    (subst (λ (p : Policy). IfSome c.places-subjects.result (λ places. FindFitting c.args.shapes.now.subject_column (c.args.name.now ∷ []) (rows p P) places.items)) c.places-links.ensures.same
    (subst (λ (values : Fields). IfSome c.places-subjects.result (λ places. FindFitting c.args.shapes.now.subject_column values (rows c.places-links.new.self P) places.items)) c.from_ref-values.ensures.value c.places-subjects.ensures.found)))
