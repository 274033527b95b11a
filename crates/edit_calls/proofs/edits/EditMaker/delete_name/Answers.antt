use Rattle.std.proofs.Common.{◌∷◌, [], List, ℕ, Option, subst, sym}
use Rattle.std.specs.Prelude.{IfSome}
use Rattle.perm_base.specs.declared.shapes.TableId.TheVariants.{G, P}
use Rattle.policy_table.specs.Tables.{rows}
use Rattle.edit_calls.specs.Found.{FindFitting}
use Rattle.edit_calls.proofs.edits.EditMaker.delete_name.Goals as goal

pub push_removes-requires-clause-known : goal.push_removes-requires-clause-known
push_removes-requires-clause-known c =
    subst (λ (o : Option (List ℕ)). IfSome o (FindFitting c.args.column (c.args.name.now ∷ []) (rows c.args.self.now.tables.now.policy (G 1)))) (sym c.rules.ensures) c.requires.links

pub push_removes-requires-2-clause-known : goal.push_removes-requires-2-clause-known
push_removes-requires-2-clause-known c =
    subst (λ (o : Option (List ℕ)). IfSome o (FindFitting c.args.shapes.now.subject_column (c.args.name.now ∷ []) (rows c.args.self.now.tables.now.policy P))) (sym c.subjects.ensures) c.requires.subjects
