use Rattle.std.proofs.Common.{[], refl, sym, append-nil, subst}
use Rattle.perm_base.specs.declared.shapes.TableId.{TableId}
use Rattle.file_lint.specs.Helps.Rows.{FindsMore, row_line}
use Rattle.file_lint.specs.RowWarnings.{AreLooked}
use Rattle.file_lint.proofs.RowLemmas.{looked_told}
use Rattle.file_lint.proofs.judge.Judge.push_held_fields.Goals as goal

pub returns-in-G : goal.returns-in-G
returns-in-G c =
    subst (λ (table : TableId). FindsMore (AreLooked c.args.self.now.model.now (row_line c.args.row.now) c.args.entry.now.rule table) c.args.found.now.items c.args.found.now.items) (sym c.in-G.is) ([], refl, sym (append-nil c.args.found.now.items))

pub returns-in-P : goal.returns-in-P
returns-in-P c =
    looked_told c.args.self.now.model.now (row_line c.args.row.now) c.args.entry.now.rule c.args.entry.now.table c.args.self.now.looked.now c.args.found.now.items c.push_looked.new.found.items c.push_looked.result c.in-P.is c.requires c.push_looked.ensures
