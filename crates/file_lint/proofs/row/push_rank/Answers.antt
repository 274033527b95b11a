use Rattle.std.proofs.Common.{◌≡◌, ℕ, ◌++◌, Bool, true, List, [], ◌∷◌, codes, sym, ap, ◌∙◌}
use Rattle.std.specs.Prelude.{if◌then◌else◌, is_none}
use Rattle.policy_table.specs.Ranks.{rank}
use Rattle.file_lint.specs.RowWarnings.{field_of, rank_warnings, warning_in}
use Rattle.file_lint.specs.Texts.{quoted}
use Rattle.file_lint.specs.Helps.Rows.{row_line}
use Rattle.file_lint.proofs.ToldLemmas.{none_told, one_told}
use Rattle.file_lint.proofs.row.push_rank.Goals as goal

pub returns-then-not-ranked : goal.returns-then-not-ranked
returns-then-not-ranked c = none_told c.args.found.now.items _ (ap (rank_warnings (row_line c.args.row.now) c.args.rule.now) c.if-not-ranked.true)

pub returns-in_default : goal.returns-in_default
returns-in_default c =
    let line = row_line c.args.row.now in
    let rule = c.args.rule.now in
    let told = warning_in line 1 (quoted (field_of rule 0) ++ codes " is no number: the rule ranks behind every number") in
    none_told c.args.found.now.items _ (ap (rank_warnings line rule) c.if-not-ranked.false ∙ ap (λ n. if is_none n then told ∷ [] else []) (sym c.in_default.ensures))

pub returns : goal.returns
returns c =
    let line = row_line c.args.row.now in
    let rule = c.args.rule.now in
    let words = λ (text : List ℕ). quoted text ++ codes " is no number: the rule ranks behind every number" in
    let told = warning_in line 1 (words (field_of rule 0)) in
    let made : c.warning_in.result ≡ told = c.warning_in.ensures ∙ ap (warning_in line 1) (c.in_ok-words.ensures ∙ ap words c.field.ensures) in
    one_told c.args.found.now.items c.push.new.self.items _ told c.warning_in.result (ap (rank_warnings line rule) c.if-not-ranked.false ∙ ap (λ n. if is_none n then told ∷ [] else []) (sym c.in-None.ensures)) made c.in_ok-push.ensures.items
