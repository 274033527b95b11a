use Rattle.std.proofs.Common.{◌≡◌, Bool, List, [], ◌∷◌, ◌++◌, codes, sym, ap, ◌∙◌}
use Rattle.std.specs.Prelude.{if◌then◌else◌}
use Rattle.file_lint.specs.RowWarnings.{warning_in}
use Rattle.file_lint.specs.declared.finding.Finding.{Finding}
use Rattle.file_lint.specs.Helps.Rows.{row_line}
use Rattle.file_lint.proofs.row.repeat_warnings.Goals as goal

pub returns-then-not-has : goal.returns-then-not-has
returns-then-not-has c =
    let told = warning_in (row_line c.args.row.now) 0 (codes "this rule stands above already: it counts once") in
    c.new-found.ensures.items ∙ ap (λ (b : Bool). if b then told ∷ [] else []) (sym (sym c.has.ensures ∙ c.if-not-has.true))

pub returns : goal.returns
returns c =
    let line = row_line c.args.row.now in
    let told = warning_in line 0 (codes "this rule stands above already: it counts once") in
    let made : c.warning_in.result ≡ told = c.warning_in.ensures ∙ ap (warning_in line 0) c.in_ok-words.ensures.ok in
    c.in_ok-push.ensures.items ∙ ap (λ (l : List Finding). l ++ c.warning_in.result ∷ []) c.new-found.ensures.items ∙ ap (λ (f : Finding). f ∷ []) made
    ∙ ap (λ (b : Bool). if b then told ∷ [] else []) (sym (sym c.has.ensures ∙ c.if-not-has.false))
