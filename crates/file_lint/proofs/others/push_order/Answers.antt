use Rattle.std.proofs.Common.{◌≡◌, ℕ, ◌+◌, Bool, true, false, List, [], ◌∷◌, codes, sym, ap, ◌∙◌, rules}
use Rattle.std.specs.Prelude.{◌&&◌, if◌then◌else◌, string_bytes}
use Rattle.file_lint.specs.RowWarnings.{is_behind_other, is_by_priority, order_warnings, warning_in}
use Rattle.file_lint.specs.Helps.Rows.{row_line}
use Rattle.file_lint.proofs.ToldLemmas.{none_told, one_told}
use Rattle.file_lint.proofs.others.push_order.Goals as goal

pub returns-in_default : goal.returns-in_default
returns-in_default c = none_told c.args.found.now.items _ (ap (order_warnings c.args.effect c.args.seen.now.policy (row_line c.args.row.now) c.args.rule.now) c.in_default.is)

pub returns-then-not-is_by_priority : goal.returns-then-not-is_by_priority
returns-then-not-is_by_priority c =
    let line = row_line c.args.row.now in
    let behind = is_behind_other c.args.seen.now.policy c.args.rule.now c.in-Some.at in
    let told = warning_in line (c.in-Some.at + 1) (codes "a rule above differs in its effect alone: it decides first, and this one is never reached") in
    let is : is_by_priority c.args.effect ≡ false = sym c.is_by_priority.ensures ∙ c.if-not-is_by_priority.true in
    none_told c.args.found.now.items _ (ap (order_warnings c.args.effect c.args.seen.now.policy line c.args.rule.now) c.in-Some.is ∙ ap (λ (b : Bool). if b && behind then told ∷ [] else []) is)

pub returns-then-not-behind : goal.returns-then-not-behind
returns-then-not-behind c =
    let line = row_line c.args.row.now in
    let told = warning_in line (c.in-Some.at + 1) (codes "a rule above differs in its effect alone: it decides first, and this one is never reached") in
    let first : is_by_priority c.args.effect ≡ true = sym c.is_by_priority.ensures ∙ c.if-not-is_by_priority.false in
    let behind : is_behind_other c.args.seen.now.policy c.args.rule.now c.in-Some.at ≡ false = sym c.in_ok-behind.ensures ∙ c.if-not-behind.true in
    none_told c.args.found.now.items _
    (ap (order_warnings c.args.effect c.args.seen.now.policy line c.args.rule.now) c.in-Some.is
    ∙ ap (λ (b : Bool). if b && is_behind_other c.args.seen.now.policy c.args.rule.now c.in-Some.at then told ∷ [] else []) first ∙ ap (λ (b : Bool). if b then told ∷ [] else []) behind)

pub returns : goal.returns
returns c =
    let line = row_line c.args.row.now in
    let at = c.in-Some.at in
    let told = warning_in line (at + 1) (codes "a rule above differs in its effect alone: it decides first, and this one is never reached") in
    let first : is_by_priority c.args.effect ≡ true = sym c.is_by_priority.ensures ∙ c.if-not-is_by_priority.false in
    let behind : is_behind_other c.args.seen.now.policy c.args.rule.now at ≡ true = sym c.in_ok-behind.ensures ∙ c.if-not-behind.false in
    let from : c.from.result ≡ at = search rules in
    let made : c.warning_in.result ≡ told = c.warning_in.ensures ∙ ap (λ (n : ℕ). warning_in line (n + 1) (string_bytes c.in_ok-words.words)) from ∙ ap (warning_in line (at + 1)) c.in_ok-words.ensures.ok in
    one_told c.args.found.now.items c.push.new.self.items _ told c.warning_in.result
    (ap (order_warnings c.args.effect c.args.seen.now.policy line c.args.rule.now) c.in-Some.is
    ∙ ap (λ (b : Bool). if b && is_behind_other c.args.seen.now.policy c.args.rule.now at then told ∷ [] else []) first ∙ ap (λ (b : Bool). if b then told ∷ [] else []) behind)
    made c.in_ok-push.ensures.items
