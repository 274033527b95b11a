use Rattle.std.proofs.Common.{◌≡◌, ◌++◌, [], List, ℕ, drop, ap, ◌∙◌, rules}
use Rattle.std.specs.Prelude.{codes, decimal, string_bytes}
use Rattle.answer_lines.specs.LineText.{answer_text, line_text}
use Rattle.live_serve.proofs.NumberLemmas.{plain_ascii, plain_long, told_again}
use Rattle.live_serve.proofs.text.push_told.Goals as goal

pub behind_front-requires-clause-long : goal.behind_front-requires-clause-long
behind_front-requires-clause-long c =
    let empty : string_bytes c.clear.new.self ≡ [] = search rules in
    plain_long _ c.args.line.now.number (answer_text c.args.line.now.answer) c.requires.under_0 (c.as_str.ensures.value ∙ c.in_ok-push_line.ensures.appended ∙ ap (λ (t : List ℕ). t ++ line_text c.args.line.now) empty)

pub behind_front-requires-clause-ascii : goal.behind_front-requires-clause-ascii
behind_front-requires-clause-ascii c =
    let empty : string_bytes c.clear.new.self ≡ [] = search rules in
    plain_ascii _ c.args.line.now.number (answer_text c.args.line.now.answer) c.requires.under_0 (c.as_str.ensures.value ∙ c.in_ok-push_line.ensures.appended ∙ ap (λ (t : List ℕ). t ++ line_text c.args.line.now) empty)

pub returns : goal.returns
returns c =
    let empty : string_bytes c.clear.new.self ≡ [] = search rules in
    let plain : c.as_str.result.now ≡ line_text c.args.line.now = c.as_str.ensures.value ∙ c.in_ok-push_line.ensures.appended ∙ ap (λ (t : List ℕ). t ++ line_text c.args.line.now) empty in
    let all : string_bytes c.push_str.new.self ≡ string_bytes c.push_number.new.text ++ c.behind_front.result.now = search rules in
    all ∙ ap (λ (t : List ℕ). t ++ c.behind_front.result.now) c.in_ok-push_number.ensures ∙ ap (λ (t : List ℕ). (string_bytes c.args.text.now ++ (decimal c.args.number ++ codes " ")) ++ t) c.behind_front.ensures
    ∙ told_again (string_bytes c.args.text.now) c.as_str.result.now c.args.line.now.number c.args.number (answer_text c.args.line.now.answer) c.requires.under_0 plain
