use Rattle.std.proofs.Common.{rules, ◌≡◌, ◌++◌, ◌∷◌, [], List, ℕ, false, sym, ap, ◌∙◌}
use Rattle.matcher_read.specs.Expression.{expression}
use Rattle.model_conf.specs.Printed.{printed}
use Rattle.near_miss.specs.Written.{written}
use Rattle.near_miss.proofs.PartLemmas.{front_text, printed_front, text_made}
use Rattle.near_miss.proofs.parts.text_with.Goals as goal

pub returns : goal.returns
returns c =
    let m = c.args.model.now in
    let part = written false (expression c.args.tree.now) in
    let whole : c.bytes.result.now ≡ printed m = search rules in
    let matcher : c.bytes-2.result.now ≡ m.matcher_text = search rules in
    let first : c.in_ok-text.text.items ≡ c.front_of-front.result.now = search rules in
    let second : c.extend_from_slice.new.self.items ≡ c.in_ok-text.text.items ++ part = search rules in
    let third : c.push.new.self.items ≡ c.extend_from_slice.new.self.items ++ 10 ∷ [] = search rules in
    text_made m part c.front_of-front.result.now c.in_ok-text.text.items c.extend_from_slice.new.self.items c.push.new.self.items
    (c.front_of-front.ensures (front_text m) (whole ∙ printed_front m ∙ ap (λ (l : List ℕ). front_text m ++ (l ++ 10 ∷ [])) (sym matcher))) first second third
