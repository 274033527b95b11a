use Rattle.std.proofs.Common.{◌++◌, codes, Option, sym, ap, ◌∙◌}
use Rattle.std.specs.Borrow.{Bor}
use Rattle.std.specs.Prelude.{ℕ, List, option_map, string_bytes}
use Rattle.file_lint.specs.ModelWords.{or_near}
use Rattle.file_lint.proofs.PushLemmas.{two_pushed}
use Rattle.file_lint.proofs.model_words.push_near.Goals as goal

pub returns : goal.returns
returns c =
    two_pushed (string_bytes c.args.words.now) (string_bytes c.push-2.new.text) (string_bytes c.push-3.new.text) (codes ": did you mean ") c.in-Some.name.now c.in_ok-push-2.ensures c.in_ok-push-3.ensures
    ∙ ap (λ (o : Option (Bor (List ℕ))). string_bytes c.args.words.now ++ or_near c.args.all.now (option_map (λ (name : Bor (List ℕ)). name.now) o)) (sym c.in-Some.is)

pub returns-in_default : goal.returns-in_default
returns-in_default c =
    c.in_ok-push.ensures ∙ ap (λ (o : Option (Bor (List ℕ))). string_bytes c.args.words.now ++ or_near c.args.all.now (option_map (λ (name : Bor (List ℕ)). name.now) o)) (sym c.in_default.is)
