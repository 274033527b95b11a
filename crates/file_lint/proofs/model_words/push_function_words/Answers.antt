use Rattle.std.proofs.Common.{codes, Option, ap}
use Rattle.std.specs.Borrow.{Bor}
use Rattle.std.specs.Prelude.{ℕ, List, option_map, string_bytes}
use Rattle.file_lint.specs.ModelWords.{or_near}
use Rattle.file_lint.specs.Near.{called_names, near_name}
use Rattle.file_lint.specs.Texts.{quoted}
use Rattle.file_lint.proofs.PushLemmas.{pushed_so, three_pushed}
use Rattle.file_lint.proofs.model_words.push_function_words.Goals as goal

pub returns : goal.returns
returns c =
    let all = codes ": the functions are keyMatch to keyMatch5, regexMatch, ipMatch, globMatch, keyGet to keyGet3" in
    let name = c.args.name.now in
    three_pushed (string_bytes c.args.words.now) (string_bytes c.push.new.text) (string_bytes c.push_quoted.new.text) (string_bytes c.push_near.new.words) (codes "unknown function ") (quoted name) (or_near all (near_name name called_names)) c.in_ok-push.ensures c.in_ok-push_quoted.ensures
    (pushed_so _ _ (or_near all (option_map (λ (near : Bor (List ℕ)). near.now) c.near_function.result)) (or_near all (near_name name called_names)) (ap (λ (o : Option (List ℕ)). or_near all o) c.near_function.ensures) c.in_ok-push_near.ensures)
