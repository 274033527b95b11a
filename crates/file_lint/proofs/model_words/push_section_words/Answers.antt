use Rattle.std.proofs.Common.{codes, Option, ap}
use Rattle.std.specs.Borrow.{Bor}
use Rattle.std.specs.Prelude.{ℕ, List, option_map, string_bytes}
use Rattle.file_lint.specs.ModelWords.{or_near}
use Rattle.file_lint.specs.Near.{near_name, section_names}
use Rattle.file_lint.specs.Texts.{quoted}
use Rattle.file_lint.proofs.PushLemmas.{pushed_so, three_pushed}
use Rattle.file_lint.proofs.model_words.push_section_words.Goals as goal

pub returns : goal.returns
returns c =
    let all = codes ": the sections are request_definition, policy_definition, role_definition, policy_effect, matchers" in
    let name = c.args.name.now in
    three_pushed (string_bytes c.args.words.now) (string_bytes c.push.new.text) (string_bytes c.push_quoted.new.text) (string_bytes c.push_near.new.words) (codes "unknown section ") (quoted name) (or_near all (near_name name section_names)) c.in_ok-push.ensures c.in_ok-push_quoted.ensures
    (pushed_so _ _ (or_near all (option_map (λ (near : Bor (List ℕ)). near.now) c.near_section.result)) (or_near all (near_name name section_names)) (ap (λ (o : Option (List ℕ)). or_near all o) c.near_section.ensures) c.in_ok-push_near.ensures)
