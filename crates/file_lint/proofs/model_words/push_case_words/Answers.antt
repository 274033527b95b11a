use Rattle.std.proofs.Common.{◌≡◌, ◌++◌, codes, Bool, true, false, Option, Some, None, sym, ap, ◌∙◌}
use Rattle.std.specs.Borrow.{Bor}
use Rattle.std.specs.Prelude.{ℕ, List, if◌then◌else◌, option_map, string_bytes}
use Rattle.file_lint.specs.ModelNames.{lower_of}
use Rattle.file_lint.specs.ModelWords.{case_words, is_second}
use Rattle.file_lint.specs.Texts.{quoted}
use Rattle.file_lint.proofs.PushLemmas.{four_pushed, three_pushed}
use Rattle.file_lint.proofs.model_words.push_case_words.Goals as goal

pub returns-in-Some : goal.returns-in-Some
returns-in-Some c =
    let key = c.args.key.now in
    four_pushed (string_bytes c.args.words.now) (string_bytes c.push.new.text) (string_bytes c.push_quoted.new.text) (string_bytes c.push-in-Some.new.text) (string_bytes c.push-in-Some-2.new.text)
    (codes "unknown key ") (quoted key) (codes ": keys are in lower case, write ") c.in-Some.lower.now c.in_ok-push.ensures c.in_ok-push_quoted.ensures c.in_ok-push-2.ensures c.in_ok-push-3.ensures
    ∙ ap (λ (o : Option (List ℕ)). string_bytes c.args.words.now ++ case_words key o) c.in-Some.ensures

pub returns-then-is_second : goal.returns-then-is_second
returns-then-is_second c =
    let key = c.args.key.now in
    let old = string_bytes c.args.words.now in
    let second = codes ": a model has one r, one p, one e and one m" in
    let other = codes "unknown key " ++ quoted key ++ codes ": r stands in [request_definition], p in [policy_definition], g to g8 in [role_definition], e in [policy_effect], m in [matchers]" in
    let lower : lower_of key ≡ None = sym c.lower_of.ensures ∙ ap (λ (o : Option (Bor (List ℕ))). option_map (λ (name : Bor (List ℕ)). name.now) o) c.in_default.is in
    let is : is_second key ≡ true = sym c.is_second.ensures ∙ c.if-is_second.true in
    three_pushed old (string_bytes c.push.new.text) (string_bytes c.push_quoted.new.text) (string_bytes c.push-then-is_second.new.text) (codes "unknown key ") (quoted key) second c.in_ok-push.ensures c.in_ok-push_quoted.ensures c.in_ok-push-4.ensures
    ∙ ap (λ (b : Bool). old ++ (if b then codes "unknown key " ++ quoted key ++ second else other)) (sym is) ∙ ap (λ (o : Option (List ℕ)). old ++ case_words key o) (sym lower)

pub returns : goal.returns
returns c =
    let key = c.args.key.now in
    let old = string_bytes c.args.words.now in
    let second = codes "unknown key " ++ quoted key ++ codes ": a model has one r, one p, one e and one m" in
    let other = codes ": r stands in [request_definition], p in [policy_definition], g to g8 in [role_definition], e in [policy_effect], m in [matchers]" in
    let lower : lower_of key ≡ None = sym c.lower_of.ensures ∙ ap (λ (o : Option (Bor (List ℕ))). option_map (λ (name : Bor (List ℕ)). name.now) o) c.in_default.is in
    let is : is_second key ≡ false = sym c.is_second.ensures ∙ c.if-is_second.false in
    three_pushed old (string_bytes c.push.new.text) (string_bytes c.push_quoted.new.text) (string_bytes c.push-2.new.text) (codes "unknown key ") (quoted key) other c.in_ok-push.ensures c.in_ok-push_quoted.ensures c.in_ok-push-5.ensures
    ∙ ap (λ (b : Bool). old ++ (if b then second else codes "unknown key " ++ quoted key ++ other)) (sym is) ∙ ap (λ (o : Option (List ℕ)). old ++ case_words key o) (sym lower)
