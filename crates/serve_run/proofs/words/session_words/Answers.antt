use Rattle.std.proofs.Common.{◌≡◌, ◌∷◌, Some, true, false, refl, sym, ap, ◌∙◌, rules}
use Rattle.std.specs.Prelude.{bytes_eq, codes, string_bytes}
use Rattle.serve_run.proofs.WordLemmas.{session_by, session_no, session_none}
use Rattle.serve_run.proofs.words.session_words.Goals as goal

pub returns-in_default : goal.returns-in_default
returns-in_default c = session_none c.args.words.now c.in_default.ensures.cases

pub returns-then-not-is_serve : goal.returns-then-not-is_serve
returns-then-not-is_serve c =
    let is : c.args.words.now ≡ c.in-Some.name.now ∷ c.in-Some.behind.now = search rules in
    session_no c.args.words.now c.in-Some.behind.now c.in-Some.name.now is (ap (λ t. bytes_eq t (codes "serve")) (sym c.as_str.ensures.value) ∙ sym c.is_serve.ensures ∙ c.if-not-is_serve.true)

pub returns-then-has_workers : goal.returns-then-has_workers
returns-then-has_workers c =
    let is : c.args.words.now ≡ c.in-Some.name.now ∷ c.in-Some.behind.now = search rules in
    session_by c.args.words.now c.in-Some.behind.now c.behind_follow-others.result.now c.in-Some.name.now true true is c.behind_follow-others.ensures (ap (λ t. bytes_eq t (codes "serve")) (sym c.as_str.ensures.value) ∙ sym c.is_serve.ensures ∙ c.if-not-is_serve.false) (sym c.has_workers.ensures ∙ c.if-has_workers.true)

pub returns : goal.returns
returns c =
    let is : c.args.words.now ≡ c.in-Some.name.now ∷ c.in-Some.behind.now = search rules in
    ap Some c.in_ok-session.ensures ∙ session_by c.args.words.now c.in-Some.behind.now c.behind_follow-others.result.now c.in-Some.name.now true false is c.behind_follow-others.ensures (ap (λ t. bytes_eq t (codes "serve")) (sym c.as_str.ensures.value) ∙ sym c.is_serve.ensures ∙ c.if-not-is_serve.false) (sym c.has_workers.ensures ∙ c.if-has_workers.false)
