use Rattle.std.proofs.Common.{◌≡◌, ◌+◌, ◌&&◌, ◌++◌, ◌∷◌, [], Bool, ℕ, List, true, false, cond, if◌then◌else◌, ap, sym, ◌∙◌}
use Rattle.std.specs.Prelude.{is_some}
use Rattle.std.specs.Str.{bytes_eq}
use Rattle.perm_base.specs.Patterns.{is_pattern}
use Rattle.policy_table.specs.Tables.{Fields}
use Rattle.role_domain.specs.Domains.{found}
use Rattle.role_domain.specs.Helps.Tallies.{own_at, rows_at}
use Rattle.role_domain.specs.Relations.{pair_of}
use Rattle.role_domain.proofs.BringLemmas.{brings_more, meets_pattern, meets_plain, tells_of, test_of}
use Rattle.role_meaning.specs.Links.{domain_of}
use Rattle.role_domain.proofs.domain_steps.add.Goals as goal

pub returns-then-is_pattern : goal.returns-then-is_pattern
returns-then-is_pattern c = λ text rows brings.
    let there : Bool = is_some (found c.args.domains.now.entries text) in
    let domain : List ℕ = domain_of c.args.row.now in
    let is : is_pattern c.args.fit domain ≡ true = ap (is_pattern c.args.fit) (sym c.domain_of.ensures) ∙ sym c.is_pattern.ensures ∙ c.if-is_pattern.true in
    brings_more c.args.fit there text rows c.args.row.now c.args.tallies.now c.push_fitting.new.tallies (test_of c.links_are_decided.ensures.fits c.args.fit text) (tells_of c.links_are_decided.ensures.fits c.args.fit text)
    (c.in_ok-push_fitting.ensures.own text ∙ c.in_ok-count.ensures.own text ∙ ap (λ (t : List ℕ). own_at c.args.tallies.now text + cond (bytes_eq text t) 1 0) c.domain_text-text.ensures)
    (λ test tells. c.in_ok-push_fitting.ensures.rows text test tells
    ∙ ap (λ (l : List Fields). if there && test domain then l ++ pair_of c.args.row.now ∷ [] else l) (c.in_ok-count.ensures.rows text)
    ∙ ap (λ (b : Bool). if b then rows_at c.args.tallies.now text ++ pair_of c.args.row.now ∷ [] else rows_at c.args.tallies.now text) (sym (meets_pattern c.args.fit there text test domain is)))
    brings

pub returns : goal.returns
returns c = λ text rows brings.
    let there : Bool = is_some (found c.args.domains.now.entries text) in
    let domain : List ℕ = domain_of c.args.row.now in
    let is : is_pattern c.args.fit domain ≡ false = ap (is_pattern c.args.fit) (sym c.domain_of.ensures) ∙ sym c.is_pattern.ensures ∙ c.if-is_pattern.false in
    brings_more c.args.fit there text rows c.args.row.now c.args.tallies.now c.push.new.self (test_of c.links_are_decided.ensures.fits c.args.fit text) (tells_of c.links_are_decided.ensures.fits c.args.fit text)
    (c.in_ok-push.ensures.own text ∙ c.in_ok-count.ensures.own text ∙ ap (λ (t : List ℕ). own_at c.args.tallies.now text + cond (bytes_eq text t) 1 0) c.domain_text-text.ensures)
    (λ test tells. c.in_ok-push.ensures.rows text
    ∙ ap (λ (l : List Fields). if bytes_eq text c.domain_text-text.result.now then l ++ pair_of c.args.row.now ∷ [] else l) (c.in_ok-count.ensures.rows text)
    ∙ ap (λ (b : Bool). if b then rows_at c.args.tallies.now text ++ pair_of c.args.row.now ∷ [] else rows_at c.args.tallies.now text) (ap (bytes_eq text) c.domain_text-text.ensures ∙ sym (meets_plain c.args.fit there text test domain is)))
    brings
