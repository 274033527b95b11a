use Rattle.std.proofs.Common.{◌<◌, ◌↔◌, ◌&&◌, ◌++◌, ◌∷◌, [], Bool, ℕ, List, IsTrue, if◌then◌else◌, length, ap, sym, subst, ◌∙◌, arith}
use Rattle.std.specs.List.{list_any}
use Rattle.std.specs.Map.{keys_of}
use Rattle.std.specs.Str.{bytes_eq}
use Rattle.std.proofs.lemmas.List.{take_all}
use Rattle.std.proofs.lemmas.Map.Entries.{length-keys_of}
use Rattle.std.proofs.lemmas.Map.Made.{is_some-lookup}
use Rattle.role_domain.specs.Helps.Tallies.{rows_at}
use Rattle.role_domain.specs.Relations.{pair_of}
use Rattle.role_domain.proofs.BringLemmas.{keys_more, keys_past}
use Rattle.role_domain.proofs.FitLemmas.{told_as}
use Rattle.role_domain.proofs.Keyed.{same_text}
use Rattle.role_meaning.specs.Fits.{Fits}
use Rattle.role_meaning.specs.Links.{domain_of}
use Rattle.role_domain.proofs.domain_steps.push_fitting.Goals as goal

pub loop-at-preserved-then-not-fits : goal.loop-at-preserved-then-not-fits
loop-at-preserved-then-not-fits c =
    let within : c.loop-at.at < length (keys_of c.args.domains.now.entries) = omega (arith, length-keys_of c.args.domains.now.entries, c.len-at-end.ensures.count, c.loop-at-test.true) in
    record {
      own = c.loop-at.invariant.own;
      rows = λ text test tells.
          keys_past (keys_of c.args.domains.now.entries) c.loop-at.at c.text_at-text.result.now text (test (domain_of c.args.row.now)) (rows_at c.args.tallies.now text) (rows_at c.loop-at.tallies text) (pair_of c.args.row.now)
          within (sym c.text_at-text.ensures)
          (λ same. told_as c.args.fit text test c.domain_of.result.now (domain_of c.args.row.now) c.fits.result tells c.domain_of.ensures
          (subst (λ (t : List ℕ). IsTrue c.fits.result ↔ Fits c.args.fit t c.domain_of.result.now) (sym (same_text text c.text_at-text.result.now same)) c.fits.ensures) ∙ c.if-not-fits.true)
          (c.loop-at.invariant.rows text test tells);
    }

pub loop-at-preserved : goal.loop-at-preserved
loop-at-preserved c =
    let within : c.loop-at.at < length (keys_of c.args.domains.now.entries) = omega (arith, length-keys_of c.args.domains.now.entries, c.len-at-end.ensures.count, c.loop-at-test.true) in
    record {
      own = λ text. c.in_ok-push.ensures.own text ∙ c.loop-at.invariant.own text;
      rows = λ text test tells.
          keys_more (keys_of c.args.domains.now.entries) c.loop-at.at c.text_at-text.result.now text (test (domain_of c.args.row.now)) (rows_at c.args.tallies.now text) (rows_at c.loop-at.tallies text) (rows_at c.push.new.self text)
          (pair_of c.args.row.now) c.len-at-end.ensures.once within (sym c.text_at-text.ensures)
          (λ same. told_as c.args.fit text test c.domain_of.result.now (domain_of c.args.row.now) c.fits.result tells c.domain_of.ensures
          (subst (λ (t : List ℕ). IsTrue c.fits.result ↔ Fits c.args.fit t c.domain_of.result.now) (sym (same_text text c.text_at-text.result.now same)) c.fits.ensures) ∙ c.if-not-fits.false)
          (c.in_ok-push.ensures.rows text
          ∙ ap (λ (name : List ℕ). if bytes_eq text name then rows_at c.loop-at.tallies text ++ pair_of c.args.row.now ∷ [] else rows_at c.loop-at.tallies text) (c.as_str.ensures ∙ c.name_at.ensures ∙ sym c.text_at-text.ensures))
          (c.loop-at.invariant.rows text test tells);
    }

pub returns-clause-rows : goal.returns-clause-rows
returns-clause-rows c = λ text test tells.
    c.loop-at.invariant.rows text test tells
    ∙ ap (λ (b : Bool). if b && test (domain_of c.args.row.now) then rows_at c.args.tallies.now text ++ pair_of c.args.row.now ∷ [] else rows_at c.args.tallies.now text)
    (ap (list_any (bytes_eq text)) (take_all c.loop-at.at (keys_of c.args.domains.now.entries) (omega (arith, length-keys_of c.args.domains.now.entries, c.len-at-end.ensures.count, c.loop-at-test.false)))
    ∙ sym (is_some-lookup (bytes_eq text) c.args.domains.now.entries))
