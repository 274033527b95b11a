use Rattle.std.proofs.Common.{◌≡◌, ◌∙◌, ℕ, List, refl, sym, subst, arith}
use Rattle.std.proofs.lemmas.List.{length-map}
use Rattle.role_graph.specs.Helps.Roles.{HasNames, HasNoZero}
use Rattle.role_graph.proofs.CopyLemmas.{copied_all, copied_next, key_text, seen_self}
use Rattle.role_graph.proofs.roles.Roles.copy.Goals as goal

pub loop-at-preserved : goal.loop-at-preserved
loop-at-preserved c =
    sym (seen_self c.insert.new.self.entries) ∙ copied_next key_text (λ (n : ℕ). n) c.args.self.now.entries c.loop-at.counts.entries c.insert.new.self.entries c.loop-at.at c.in_ok-copy.field-0 c.entry-count.result.1 c.entry-count.result.0.now c.entry-count.result.1 c.len-len.ensures.once
    (omega (arith, c.loop-at-test.true, c.len-len.ensures.count, length-map c.args.self.now.entries (λ (e : List ℕ × ℕ). e.0))) c.entry-count.ensures c.in_ok-copy.ensures refl (seen_self c.loop-at.counts.entries ∙ c.loop-at.invariant) c.in_ok-_none.ensures.entries

pub returns : goal.returns
returns c =
    copied_all c.args.self.now.entries c.loop-at.counts.entries c.loop-at.at (omega (arith, c.loop-at-test.false, c.len-len.ensures.count, length-map c.args.self.now.entries (λ (e : List ℕ × ℕ). e.0))) c.loop-at.invariant

pub invariant_of-result : goal.invariant_of-result
invariant_of-result c =
    let same : c.loop-at.counts.entries ≡ c.args.self.now.entries =
    copied_all c.args.self.now.entries c.loop-at.counts.entries c.loop-at.at (omega (arith, c.loop-at-test.false, c.len-len.ensures.count, length-map c.args.self.now.entries (λ (e : List ℕ × ℕ). e.0))) c.loop-at.invariant in
    (subst HasNoZero (sym same) c.len-len.ensures.some, subst HasNames (sym same) c.len-len.ensures.names)
