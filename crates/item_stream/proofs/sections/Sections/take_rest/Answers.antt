use Rattle.std.proofs.Common.{◌≡◌, ◌<◌, [], length, vec_len, ap, sym, ◌∙◌, arith, eqb-true, rules}
use Rattle.std.proofs.lemmas.Bool.{eqb-false}
use Rattle.std.proofs.lemmas.List.{nil_from_length}
use Rattle.item_stream.specs.Sections.{Stage, left_at}
use Rattle.item_stream.specs.Seen.{seen_held}
use Rattle.item_stream.proofs.CutLemmas.{rest_empty, rest_ended, rest_held}
use Rattle.item_stream.proofs.sections.Sections.take_rest.Goals as goal

pub returns-then-is_empty : goal.returns-then-is_empty
returns-then-is_empty c =
    let none : c.self.inside.line.items ≡ [] = nil_from_length c.self.inside.line.items (omega (arith, eqb-true (vec_len c.self.inside.line) 0 (sym c.is_empty.ensures ∙ c.if-is_empty.true), c.self.inside.line.ok.0)) in
    let gone : c.args.self.now.line ≡ [] = ap (λ (s : Stage). s.line) (sym c.self.view_is) ∙ none in
    c.take_held.ensures ∙ rest_empty c.args.self.now.follow c.args.self.now.held c.args.self.now.line gone

pub returns-then-is_some : goal.returns-then-is_some
returns-then-is_some c =
    let long : 0 < length c.self.inside.line.items = omega (arith, eqb-false (vec_len c.self.inside.line) 0 (sym c.is_empty.ensures ∙ c.if-is_empty.false), c.self.inside.line.ok.0) in
    rest_ended c.self.inside.follow (seen_held c.self.inside.held) c.self.inside.line.items c.in_ok-section.section long (search rules) (sym c.is_some.ensures ∙ c.if-is_some.true) ∙ ap left_at c.self.view_is

pub returns : goal.returns
returns c =
    let long : 0 < length c.self.inside.line.items = omega (arith, eqb-false (vec_len c.self.inside.line) 0 (sym c.is_empty.ensures ∙ c.if-is_empty.false), c.self.inside.line.ok.0) in
    rest_held c.self.inside.follow (seen_held c.self.inside.held) c.self.inside.line.items c.in_ok-section.section _ long (search rules) (sym c.is_some.ensures ∙ c.if-is_some.false) (search rules) ∙ ap left_at c.self.view_is
