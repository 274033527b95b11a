use Rattle.std.proofs.Common.{◌≡◌, ◌≤◌, List, ap, drop, length, sym, subst, vec_len, ◌∙◌, arith, rules}
use Rattle.log_ship.proofs.WaitLemmas.{drop_held, length-held}
use Rattle.log_ship.specs.Followers.{Held}
use Rattle.log_ship.specs.Helps.Waits.{held_by}
use Rattle.log_ship.proofs.waiting_edits.WaitingEdits.drop_front.Goals as goal

pub drain-requires-clause-in_bounds : goal.drain-requires-clause-in_bounds
drain-requires-clause-in_bounds c =
    let some : c.args.count ≤ length (held_by c.self.inside.numbers.items c.self.inside.edits.items) = subst (λ (l : List Held). c.args.count ≤ length l) (sym c.self.view_is) c.requires in
    let size : length c.self.inside.numbers.items ≡ vec_len c.self.inside.numbers = search rules in
    omega (arith, some, size, length-held c.self.inside.numbers.items c.self.inside.edits.items c.self.invariant)

pub drain-requires-2-clause-in_bounds : goal.drain-requires-2-clause-in_bounds
drain-requires-2-clause-in_bounds c =
    let some : c.args.count ≤ length (held_by c.self.inside.numbers.items c.self.inside.edits.items) = subst (λ (l : List Held). c.args.count ≤ length l) (sym c.self.view_is) c.requires in
    let size : length c.self.inside.edits.items ≡ vec_len c.self.inside.edits = search rules in
    omega (arith, some, size, c.self.invariant, length-held c.self.inside.numbers.items c.self.inside.edits.items c.self.invariant)

pub returns : goal.returns
returns c =
    let numbers : c.drop-drain.new.self.0.items ≡ drop c.args.count c.self.inside.numbers.items = search rules in
    let edits : c.drop-drain-2.new.self.0.items ≡ drop c.args.count c.self.inside.edits.items = search rules in
    (λ j. held_by (numbers j) (edits j)) ∙ drop_held c.args.count c.self.inside.numbers.items c.self.inside.edits.items c.self.invariant ∙ ap (drop c.args.count) c.self.view_is
