use Rattle.std.proofs.Common.{◌≤◌, ℕ, List, ap, length, length-take, sym, subst, take, ◌∙◌, arith}
use Rattle.log_ship.proofs.WaitLemmas.{run_held, run_len-le}
use Rattle.log_ship.specs.Helps.Waits.{run_len}
use Rattle.log_ship.specs.Taken.{run_from}
use Rattle.policy_table.specs.declared.change.Change.{Change}
use Rattle.log_ship.proofs.waiting_edits.WaitingEdits.run.Goals as goal

pub slice_bounds-result-end : goal.slice_bounds-result-end
slice_bounds-result-end c =
    let few : c.run_len.result ≤ length c.self.inside.numbers.items = subst (λ (n : ℕ). n ≤ length c.self.inside.numbers.items) (sym (c.run_len.ensures ∙ ap (run_len c.args.number) c.deref-2.ensures.value)) (run_len-le c.args.number c.self.inside.numbers.items) in
    omega (arith, few, c.self.invariant, ap (λ (l : List (List Change)). length l) c.deref.ensures.value, length-take c.run_len.result c.deref.result.now)

pub returns : goal.returns
returns c =
    ap (take c.run_len.result) c.deref.ensures.value
    ∙ ap (λ (n : ℕ). take n c.self.inside.edits.items) (c.run_len.ensures ∙ ap (run_len c.args.number) c.deref-2.ensures.value)
    ∙ run_held c.args.number c.self.inside.numbers.items c.self.inside.edits.items c.self.invariant
    ∙ ap (run_from c.args.number) c.self.view_is
