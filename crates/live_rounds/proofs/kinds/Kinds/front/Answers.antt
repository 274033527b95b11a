use Rattle.std.proofs.Common.{◌≡◌, ◌+◌, ◌-◌, ◌∙◌, Bool, List, ap, arith, drop, length, rules, take, vec_len}
use Rattle.live_rounds.proofs.KindLemmas.{first_ones}
use Rattle.live_rounds.proofs.kinds.Kinds.front.Goals as goal

pub returns : goal.returns
returns c =
    let at = c.self.inside in
    let count = c.min-count.result in
    let size : length at.all.items ≡ vec_len at.all = search rules in
    ap (λ (l : List Bool). take (at.passed + count - at.passed) (drop at.passed l)) c.deref.ensures.value
    ∙ first_ones at.all.items at.passed c.args.most count (omega (arith, c.min-count.ensures, size)) ∙ ap (take c.args.most) c.self.view_is
