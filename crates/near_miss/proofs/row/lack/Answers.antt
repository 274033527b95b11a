use Rattle.std.proofs.Common.{rules, ◌≡◌, ◌+◌, ◌<◌, ◌≤◌, get_or, length, map, sym, subst, ℕ, List, Option, Err}
use Rattle.perm_value.specs.Seen.{datum}
use Rattle.policy_state.specs.States.{tables}
use Rattle.regex_gate.proofs.CallerLemmas.{refused_since, refused_still, used_then}
use Rattle.regex_gate.specs.Refusals.{IsRefused}
use Rattle.near_miss.specs.Misses.{Lacks}
use Rattle.near_miss.specs.Helps.Rows.{IsSeen}
use Rattle.near_miss.specs.declared.row.Standing.{Standing}
use Rattle.near_miss.proofs.RowLemmas.{lacks_nothing, lacks_whole, seen_more}
use Rattle.near_miss.proofs.row.lack.Goals as goal

pub returns-in-Other-clause-lacks : goal.returns-in-Other-clause-lacks
returns-in-Other-clause-lacks g c =
    lacks_nothing c.args.asking.now.state.now.shapes (tables c.args.asking.now.state.now) (map datum c.args.asking.now.request.now) c.case_answer_is_there.ensures.truth
    (IsRefused (g.P.Finder.refusals c.args.finder.now) (g.P.Finder.refusals c.loop-at.finder)) c.args.asking.now.parts.now c.args.row.now c.loop-at.at c.loop-at.standing c.in-Other.is c.loop-at.invariant.seen

pub returns-in_err-truth : goal.returns-in_err-truth
returns-in_err-truth g c =
    let stop : c.from_residual.result ≡ Err c.in_err-truth.field-0.0 = search rules in
    record {
      lacks = rw stop tt;
      used = used_then _ _ _ c.loop-at.invariant.used c.in_err-truth.ensures.used;
    }

pub loop-at-preserved : goal.loop-at-preserved
loop-at-preserved g c =
    let before = g.P.Finder.refusals c.args.finder.now in
    let between = g.P.Finder.refusals c.loop-at.finder in
    let now = g.P.Finder.refusals c.truth.new.finder in
    let within : c.loop-at.at < length c.args.asking.now.parts.now = search rules in
    let is : c.part-item.result ≡ get_or c.args.asking.now.parts.now c.loop-at.at c.part-item.result = search rules in
    record {
      seen = subst (λ (s : Standing). IsSeen c.args.asking.now.state.now.shapes (tables c.args.asking.now.state.now) (map datum c.args.asking.now.request.now) (IsRefused before now) c.args.asking.now.parts.now c.args.row.now (c.loop-at.at + 1) s) (sym c.standing_with-standing.ensures)
          (seen_more c.args.asking.now.state.now.shapes (tables c.args.asking.now.state.now) (map datum c.args.asking.now.request.now) (IsRefused before between) (IsRefused between now) (IsRefused before now)
          c.args.asking.now.parts.now c.args.row.now c.loop-at.at c.loop-at.standing c.part-item.result c.in_ok-truth.truth within is
          (λ pattern refused. refused_still before between now pattern refused c.in_ok-truth.ensures.used) (λ pattern refused. refused_since before between now pattern c.loop-at.invariant.used refused)
          c.loop-at.invariant.seen c.in_ok-truth.ensures.truth);
      used = used_then before between now c.loop-at.invariant.used c.in_ok-truth.ensures.used;
    }

pub returns-clause-lacks : goal.returns-clause-lacks
returns-clause-lacks g c =
    let IsBad : List ℕ → Type 0 = IsRefused (g.P.Finder.refusals c.args.finder.now) (g.P.Finder.refusals c.loop-at.finder) in
    let past : length c.args.asking.now.parts.now ≤ c.loop-at.at = search rules in
    subst (λ (lack : Option ℕ). Lacks c.args.asking.now.state.now.shapes (tables c.args.asking.now.state.now) (map datum c.args.asking.now.request.now) IsBad c.args.asking.now.parts.now c.args.row.now lack) (sym c.lack_of.ensures)
    (lacks_whole c.args.asking.now.state.now.shapes (tables c.args.asking.now.state.now) (map datum c.args.asking.now.request.now) IsBad c.args.asking.now.parts.now c.args.row.now c.loop-at.at c.loop-at.standing past c.loop-at.invariant.seen)
