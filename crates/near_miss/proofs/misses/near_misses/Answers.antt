use Rattle.std.proofs.Common.{rules, ◌≡◌, ◌+◌, ◌<◌, ◌≤◌, ◌^◌, ◌++◌, ◌∷◌, [], length, map, refl, subst, List, arith}
use Rattle.model_conf.specs.ModelText.{ModelParts}
use Rattle.perm_base.specs.declared.shapes.TableId.TheVariants.{P}
use Rattle.perm_value.specs.Seen.{datum}
use Rattle.policy_state.specs.States.{tables}
use Rattle.policy_table.specs.Tables.{rows}
use Rattle.policy_table.proofs.CallerLemmas.{next_row, no_more_rows}
use Rattle.regex_gate.proofs.CallerLemmas.{refused_since, refused_still, used_then}
use Rattle.regex_gate.specs.Refusals.{IsRefused}
use Rattle.near_miss.specs.Misses.{Lacks, misses_from}
use Rattle.near_miss.proofs.MissLemmas.{found_end, found_full, found_more, told_once}
use Rattle.near_miss.proofs.misses.near_misses.Goals as goal

pub returns-then-len-most-clause-misses : goal.returns-then-len-most-clause-misses
returns-then-len-most-clause-misses g c =
    let full : c.args.most ≤ length c.loop-row.misses.items = search rules in
    found_full c.args.state.now.shapes (tables c.args.state.now) (map datum c.args.request.now) c.case_answer_is_there.ensures.truth (IsRefused (g.P.Finder.refusals c.args.finder.now) (g.P.Finder.refusals c.loop-row.finder))
    c.args.explainer.now c.loop-row.number c.args.most c.loop-row.misses.items c.loop-row.invariant.few full c.loop-row.invariant.found

pub returns-clause-misses : goal.returns-clause-misses
returns-clause-misses g c =
    let past = no_more_rows (rows (tables c.args.state.now) P) c.loop-row.row-iterator c.loop-row.number c.loop-row.invariant.left c.in-None.ensures.steps.0 in
    found_end c.args.state.now.shapes (tables c.args.state.now) (map datum c.args.request.now) (IsRefused (g.P.Finder.refusals c.args.finder.now) (g.P.Finder.refusals c.loop-row.finder))
    c.args.explainer.now c.loop-row.number c.args.most c.loop-row.misses.items past c.loop-row.invariant.few c.loop-row.invariant.found

pub returns-in_err-lack-clause-used : goal.returns-in_err-lack-clause-used
returns-in_err-lack-clause-used g c = used_then _ _ _ c.loop-row.invariant.used c.in_err-lack.ensures.used

pub returns-in_err-push_lack-clause-used : goal.returns-in_err-push_lack-clause-used
returns-in_err-push_lack-clause-used g c = used_then _ _ _ c.loop-row.invariant.used c.in_ok-lack.ensures.used

pub loop-row-preserved : goal.loop-row-preserved
loop-row-preserved g c =
    let before = g.P.Finder.refusals c.args.finder.now in
    let between = g.P.Finder.refusals c.loop-row.finder in
    let now = g.P.Finder.refusals c.lack.new.finder in
    let row = next_row (rows (tables c.args.state.now) P) c.loop-row.row-iterator c.next.new.self c.loop-row.number c.in-Some.row.now c.loop-row.invariant.left c.in-Some.ensures.steps in
    let parts_are : c.as_slice.result.now ≡ c.args.explainer.now = search rules in
    let lacks = subst (λ (parts : List ModelParts). Lacks c.args.state.now.shapes (tables c.args.state.now) (map datum c.args.request.now) (IsRefused between now) parts c.in-Some.row.now c.in_ok-lack.lack) parts_are c.in_ok-lack.ensures.lacks in
    let new_is : c.push_lack.new.misses.items ≡ c.loop-row.misses.items ++ misses_from (c.loop-row.number + 1) (c.in_ok-lack.lack ∷ []) = search rules in
    let room : length c.loop-row.misses.items < c.args.most = search rules in
    record {
      left = row.behind;
      found = found_more c.args.state.now.shapes (tables c.args.state.now) (map datum c.args.request.now) (IsRefused before between) (IsRefused between now) (IsRefused before now)
          c.args.explainer.now c.loop-row.number (c.loop-row.number + 1) c.loop-row.misses.items c.push_lack.new.misses.items c.in-Some.row.now c.in_ok-lack.lack row.within row.is refl
          (λ pattern refused. refused_still before between now pattern refused c.in_ok-lack.ensures.used) (λ pattern refused. refused_since before between now pattern c.loop-row.invariant.used refused)
          c.loop-row.invariant.found lacks new_is;
      few = omega (arith, told_once (c.loop-row.number + 1) c.in_ok-lack.lack c.loop-row.misses.items c.push_lack.new.misses.items new_is, room);
      used = used_then before between now c.loop-row.invariant.used c.in_ok-lack.ensures.used;
    }

pub overflow_add-number : goal.overflow_add-number
overflow_add-number g c =
    let row = next_row (rows (tables c.args.state.now) P) c.loop-row.row-iterator c.next.new.self c.loop-row.number c.in-Some.row.now c.loop-row.invariant.left c.in-Some.ensures.steps in
    let few : length (rows (tables c.args.state.now) P) < 2 ^ 32 = search rules in
    omega (arith, row.within, few)
