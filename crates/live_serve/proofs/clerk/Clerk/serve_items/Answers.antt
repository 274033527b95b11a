use Rattle.std.proofs.Common.{◌≡◌, ◌++◌, ◌∷◌, [], List, ℕ, Err, inl, inr, refl, sym, ap, ◌∙◌, arith, rules, subst, ◌+◌, drop, map, take}
use Rattle.std.proofs.lemmas.Result.{IfErr-weaker, err_from_is_err_and, on_ok_weaker}
use Rattle.std.proofs.lemmas.List.{take_all}
use Rattle.decision.specs.Programs.{Suits}
use Rattle.outside.proofs.CallerLemmas.{rose_later}
use Rattle.outside.specs.Faults.{Rose}
use Rattle.regex_gate.proofs.CallerLemmas.{used_then}
use Rattle.script_read.specs.Said.{seen}
use Rattle.script_read.specs.declared.item.Item.{Item}
use Rattle.live_serve.specs.Sayings.{Saying, item, said}
use Rattle.live_serve.specs.Served.{Pushed}
use Rattle.live_serve.specs.Standings.{standing}
use Rattle.live_serve.proofs.ItemLemmas.{named_at}
use Rattle.live_serve.proofs.SayLemmas.{said_more, said_parts}
use Rattle.live_serve.proofs.ServeLemmas.{done_halts, done_next, done_none, halts_since, pushed_shapes, pushed_used}
use Rattle.live_serve.proofs.clerk.Clerk.serve_items.Goals as goal

pub loop-item-init : goal.loop-item-init
loop-item-init g c = done_none c.args.program.now _ (standing c.args.self.now) _ _ (said (map seen (take 0 c.as_slice-items.result.now))) refl c.requires.stands

pub serve_item-requires-clause-suits : goal.serve_item-requires-clause-suits
serve_item-requires-clause-suits g c = λ lifetimes outlive. subst (Suits c.args.program.now) (sym (pushed_shapes c.args.program.now _ _ _ (standing c.loop-item.self) _ _ _ c.loop-item.invariant.pushed)) c.requires.suits

pub serve_item-requires-clause-stands : goal.serve_item-requires-clause-stands
serve_item-requires-clause-stands g c = λ lifetimes outlive. c.loop-item.invariant.somewhere

pub serve_item-requires-clause-has_name : goal.serve_item-requires-clause-has_name
serve_item-requires-clause-has_name g c = λ lifetimes outlive. named_at c.as_slice-items.result.now c.args.script.now c.as_slice-items.ensures c.loop-item.item-index c.item-item.result c.loop-item-test.true c.item-item.is c.requires.have_names

pub returns-in_err-serve_item-clause-stopped : goal.returns-in_err-serve_item-clause-stopped
returns-in_err-serve_item-clause-stopped g c =
    let stop : c.from_residual.result ≡ Err c.in_err-serve_item.field-0.0 = search rules in
    rw stop (done_halts c.args.program.now _ (standing c.args.self.now) (g.K.Sink.taken c.args.out.now) _ (said (map seen (take c.loop-item.item-index c.as_slice-items.result.now))) (said (map seen (take (c.loop-item.item-index + 1) c.as_slice-items.result.now))) (item (seen c.item-item.result)) (said_more c.as_slice-items.result.now c.loop-item.item-index c.item-item.result c.loop-item-test.true c.item-item.is) (g.P.Finder.refusals c.loop-item.finder) (g.P.Finder.refusals c.serve_item.new.finder) (standing c.loop-item.self) (standing c.serve_item.new.self) (g.K.Sink.taken c.loop-item.out) (g.K.Sink.taken c.serve_item.new.out) _ (g.K.Sink.faults c.serve_item.new.out) c.loop-item.invariant
    (said (map seen c.args.script.now)) (said (map seen (drop (c.loop-item.item-index + 1) c.as_slice-items.result.now))) (said_parts c.as_slice-items.result.now (c.loop-item.item-index + 1) ∙ ap (λ (l : List Item). said (map seen l)) c.as_slice-items.ensures) (Rose (g.K.Sink.faults c.args.out.now) (g.K.Sink.faults c.serve_item.new.out)) c.in_err-serve_item.field-0.0
    (halts_since c.args.program.now (standing c.loop-item.self) (g.K.Sink.taken c.loop-item.out) (g.K.Sink.taken c.serve_item.new.out) (Rose (g.K.Sink.faults c.loop-item.out) (g.K.Sink.faults c.serve_item.new.out)) (Rose (g.K.Sink.faults c.args.out.now) (g.K.Sink.faults c.serve_item.new.out)) c.in_err-serve_item.field-0.0 (item (seen c.item-item.result) ∷ [])
    (λ rose. rose_later (g.K.Sink.faults c.args.out.now) (g.K.Sink.faults c.loop-item.out) (g.K.Sink.faults c.serve_item.new.out) c.loop-item.invariant.counted rose) c.in_err-serve_item.ensures.stopped))

pub returns-in_err-serve_item-clause-counted : goal.returns-in_err-serve_item-clause-counted
returns-in_err-serve_item-clause-counted g c = omega (arith, c.loop-item.invariant.counted, c.serve_item.ensures.counted)

pub returns-in_err-serve_item-clause-used : goal.returns-in_err-serve_item-clause-used
returns-in_err-serve_item-clause-used g c = used_then _ _ _ (pushed_used c.args.program.now _ _ _ _ _ _ _ c.loop-item.invariant.pushed) c.serve_item.ensures.used

pub loop-item-preserved : goal.loop-item-preserved
loop-item-preserved g c = done_next c.args.program.now _ (standing c.args.self.now) (g.K.Sink.taken c.args.out.now) _ (said (map seen (take c.loop-item.item-index c.as_slice-items.result.now))) (said (map seen (take (c.loop-item.item-index + 1) c.as_slice-items.result.now))) (item (seen c.item-item.result)) (said_more c.as_slice-items.result.now c.loop-item.item-index c.item-item.result c.loop-item-test.true c.item-item.is) (g.P.Finder.refusals c.loop-item.finder) (g.P.Finder.refusals c.serve_item.new.finder) (standing c.loop-item.self) (standing c.serve_item.new.self) (g.K.Sink.taken c.loop-item.out) (g.K.Sink.taken c.serve_item.new.out) _ (g.K.Sink.faults c.serve_item.new.out) c.loop-item.invariant c.in_ok-serve_item.ensures.served c.serve_item.ensures.counted

pub returns-clause-served : goal.returns-clause-served
returns-clause-served g c =
    let all = ap (λ (l : List Item). said (map seen l)) (take_all c.loop-item.item-index c.as_slice-items.result.now c.loop-item-test.false ∙ c.as_slice-items.ensures) in
    subst (λ (l : List Saying). Pushed c.args.program.now (g.P.Finder.refusals c.args.finder.now) (g.P.Finder.refusals c.loop-item.finder) (standing c.args.self.now) (standing c.loop-item.self) (g.K.Sink.taken c.args.out.now) (g.K.Sink.taken c.loop-item.out) l) all c.loop-item.invariant.pushed

pub returns-clause-counted : goal.returns-clause-counted
returns-clause-counted g c = c.loop-item.invariant.counted

pub returns-clause-used : goal.returns-clause-used
returns-clause-used g c = pushed_used c.args.program.now _ _ _ _ _ _ _ c.loop-item.invariant.pushed
