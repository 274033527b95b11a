use Rattle.std.proofs.Common.{◌∙◌, sym}
use Rattle.std.specs.Str.{bytes_eq}
use Rattle.indexmap.specs.IndexSet.{contains}
use Rattle.role_meaning.proofs.CallerLemmas.{they_agree, they_differ}
use Rattle.role_graph.proofs.GatherLemmas.{adds_itself, adds_more}
use Rattle.role_graph.proofs.implied.add_one.Goals as goal

pub returns-then-eq : goal.returns-then-eq
returns-then-eq c = λ roles before old adds.
    adds_itself c.args.x.now roles c.args.role.now before (contains bytes_eq c.args.seen.now) old c.args.fresh.now.items
    (sym c.bytes.ensures.value ∙ they_agree c.bytes.result.now c.args.x.now c.eq.result c.eq.ensures c.if-eq.true) adds

pub returns : goal.returns
returns c = λ roles before old adds.
    adds_more c.args.x.now roles c.args.role.now before (contains bytes_eq c.args.seen.now) (contains bytes_eq c.push_new.new.seen) old c.args.fresh.now.items c.push_new.new.fresh.items
    (λ same. they_differ c.bytes.result.now c.args.x.now c.eq.result c.eq.ensures c.if-eq.false (c.bytes.ensures.value ∙ same)) c.in_ok-push_new.ensures.seen c.in_ok-push_new.ensures.fresh adds
