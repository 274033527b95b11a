use Rattle.std.proofs.Common.{◌≡◌, ◌<◌, ◌∙◌, [], List, ℕ, ap, arith, get_or, length}
use Rattle.role_graph.proofs.Removals.{taking_begins, taking_ends, taking_skips, taking_takes}
use Rattle.role_graph.proofs.edits.take_out.Goals as goal

pub loop-at-init : goal.loop-at-init
loop-at-init c = taking_begins c.args.gone c.args.texts.now.items

pub loop-at-preserved-then-not-take_one : goal.loop-at-preserved-then-not-take_one
loop-at-preserved-then-not-take_one c =
    let inside : c.loop-at.at < length c.loop-at.texts.items = omega (arith, c.loop-at-test.true, c.loop-at.texts.ok.0) in
    let is : c.text_at.result.now ≡ get_or c.loop-at.texts.items c.loop-at.at [] = c.text_at.ensures ∙ ap (λ (l : List (List ℕ)). get_or l c.loop-at.at []) c.deref.ensures.value in
    taking_skips c.args.gone c.args.texts.now.items c.loop-at.at c.loop-at.texts.items c.loop-at.gone c.take_one.new.self c.text_at.result.now inside is (c.take_one.ensures.none c.if-not-take_one.true) (c.take_one.ensures.same c.if-not-take_one.true) c.loop-at.invariant

pub loop-at-preserved-else-not-take_one : goal.loop-at-preserved-else-not-take_one
loop-at-preserved-else-not-take_one c =
    let inside : c.loop-at.at < length c.loop-at.texts.items = omega (arith, c.loop-at-test.true, c.loop-at.texts.ok.0) in
    let is : c.text_at.result.now ≡ get_or c.loop-at.texts.items c.loop-at.at [] = c.text_at.ensures ∙ ap (λ (l : List (List ℕ)). get_or l c.loop-at.at []) c.deref.ensures.value in
    taking_takes c.args.gone c.args.texts.now.items c.loop-at.at c.loop-at.texts.items c.swap_remove-gone.new.self.items c.loop-at.gone c.take_one.new.self c.text_at.result.now c.swap_remove-gone.result inside is c.swap_remove-gone.ensures.items
    (c.take_one.ensures.taken c.if-not-take_one.false) c.loop-at.invariant

pub loop-at-preserved : goal.loop-at-preserved
loop-at-preserved c =
    let inside : c.loop-at.at < length c.loop-at.texts.items = omega (arith, c.loop-at-test.true, c.loop-at.texts.ok.0) in
    let is : c.text_at.result.now ≡ get_or c.loop-at.texts.items c.loop-at.at [] = c.text_at.ensures ∙ ap (λ (l : List (List ℕ)). get_or l c.loop-at.at []) c.deref.ensures.value in
    taking_takes c.args.gone c.args.texts.now.items c.loop-at.at c.loop-at.texts.items c.swap_remove-gone.new.self.items c.loop-at.gone c.take_one.new.self c.text_at.result.now c.swap_remove-gone.result inside is c.swap_remove-gone.ensures.items
    (c.take_one.ensures.taken c.if-not-take_one.false) c.loop-at.invariant

pub returns : goal.returns
returns c =
    taking_ends c.args.gone c.args.texts.now.items c.loop-at.at c.loop-at.texts.items c.loop-at.gone (omega (arith, c.loop-at-test.false, c.loop-at.texts.ok.0)) c.requires c.loop-at.invariant
