use Rattle.std.proofs.Common.{◌∙◌, ◌+◌, List, ℕ, length, refl, sym, subst, arith}
use Rattle.std.proofs.lemmas.Bool.{false≢true}
use Rattle.role_graph.specs.Helps.Kept.{linked_of}
use Rattle.role_graph.specs.Helps.Lists.{HasSoughtFrom, Lists}
use Rattle.role_graph.specs.Helps.Walks.{FitsAt}
use Rattle.role_graph.proofs.SeekLemmas.{sought_itself}
use Rattle.role_graph.proofs.ShortLists.{IsListing, listing_begins, listing_ends, listing_on, listing_past, listing_stops, listing_within}
use Rattle.role_graph.proofs.short.seek_near.Goals as goal

pub returns-then-is_sought : goal.returns-then-is_sought
returns-then-is_sought c = sought_itself (linked_of c.args.links.now) c.args.sought c.args.x.now c.args.most (c.is_sought.ensures.0 c.if-is_sought.true)

pub loop-level-init : goal.loop-level-init
loop-level-init c =
    listing_begins (linked_of c.args.links.now) c.args.sought c.args.x.now c.list.new.listed.items (omega (arith, c.len-few.ensures.count, c.len-few.ensures.few)) (λ is. false≢true (sym c.if-is_sought.false ∙ c.is_sought.ensures.1 is))
    (subst (λ (old : List ℕ). Lists (FitsAt (linked_of c.args.links.now) c.args.x.now) (FitsAt (linked_of c.args.links.now) c.args.x.now) old c.list.new.listed.items) c.new-listed.ensures (c.list.ensures c.if-not-list.false))

pub returns-then-from-upto : goal.returns-then-from-upto
returns-then-from-upto c = listing_stops (linked_of c.args.links.now) c.args.sought c.args.x.now c.loop-level.level c.args.most c.loop-level.from c.loop-level.listed.items c.loop-level-test.true (omega (arith, c.if-from-upto.true, c.len-upto.ensures.value)) c.loop-level.invariant

pub has_sought-requires : goal.has_sought-requires
has_sought-requires c = listing_within (linked_of c.args.links.now) c.args.sought c.args.x.now c.loop-level.level c.loop-level.from c.loop-level.listed.items c.as_slice.result.now c.as_slice.ensures.value c.loop-level.invariant

pub returns-then-has_sought : goal.returns-then-has_sought
returns-then-has_sought c =
    listing_ends (linked_of c.args.links.now) c.args.sought c.args.x.now c.loop-level.level c.args.most c.loop-level.from c.as_slice.result.now c.loop-level-test.true (c.has_sought.ensures.0 c.if-has_sought.true)
    (subst (IsListing (linked_of c.args.links.now) c.args.sought c.args.x.now c.loop-level.level c.loop-level.from) (sym c.as_slice.ensures.value) c.loop-level.invariant)

pub list_on-requires : goal.list_on-requires
list_on-requires c = listing_within (linked_of c.args.links.now) c.args.sought c.args.x.now c.loop-level.level c.loop-level.from c.loop-level.listed.items c.loop-level.listed.items refl c.loop-level.invariant

pub loop-level-preserved : goal.loop-level-preserved
loop-level-preserved c =
    subst (λ (from : ℕ). IsListing (linked_of c.args.links.now) c.args.sought c.args.x.now (c.loop-level.level + 1) from c.list_on.new.listed.items) (sym c.len-upto.ensures.value)
    (listing_on (linked_of c.args.links.now) c.args.sought c.args.x.now c.loop-level.level c.loop-level.from c.loop-level.listed.items c.list_on.new.listed.items (omega (arith, c.len-few.ensures.count, c.len-few.ensures.few))
    (λ found. false≢true (sym c.if-has_sought.false ∙ c.has_sought.ensures.1 (subst (λ (l : List ℕ). HasSoughtFrom (linked_of c.args.links.now) c.args.sought l c.loop-level.from (length l)) (sym c.as_slice.ensures.value) found)))
    (c.list_on.ensures c.if-not-list_on.false) c.loop-level.invariant)

pub returns : goal.returns
returns c = listing_past (linked_of c.args.links.now) c.args.sought c.args.x.now c.loop-level.level c.args.most c.loop-level.from c.loop-level.listed.items (omega (arith, c.loop-level-test.false)) c.loop-level.invariant
