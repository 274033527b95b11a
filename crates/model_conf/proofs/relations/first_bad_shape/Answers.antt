use Rattle.std.proofs.Common.{◌≡◌, [], drop, sym, ap, ◌∙◌, arith}
use Rattle.std.proofs.lemmas.List.{drop_all}
use Rattle.model_conf.specs.Relations.{first_bad_shape, bad_shape_of}
use Rattle.model_conf.specs.Helps.Seen.{entries_seen, entry_seen}
use Rattle.model_conf.proofs.EntryLemmas.{bad_here, none_bad}
use Rattle.model_conf.proofs.relations.first_bad_shape.Goals as goal

pub returns-in-Some : goal.returns-in-Some
returns-in-Some c = sym (sym c.loop-entry.invariant ∙ bad_here c.args.entries.now c.entry-item.result c.loop-entry.entry-index _ c.loop-entry-test.true (c.in-Some.ensures ∙ ap (λ e. bad_shape_of (entry_seen e)) c.entry-item.is))

pub loop-entry-preserved : goal.loop-entry-preserved
loop-entry-preserved c = sym (bad_here c.args.entries.now c.entry-item.result c.loop-entry.entry-index _ c.loop-entry-test.true (sym c.in_default.is ∙ c.bad_shape.ensures ∙ ap (λ e. bad_shape_of (entry_seen e)) c.entry-item.is)) ∙ c.loop-entry.invariant

pub returns : goal.returns
returns c =
    let nothing : drop c.loop-entry.entry-index c.args.entries.now ≡ [] = drop_all c.loop-entry.entry-index c.args.entries.now (omega arith) in
    sym (sym c.loop-entry.invariant ∙ ap (λ l. first_bad_shape (entries_seen l)) nothing ∙ none_bad)
