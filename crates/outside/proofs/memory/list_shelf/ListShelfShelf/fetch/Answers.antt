use Rattle.std.proofs.Common.{[], ◌∷◌, None, Some, ◌∙◌, ap, subst, sym}
use Rattle.outside.specs.Fetches.{Fetches}
use Rattle.outside.specs.Files.{file_of}
use Rattle.outside.specs.Listed.{ListedShelf}
use Rattle.outside.specs.Log.{Adds, call, has_failed}
use Rattle.outside.proofs.CallerLemmas.{with_call}
use Rattle.outside.proofs.memory.list_shelf.ListShelfShelf.fetch.Goals as goal

pub returns-clause-fetches : goal.returns-clause-fetches
returns-clause-fetches c =
    let old = c.args.self.now in
    let result = c.take-fetched.result in
    let same_log = ap (λ (s : ListedShelf). s.log) (c.self.view_is ∙ c.take-fetched.ensures.after) in
    with_call _ _ _ _ _ _ _ _ _
    (subst (λ (s : ListedShelf). Fetches (Some (file_of old.entries)) (Some (file_of s.entries)) None None old.schedule.faults s.schedule.faults c.args.name.now c.args.most result) (sym c.self.view_is) c.take-fetched.ensures.fetches)
    (subst (λ log. Adds log c.put.new.self (call c.args.name.now (has_failed result) ∷ [])) same_log c.put.ensures)
