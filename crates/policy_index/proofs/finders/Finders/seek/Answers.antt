use Rattle.std.proofs.Common.{◌++◌, ◌∷◌, ◌∙◌, [], List, ap, subst, sym}
use Rattle.std.proofs.lemmas.List.Elements.{All-push}
use Rattle.policy_index.specs.Finders.{AreFindersIn, IsFinderIn, Sought}
use Rattle.policy_index.proofs.FinderLemmas.{if_some}
use Rattle.policy_index.proofs.finders.Finders.seek.Goals as goal

pub returns-in_default-reserve : goal.returns-in_default-reserve
returns-in_default-reserve c = λ are. subst (AreFindersIn c.args.tables.now) (sym (c.reserve.ensures.items ∙ c.self.view_is)) are

pub returns-in_default-make : goal.returns-in_default-make
returns-in_default-make c = λ are. subst (AreFindersIn c.args.tables.now) (sym (c.reserve.ensures.items ∙ c.self.view_is)) are

pub returns : goal.returns
returns c = λ are.
    subst (AreFindersIn c.args.tables.now) (sym (c.push_reserved.ensures.items ∙ ap (λ (l : List Sought). l ++ c.in-Some-make.finder ∷ []) (c.reserve.ensures.items ∙ c.self.view_is)))
    (All-push (IsFinderIn c.args.tables.now) c.args.self.now c.in-Some-make.finder are (if_some c.make.result c.in-Some-make.finder c.in-Some-make.is (IsFinderIn c.args.tables.now) c.make.ensures))
