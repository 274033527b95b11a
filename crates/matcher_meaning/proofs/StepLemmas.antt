-- A fact that is told in steps allows one result at most where each step does, and some where each does.
use Rattle.std.proofs.Common.{◌≡◌, Option, Some, None, Result, Ok, Err, refl, sym, ap, ◌∙◌, subst}
use Rattle.effect_fold.specs.declared.fault.Fault.{Fault}
use Rattle.matcher_meaning.specs.Answers.{Evaluation, After, Unless}
use Rattle.matcher_meaning.proofs.CallLemmas.{AtMostOne, AtLeastOne}

pub one_next : {X Y : Type 0} (P : X → Type 0) (next : X → Y) → AtMostOne P → AtMostOne (λ r. (x : X) × P x × (r ≡ next x))
one_next P next one r s (x, p, e) (y, q, f) = e ∙ ap next (one x y p q) ∙ sym f

pub unless_one : (there : Option Evaluation) (P : Evaluation → Type 0) → AtMostOne P → AtMostOne (λ r. Unless there (P r) r)
unless_one (Some answer) P one r s p q = p ∙ sym q
unless_one None P one r s p q = one r s p q

pub after_one : {X Y : Type 0} (x : Result X Fault) (P : Result Y Fault → X → Type 0) → ((d : X) → AtMostOne (λ r. P r d)) → AtMostOne (λ r. After x (P r) r)
after_one (Ok d) P one r s p q = one d r s p q
after_one (Err fault) P one r s p q = p ∙ sym q

pub first_one : {X Y : Type 0} (L : X → Type 0) (P : Y → X → Type 0) → AtMostOne L → ((x : X) → AtMostOne (λ r. P r x)) → AtMostOne (λ r. (x : X) × L x × P r x)
first_one L P left one r s (x, p, e) (y, q, f) = one y r s (subst (λ z. P r z) (left x y p q) e) f

pub some_next : {X Y : Type 0} (P : X → Type 0) (next : X → Y) → AtLeastOne P → AtLeastOne (λ r. (x : X) × P x × (r ≡ next x))
some_next P next (x, p) = (next x, (x, p, refl))

pub unless_some : (there : Option Evaluation) (P : Evaluation → Type 0) → AtLeastOne P → AtLeastOne (λ r. Unless there (P r) r)
unless_some (Some answer) P some = (answer, refl)
unless_some None P some = some

pub after_some : {X Y : Type 0} (x : Result X Fault) (P : Result Y Fault → X → Type 0) → ((d : X) → AtLeastOne (λ r. P r d)) → AtLeastOne (λ r. After x (P r) r)
after_some (Ok d) P some = some d
after_some (Err fault) P some = (Err fault, refl)

pub first_some : {X Y : Type 0} (L : X → Type 0) (P : Y → X → Type 0) → AtLeastOne L → ((x : X) → AtLeastOne (λ r. P r x)) → AtLeastOne (λ r. (x : X) × L x × P r x)
first_some L P (x, p) some = ((some x).0, (x, p, (some x).1))
