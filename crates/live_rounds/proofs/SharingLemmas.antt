-- What is kept for parts, and the replies to their other requests, one part after the other.
use Rattle.std.proofs.Common.{◌≡◌, List, [], ◌∷◌, ◌++◌, append_assoc, append-nil, drop, length, map, refl, sym, ap, subst, ◌∙◌, arith}
use Rattle.answer_lines.specs.Printed.{PrintedAnswer}
use Rattle.live_rounds.specs.Helps.Asked.{AddsAnswered, AddsShared, AreShared, first_kept, others_kept}
use Rattle.live_rounds.specs.Requests.{requests}
use Rattle.live_rounds.specs.Stretches.{items_of}
use Rattle.live_rounds.specs.declared.stretch.Stretch.{Stretch}
use Rattle.model_conf.specs.ModelText.{ModelParts}
use Rattle.policy_state.specs.States.{State}
use Rattle.regex_gate.specs.Refusals.{Refusals}
use Rattle.script_read.specs.Said.{Said}

-- a list without length
pub none_in : {X : Type 0} (xs : List X) → length xs ≡ 0 → xs ≡ []
none_in [] none = refl
none_in (x ∷ xs) none = absurd (omega (arith, none))

-- ---- what is kept for the next part

pub none_first : (kept : List (List PrintedAnswer)) (made : List PrintedAnswer) → kept ≡ [] → made ≡ [] → made ≡ first_kept kept
none_first kept made none empty = empty ∙ sym (ap first_kept none)

pub none_others : (kept left : List (List PrintedAnswer)) → kept ≡ [] → left ≡ [] → left ≡ others_kept kept
none_others kept left none empty = empty ∙ sym (ap others_kept none)

pub some_first : (kept left : List (List PrintedAnswer)) (next : List PrintedAnswer) → kept ≡ next ∷ left → next ≡ first_kept kept
some_first kept left next is = sym (ap first_kept is)

pub some_others : (kept left : List (List PrintedAnswer)) (next : List PrintedAnswer) → kept ≡ next ∷ left → left ≡ others_kept kept
some_others kept left next is = sym (ap others_kept is)

-- ---- parts

module _ (model : ModelParts) (state : State) where
  -- none is left
  pub shared_none : (parts : List Stretch) (kept : List (List PrintedAnswer)) (before : Refusals) (old : List (List PrintedAnswer)) → parts ≡ [] → AddsShared model state (map items_of parts) kept before before old old
  shared_none parts kept before old none = record { more = []; added = sym (append-nil old); shared = subst (λ (l : List Stretch). AreShared model state (map items_of l) kept before before []) (sym none) refl }

  -- one part, and the others
  pub shared_more : (all others : List Stretch) (part : Stretch) (kept left : List (List PrintedAnswer)) (first replies : List PrintedAnswer) (before mid now : Refusals) (old one new : List (List PrintedAnswer)) → all ≡ part ∷ others → first ≡ first_kept kept → left ≡ others_kept kept
      → AddsAnswered model state before mid (drop (length first) (requests (items_of part))) first replies → one ≡ old ++ replies ∷ [] → AddsShared model state (map items_of others) left mid now one new → AddsShared model state (map items_of all) kept before now old new
  shared_more all others part kept left first replies before mid now old one new all-is first-is left-is adds one-is rest = record {
    more = replies ∷ rest.more;
    added = rest.added ∙ ap (λ (l : List (List PrintedAnswer)). l ++ rest.more) one-is ∙ append_assoc old (replies ∷ []) rest.more;
    shared = subst (λ (l : List Stretch). AreShared model state (map items_of l) kept before now (replies ∷ rest.more)) (sym all-is) (
      mid,
      subst (λ (f : List PrintedAnswer). AddsAnswered model state before mid (drop (length f) (requests (items_of part))) f replies) first-is adds,
      subst (λ (k : List (List PrintedAnswer)). AreShared model state (map items_of others) k mid now rest.more) left-is rest.shared,
    );
  }

  -- all that is kept, in front of no other reply
  pub from_start : (parts : List (List Said)) (left kept : List (List PrintedAnswer)) (before now : Refusals) (old new : List (List PrintedAnswer)) → left ≡ kept → old ≡ [] → AddsShared model state parts left before now old new → AreShared model state parts kept before now new
  from_start parts left kept before now old new left-is none adds =
      subst (λ (l : List (List PrintedAnswer)). AreShared model state parts kept before now l) (sym (adds.added ∙ ap (λ (l : List (List PrintedAnswer)). l ++ adds.more) none))
      (subst (λ (l : List (List PrintedAnswer)). AreShared model state parts l before now adds.more) left-is adds.shared)
