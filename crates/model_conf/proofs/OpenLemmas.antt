-- A text that ends in `\`, and the lines that continue it.
use Rattle.std.proofs.Common.{◌≡◌, ◌≢◌, ℕ, Bool, true, false, Bor, Option, Some, None, List, [], ◌∷◌, ◌++◌, refl, sym, ap, ◌∙◌, subst}
use Rattle.std.specs.Prelude.{MatchBool, MatchOption}
use Rattle.std.proofs.lemmas.Bool.{MatchBool-at_true, MatchBool-at_false}
use Rattle.std.proofs.lemmas.List.{append_assoc, append_cancel_right}
use Rattle.text_parts.specs.Blanks.{before_blanks}
use Rattle.text_parts.proofs.BlankLemmas.{back, before_blanks-blanks, before_blanks-other}
use Rattle.text_parts.specs.Numbered.{Line}
use Rattle.model_conf.specs.Logical.{EndsOpen, IsWhole, ended, continued, dropped}

pub ends_open : (text front : List ℕ) → before_blanks text ≡ front ++ 92 ∷ [] → EndsOpen text front
ends_open text front e =
    let b = back text in
    record { blanks = b.blanks; blank = b.blank; spelled = b.whole ∙ ap (λ (t : List ℕ). t ++ b.blanks) e ∙ append_assoc front (92 ∷ []) b.blanks }

pub before_open : (text front : List ℕ) → EndsOpen text front → before_blanks text ≡ front ++ 92 ∷ []
before_open text front is =
    ap before_blanks (is.spelled ∙ sym (append_assoc front (92 ∷ []) is.blanks)) ∙ before_blanks-blanks (front ++ 92 ∷ []) is.blanks is.blank ∙ before_blanks-other front 92 refl

pub EndsOpen-once : (text front other : List ℕ) → EndsOpen text front → EndsOpen text other → front ≡ other
EndsOpen-once text front other one two = append_cancel_right front other (92 ∷ []) (sym (before_open text front one) ∙ before_open text other two)

-- the `\` is found behind what `before_blanks` leaves
pub open_by : (text bare : List ℕ) (found : Option (Bor (List ℕ))) → bare ≡ before_blanks text → MatchOption found ((front : List ℕ) → bare ≢ front ++ 92 ∷ []) (λ (f : Bor (List ℕ)). bare ≡ f.now ++ 92 ∷ [])
    → MatchOption found ((front : List ℕ) → ¬ (EndsOpen text front)) (λ (f : Bor (List ℕ)). EndsOpen text f.now)
open_by text bare None is none = λ front open_. none front (is ∙ before_open text front open_)
open_by text bare (Some f) is spelled = ends_open text f.now (sym is ∙ spelled)

-- ---- the front of a text that ends in `\`

-- where there is none
pub closed_as : (text items : List ℕ) → items ≡ text → ((front : List ℕ) → ¬ (EndsOpen items front)) → (front : List ℕ) → ¬ (EndsOpen text front)
closed_as text items same closed front open_ = closed front (subst (λ (t : List ℕ). EndsOpen t front) (sym same) open_)

-- ---- a `\` that is dropped, where there is one

pub drop_first : {test : Bool} (old new whole : List ℕ) (Q : Type 0) → test ≡ true → MatchBool test (EndsOpen old new) Q → IsWhole new [] whole [] → IsWhole old [] whole []
drop_first old new whole Q is told rest = dropped new (MatchBool-at_true (EndsOpen old new) Q is told) rest

pub join_next : {test : Bool} (old new joined whole : List ℕ) (next : Line) (lines left : List Line) (Q : Type 0) → test ≡ true → MatchBool test (EndsOpen old new) Q → joined ≡ (new ++ 32 ∷ []) ++ next.text
    → IsWhole joined lines whole left → IsWhole old (next ∷ lines) whole left
join_next old new joined whole next lines left Q is told joins rest =
    let all : joined ≡ new ++ 32 ∷ next.text = joins ∙ append_assoc new (32 ∷ []) next.text in
    continued new (MatchBool-at_true (EndsOpen old new) Q is told) (subst (λ (t : List ℕ). IsWhole t lines whole left) all rest)

-- where there is none, the text is whole
pub none_open : {test : Bool} (old new : List ℕ) (P : Type 0) (lines : List Line) → test ≡ false → MatchBool test P (((front : List ℕ) → ¬ (EndsOpen old front)) × (new ≡ old)) → IsWhole old lines new lines
none_open old new P lines is told =
    let closed = MatchBool-at_false P (((front : List ℕ) → ¬ (EndsOpen old front)) × (new ≡ old)) is told in
    subst (λ (t : List ℕ). IsWhole old lines t lines) (sym closed.1) (ended closed.0)
