-- Each call of a function has one answer.
use Rattle.std.proofs.Common.{◌≡◌, ◌⊎◌, inl, inr, ◌↔◌, ℕ, Bool, true, false, true≢false, List, Option, Ok, IsTrue, refl, sym, ap, ◌∙◌, subst}
use Rattle.effect_fold.specs.declared.fault.Cause.TheVariants.{Kind, BadAddress, BadBlock}
use Rattle.ip_match.specs.declared.address.Address.{Address}
use Rattle.ip_match.specs.declared.block.Block.{Block}
use Rattle.ip_match.specs.Addresses.{IsAddress}
use Rattle.ip_match.specs.Blocks.{IsBlock, IsInside}
use Rattle.key_match.specs.Divisions.{LongerFirst, ShorterSegmentFirst, IsNamedPart}
use Rattle.key_match.specs.Names.{CoversAlike}
use Rattle.key_match.specs.Patterns.{brace_pieces, colon_pieces, glob_pieces}
use Rattle.key_match.specs.Pieces.{Covers, Piece}
use Rattle.key_match.specs.Stars.{AgreesToStar, part_at_star}
use Rattle.matcher_read.specs.declared.tree.Function.{Function}
use Rattle.matcher_read.specs.declared.tree.Function.TheVariants as f
use Rattle.perm_value.specs.Datum as datum
use Rattle.matcher_meaning.specs.Answers.{Evaluation, fails}
use Rattle.matcher_meaning.specs.Calls.{IsWhether, IsText, searched, IsInBlock, without_query, OfTwo, OfThree}

-- two answers that a fact allows are one
abbrev pub AtMostOne : {X : Type 0} → (X → Type 0) → Type 0
AtMostOne {X} P = (r s : X) → P r → P s → r ≡ s

-- some answer is allowed by a fact
abbrev pub AtLeastOne : {X : Type 0} → (X → Type 0) → Type 0
AtLeastOne {X} P = (r : X) × P r

-- what is used of the functions so that a call has one answer at most
pub record FunctionsAgree : Type 0 where
  pub longer : (pieces : List Piece) (key name found other : List ℕ) → IsNamedPart LongerFirst pieces key name found → IsNamedPart LongerFirst pieces key name other → found ≡ other
  pub shorter : (pieces : List Piece) (key name found other : List ℕ) → IsNamedPart ShorterSegmentFirst pieces key name found → IsNamedPart ShorterSegmentFirst pieces key name other → found ≡ other
  pub address : (text : List ℕ) (a b : Address) → IsAddress text a → IsAddress text b → a ≡ b
  pub block : (text : List ℕ) (a b : Block) → IsBlock text a → IsBlock text b → a ≡ b

-- what is used of the functions so that a call has an answer
pub record FunctionsDecide : Type 0 where
  pub star : (key pattern : List ℕ) → (b : Bool) × (IsTrue b ↔ AgreesToStar key pattern)
  pub covers : (pieces : List Piece) (text : List ℕ) → (b : Bool) × (IsTrue b ↔ Covers pieces text)
  pub alike : (pieces : List Piece) (text : List ℕ) → (b : Bool) × (IsTrue b ↔ CoversAlike pieces text)
  pub longer : (pieces : List Piece) (key name : List ℕ) → (found : List ℕ) × IsNamedPart LongerFirst pieces key name found
  pub shorter : (pieces : List Piece) (key name : List ℕ) → (found : List ℕ) × IsNamedPart ShorterSegmentFirst pieces key name found
  pub address : (text : List ℕ) → ((a : Address) × IsAddress text a) ⊎ ((a : Address) → ¬ (IsAddress text a))
  pub block : (text : List ℕ) → ((b : Block) × IsBlock text b) ⊎ ((b : Block) → ¬ (IsBlock text b))
  pub inside : (a b : Address) (bits : ℕ) → (t : Bool) × (IsTrue t ↔ IsInside a b bits)

one_truth_value : (a b : Bool) → (IsTrue a → IsTrue b) → (IsTrue b → IsTrue a) → a ≡ b
one_truth_value true true to from = refl
one_truth_value true false to from = absurd (true≢false (sym (to refl)))
one_truth_value false true to from = absurd (true≢false (sym (from refl)))
one_truth_value false false to from = refl

pub one_whether : (fact : Type 0) → AtMostOne (IsWhether fact)
one_whether fact r s (a, p, e) (b, q, g) = e ∙ ap (λ (t : Bool). Ok (datum.truth t)) (one_truth_value a b (λ h. q.1 (p.0 h)) (λ h. p.1 (q.0 h))) ∙ sym g

one_text : (fact : List ℕ → Type 0) → AtMostOne fact → AtMostOne (IsText fact)
one_text fact one r s (t, p, e) (u, q, g) = e ∙ ap (λ (x : List ℕ). Ok (datum.text x)) (one t u p q) ∙ sym g

same_inside : (a c : Address) (b d : Block) → a ≡ c → b ≡ d → (r : Evaluation) → IsWhether (IsInside c d.address d.bits) r → IsWhether (IsInside a b.address b.bits) r
same_inside a c b d e g r p = subst (λ (x : Address). IsWhether (IsInside x b.address b.bits) r) (sym e) (subst (λ (x : Block). IsWhether (IsInside c x.address x.bits) r) (sym g) p)

one_in_block : FunctionsAgree → (at : ℕ) (text block : List ℕ) → AtMostOne (IsInBlock at text block)
one_in_block agree at text block r s (inl p) (inl q) = p.1 ∙ sym q.1
one_in_block agree at text block r s (inl p) (inr (inl q)) = absurd (p.0 q.0.0 q.0.1)
one_in_block agree at text block r s (inl p) (inr (inr q)) = absurd (p.0 q.0 q.2)
one_in_block agree at text block r s (inr (inl p)) (inl q) = absurd (q.0 p.0.0 p.0.1)
one_in_block agree at text block r s (inr (inl p)) (inr (inl q)) = p.2 ∙ sym q.2
one_in_block agree at text block r s (inr (inl p)) (inr (inr q)) = absurd (p.1 q.1 q.3)
one_in_block agree at text block r s (inr (inr p)) (inl q) = absurd (q.0 p.0 p.2)
one_in_block agree at text block r s (inr (inr p)) (inr (inl q)) = absurd (q.1 p.1 p.3)
one_in_block agree at text block r s (inr (inr p)) (inr (inr q)) =
    one_whether (IsInside p.0 p.1.address p.1.bits) r s p.4 (same_inside p.0 q.0 p.1 q.1 (agree.address text p.0 q.0 p.2 q.2) (agree.block block p.1 q.1 p.3 q.3) s q.4)

pub one_of_two : FunctionsAgree → (refused : Option (ℕ × List ℕ)) (at : ℕ) (called : Function) (s t : List ℕ) → AtMostOne (OfTwo refused at called s t)
one_of_two agree refused at f.KeyMatch s t q r = one_whether (AgreesToStar s t) q r
one_of_two agree refused at f.KeyMatch2 s t q r = one_whether (Covers (colon_pieces t) s) q r
one_of_two agree refused at f.KeyMatch3 s t q r = one_whether (Covers (brace_pieces t) s) q r
one_of_two agree refused at f.KeyMatch4 s t q r = one_whether (CoversAlike (brace_pieces t) s) q r
one_of_two agree refused at f.KeyMatch5 s t q r = one_whether (Covers (brace_pieces t) (without_query s)) q r
one_of_two agree refused at f.GlobMatch s t q r = one_whether (Covers (glob_pieces t) s) q r
one_of_two agree refused at f.RegexMatch s t q r = λ e g. e ∙ sym g
one_of_two agree refused at f.IpMatch s t q r = one_in_block agree at s t q r
one_of_two agree refused at f.KeyGet s t q r = λ e g. e ∙ sym g
one_of_two agree refused at f.KeyGet2 s t q r = λ e g. e ∙ sym g
one_of_two agree refused at f.KeyGet3 s t q r = λ e g. e ∙ sym g

pub one_of_three : FunctionsAgree → (at : ℕ) (called : Function) (s t u : List ℕ) → AtMostOne (OfThree at called s t u)
one_of_three agree at f.KeyGet2 s t u q r = one_text (IsNamedPart LongerFirst (colon_pieces t) s u) (agree.longer (colon_pieces t) s u) q r
one_of_three agree at f.KeyGet3 s t u q r = one_text (IsNamedPart ShorterSegmentFirst (brace_pieces t) s u) (agree.shorter (brace_pieces t) s u) q r
one_of_three agree at f.KeyMatch s t u q r = λ e g. e ∙ sym g
one_of_three agree at f.KeyMatch2 s t u q r = λ e g. e ∙ sym g
one_of_three agree at f.KeyMatch3 s t u q r = λ e g. e ∙ sym g
one_of_three agree at f.KeyMatch4 s t u q r = λ e g. e ∙ sym g
one_of_three agree at f.KeyMatch5 s t u q r = λ e g. e ∙ sym g
one_of_three agree at f.GlobMatch s t u q r = λ e g. e ∙ sym g
one_of_three agree at f.RegexMatch s t u q r = λ e g. e ∙ sym g
one_of_three agree at f.IpMatch s t u q r = λ e g. e ∙ sym g
one_of_three agree at f.KeyGet s t u q r = λ e g. e ∙ sym g

pub some_whether : (fact : Type 0) → (b : Bool) × (IsTrue b ↔ fact) → AtLeastOne (IsWhether fact)
some_whether fact (b, p) = (Ok (datum.truth b), (b, p, refl))

some_text : (fact : List ℕ → Type 0) → (t : List ℕ) × fact t → AtLeastOne (IsText fact)
some_text fact (t, p) = (Ok (datum.text t), (t, p, refl))

some_in_block : FunctionsDecide → (at : ℕ) (text block : List ℕ) → AtLeastOne (IsInBlock at text block)
some_in_block decide at text block = by_address (decide.address text) (decide.block block)
  where
    inside : (a : Address) (b : Block) → IsAddress text a → IsBlock block b → AtLeastOne (IsWhether (IsInside a b.address b.bits)) → AtLeastOne (IsInBlock at text block)
    inside a b p q (r, h) = (r, inr (inr (a, b, p, q, h)))

    by_block : (a : Address) → IsAddress text a → ((b : Block) × IsBlock block b) ⊎ ((b : Block) → ¬ (IsBlock block b)) → AtLeastOne (IsInBlock at text block)
    by_block a p (inl (b, q)) = inside a b p q (some_whether (IsInside a b.address b.bits) (decide.inside a b.address b.bits))
    by_block a p (inr none) = (fails BadBlock at, inr (inl ((a, p), none, refl)))

    by_address : ((a : Address) × IsAddress text a) ⊎ ((a : Address) → ¬ (IsAddress text a)) → ((b : Block) × IsBlock block b) ⊎ ((b : Block) → ¬ (IsBlock block b)) → AtLeastOne (IsInBlock at text block)
    by_address (inl (a, p)) given = by_block a p given
    by_address (inr none) given = (fails BadAddress at, inl (none, refl))

pub some_of_two : FunctionsDecide → (refused : Option (ℕ × List ℕ)) (at : ℕ) (called : Function) (s t : List ℕ) → AtLeastOne (OfTwo refused at called s t)
some_of_two decide refused at f.KeyMatch s t = some_whether (AgreesToStar s t) (decide.star s t)
some_of_two decide refused at f.KeyMatch2 s t = some_whether (Covers (colon_pieces t) s) (decide.covers (colon_pieces t) s)
some_of_two decide refused at f.KeyMatch3 s t = some_whether (Covers (brace_pieces t) s) (decide.covers (brace_pieces t) s)
some_of_two decide refused at f.KeyMatch4 s t = some_whether (CoversAlike (brace_pieces t) s) (decide.alike (brace_pieces t) s)
some_of_two decide refused at f.KeyMatch5 s t = some_whether (Covers (brace_pieces t) (without_query s)) (decide.covers (brace_pieces t) (without_query s))
some_of_two decide refused at f.GlobMatch s t = some_whether (Covers (glob_pieces t) s) (decide.covers (glob_pieces t) s)
some_of_two decide refused at f.RegexMatch s t = (searched refused at s t, refl)
some_of_two decide refused at f.IpMatch s t = some_in_block decide at s t
some_of_two decide refused at f.KeyGet s t = (Ok (datum.text (part_at_star s t)), refl)
some_of_two decide refused at f.KeyGet2 s t = (fails Kind at, refl)
some_of_two decide refused at f.KeyGet3 s t = (fails Kind at, refl)

pub some_of_three : FunctionsDecide → (at : ℕ) (called : Function) (s t u : List ℕ) → AtLeastOne (OfThree at called s t u)
some_of_three decide at f.KeyGet2 s t u = some_text (IsNamedPart LongerFirst (colon_pieces t) s u) (decide.longer (colon_pieces t) s u)
some_of_three decide at f.KeyGet3 s t u = some_text (IsNamedPart ShorterSegmentFirst (brace_pieces t) s u) (decide.shorter (brace_pieces t) s u)
some_of_three decide at f.KeyMatch s t u = (fails Kind at, refl)
some_of_three decide at f.KeyMatch2 s t u = (fails Kind at, refl)
some_of_three decide at f.KeyMatch3 s t u = (fails Kind at, refl)
some_of_three decide at f.KeyMatch4 s t u = (fails Kind at, refl)
some_of_three decide at f.KeyMatch5 s t u = (fails Kind at, refl)
some_of_three decide at f.GlobMatch s t u = (fails Kind at, refl)
some_of_three decide at f.RegexMatch s t u = (fails Kind at, refl)
some_of_three decide at f.IpMatch s t u = (fails Kind at, refl)
some_of_three decide at f.KeyGet s t u = (fails Kind at, refl)
