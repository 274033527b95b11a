-- What is left of the tokens of a text, behind one that is read.
use Rattle.std.proofs.Common.{◌≡◌, ◌≢◌, ℕ, suc, ◌+◌, ◌-◌, ◌<◌, ◌≤◌, Bool, true, false, cond, List, [], ◌∷◌, length, take, drop, get_or, eqb, Option, Some, None, IfSome, MatchOption, refl, sym, ap, ◌∙◌, subst, arith}
use Rattle.std.proofs.lemmas.Bool.{eqb-true, eqb-false}
use Rattle.std.proofs.lemmas.List.{get_or-take, length-drop}
use Rattle.matcher_read.specs.Tokens.{Token, Placed, placed, name, called, number, opening, IsSpelling, as_number, as_opening, name_before, token_before, with_calls, is_reserved}
use Rattle.std.specs.Prelude.{option_map}
use Rattle.matcher_read.specs.Helps.TokenLists.{TokenList, HasDigits, end_of, placed_of, token_of}
use Rattle.matcher_read.specs.declared.token.PlacedToken.{PlacedToken}
use Rattle.matcher_read.specs.Helps.Cuts.{Found, sized_token, token_at, or_one, Cut, onto_cut, cut_full, blanks, cut_within, cut, listed, IsAtEnd, IsLeft, begins_opening, name_by, marked}
use Rattle.matcher_read.proofs.TokenLemmas.{token_at-spelled, token_at-full}
use Rattle.matcher_read.proofs.CuttingLemmas.{blanks-behind, cut_within-front, cut_full-at, cut_full-token, cut_within-one, cut-is}

-- the cut from its first token on
cut_within-any : (most place : ℕ) (bytes : List ℕ) → length bytes ≤ most → cut_within most place bytes ≡ cut place bytes
cut_within-any most place bytes few = cut_within-one most (cut-is place bytes) few

cut-step : (place : ℕ) (bytes : List ℕ) → cut place bytes ≡ cut_full (cut_within (length bytes)) (place + blanks bytes) (drop (blanks bytes) bytes)
unfolding cut_within
cut-step place bytes = sym (cut_within-any (suc (length bytes)) place bytes (omega arith))

cut-full : (most place : ℕ) (bytes : List ℕ) → length bytes ≤ most → blanks bytes ≡ 0 → cut place bytes ≡ cut_full (cut_within most) place bytes
cut-full most place bytes few full = sym (cut_within-any (suc most) place bytes (omega arith)) ∙ cut_within-front most place [] bytes refl full ∙ ap (λ (p : ℕ). cut_full (cut_within most) p bytes) (omega arith)

-- blanks at the front are passed over
pub cut-blanks : (place : ℕ) (bytes : List ℕ) → cut place bytes ≡ cut (place + blanks bytes) (drop (blanks bytes) bytes)
cut-blanks place bytes = cut-step place bytes ∙ sym (cut-full (length bytes) (place + blanks bytes) (drop (blanks bytes) bytes) (omega (arith, length-drop (blanks bytes) bytes)) (blanks-behind bytes))

pub cut-token : (place : ℕ) (bytes : List ℕ) (front : Found) → token_at bytes ≡ Some front → cut place bytes ≡ onto_cut (placed place front.token) (cut (place + front.size) (drop front.size bytes))
cut-token place bytes front e =
    cut-full (length bytes) place bytes (omega arith) (token_at-full bytes front e) ∙ cut_full-token (cut_within (length bytes)) place bytes front e
    ∙ ap (λ (c : Cut). onto_cut (placed place front.token) c) (cut_within-any (length bytes) (place + front.size) (drop front.size bytes) (omega (arith, length-drop front.size bytes)))

-- at the end there are no tokens
pub cut-end : (place : ℕ) (bytes : List ℕ) → IsAtEnd bytes → (cut place bytes).tokens ≡ []
cut-end place [] end = ap (λ (c : Cut). c.tokens) (cut-full 0 place [] (omega arith) refl)
cut-end place (b ∷ bytes) end = ap (λ (c : Cut). c.tokens) (cut-full (length (b ∷ bytes)) place (b ∷ bytes) (omega arith) end.no_blank ∙ cut_full-at (cut_within (length (b ∷ bytes))) place (b ∷ bytes) None (omega arith) end.no_token)

pub end-place : (place : ℕ) (bytes : List ℕ) → 0 < place → IsAtEnd bytes → place ≡ end_of (cut place bytes).stray (place + length bytes - 1)
end-place place [] counted end = omega arith ∙ ap (λ (c : Cut). end_of c.stray (place + 0 - 1)) (sym (cut-full 0 place [] (omega arith) refl))
end-place place (b ∷ bytes) counted end = ap (λ (c : Cut). end_of c.stray (place + length (b ∷ bytes) - 1)) (sym (cut-full (length (b ∷ bytes)) place (b ∷ bytes) (omega arith) end.no_blank ∙ cut_full-at (cut_within (length (b ∷ bytes))) place (b ∷ bytes) None (omega arith) end.no_token))

-- an opening parenthesis, and any other token
open_sign : (t : Bool) → or_one 40 (cond t None None) ≡ Some (sized_token opening 1)
open_sign true = refl
open_sign false = refl

opening_found : (bytes : List ℕ) → token_at (40 ∷ bytes) ≡ Some (sized_token opening 1)
unfolding token_at
opening_found [] = refl
opening_found (b ∷ bytes) = open_sign (eqb b 61)

opening_spelled : (t : Token) (spelling : List ℕ) → IsSpelling t spelling → t ≡ opening → spelling ≡ 40 ∷ []
opening_spelled t spelling as_opening e = refl
opening_spelled t spelling _ e = absurd cc

opening_first : (b : ℕ) (bytes : List ℕ) (front : Found) → token_at (b ∷ bytes) ≡ Some front → front.token ≡ opening → b ≡ 40
opening_first b bytes front e is =
    let there = token_at-spelled (b ∷ bytes) front e in
    let spelling = opening_spelled front.token (take front.size (b ∷ bytes)) there.spelled is in
    sym (get_or-take front.size (b ∷ bytes) 0 0 there.some) ∙ ap (λ (t : List ℕ). get_or t 0 0) spelling

name_before-other : (parts : List (List ℕ)) (t : Token) → t ≢ opening → name_before parts t ≡ name parts
name_before-other parts opening other = absurd (other refl)
name_before-other parts _ other = refl

-- a name by the tokens behind it, and by the byte behind it
mark-at : (test : Bool) (b : ℕ) (bytes : List ℕ) (parts : List (List ℕ)) (o : Option Found) (place : ℕ) → eqb b 40 ≡ test → token_at (b ∷ bytes) ≡ o → blanks (b ∷ bytes) ≡ 0 → token_before (name parts) (cut place (b ∷ bytes)).tokens ≡ name_by parts test
mark-at true b bytes parts o place is e full =
    let opens : token_at (b ∷ bytes) ≡ Some (sized_token opening 1) = subst (λ (n : ℕ). token_at (n ∷ bytes) ≡ Some (sized_token opening 1)) (sym (eqb-true b 40 is)) (opening_found bytes) in
    ap (λ (c : Cut). token_before (name parts) c.tokens) (cut-token place (b ∷ bytes) (sized_token opening 1) opens)
mark-at false b bytes parts (Some front) place is e full =
    ap (λ (c : Cut). token_before (name parts) c.tokens) (cut-token place (b ∷ bytes) front e) ∙ name_before-other parts front.token (λ opens. eqb-false b 40 is (opening_first b bytes front e opens))
mark-at false b bytes parts None place is e full =
    ap (λ (tokens : List Placed). token_before (name parts) tokens) (cut-end place (b ∷ bytes) (record {
      no_blank = full;
      no_token = e;
    }))

mark-name : (place : ℕ) (bytes : List ℕ) (parts : List (List ℕ)) → blanks bytes ≡ 0 → token_before (name parts) (cut place bytes).tokens ≡ name_by parts (begins_opening bytes)
unfolding token_at
mark-name place [] parts full =
    ap (λ (tokens : List Placed). token_before (name parts) tokens) (cut-end place [] (record {
      no_blank = refl;
      no_token = refl;
    }))
mark-name place (b ∷ bytes) parts full = mark-at (eqb b 40) b bytes parts (token_at (b ∷ bytes)) place refl refl full

-- a token by the tokens behind it
pub mark-is : (place : ℕ) (bytes : List ℕ) (token : Token) → blanks bytes ≡ 0 → token_before token (cut place bytes).tokens ≡ marked token (begins_opening bytes)
mark-is place bytes (name parts) full = mark-name place bytes parts full
mark-is place bytes _ full = refl

-- the list is that of a text
pub record IsListed (place : ℕ) (bytes : List ℕ) (list : TokenList) : Type 0 where
  pub tokens : list.tokens ≡ with_calls (cut place bytes).tokens
  pub stray : list.stray ≡ (cut place bytes).stray

listed-cut : (place : ℕ) (bytes : List ℕ) (token : Token) (next : ℕ) (rest : List ℕ) → blanks rest ≡ 0 → cut place bytes ≡ onto_cut (placed place token) (cut next rest) → IsListed place bytes (listed (Some (placed place (marked token (begins_opening rest)))) next rest)
listed-cut place bytes token next rest full e = record {
  tokens = ap (λ (t : Token). placed place t ∷ with_calls (cut next rest).tokens) (sym (mark-is next rest token full)) ∙ ap (λ (c : Cut). with_calls c.tokens) (sym e);
  stray = ap (λ (c : Cut). c.stray) (sym e);
}

-- where a token stands behind the blanks, and is read
pub listed-token : (place at next size : ℕ) (bytes front behind rest : List ℕ) (token : Token) → at ≡ place + blanks bytes → front ≡ drop (blanks bytes) bytes → token_at front ≡ Some (sized_token token size)
    → behind ≡ drop size front → rest ≡ drop (blanks behind) behind → next ≡ at + size + blanks behind → IsListed place bytes (listed (Some (placed at (marked token (begins_opening rest)))) next rest)
listed-token place at next size bytes front behind rest token is_at is_front e is_behind is_rest is_next =
    let full : blanks rest ≡ 0 = ap blanks is_rest ∙ blanks-behind behind in
    let to_front : cut place bytes ≡ cut at front = cut-blanks place bytes ∙ ap (λ (p : ℕ). cut p (drop (blanks bytes) bytes)) (sym is_at) ∙ ap (λ (t : List ℕ). cut at t) (sym is_front) in
    let to_rest : cut (at + size) (drop size front) ≡ cut next rest = ap (λ (t : List ℕ). cut (at + size) t) (sym is_behind) ∙ cut-blanks (at + size) behind ∙ ap (λ (p : ℕ). cut p (drop (blanks behind) behind)) (sym is_next) ∙ ap (λ (t : List ℕ). cut next t) (sym is_rest) in
    let list = listed-cut at front token next rest full (cut-token at front (sized_token token size) e ∙ ap (λ (c : Cut). onto_cut (placed at token) c) to_rest) in
    record {
      tokens = list.tokens ∙ ap (λ (c : Cut). with_calls c.tokens) (sym to_front);
      stray = list.stray ∙ ap (λ (c : Cut). c.stray) (sym to_front);
    }

-- where none stands there
pub listed-end : (place at : ℕ) (bytes front : List ℕ) → at ≡ place + blanks bytes → front ≡ drop (blanks bytes) bytes → IsListed place bytes (listed None at front)
listed-end place at bytes front is_at is_front =
    let to_front : cut at front ≡ cut place bytes = ap (λ (t : List ℕ). cut at t) is_front ∙ ap (λ (p : ℕ). cut p (drop (blanks bytes) bytes)) is_at ∙ sym (cut-blanks place bytes) in
    record {
      tokens = ap (λ (c : Cut). with_calls c.tokens) to_front;
      stray = ap (λ (c : Cut). c.stray) to_front;
    }

pub at_end : (bytes front : List ℕ) → front ≡ drop (blanks bytes) bytes → token_at front ≡ None → IsAtEnd front
at_end bytes front is e = record {
  no_blank = ap blanks is ∙ blanks-behind bytes;
  no_token = e;
}

-- a number that is spelled is digits, also where a name may be called
digits_spelled : {token : Token} {spelling : List ℕ} → IsSpelling token spelling → HasDigits token
digits_spelled (as_number some all) = (some, all)
digits_spelled _ = tt

digits_called : (t : Bool) (parts : List (List ℕ)) → HasDigits (cond t (name parts) (called parts))
digits_called true parts = tt
digits_called false parts = tt

digits_name : (opens : Bool) (parts : List (List ℕ)) → HasDigits (name_by parts opens)
digits_name true parts = digits_called (is_reserved parts) parts
digits_name false parts = tt

digits_marked : (token : Token) (opens : Bool) → HasDigits token → HasDigits (marked token opens)
digits_marked (name parts) opens h = digits_name opens parts
digits_marked (number digits) opens h = h
digits_marked _ opens h = tt

pub has_digits : (bytes : List ℕ) (token : Token) (size : ℕ) (opens : Bool) → token_at bytes ≡ Some (sized_token token size) → HasDigits (marked token opens)
has_digits bytes token size opens e = digits_marked token opens (digits_spelled (token_at-spelled bytes (sized_token token size) e).spelled)

-- what a list of tokens shows
pub digits-is : (current : Option PlacedToken) (place : ℕ) (bytes : List ℕ) → IsLeft (option_map placed_of current) place bytes → IfSome current (λ token. HasDigits (token_of token.token))
digits-is (Some token) place bytes left = left.has_current
digits-is None place bytes left = tt

pub peek-is : (current : Option PlacedToken) (place : ℕ) (bytes : List ℕ) (list : TokenList) → listed (option_map placed_of current) place bytes ≡ list → IsLeft (option_map placed_of current) place bytes
    → MatchOption current (list.tokens ≡ []) (λ token. list.tokens ≡ placed_of token ∷ drop 1 list.tokens)
peek-is (Some token) place bytes list e left = subst (λ (l : TokenList). l.tokens ≡ placed_of token ∷ drop 1 l.tokens) e refl
peek-is None place bytes list e left = subst (λ (l : TokenList). l.tokens ≡ []) e (ap with_calls (cut-end place bytes left.has_current))

pub advance-is : (current : Option Placed) (place : ℕ) (bytes : List ℕ) (list : TokenList) → listed current place bytes ≡ list → IsLeft current place bytes → with_calls (cut place bytes).tokens ≡ drop 1 list.tokens
advance-is (Some token) place bytes list e left = subst (λ (l : TokenList). with_calls (cut place bytes).tokens ≡ drop 1 l.tokens) e refl
advance-is None place bytes list e left =
    let none : with_calls (cut place bytes).tokens ≡ [] = ap with_calls (cut-end place bytes left.has_current) in
    subst (λ (l : TokenList). with_calls (cut place bytes).tokens ≡ drop 1 l.tokens) e (none ∙ ap (drop 1) (sym none))

pub end-is : (current : Option Placed) (place : ℕ) (bytes : List ℕ) (list : TokenList) → listed current place bytes ≡ list → IsLeft current place bytes → list.tokens ≡ [] → place ≡ end_of list.stray list.size
end-is (Some token) place bytes list e left none =
    let some : token ∷ with_calls (cut place bytes).tokens ≡ [] = ap (λ (l : TokenList). l.tokens) e ∙ none in
    absurd cc
end-is None place bytes list e left none = subst (λ (l : TokenList). place ≡ end_of l.stray l.size) e (end-place place bytes left.counted left.has_current)
