-- How far a front goes in a text, and that the text may be cut there.
use Rattle.std.proofs.Common.{◌≡◌, ℕ, zero, suc, ◌+◌, ◌-◌, ◌<◌, ◌≤◌, ◌&&◌, Bool, true, false, cond, List, [], ◌∷◌, ◌++◌, length, drop, get_or, eqb, Option, Some, None, IfSome, IsUtf8, refl, sym, ap, ◌∙◌, subst, inl, inr, arith}
use Rattle.std.proofs.lemmas.Bool.{and_parts, cond-true, cond-false, eqb-true, eqb-false, or_cases, or_left}
use Rattle.std.proofs.lemmas.Bool.Decides.{nat_tests}
use Rattle.std.proofs.lemmas.List.{at_drop_more, at_drop_all, get_or_at, length-append}
use Rattle.std.specs.Char.{is_ascii_digit}
use Rattle.std.specs.List.{prefix_len}
use Rattle.std.specs.Str.{IsCharBoundary}
use Rattle.text_parts.specs.Lines.{has_byte}
use Rattle.text_parts.specs.Names.{is_letter, is_word}
use Rattle.matcher_read.specs.Tokens.{is_reserved}
use Rattle.matcher_read.specs.Tokens as token
use Rattle.matcher_read.specs.Helps.Cuts.{begins_name, sized_token, goes_on, name_size, is_quote, name_at, number_at, text_at, sign_at, token_at}
use Rattle.text_parts.proofs.CallerLemmas.{boundary-passing, boundary_behind, word_ascii, word_from_letter}
use Rattle.matcher_read.proofs.NameLemmas.{name_size-le-length}
use Rattle.matcher_read.proofs.TokenLemmas.{text_at-closed, text_at-open}

digit_ascii : (b : ℕ) → is_ascii_digit b ≡ true → b < 128
digit_ascii b h = grind (arith, nat_tests)

pub boundary-digits : (bytes : List ℕ) → IsUtf8 bytes → IsCharBoundary bytes (prefix_len is_ascii_digit bytes)
boundary-digits bytes utf8 = boundary-passing is_ascii_digit bytes digit_ascii utf8

goes_ascii : (b : ℕ) (bytes : List ℕ) → goes_on b bytes ≡ true → b < 128
goes_ascii b bytes goes =
    elim (or_cases (is_word b) (eqb b 46 && begins_name bytes) goes) as (λ _. b < 128) [
      | inl word ↦ word_ascii b word
      | inr dot ↦ let same = eqb-true b 46 (and_parts (eqb b 46) (begins_name bytes) dot).0 in omega arith
    ]

name_ascii-at : (g : Bool) (b : ℕ) (bytes : List ℕ) (k : ℕ) → goes_on b bytes ≡ g → ((j : ℕ) → j < name_size bytes → get_or bytes j 0 < 128) → k < cond g (suc (name_size bytes)) 0 → get_or (b ∷ bytes) k 0 < 128
name_ascii-at true b bytes zero goes rest h = goes_ascii b bytes goes
name_ascii-at true b bytes (suc k) goes rest h = rest k (omega arith)
name_ascii-at false b bytes k goes rest h = absurd (omega arith)

name_ascii : (bytes : List ℕ) (k : ℕ) → k < name_size bytes → get_or bytes k 0 < 128
unfolding name_size
name_ascii [] k h = absurd (omega arith)
name_ascii (b ∷ bytes) k h = name_ascii-at (goes_on b bytes) b bytes k refl (name_ascii bytes) h

pub boundary-name : (bytes : List ℕ) → IsUtf8 bytes → IsCharBoundary bytes (name_size bytes)
boundary-name bytes utf8 = boundary_behind bytes (name_size bytes) utf8 (name_size-le-length bytes) (λ k e. name_ascii bytes k (omega arith))

-- one byte more of a name, and its end
pub name_more : (bytes : List ℕ) (n : ℕ) → n < length bytes → goes_on (get_or bytes n 0) (drop (n + 1) bytes) ≡ true → n + name_size (drop n bytes) ≡ name_size bytes → n + 1 + name_size (drop (n + 1) bytes) ≡ name_size bytes
unfolding name_size
name_more bytes n within goes e =
    let next = at_drop_more name_size bytes n 0 within ∙ cond-true (goes_on (get_or bytes n 0) (drop (n + 1) bytes)) (suc (name_size (drop (n + 1) bytes))) 0 goes in
    omega (arith, next, e)

pub name_stop : (bytes : List ℕ) (n : ℕ) → n < length bytes → goes_on (get_or bytes n 0) (drop (n + 1) bytes) ≡ false → n + name_size (drop n bytes) ≡ name_size bytes → n ≡ name_size bytes
unfolding name_size
name_stop bytes n within stops e =
    let next = at_drop_more name_size bytes n 0 within ∙ cond-false (goes_on (get_or bytes n 0) (drop (n + 1) bytes)) (suc (name_size (drop (n + 1) bytes))) 0 stops in
    omega (arith, next, e)

pub name_all : (bytes : List ℕ) (n : ℕ) → length bytes ≤ n → n + name_size (drop n bytes) ≡ name_size bytes → n ≡ name_size bytes
unfolding name_size
name_all bytes n past e = omega (arith, at_drop_all name_size bytes n past, e)

or_word : (b : ℕ) (bytes : List ℕ) → is_word b ≡ true → goes_on b bytes ≡ true
or_word b bytes word = or_left (is_word b) (eqb b 46 && begins_name bytes) word

pub name_some : (bytes : List ℕ) → begins_name bytes ≡ true → 0 < name_size bytes
unfolding name_size
name_some [] begins = absurd cc
name_some (b ∷ bytes) begins =
    let goes : is_word b ≡ true = word_from_letter b begins in
    omega (arith, cond-true (goes_on b bytes) (suc (name_size bytes)) 0 (or_word b bytes goes))

-- the kinds of tokens by the first byte
kind_none-of : (bytes : List ℕ) → length bytes ≡ 0 → token_at bytes ≡ None
unfolding token_at
kind_none-of [] e = refl
kind_none-of (b ∷ bytes) e = absurd (omega arith)

pub kind-none : (text bytes : List ℕ) → bytes ≡ text → eqb (length bytes) 0 ≡ true → token_at text ≡ None
kind-none text bytes same e = kind_none-of text (ap length (sym same) ∙ eqb-true (length bytes) 0 e)

pub kind-name : (text bytes : List ℕ) → bytes ≡ text → eqb (length bytes) 0 ≡ false → is_letter (get_or bytes 0 0) ≡ true → token_at text ≡ Some (name_at text)
unfolding token_at
kind-name text [] same some letter = absurd (eqb-false 0 0 some refl)
kind-name text (b ∷ bytes) same some letter = subst (λ (t : List ℕ). token_at t ≡ Some (name_at t)) same (cond-true (is_letter b) _ _ letter)

pub kind-number : (text bytes : List ℕ) → bytes ≡ text → eqb (length bytes) 0 ≡ false → is_letter (get_or bytes 0 0) ≡ false → is_ascii_digit (get_or bytes 0 0) ≡ true → token_at text ≡ Some (number_at text)
unfolding token_at
kind-number text [] same some letter digit = absurd (eqb-false 0 0 some refl)
kind-number text (b ∷ bytes) same some letter digit = subst (λ (t : List ℕ). token_at t ≡ Some (number_at t)) same (cond-false (is_letter b) _ _ letter ∙ cond-true (is_ascii_digit b) _ _ digit)

pub kind-text : (text bytes : List ℕ) → bytes ≡ text → eqb (length bytes) 0 ≡ false → is_letter (get_or bytes 0 0) ≡ false → is_ascii_digit (get_or bytes 0 0) ≡ false → is_quote (get_or bytes 0 0) ≡ true → token_at text ≡ Some (text_at text)
unfolding token_at
kind-text text [] same some letter digit quote = absurd (eqb-false 0 0 some refl)
kind-text text (b ∷ bytes) same some letter digit quote = subst (λ (t : List ℕ). token_at t ≡ Some (text_at t)) same (cond-false (is_letter b) _ _ letter ∙ cond-false (is_ascii_digit b) _ _ digit ∙ cond-true (is_quote b) _ _ quote)

pub kind-sign : (text bytes : List ℕ) → bytes ≡ text → eqb (length bytes) 0 ≡ false → is_letter (get_or bytes 0 0) ≡ false → is_ascii_digit (get_or bytes 0 0) ≡ false → is_quote (get_or bytes 0 0) ≡ false → token_at text ≡ sign_at bytes
unfolding token_at
kind-sign text [] same some letter digit quote = absurd (eqb-false 0 0 some refl)
kind-sign text (b ∷ bytes) same some letter digit quote = ap (λ (t : List ℕ). token_at t) (sym same) ∙ cond-false (is_letter b) _ _ letter ∙ cond-false (is_ascii_digit b) _ _ digit ∙ cond-false (is_quote b) _ _ quote

-- behind a quote, and behind the next
pub boundary-one : (bytes : List ℕ) → IsUtf8 bytes → 0 < length bytes → get_or bytes 0 0 < 128 → IsCharBoundary bytes 1
boundary-one bytes utf8 some ascii =
    boundary_behind bytes 1 utf8 some (λ k e.
    let first : k ≡ 0 = omega arith in
    subst (λ (n : ℕ). get_or bytes n 0 < 128) (sym first) ascii)

-- a text that is cut at its quote
pub closed_text : (text bytes rest inside behind : List ℕ) → bytes ≡ text → 0 < length text → rest ≡ drop 1 text → rest ≡ inside ++ get_or bytes 0 0 ∷ behind → has_byte (get_or bytes 0 0) inside ≡ false → sized_token (token.text inside) (length inside + 2) ≡ text_at text
closed_text text [] rest inside behind same some e parts none = absurd (omega (arith, ap length same))
closed_text text (quote ∷ bytes) rest inside behind same some e parts none =
    let cut : bytes ≡ inside ++ quote ∷ behind = ap (λ (t : List ℕ). drop 1 t) same ∙ sym e ∙ parts in
    sym (text_at-closed quote inside behind none) ∙ ap (λ (t : List ℕ). text_at (quote ∷ t)) (sym cut) ∙ ap text_at same

pub open_text : (text bytes rest : List ℕ) → bytes ≡ text → 0 < length text → rest ≡ drop 1 text → has_byte (get_or bytes 0 0) rest ≡ false → sized_token (token.unclosed rest) (length rest + 1) ≡ text_at text
open_text text [] rest same some e none = absurd (omega (arith, ap length same))
open_text text (quote ∷ bytes) rest same some e none =
    let behind : bytes ≡ rest = ap (λ (t : List ℕ). drop 1 t) same ∙ sym e in
    sym (text_at-open quote rest none) ∙ ap (λ (t : List ℕ). text_at (quote ∷ t)) (sym behind) ∙ ap text_at same

-- behind the next quote
pub boundary-closed : (text bytes rest inside behind : List ℕ) → IsUtf8 text → bytes ≡ text → 0 < length text → get_or text 0 0 < 128 → rest ≡ drop 1 text → rest ≡ inside ++ get_or bytes 0 0 ∷ behind → IsCharBoundary text (length inside + 2)
boundary-closed [] bytes rest inside behind utf8 same some ascii e parts = absurd (omega arith)
boundary-closed (quote ∷ text) bytes rest inside behind utf8 same some ascii e parts =
    let cut : quote ∷ text ≡ (quote ∷ inside) ++ quote ∷ behind = ap (λ (t : List ℕ). quote ∷ t) (sym e ∙ parts ∙ ap (λ (t : List ℕ). inside ++ get_or t 0 0 ∷ behind) same) in
    boundary_behind (quote ∷ text) (length inside + 2) utf8 (omega (arith, ap length cut, length-append (quote ∷ inside) (quote ∷ behind))) (λ k at.
    let there : get_or (quote ∷ text) k 0 ≡ quote = ap (λ (t : List ℕ). get_or t k 0) cut ∙ get_or_at (quote ∷ inside) quote behind 0 k (omega (arith, at)) in
    omega (arith, there, ascii))

pub boundary-sign : {T : Type 0} (o : Option (T × ℕ)) (bytes : List ℕ) → IsUtf8 bytes → IfSome o (λ front. 0 < front.1) → IfSome o (λ front. get_or bytes (front.1 - 1) 0 < 128) → IfSome o (λ front. front.1 ≤ length bytes) → IfSome o (λ front. IsCharBoundary bytes front.1)
boundary-sign None bytes utf8 some ascii within = tt
boundary-sign (Some front) bytes utf8 some ascii within =
    boundary_behind bytes front.1 utf8 within (λ k e.
    let last : k ≡ front.1 - 1 = omega arith in
    subst (λ (n : ℕ). get_or bytes n 0 < 128) (sym last) ascii)
