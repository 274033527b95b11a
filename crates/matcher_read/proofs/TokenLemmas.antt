-- The longest token at the front of bytes, as it is computed.
use Rattle.std.proofs.Common.{◌≡◌, ℕ, suc, ◌+◌, ◌<◌, ◌≤◌, not, ◌⊎◌, inl, inr, Bool, true, false, cond, List, [], ◌∷◌, ◌++◌, length, take, drop, get_or, eqb, ltb, Option, Some, None, IsTrue, refl, sym, ap, ◌∙◌, subst, arith}
use Rattle.std.proofs.lemmas.Bool.{and_parts, and_from, or_parts, or_cases, both_ways, eqb-true, eq-eqb, cond-true, cond-false, lt-ltb, cases_lt, not_from_false}
use Rattle.std.proofs.lemmas.Bool.Decides.{nat_tests}
use Rattle.std.proofs.lemmas.Option.{none-some, same_Some}
use Rattle.std.proofs.lemmas.List.{append_assoc, append-nil, length-append, length-take, get_or_append_left, take-append-drop, take_all, take_more}
use Rattle.std.proofs.lemmas.List.Elements.{recursion_from_All}
use Rattle.std.proofs.lemmas.List.Folds.{list_any_at}
use Rattle.std.proofs.lemmas.List.Quantifiers.{position-Some}
use Rattle.std.proofs.lemmas.List.Sums.{prefix_len-le-length}
use Rattle.std.proofs.Math.Seq.{take-append_seam}
use Rattle.std.specs.Prelude.{position, option_map}
use Rattle.std.specs.Char.{is_ascii_digit}
use Rattle.std.specs.List.{join_with_byte, list_all, position_or_len, prefix_len}
use Rattle.text_parts.specs.Blanks.{is_blank}
use Rattle.text_parts.specs.Lines.{has_byte}
use Rattle.text_parts.specs.Names.{is_identifier, is_letter, is_word}
use Rattle.matcher_read.specs.Tokens.{Token, name, number, text, unclosed, operator, exclamation, opening, closing, comma, sign, IsQuote, IsSpelling, as_name, as_number, as_text, as_unclosed, as_operator, as_exclamation, as_opening, as_closing, as_comma, IsFront, IsLongest, BeginsNoToken}
use Rattle.matcher_read.specs.Helps.TokenLists.{pieces}
use Rattle.matcher_read.specs.Helps.Cuts.{Found, sized_token, begins_name, name_size, is_quote, sign_of_two, operator_of, mark_of, sign_of_one, or_mark, or_one, sign_at, name_at, number_at, quoted, text_at, token_at}
use Rattle.matcher_read.specs.declared.tree.Operator.{Operator}
use Rattle.matcher_read.specs.declared.tree.Operator.TheVariants as op
use Rattle.text_parts.proofs.CallerLemmas.{digit_is_no_letter, list_all-prefix, position-None, position-none_before, prefix_len-passing, word_from_letter}
use Rattle.matcher_read.proofs.NameLemmas.{AreIdentifiers, begins-join, pieces-join, name_size-word, name_size-join, name_size-le-length, name_spelled}

-- a front of the bytes that spells the token
pub record IsSpelled (bytes : List ℕ) (front : Found) : Type 0 where
  pub some : 0 < front.size
  pub within : front.size ≤ length bytes
  pub spelled : IsSpelling front.token (take front.size bytes)

take-two : (b : ℕ) (bytes : List ℕ) (at : ℕ) → take (at + 2) (b ∷ bytes) ≡ b ∷ take (at + 1) bytes
take-two b bytes at = let e : at + 2 ≡ suc (at + 1) = omega arith in rw e refl

take-whole : (b : ℕ) (bytes : List ℕ) → take (length bytes + 1) (b ∷ bytes) ≡ b ∷ bytes
take-whole b bytes = take_all (length bytes + 1) (b ∷ bytes) (omega arith)

-- texts
closing_at : (quote : ℕ) (bytes rest : List ℕ) → has_byte quote bytes ≡ false → position_or_len (λ b. eqb b quote) (bytes ++ quote ∷ rest) ≡ length bytes
closing_at quote [] rest none = cond-false (not (eqb quote quote)) (1 + prefix_len (λ b. not (eqb b quote)) rest) 0 (rw (eq-eqb quote quote refl) refl)
closing_at quote (b ∷ bytes) rest none =
    let both = or_parts (eqb b quote) (has_byte quote bytes) none in
    cond-true (not (eqb b quote)) (1 + prefix_len (λ b. not (eqb b quote)) (bytes ++ quote ∷ rest)) 0 (not_from_false (eqb b quote) both.0) ∙ omega (arith, closing_at quote bytes rest both.1)

closed : (quote : ℕ) (bytes rest : List ℕ) → has_byte quote bytes ≡ false → position (λ b. eqb b quote) (bytes ++ quote ∷ rest) ≡ Some (length bytes)
closed quote bytes rest none =
    let at = closing_at quote bytes rest none in
    let within : ltb (position_or_len (λ b. eqb b quote) (bytes ++ quote ∷ rest)) (length (bytes ++ quote ∷ rest)) ≡ true = lt-ltb _ _ (omega (arith, at, length-append bytes (quote ∷ rest))) in
    cond-true _ _ _ within ∙ ap (λ (n : ℕ). Some n) at

-- a text up to its next quote, or to the end
quoted_spelled : (quote : ℕ) (bytes : List ℕ) (at : Option ℕ) → IsQuote quote → position (λ b. eqb b quote) bytes ≡ at → IsSpelled (quote ∷ bytes) (quoted bytes at)
quoted_spelled quote bytes (Some at) is e =
    let there = position-Some (λ b. eqb b quote) bytes at 0 e in
    let next : get_or bytes at 0 ≡ quote = eqb-true _ quote there.1 in
    let front : take (at + 1) bytes ≡ take at bytes ++ quote ∷ [] = take_more bytes at 0 there.0 ∙ ap (λ (b : ℕ). take at bytes ++ b ∷ []) next in
    record {
      some = omega arith;
      within = omega (arith, there.0);
      spelled = subst (λ (spelling : List ℕ). IsSpelling (text (take at bytes)) spelling) (ap (λ (t : List ℕ). quote ∷ t) (sym front) ∙ sym (take-two quote bytes at)) (as_text is (position-none_before (λ b. eqb b quote) bytes at e));
    }
quoted_spelled quote bytes None is e = record {
  some = omega arith;
  within = omega arith;
  spelled = subst (λ (spelling : List ℕ). IsSpelling (unclosed bytes) spelling) (sym (take-whole quote bytes)) (as_unclosed is (position-None (λ b. eqb b quote) bytes e));
}

-- signs
sign_of_two-is : (a b : ℕ) (o : Operator) → sign_of_two a b ≡ Some o → sign o ≡ a ∷ b ∷ []
sign_of_two-is a b o e = grind (arith, nat_tests)

operator_of-is : (a : ℕ) (o : Operator) → operator_of a ≡ Some o → sign o ≡ a ∷ []
operator_of-is a o e = grind (arith, nat_tests)

mark_of-is : (a : ℕ) (t : Token) → mark_of a ≡ Some t → ((a ≡ 33) × (t ≡ exclamation)) ⊎ (((a ≡ 40) × (t ≡ opening)) ⊎ (((a ≡ 41) × (t ≡ closing)) ⊎ ((a ≡ 44) × (t ≡ comma))))
mark_of-is a t e = grind (arith, nat_tests)

spelling_at : (a b : ℕ) (t u : Token) → a ≡ b → t ≡ u → IsSpelling u (b ∷ []) → IsSpelling t (a ∷ [])
spelling_at a b t u same is h = subst (λ (n : ℕ). IsSpelling t (n ∷ [])) (sym same) (subst (λ (v : Token). IsSpelling v (b ∷ [])) (sym is) h)

mark_spelled : (a : ℕ) (t : Token) → mark_of a ≡ Some t → IsSpelling t (a ∷ [])
mark_spelled a t e =
    elim (mark_of-is a t e) as (λ _. IsSpelling t (a ∷ [])) [
      | inl p ↦ spelling_at a 33 t exclamation p.0 p.1 as_exclamation
      | inr q ↦ elim q as (λ _. IsSpelling t (a ∷ [])) [
        | inl p ↦ spelling_at a 40 t opening p.0 p.1 as_opening
        | inr r ↦ elim r as (λ _. IsSpelling t (a ∷ [])) [
          | inl p ↦ spelling_at a 41 t closing p.0 p.1 as_closing
          | inr p ↦ spelling_at a 44 t comma p.0 p.1 as_comma
        ]
      ]
    ]

one_spelled : (a : ℕ) (o : Option Operator) (t : Token) → operator_of a ≡ o → or_mark a o ≡ Some t → IsSpelling t (a ∷ [])
one_spelled a (Some o) t is e =
    let same : operator o ≡ t = cc in
    subst (λ (v : Token). IsSpelling v (a ∷ [])) same (subst (λ (spelling : List ℕ). IsSpelling (operator o) spelling) (operator_of-is a o is) as_operator)
one_spelled a None t is e = mark_spelled a t e

one_found : (a : ℕ) (bytes : List ℕ) (o : Option Token) (front : Found) → sign_of_one a ≡ o → option_map (λ token. sized_token token 1) o ≡ Some front → IsSpelled (a ∷ bytes) front
one_found a bytes (Some t) front is e =
    let same : sized_token t 1 ≡ front = cc in
    subst (λ (f : Found). IsSpelled (a ∷ bytes) f) same (record {
      some = omega arith;
      within = omega arith;
      spelled = one_spelled a (operator_of a) t refl is;
    })
one_found a bytes None front is e = absurd cc

sign_found : (a b : ℕ) (bytes : List ℕ) (o : Option Operator) (front : Found) → sign_of_two a b ≡ o → or_one a o ≡ Some front → IsSpelled (a ∷ b ∷ bytes) front
sign_found a b bytes (Some o) front is e =
    let same : sized_token (operator o) 2 ≡ front = cc in
    subst (λ (f : Found). IsSpelled (a ∷ b ∷ bytes) f) same (record {
      some = omega arith;
      within = omega arith;
      spelled = subst (λ (spelling : List ℕ). IsSpelling (operator o) spelling) (sign_of_two-is a b o is) as_operator;
    })
sign_found a b bytes None front is e = one_found a (b ∷ bytes) (sign_of_one a) front refl e

sign_spelled : (bytes : List ℕ) (front : Found) → sign_at bytes ≡ Some front → IsSpelled bytes front
sign_spelled [] front e = absurd cc
sign_spelled (a ∷ []) front e = one_found a [] (sign_of_one a) front refl e
sign_spelled (a ∷ b ∷ bytes) front e = sign_found a b bytes (sign_of_two a b) front refl e

-- each kind of token at a front
name_found : (bytes : List ℕ) → begins_name bytes ≡ true → IsSpelled bytes (name_at bytes)
name_found [] begins = absurd cc
name_found (b ∷ bytes) begins = record {
  some = let more = name_size-word (b ∷ []) bytes (and_from (is_word b) true (word_from_letter b begins) refl) in omega arith;
  within = name_size-le-length (b ∷ bytes);
  spelled = name_spelled (b ∷ bytes) begins;
}

number_found : (b : ℕ) (bytes : List ℕ) → is_ascii_digit b ≡ true → IsSpelled (b ∷ bytes) (number_at (b ∷ bytes))
number_found b bytes digit =
    let more = prefix_len-passing is_ascii_digit (b ∷ []) bytes (and_from (is_ascii_digit b) true digit refl) in
    let within = prefix_len-le-length is_ascii_digit (b ∷ bytes) in
    record {
      some = omega arith;
      within = within;
      spelled = as_number (omega (arith, length-take (prefix_len is_ascii_digit (b ∷ bytes)) (b ∷ bytes))) (list_all-prefix is_ascii_digit (b ∷ bytes));
    }

quote_is : (b : ℕ) → is_quote b ≡ true → IsQuote b
quote_is b e = elim (or_cases (eqb b 34) (eqb b 39) e) as (λ _. IsQuote b) [ inl q ↦ inl (eqb-true b 34 q) | inr q ↦ inr (eqb-true b 39 q) ]

token_by : (letter digit quote : Bool) (b : ℕ) (bytes : List ℕ) (front : Found) → is_letter b ≡ letter → is_ascii_digit b ≡ digit → is_quote b ≡ quote
    → cond letter (Some (name_at (b ∷ bytes))) (cond digit (Some (number_at (b ∷ bytes))) (cond quote (Some (text_at (b ∷ bytes))) (sign_at (b ∷ bytes)))) ≡ Some front → IsSpelled (b ∷ bytes) front
token_by true digit quote b bytes front is_l is_d is_q e =
    let same : name_at (b ∷ bytes) ≡ front = same_Some _ _ e in
    subst (λ (f : Found). IsSpelled (b ∷ bytes) f) same (name_found (b ∷ bytes) is_l)
token_by false true quote b bytes front is_l is_d is_q e =
    let same : number_at (b ∷ bytes) ≡ front = same_Some _ _ e in
    subst (λ (f : Found). IsSpelled (b ∷ bytes) f) same (number_found b bytes is_d)
token_by false false true b bytes front is_l is_d is_q e =
    let same : text_at (b ∷ bytes) ≡ front = same_Some _ _ e in
    subst (λ (f : Found). IsSpelled (b ∷ bytes) f) same (quoted_spelled b bytes (position (λ n. eqb n b) bytes) (quote_is b is_q) refl)
token_by false false false b bytes front is_l is_d is_q e = sign_spelled (b ∷ bytes) front e

-- what is found at a front is spelled there
pub token_at-spelled : (bytes : List ℕ) (front : Found) → token_at bytes ≡ Some front → IsSpelled bytes front
unfolding token_at
token_at-spelled [] front e = absurd cc
token_at-spelled (b ∷ bytes) front e = token_by (is_letter b) (is_ascii_digit b) (is_quote b) b bytes front refl refl refl e

-- a token at a front whose first byte tells its kind
token_at-name : (bytes : List ℕ) → begins_name bytes ≡ true → token_at bytes ≡ Some (name_at bytes)
unfolding token_at
token_at-name [] begins = absurd cc
token_at-name (b ∷ bytes) begins = cond-true (is_letter b) (Some (name_at (b ∷ bytes))) (cond (is_ascii_digit b) (Some (number_at (b ∷ bytes))) (cond (is_quote b) (Some (text_at (b ∷ bytes))) (sign_at (b ∷ bytes)))) begins

token_at-number : (b : ℕ) (bytes : List ℕ) → is_ascii_digit b ≡ true → token_at (b ∷ bytes) ≡ Some (number_at (b ∷ bytes))
unfolding token_at
token_at-number b bytes digit =
    cond-false (is_letter b) (Some (name_at (b ∷ bytes))) (cond (is_ascii_digit b) (Some (number_at (b ∷ bytes))) (cond (is_quote b) (Some (text_at (b ∷ bytes))) (sign_at (b ∷ bytes)))) (digit_is_no_letter b digit)
    ∙ cond-true (is_ascii_digit b) (Some (number_at (b ∷ bytes))) (cond (is_quote b) (Some (text_at (b ∷ bytes))) (sign_at (b ∷ bytes))) digit

token_at-text : (quote : ℕ) (bytes : List ℕ) → IsQuote quote → token_at (quote ∷ bytes) ≡ Some (text_at (quote ∷ bytes))
unfolding token_at
token_at-text quote bytes is =
    elim is as (λ _. token_at (quote ∷ bytes) ≡ Some (text_at (quote ∷ bytes))) [
      | inl e ↦ subst (λ (q : ℕ). token_at (q ∷ bytes) ≡ Some (text_at (q ∷ bytes))) (sym e) refl
      | inr e ↦ subst (λ (q : ℕ). token_at (q ∷ bytes) ≡ Some (text_at (q ∷ bytes))) (sym e) refl
    ]

begins-append : (bytes rest : List ℕ) → begins_name bytes ≡ true → begins_name (bytes ++ rest) ≡ true
begins-append [] rest begins = absurd cc
begins-append (b ∷ bytes) rest begins = begins

begins-append-nil : (bytes : List ℕ) → begins_name (bytes ++ []) ≡ true → begins_name bytes ≡ true
begins-append-nil [] begins = begins
begins-append-nil (b ∷ bytes) begins = begins

same_found : {t u : Token} {n m : ℕ} → t ≡ u → n ≡ m → Some (sized_token t n) ≡ Some (sized_token u m)
same_found e f = cc

begins-parts : (parts : List (List ℕ)) → 0 < length parts → AreIdentifiers parts → begins_name (join_with_byte 46 parts) ≡ true
begins-parts [] some all = absurd (omega arith)
begins-parts (part ∷ parts) some all = begins-append-nil (join_with_byte 46 (part ∷ parts)) (begins-join part parts [] all.0)

-- the token so spelled is found in its spelling
exact-name : (parts : List (List ℕ)) → 0 < length parts → AreIdentifiers parts → token_at (join_with_byte 46 parts) ≡ Some (sized_token (name parts) (length (join_with_byte 46 parts)))
exact-name parts some all =
    let joined : List ℕ = join_with_byte 46 parts in
    let reach = name_size-join parts [] all in
    let size : name_size joined ≡ length joined = omega (arith, name_size-le-length joined, ap (λ (t : List ℕ). name_size t) (append-nil joined)) in
    let whole : take (name_size joined) joined ≡ joined = take_all (name_size joined) joined (omega arith) in
    token_at-name joined (begins-parts parts some all) ∙ same_found (ap (λ (t : List ℕ). name (pieces t)) whole ∙ ap (λ (p : List (List ℕ)). name p) (pieces-join parts some all)) size

exact-number : (digits : List ℕ) → 0 < length digits → list_all is_ascii_digit digits ≡ true → token_at digits ≡ Some (sized_token (number digits) (length digits))
exact-number [] some all = absurd (omega arith)
exact-number (b ∷ digits) some all =
    let whole = prefix_len-passing is_ascii_digit (b ∷ digits) [] all in
    let size : prefix_len is_ascii_digit (b ∷ digits) ≡ length (b ∷ digits) = omega (arith, whole, ap (λ (t : List ℕ). prefix_len is_ascii_digit t) (append-nil (b ∷ digits))) in
    token_at-number b digits (and_parts (is_ascii_digit b) (list_all is_ascii_digit digits) all).0 ∙ same_found (ap (λ (t : List ℕ). number t) (take_all (prefix_len is_ascii_digit (b ∷ digits)) (b ∷ digits) (omega arith))) size

-- a text that is cut at its quote, and one without
pub text_at-closed : (quote : ℕ) (bytes rest : List ℕ) → has_byte quote bytes ≡ false → text_at (quote ∷ bytes ++ quote ∷ rest) ≡ sized_token (text bytes) (length bytes + 2)
text_at-closed quote bytes rest none = ap (λ (at : Option ℕ). quoted (bytes ++ quote ∷ rest) at) (closed quote bytes rest none) ∙ ap (λ (t : List ℕ). sized_token (text t) (length bytes + 2)) (take-append_seam bytes (quote ∷ rest))

no_quote_at : (quote : ℕ) (bytes : List ℕ) (at : Option ℕ) → has_byte quote bytes ≡ false → position (λ b. eqb b quote) bytes ≡ at → at ≡ None
no_quote_at quote bytes (Some at) none e =
    let there = position-Some (λ b. eqb b quote) bytes at 0 e in
    absurd (both_ways (has_byte quote bytes) none (list_any_at (λ b. eqb b quote) bytes at 0 there.0 there.1))
no_quote_at quote bytes None none e = refl

pub text_at-open : (quote : ℕ) (bytes : List ℕ) → has_byte quote bytes ≡ false → text_at (quote ∷ bytes) ≡ sized_token (unclosed bytes) (length bytes + 1)
text_at-open quote bytes none = ap (λ (at : Option ℕ). quoted bytes at) (no_quote_at quote bytes (position (λ b. eqb b quote) bytes) none refl)

exact-text : (quote : ℕ) (bytes rest : List ℕ) → IsQuote quote → has_byte quote bytes ≡ false → token_at (quote ∷ bytes ++ quote ∷ rest) ≡ Some (sized_token (text bytes) (length bytes + 2))
exact-text quote bytes rest is none = token_at-text quote (bytes ++ quote ∷ rest) is ∙ ap (λ (f : Found). Some f) (text_at-closed quote bytes rest none)

exact-unclosed : (quote : ℕ) (bytes : List ℕ) → IsQuote quote → has_byte quote bytes ≡ false → token_at (quote ∷ bytes) ≡ Some (sized_token (unclosed bytes) (length (quote ∷ bytes)))
exact-unclosed quote bytes is none = token_at-text quote bytes is ∙ ap (λ (f : Found). Some f) (text_at-open quote bytes none) ∙ same_found refl (omega arith)

exact-operator : (o : Operator) → token_at (sign o) ≡ Some (sized_token (operator o) (length (sign o)))
unfolding token_at
exact-operator op.Or = refl
exact-operator _ = refl

pub token_at-exact : {token : Token} {spelling : List ℕ} → IsSpelling token spelling → token_at spelling ≡ Some (sized_token token (length spelling))
unfolding token_at
token_at-exact (as_name {parts = parts} some all) = exact-name parts some (recursion_from_All (λ (part : List ℕ). IsTrue (is_identifier part)) parts all)
token_at-exact (as_number {digits = digits} some all) = exact-number digits some all
token_at-exact (as_text {quote = quote} {bytes = bytes} is none) = exact-text quote bytes [] is none ∙ same_found refl (omega (arith, length-append bytes (quote ∷ [])))
token_at-exact (as_unclosed {quote = quote} {bytes = bytes} is none) = exact-unclosed quote bytes is none
token_at-exact (as_operator {o = o}) = exact-operator o
token_at-exact as_exclamation = refl
token_at-exact as_opening = refl
token_at-exact as_closing = refl
token_at-exact as_comma = refl

-- the token that is found at a front is as long as any that is spelled there
pub record Reaches (bytes : List ℕ) (size : ℕ) : Type 0 where
  pub front : Found
  pub is : token_at bytes ≡ Some front
  pub reach : size ≤ front.size

reaches-name : (parts : List (List ℕ)) (behind : List ℕ) → 0 < length parts → AreIdentifiers parts → Reaches (join_with_byte 46 parts ++ behind) (length (join_with_byte 46 parts))
reaches-name parts behind some all = record {
  front = name_at (join_with_byte 46 parts ++ behind);
  is = token_at-name (join_with_byte 46 parts ++ behind) (begins-append (join_with_byte 46 parts) behind (begins-parts parts some all));
  reach = name_size-join parts behind all;
}

reaches-number : (digits behind : List ℕ) → 0 < length digits → list_all is_ascii_digit digits ≡ true → Reaches (digits ++ behind) (length digits)
reaches-number [] behind some all = absurd (omega arith)
reaches-number (b ∷ digits) behind some all = record {
  front = number_at (b ∷ (digits ++ behind));
  is = token_at-number b (digits ++ behind) (and_parts (is_ascii_digit b) (list_all is_ascii_digit digits) all).0;
  reach = omega (arith, prefix_len-passing is_ascii_digit (b ∷ digits) behind all);
}

reaches-text : (quote : ℕ) (bytes behind : List ℕ) → IsQuote quote → has_byte quote bytes ≡ false → Reaches ((quote ∷ bytes ++ quote ∷ []) ++ behind) (length (quote ∷ bytes ++ quote ∷ []))
reaches-text quote bytes behind is none = record {
  front = sized_token (text bytes) (length bytes + 2);
  is = ap (λ (t : List ℕ). token_at (quote ∷ t)) (append_assoc bytes (quote ∷ []) behind) ∙ exact-text quote bytes behind is none;
  reach = omega (arith, length-append bytes (quote ∷ []));
}

-- no quote stands in the front, so the next is behind it
quote_behind : (quote : ℕ) (bytes behind : List ℕ) (at : Option ℕ) → has_byte quote bytes ≡ false → position (λ b. eqb b quote) (bytes ++ behind) ≡ at → suc (length bytes) ≤ (quoted (bytes ++ behind) at).size
quote_behind quote bytes behind (Some at) none e =
    let there = position-Some (λ b. eqb b quote) (bytes ++ behind) at 0 e in
    elim (cases_lt at (length bytes)) as (λ _. suc (length bytes) ≤ at + 2) [
      | inl before ↦ absurd (both_ways (has_byte quote bytes) none (list_any_at (λ b. eqb b quote) bytes at 0 before (subst (λ (b : ℕ). eqb b quote ≡ true) (get_or_append_left bytes behind 0 at before) there.1)))
      | inr past ↦ omega arith
    ]
quote_behind quote bytes behind None none e = omega (arith, length-append bytes behind)

reaches-unclosed : (quote : ℕ) (bytes behind : List ℕ) → IsQuote quote → has_byte quote bytes ≡ false → Reaches (quote ∷ (bytes ++ behind)) (length (quote ∷ bytes))
reaches-unclosed quote bytes behind is none = record {
  front = text_at (quote ∷ (bytes ++ behind));
  is = token_at-text quote (bytes ++ behind) is;
  reach = quote_behind quote bytes behind (position (λ b. eqb b quote) (bytes ++ behind)) none refl;
}

or_one-reaches : (a : ℕ) (o : Option Operator) (t : Token) → sign_of_one a ≡ Some t → (front : Found) × (or_one a o ≡ Some front) × (1 ≤ front.size)
or_one-reaches a (Some o) t is = (sized_token (operator o) 2, refl, omega arith)
or_one-reaches a None t is = (sized_token t 1, ap (λ (u : Option Token). option_map (λ token. sized_token token 1) u) is, omega arith)

sign_at-reaches : (a : ℕ) (behind : List ℕ) (t : Token) → sign_of_one a ≡ Some t → (front : Found) × (sign_at (a ∷ behind) ≡ Some front) × (1 ≤ front.size)
sign_at-reaches a [] t is = or_one-reaches a None t is
sign_at-reaches a (b ∷ behind) t is = or_one-reaches a (sign_of_two a b) t is

reaches-two : (bytes : List ℕ) (t : Token) → token_at bytes ≡ Some (sized_token t 2) → Reaches bytes 2
reaches-two bytes t e = record {
  front = sized_token t 2;
  is = e;
  reach = omega arith;
}

reaches-one : (a : ℕ) (behind : List ℕ) (t : Token) → token_at (a ∷ behind) ≡ sign_at (a ∷ behind) → sign_of_one a ≡ Some t → Reaches (a ∷ behind) 1
reaches-one a behind t e is =
    let p = sign_at-reaches a behind t is in
    record {
      front = p.0;
      is = e ∙ p.1;
      reach = p.2;
    }

reaches-operator : (o : Operator) (behind : List ℕ) → Reaches (sign o ++ behind) (length (sign o))
unfolding token_at
reaches-operator op.Or behind = reaches-two (124 ∷ 124 ∷ behind) (operator op.Or) refl
reaches-operator op.And behind = reaches-two (38 ∷ 38 ∷ behind) (operator op.And) refl
reaches-operator op.Equal behind = reaches-two (61 ∷ 61 ∷ behind) (operator op.Equal) refl
reaches-operator op.NotEqual behind = reaches-two (33 ∷ 61 ∷ behind) (operator op.NotEqual) refl
reaches-operator op.Less behind = reaches-one 60 behind (operator op.Less) refl refl
reaches-operator op.AtMost behind = reaches-two (60 ∷ 61 ∷ behind) (operator op.AtMost) refl
reaches-operator op.Greater behind = reaches-one 62 behind (operator op.Greater) refl refl
reaches-operator op.AtLeast behind = reaches-two (62 ∷ 61 ∷ behind) (operator op.AtLeast) refl
reaches-operator op.Plus behind = reaches-one 43 behind (operator op.Plus) refl refl
reaches-operator op.Minus behind = reaches-one 45 behind (operator op.Minus) refl refl
reaches-operator op.Times behind = reaches-one 42 behind (operator op.Times) refl refl
reaches-operator op.Over behind = reaches-one 47 behind (operator op.Over) refl refl
reaches-operator op.Remainder behind = reaches-one 37 behind (operator op.Remainder) refl refl

pub token_at-reaches : {token : Token} {spelling : List ℕ} (behind : List ℕ) → IsSpelling token spelling → Reaches (spelling ++ behind) (length spelling)
unfolding token_at
token_at-reaches behind (as_name {parts = parts} some all) = reaches-name parts behind some (recursion_from_All (λ (part : List ℕ). IsTrue (is_identifier part)) parts all)
token_at-reaches behind (as_number {digits = digits} some all) = reaches-number digits behind some all
token_at-reaches behind (as_text {quote = quote} {bytes = bytes} is none) = reaches-text quote bytes behind is none
token_at-reaches behind (as_unclosed {quote = quote} {bytes = bytes} is none) = reaches-unclosed quote bytes behind is none
token_at-reaches behind (as_operator {o = o}) = reaches-operator o behind
token_at-reaches behind as_exclamation = reaches-one 33 behind exclamation refl refl
token_at-reaches behind as_opening = reaches-one 40 behind opening refl refl
token_at-reaches behind as_closing = reaches-one 41 behind closing refl refl
token_at-reaches behind as_comma = reaches-one 44 behind comma refl refl

reached : (bytes : List ℕ) (size : ℕ) (front : Found) → Reaches bytes size → token_at bytes ≡ Some front → size ≤ front.size
reached bytes size front r e =
    let same : r.front ≡ front = same_Some _ _ (sym r.is ∙ e) in
    subst (λ (f : Found). size ≤ f.size) same r.reach

-- what is found at a front is the longest token there
pub token_at-longest : (bytes : List ℕ) (front : Found) → token_at bytes ≡ Some front → IsLongest front.token (take front.size bytes) bytes
token_at-longest bytes front e =
    let there = token_at-spelled bytes front e in
    record {
      spelled = there.spelled;
      front = (drop front.size bytes, sym (take-append-drop front.size bytes));
      longest = λ other longer spells is.
          let r = token_at-reaches is.0 spells in
          omega (arith, reached bytes (length longer) front (subst (λ (t : List ℕ). Reaches t (length longer)) (sym is.1) r) e, length-take front.size bytes, there.within);
    }

-- the longest token at a front is found
pub token_at-is : (token : Token) (spelling behind : List ℕ) → IsLongest token spelling (spelling ++ behind) → token_at (spelling ++ behind) ≡ Some (sized_token token (length spelling))
token_at-is token spelling behind is =
    let r = token_at-reaches behind is.spelled in
    let there = token_at-spelled (spelling ++ behind) r.front r.is in
    let most = is.longest r.front.token (take r.front.size (spelling ++ behind)) there.spelled (drop r.front.size (spelling ++ behind), sym (take-append-drop r.front.size (spelling ++ behind))) in
    let size : r.front.size ≡ length spelling = omega (arith, r.reach, most, length-take r.front.size (spelling ++ behind), there.within) in
    let front : take r.front.size (spelling ++ behind) ≡ spelling = ap (λ (n : ℕ). take n (spelling ++ behind)) size ∙ take-append_seam spelling behind in
    let spelled : IsSpelling r.front.token spelling = subst (λ (t : List ℕ). IsSpelling r.front.token t) front there.spelled in
    let one = token_at-exact spelled in
    let other = token_at-exact is.spelled in
    let same : sized_token r.front.token (length spelling) ≡ sized_token token (length spelling) = same_Some _ _ (sym one ∙ other) in
    r.is ∙ same_found (ap (λ (f : Found). f.token) same) size

-- nothing is found exactly where no token is spelled
pub token_at-none : (bytes : List ℕ) → token_at bytes ≡ None → (token : Token) (spelling : List ℕ) → IsSpelling token spelling → ¬ (IsFront spelling bytes)
token_at-none bytes e token spelling spells front =
    let r = subst (λ (t : List ℕ). Reaches t (length spelling)) (sym front.1) (token_at-reaches front.0 spells) in
    absurd (none-some r.front (sym e ∙ r.is))

nothing_found : (bytes : List ℕ) (o : Option Found) → token_at bytes ≡ o → ((token : Token) (spelling : List ℕ) → IsSpelling token spelling → ¬ (IsFront spelling bytes)) → token_at bytes ≡ None
nothing_found bytes (Some front) e none = absurd (none front.token (take front.size bytes) (token_at-spelled bytes front e).spelled (drop front.size bytes, sym (take-append-drop front.size bytes)))
nothing_found bytes None e none = e

pub token_at-stray : (bytes : List ℕ) → BeginsNoToken bytes → token_at bytes ≡ None
token_at-stray bytes is = nothing_found bytes (token_at bytes) refl is.none

-- a blank begins no token
no_sign : (t : Bool) (a : ℕ) → or_one a None ≡ None → or_one a (cond t None None) ≡ None
no_sign true a e = e
no_sign false a e = e

space_found : (bytes : List ℕ) → token_at (32 ∷ bytes) ≡ None
unfolding token_at
space_found [] = refl
space_found (b ∷ bytes) = no_sign (eqb b 61) 32 refl

tab_found : (bytes : List ℕ) → token_at (9 ∷ bytes) ≡ None
unfolding token_at
tab_found [] = refl
tab_found (b ∷ bytes) = no_sign (eqb b 61) 9 refl

blank_found : (b : ℕ) (bytes : List ℕ) → is_blank b ≡ true → token_at (b ∷ bytes) ≡ None
blank_found b bytes is =
    elim (or_cases (eqb b 32) (eqb b 9) is) as (λ _. token_at (b ∷ bytes) ≡ None) [
      | inl e ↦ subst (λ (n : ℕ). token_at (n ∷ bytes) ≡ None) (sym (eqb-true b 32 e)) (space_found bytes)
      | inr e ↦ subst (λ (n : ℕ). token_at (n ∷ bytes) ≡ None) (sym (eqb-true b 9 e)) (tab_found bytes)
    ]

not_blank : (t : Bool) (b : ℕ) (bytes : List ℕ) (front : Found) → is_blank b ≡ t → token_at (b ∷ bytes) ≡ Some front → t ≡ false
not_blank true b bytes front is e = absurd (none-some front (sym (blank_found b bytes is) ∙ e))
not_blank false b bytes front is e = refl

pub token_at-full : (bytes : List ℕ) (front : Found) → token_at bytes ≡ Some front → prefix_len is_blank bytes ≡ 0
unfolding token_at
token_at-full [] front e = absurd cc
token_at-full (b ∷ bytes) front e = cond-false (is_blank b) (1 + prefix_len is_blank bytes) 0 (not_blank (is_blank b) b bytes front refl e)
