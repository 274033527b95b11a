-- Names: identifiers joined by dots, and how far one goes.
use Rattle.std.proofs.Common.{◌≡◌, ℕ, suc, ◌+◌, ◌<◌, ◌≤◌, ◌||◌, ◌&&◌, inl, inr, Bool, true, false, cond, List, [], ◌∷◌, ◌++◌, length, take, get_or, eqb, All, IsTrue, refl, ap, ◌∙◌, subst, arith}
use Rattle.std.proofs.lemmas.Bool.{and_parts, and_from, or_parts, or_left, or_cases, both_ways, eqb-true, ne_eqb, cond-true}
use Rattle.std.proofs.lemmas.List.{append_assoc, length-append}
use Rattle.std.proofs.lemmas.List.Elements.{All-from_recursion}
use Rattle.std.proofs.lemmas.List.Sums.{AllPass-from_list_all}
use Rattle.std.proofs.lemmas.List.Splits.{join_with_byte-slice_split, slice_split_at, slice_split_none}
use Rattle.std.specs.List.{AllByRecursion, join_with_byte, list_all, onto_first}
use Rattle.text_parts.specs.Names.{is_identifier, is_letter, is_word}
use Rattle.matcher_read.specs.Tokens.{name, IsSpelling, as_name}
use Rattle.matcher_read.specs.Helps.TokenLists.{pieces}
use Rattle.matcher_read.specs.Helps.Cuts.{begins_name, goes_on, name_size}
use Rattle.text_parts.proofs.CallerLemmas.{word_from_letter, words_of}

-- what a byte is
word_is_no_dot : (b : ℕ) → is_word b ≡ true → eqb b 46 ≡ false
word_is_no_dot b word = ne_eqb b 46 (λ e. both_ways (is_word 46) refl (subst (λ (n : ℕ). is_word n ≡ true) e word))

-- identifiers
no_dots : (part : List ℕ) → list_all is_word part ≡ true → All (λ (b : ℕ). eqb b 46 ≡ false) part
no_dots part all = λ k d inside. word_is_no_dot (get_or part k d) (AllPass-from_list_all is_word part all k d inside)

abbrev pub AreIdentifiers : List (List ℕ) → Type 0
AreIdentifiers parts = AllByRecursion (λ (part : List ℕ). is_identifier part ≡ true) parts

pub begins-join : (part : List ℕ) (parts : List (List ℕ)) (rest : List ℕ) → is_identifier part ≡ true → begins_name (join_with_byte 46 (part ∷ parts) ++ rest) ≡ true
begins-join [] parts rest is = absurd cc
begins-join (b ∷ part) [] rest is = (and_parts (is_letter b) (list_all is_word part) is).0
begins-join (b ∷ part) (next ∷ parts) rest is = (and_parts (is_letter b) (list_all is_word part) is).0

-- a name, cut at its dots
pub pieces-join : (parts : List (List ℕ)) → 0 < length parts → AreIdentifiers parts → pieces (join_with_byte 46 parts) ≡ parts
pieces-join [] some all = absurd (omega arith)
pieces-join (part ∷ []) some all = slice_split_none (λ (b : ℕ). eqb b 46) part (no_dots part (words_of part all.0))
pieces-join (part ∷ next ∷ parts) some all = slice_split_at (λ (b : ℕ). eqb b 46) part 46 (join_with_byte 46 (next ∷ parts)) (no_dots part (words_of part all.0)) refl ∙ ap (λ (t : List (List ℕ)). part ∷ t) (pieces-join (next ∷ parts) (omega arith) all.1)

-- how far a name goes on
pub name_size-word : (word rest : List ℕ) → list_all is_word word ≡ true → name_size (word ++ rest) ≡ length word + name_size rest
unfolding name_size
name_size-word [] rest all = omega arith
name_size-word (b ∷ word) rest all =
    let both = and_parts (is_word b) (list_all is_word word) all in
    cond-true (goes_on b (word ++ rest)) (suc (name_size (word ++ rest))) 0 (or_left (is_word b) (eqb b 46 && begins_name (word ++ rest)) both.0) ∙ omega (arith, name_size-word word rest both.1)

name_size-dot : (rest : List ℕ) → begins_name rest ≡ true → name_size (46 ∷ rest) ≡ suc (name_size rest)
unfolding name_size
name_size-dot rest begins = cond-true (goes_on 46 rest) (suc (name_size rest)) 0 begins

pub name_size-join : (parts : List (List ℕ)) (rest : List ℕ) → AreIdentifiers parts → length (join_with_byte 46 parts) ≤ name_size (join_with_byte 46 parts ++ rest)
name_size-join [] rest all = omega arith
name_size-join (part ∷ []) rest all = omega (arith, name_size-word part rest (words_of part all.0))
name_size-join (part ∷ next ∷ parts) rest all =
    let more : List ℕ = join_with_byte 46 (next ∷ parts) in
    rw (append_assoc part (46 ∷ more) rest) (omega (arith, length-append part (46 ∷ more), name_size-word part (46 ∷ (more ++ rest)) (words_of part all.0), name_size-dot (more ++ rest) (begins-join next parts rest all.1.0), name_size-join (next ∷ parts) rest all.1))

name_size-at : (g : Bool) (n length_of : ℕ) → n ≤ length_of → cond g (suc n) 0 ≤ suc length_of
name_size-at true n length_of h = omega arith
name_size-at false n length_of h = omega arith

pub name_size-le-length : (bytes : List ℕ) → name_size bytes ≤ length bytes
unfolding name_size
name_size-le-length [] = omega arith
name_size-le-length (b ∷ bytes) = name_size-at (goes_on b bytes) (name_size bytes) (length bytes) (name_size-le-length bytes)

-- the pieces of a name that goes on at a front: the first may begin anywhere in an identifier
record NamePieces (bytes : List ℕ) (parts : List (List ℕ)) : Type 0 where
  first : List ℕ
  others : List (List ℕ)
  is : parts ≡ first ∷ others
  words : list_all is_word first ≡ true
  names : AreIdentifiers others
  begins : begins_name bytes ≡ true → is_identifier first ≡ true

pieces-onto : (test : Bool) (b : ℕ) (bytes : List ℕ) (parts : List (List ℕ)) → eqb b 46 ≡ test → (is_word b || (test && begins_name bytes)) ≡ true → NamePieces bytes parts → NamePieces (b ∷ bytes) (cond test ([] ∷ parts) (onto_first b parts))
pieces-onto true b bytes parts dot goes rest =
    let same : b ≡ 46 = eqb-true b 46 dot in
    record {
      first = [];
      others = rest.first ∷ rest.others;
      is = ap (λ (p : List (List ℕ)). [] ∷ p) rest.is;
      words = refl;
      names = (rest.begins (subst (λ (n : ℕ). (is_word n || begins_name bytes) ≡ true) same goes), rest.names);
      begins = λ letter. absurd (both_ways (is_letter 46) refl (subst (λ (n : ℕ). is_letter n ≡ true) same letter));
    }
pieces-onto false b bytes parts dot goes rest = record {
  first = b ∷ rest.first;
  others = rest.others;
  is = ap (λ (p : List (List ℕ)). onto_first b p) rest.is;
  words = and_from (is_word b) (list_all is_word rest.first) (elim (or_cases (is_word b) false goes) as (λ _. is_word b ≡ true) [ inl word ↦ word | inr other ↦ absurd cc ]) rest.words;
  names = rest.names;
  begins = λ letter. and_from (is_letter b) (list_all is_word rest.first) letter rest.words;
}

pieces-at : (g : Bool) (b : ℕ) (bytes : List ℕ) → goes_on b bytes ≡ g → NamePieces bytes (pieces (take (name_size bytes) bytes)) → NamePieces (b ∷ bytes) (pieces (take (cond g (suc (name_size bytes)) 0) (b ∷ bytes)))
pieces-at true b bytes goes rest = pieces-onto (eqb b 46) b bytes (pieces (take (name_size bytes) bytes)) refl goes rest
pieces-at false b bytes goes rest = record {
  first = [];
  others = [];
  is = refl;
  words = refl;
  names = tt;
  begins = λ letter. absurd (both_ways (is_word b) (or_parts (is_word b) (eqb b 46 && begins_name bytes) goes).0 (word_from_letter b letter));
}

name_pieces : (bytes : List ℕ) → NamePieces bytes (pieces (take (name_size bytes) bytes))
unfolding name_size
name_pieces [] = record {
  first = [];
  others = [];
  is = refl;
  words = refl;
  names = tt;
  begins = λ begins. absurd cc;
}
name_pieces (b ∷ bytes) = pieces-at (goes_on b bytes) b bytes refl (name_pieces bytes)

-- the front that goes on spells a name
pub name_spelled : (bytes : List ℕ) → begins_name bytes ≡ true → IsSpelling (name (pieces (take (name_size bytes) bytes))) (take (name_size bytes) bytes)
name_spelled bytes begins =
    let front : List ℕ = take (name_size bytes) bytes in
    let cut = name_pieces bytes in
    let names : AreIdentifiers (pieces front) = rw cut.is (cut.begins begins, cut.names) in
    let some : 0 < length (pieces front) = rw cut.is (omega arith) in
    subst (λ (spelling : List ℕ). IsSpelling (name (pieces front)) spelling) (join_with_byte-slice_split 46 front) (as_name some (All-from_recursion (λ (part : List ℕ). IsTrue (is_identifier part)) (pieces front) names))
