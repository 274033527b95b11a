-- The readers of the three kinds of patterns read their signs.
use Rattle.std.proofs.Common.{◌≡◌, ◌≢◌, ◌⊎◌, inl, inr, ℕ, ◌+◌, Bool, true, false, cond, List, [], ◌∷◌, ◌++◌, length, drop, refl, ap, sym, ◌∙◌, subst, arith, append_assoc, ◌&&◌}
use Rattle.std.specs.Prelude.{◌==◌, IsTrue, ◌↔◌}
use Rattle.std.specs.List.{list_all, take_while}
use Rattle.std.proofs.Math.Seq.{drop-append_seam}
use Rattle.std.proofs.lemmas.Bool.{and_parts, eqb-true, false≢true}
use Rattle.std.proofs.lemmas.List.{length-append}
use Rattle.std.proofs.lemmas.List.Sums.{take_while-cons}
use Rattle.key_match.specs.Patterns.{FirstPiece, Reader, begins_with, is_some_text, is_lone_star, literal, rest_or_literal, colon_piece, brace_piece, glob_piece, in_braces, in_class, ranges_of, items_or_literal, class_or_literal, key_pieces, reading}
use Rattle.key_match.specs.Pieces.{not_slash, Piece, NotSlash, Class, One, Segment, Stretch, Rest}
use Rattle.key_match.specs.Signs.{IsWordOf, IsEndOf, Signs, ColonSign, colon_name, colon_star, BraceSign, brace_name, brace_star, GlobSign, glob_star, glob_one, glob_class, glob_negated, ReadsAs, IsKeyPattern, lone_star, of_pieces}
use Rattle.key_match.specs.Helps.Fronts.{is_itself}
use Rattle.key_match.proofs.SignLemmas.{Gives, HasSign, IsReader, reads_as, reads_once}

-- ---- the bytes that pass, at a front

some_word : (word : List ℕ) → word ≢ [] → is_some_text word ≡ true
some_word [] some = absurd (some refl)
some_word (byte ∷ word) some = refl

word_some : (word : List ℕ) → is_some_text word ≡ true → word ≢ []
word_some [] some = absurd (false≢true some)
word_some (byte ∷ word) some = λ none. absurd cc

word_taken : (test : ℕ → Bool) (word rest : List ℕ) → IsTrue (list_all test word) → IsEndOf test rest → take_while test (word ++ rest) ≡ word
word_taken test [] [] all end = refl
word_taken test [] (byte ∷ rest) all end = take_while-cons test byte rest ∙ ap (λ (b : Bool). cond b (byte ∷ take_while test rest) []) end
word_taken test (byte ∷ word) rest all end =
    let parts = and_parts (test byte) (list_all test word) all in
    take_while-cons test byte (word ++ rest) ∙ ap (λ (b : Bool). cond b (byte ∷ take_while test (word ++ rest)) []) parts.0 ∙ ap (λ (more : List ℕ). byte ∷ more) (word_taken test word rest parts.1 end)

-- the word and what stands behind it
record IsCutAt (test : ℕ → Bool) (text word : List ℕ) : Type 0 where
  pub rest : List ℕ
  pub parts : text ≡ word ++ rest
  pub all : IsTrue (list_all test word)
  pub end : IsEndOf test rest

cut_word : (test : ℕ → Bool) (text : List ℕ) → IsCutAt test text (take_while test text)
cut_word test [] = record { rest = []; parts = refl; all = refl; end = tt }
cut_word test (byte ∷ text) = subst (IsCutAt test (byte ∷ text)) (sym (take_while-cons test byte text)) (by (test byte) refl (cut_word test text))
  where
    by : (b : Bool) → test byte ≡ b → IsCutAt test text (take_while test text) → IsCutAt test (byte ∷ text) (cond b (byte ∷ take_while test text) [])
    by true passes next = record {
      rest = next.rest;
      parts = ap (λ (more : List ℕ). byte ∷ more) next.parts;
      all = rw passes next.all;
      end = next.end;
    }
    by false stops next = record { rest = byte ∷ text; parts = refl; all = refl; end = stops }

-- ---- `*` behind `/`, or a byte that stands for itself

star_or_itself : (Sign : Signs) → ((rest : List ℕ) → Sign 47 (42 ∷ []) rest Rest) → (before byte : ℕ) (after : List ℕ) (first : FirstPiece) → first ≡ rest_or_literal before byte → HasSign Sign before (byte ∷ after) ⊎ (first ≡ literal byte)
star_or_itself Sign star before byte after first same = by (byte == 42 && before == 47) refl
  where
    by : (b : Bool) → (byte == 42 && before == 47) ≡ b → HasSign Sign before (byte ∷ after) ⊎ (first ≡ literal byte)
    by true is =
        let parts = and_parts (byte == 42) (before == 47) is in
        inl (record {
          spelling = 42 ∷ [];
          rest = after;
          piece = Rest;
          sign = subst (λ (b : ℕ). Sign b (42 ∷ []) after Rest) (sym (eqb-true before 47 parts.1)) (star after);
          parts = ap (λ (b : ℕ). b ∷ after) (eqb-true byte 42 parts.0);
        })
    by false is = inr (same ∙ ap (λ (b : Bool). cond b (record { piece = Rest; further = 0 }) (literal byte)) is)

-- ---- keyMatch2 and keyGet2

colon_given : (before : ℕ) (spelling rest : List ℕ) (piece : Piece) → ColonSign before spelling rest piece → Gives colon_piece before spelling rest piece
colon_given before _ rest _ (colon_name {name = name} word end) =
    subst (λ (found : List ℕ). cond (is_some_text found) (record { piece = Segment found; further = length found }) (rest_or_literal before 58) ≡ record { piece = Segment name; further = length name })
    (sym (word_taken not_slash name rest word.1 end)) (ap (λ (b : Bool). cond b (record { piece = Segment name; further = length name }) (rest_or_literal before 58)) (some_word name word.0))
colon_given _ _ rest _ colon_star = refl

colon_other : (before : ℕ) (spelling rest : List ℕ) (piece : Piece) → ColonSign before spelling rest piece → is_itself piece ≡ false
colon_other before _ rest _ (colon_name word end) = refl
colon_other _ _ rest _ colon_star = refl

colon_tells : (before byte : ℕ) (after : List ℕ) → HasSign ColonSign before (byte ∷ after) ⊎ (colon_piece before byte after ≡ literal byte)
colon_tells before byte after = by (byte == 58) (is_some_text name) refl refl
  where
    name : List ℕ
    name = take_while not_slash after

    found : FirstPiece
    found = record { piece = Segment name; further = length name }

    plain : (a b : Bool) → (a && b) ≡ false → (byte == 58) ≡ a → is_some_text name ≡ b → HasSign ColonSign before (byte ∷ after) ⊎ (colon_piece before byte after ≡ literal byte)
    plain a b none is has =
        star_or_itself ColonSign (λ rest. colon_star) before byte after (colon_piece before byte after)
        (ap (λ (t : Bool). cond (t && is_some_text name) found (rest_or_literal before byte)) is ∙ ap (λ (t : Bool). cond (a && t) found (rest_or_literal before byte)) has ∙ ap (λ (t : Bool). cond t found (rest_or_literal before byte)) none)

    by : (a b : Bool) → (byte == 58) ≡ a → is_some_text name ≡ b → HasSign ColonSign before (byte ∷ after) ⊎ (colon_piece before byte after ≡ literal byte)
    by true true is has =
        let cut = cut_word not_slash after in
        inl (record {
          spelling = 58 ∷ name;
          rest = cut.rest;
          piece = Segment name;
          sign = colon_name (word_some name has, cut.all) cut.end;
          parts = ap (λ (b : ℕ). b ∷ after) (eqb-true byte 58 is) ∙ ap (λ (more : List ℕ). 58 ∷ more) cut.parts;
        })
    by true false is has = plain true false refl is has
    by false b is has = plain false b refl is has

pub colon_reads : IsReader ColonSign colon_piece
colon_reads = record { gives = colon_given; other = colon_other; tells = colon_tells }

-- ---- keyMatch3 to keyMatch5 and keyGet3

braced : (before : ℕ) (name rest : List ℕ) → IsTrue (list_all in_braces name) → is_some_text name ≡ true → brace_piece before 123 (name ++ 125 ∷ rest) ≡ record { piece = Segment name; further = length name + 1 }
braced before name rest all some =
    subst (λ (found : List ℕ). cond (is_some_text found && begins_with 125 (drop (length found) (name ++ 125 ∷ rest))) (record { piece = Segment found; further = length found + 1 }) (rest_or_literal before 123) ≡ record { piece = Segment name; further = length name + 1 })
    (sym (word_taken in_braces name (125 ∷ rest) all refl))
    (subst (λ (left : List ℕ). cond (is_some_text name && begins_with 125 left) (record { piece = Segment name; further = length name + 1 }) (rest_or_literal before 123) ≡ record { piece = Segment name; further = length name + 1 })
    (sym (drop-append_seam name (125 ∷ rest)))
    (ap (λ (b : Bool). cond (b && true) (record { piece = Segment name; further = length name + 1 }) (rest_or_literal before 123)) some))

brace_given : (before : ℕ) (spelling rest : List ℕ) (piece : Piece) → BraceSign before spelling rest piece → Gives brace_piece before spelling rest piece
brace_given before _ rest _ (brace_name {name = name} word) =
    ap (brace_piece before 123) (append_assoc name (125 ∷ []) rest) ∙ braced before name rest word.1 (some_word name word.0)
    ∙ ap (λ (n : ℕ). record { piece = Segment name; further = n }) (sym (length-append name (125 ∷ [])))
brace_given _ _ rest _ brace_star = refl

brace_other : (before : ℕ) (spelling rest : List ℕ) (piece : Piece) → BraceSign before spelling rest piece → is_itself piece ≡ false
brace_other before _ rest _ (brace_name word) = refl
brace_other _ _ rest _ brace_star = refl

-- the text begins with the byte
behind_byte : (byte : ℕ) (text : List ℕ) → begins_with byte text ≡ true → (rest : List ℕ) × (text ≡ byte ∷ rest)
behind_byte byte [] none = absurd (false≢true none)
behind_byte byte (first ∷ rest) is = (rest, ap (λ (b : ℕ). b ∷ rest) (eqb-true first byte is))

-- the text behind the word begins with the byte
behind_word : (test : ℕ → Bool) (byte : ℕ) (text : List ℕ) → begins_with byte (drop (length (take_while test text)) text) ≡ true → (rest : List ℕ) × (text ≡ take_while test text ++ byte ∷ rest)
behind_word test byte text is =
    let word = take_while test text in
    let cut = cut_word test text in
    let left : drop (length word) text ≡ cut.rest = ap (drop (length word)) cut.parts ∙ drop-append_seam word cut.rest in
    let next = behind_byte byte cut.rest (ap (begins_with byte) (sym left) ∙ is) in
    (next.0, cut.parts ∙ ap (λ (rest : List ℕ). word ++ rest) next.1)

brace_tells : (before byte : ℕ) (after : List ℕ) → HasSign BraceSign before (byte ∷ after) ⊎ (brace_piece before byte after ≡ literal byte)
brace_tells before byte after = by (byte == 123 && is_some_text name && begins_with 125 (drop (length name) after)) refl
  where
    name : List ℕ
    name = take_while in_braces after

    found : FirstPiece
    found = record { piece = Segment name; further = length name + 1 }

    by : (b : Bool) → (byte == 123 && is_some_text name && begins_with 125 (drop (length name) after)) ≡ b → HasSign BraceSign before (byte ∷ after) ⊎ (brace_piece before byte after ≡ literal byte)
    by true is =
        let both = and_parts (byte == 123 && is_some_text name) (begins_with 125 (drop (length name) after)) is in
        let first = and_parts (byte == 123) (is_some_text name) both.0 in
        let behind = behind_word in_braces 125 after both.1 in
        inl (record {
          spelling = 123 ∷ name ++ 125 ∷ [];
          rest = behind.0;
          piece = Segment name;
          sign = brace_name (word_some name first.1, (cut_word in_braces after).all);
          parts = ap (λ (b : ℕ). b ∷ after) (eqb-true byte 123 first.0) ∙ ap (λ (more : List ℕ). 123 ∷ more) (behind.1 ∙ sym (append_assoc name (125 ∷ []) behind.0));
        })
    by false is =
        star_or_itself BraceSign (λ rest. brace_star) before byte after (brace_piece before byte after)
        (ap (λ (t : Bool). cond t found (rest_or_literal before byte)) is)

pub brace_reads : IsReader BraceSign brace_piece
brace_reads = record { gives = brace_given; other = brace_other; tells = brace_tells }

-- ---- globMatch

classed : (negated : Bool) (sign : ℕ) (items rest : List ℕ) → IsTrue (list_all in_class items) → is_some_text items ≡ true
    → items_or_literal negated sign (items ++ 93 ∷ rest) ≡ record { piece = One (Class negated (ranges_of items)); further = sign + length items + 1 }
classed negated sign items rest all some =
    let wanted : FirstPiece = record { piece = One (Class negated (ranges_of items)); further = sign + length items + 1 } in
    subst (λ (found : List ℕ). cond (is_some_text found && begins_with 93 (drop (length found) (items ++ 93 ∷ rest))) (record { piece = One (Class negated (ranges_of found)); further = sign + length found + 1 }) (literal 91) ≡ wanted)
    (sym (word_taken in_class items (93 ∷ rest) all refl))
    (subst (λ (left : List ℕ). cond (is_some_text items && begins_with 93 left) wanted (literal 91) ≡ wanted) (sym (drop-append_seam items (93 ∷ rest)))
    (ap (λ (b : Bool). cond (b && true) wanted (literal 91)) some))

no_front : (byte : ℕ) (items rest : List ℕ) → items ≢ [] → begins_with byte items ≡ false → begins_with byte (items ++ rest) ≡ false
no_front byte [] rest some none = absurd (some refl)
no_front byte (first ∷ items) rest some none = none

glob_given : (before : ℕ) (spelling rest : List ℕ) (piece : Piece) → GlobSign before spelling rest piece → Gives glob_piece before spelling rest piece
glob_given before _ rest _ glob_star = refl
glob_given before _ rest _ glob_one = refl
glob_given before _ rest _ (glob_class {items = items} word none) =
    let body = items ++ 93 ∷ rest in
    ap class_or_literal (append_assoc items (93 ∷ []) rest)
    ∙ ap (λ (b : Bool). cond b (items_or_literal true 1 (drop 1 body)) (items_or_literal false 0 body)) (no_front 94 items (93 ∷ rest) word.0 none)
    ∙ classed false 0 items rest word.1 (some_word items word.0)
    ∙ ap (λ (n : ℕ). record { piece = One (Class false (ranges_of items)); further = n }) (omega (arith, length-append items (93 ∷ [])))
glob_given before _ rest _ (glob_negated {items = items} word) =
    ap (items_or_literal true 1) (append_assoc items (93 ∷ []) rest)
    ∙ classed true 1 items rest word.1 (some_word items word.0)
    ∙ ap (λ (n : ℕ). record { piece = One (Class true (ranges_of items)); further = n }) (omega (arith, length-append items (93 ∷ [])))

glob_other : (before : ℕ) (spelling rest : List ℕ) (piece : Piece) → GlobSign before spelling rest piece → is_itself piece ≡ false
glob_other before _ rest _ glob_star = refl
glob_other before _ rest _ glob_one = refl
glob_other before _ rest _ (glob_class word none) = refl
glob_other before _ rest _ (glob_negated word) = refl

-- a class, or `[` for itself
items_tell : (before : ℕ) (negated : Bool) (sign : ℕ) (front body : List ℕ)
    → ((items rest : List ℕ) → IsWordOf in_class items → body ≡ items ++ 93 ∷ rest → HasSign GlobSign before (front ++ body))
    → HasSign GlobSign before (front ++ body) ⊎ (items_or_literal negated sign body ≡ literal 91)
items_tell before negated sign front body has = by (is_some_text items && begins_with 93 (drop (length items) body)) refl
  where
    items : List ℕ
    items = take_while in_class body

    by : (b : Bool) → (is_some_text items && begins_with 93 (drop (length items) body)) ≡ b → HasSign GlobSign before (front ++ body) ⊎ (items_or_literal negated sign body ≡ literal 91)
    by true is =
        let both = and_parts (is_some_text items) (begins_with 93 (drop (length items) body)) is in
        let behind = behind_word in_class 93 body both.1 in
        inl (has items behind.0 (word_some items both.0, (cut_word in_class body).all) behind.1)
    by false is = inr (ap (λ (t : Bool). cond t (record { piece = One (Class negated (ranges_of items)); further = sign + length items + 1 }) (literal 91)) is)

class_tells : (before : ℕ) (after : List ℕ) → HasSign GlobSign before (91 ∷ after) ⊎ (class_or_literal after ≡ literal 91)
class_tells before after = by (begins_with 94 after) refl
  where
    by : (b : Bool) → begins_with 94 after ≡ b → HasSign GlobSign before (91 ∷ after) ⊎ (class_or_literal after ≡ literal 91)
    by true is =
        let behind = behind_byte 94 after is in
        subst (λ (text : List ℕ). HasSign GlobSign before (91 ∷ text) ⊎ (class_or_literal text ≡ literal 91)) (sym behind.1)
        (items_tell before true 1 (91 ∷ 94 ∷ []) behind.0
        (λ items rest word parts. record { spelling = 91 ∷ 94 ∷ items ++ 93 ∷ []; rest = rest; piece = One (Class true (ranges_of items)); sign = glob_negated word; parts = ap (λ (more : List ℕ). 91 ∷ 94 ∷ more) (parts ∙ sym (append_assoc items (93 ∷ []) rest)) }))
    by false is =
        subst (λ (b : Bool). HasSign GlobSign before (91 ∷ after) ⊎ (cond b (items_or_literal true 1 (drop 1 after)) (items_or_literal false 0 after) ≡ literal 91)) (sym is)
        (items_tell before false 0 (91 ∷ []) after
        (λ items rest word parts. record { spelling = 91 ∷ items ++ 93 ∷ []; rest = rest; piece = One (Class false (ranges_of items)); sign = glob_class word (front_none items (93 ∷ rest) word.0 (ap (begins_with 94) (sym parts) ∙ is)); parts = ap (λ (more : List ℕ). 91 ∷ more) (parts ∙ sym (append_assoc items (93 ∷ []) rest)) }))
      where
        front_none : (items rest : List ℕ) → items ≢ [] → begins_with 94 (items ++ rest) ≡ false → begins_with 94 items ≡ false
        front_none [] rest some none = absurd (some refl)
        front_none (first ∷ items) rest some none = none

glob_tells : (before byte : ℕ) (after : List ℕ) → HasSign GlobSign before (byte ∷ after) ⊎ (glob_piece before byte after ≡ literal byte)
glob_tells before byte after = by (byte == 42) (byte == 63) (byte == 91) refl refl refl
  where
    Told : ℕ → Type 0
    Told b = HasSign GlobSign before (b ∷ after) ⊎ (glob_piece before b after ≡ literal b)

    by : (star one class : Bool) → (byte == 42) ≡ star → (byte == 63) ≡ one → (byte == 91) ≡ class → Told byte
    by true one class is h k =
        subst Told (sym (eqb-true byte 42 is)) (inl (record { spelling = 42 ∷ []; rest = after; piece = Stretch; sign = glob_star; parts = refl }))
    by false true class h is k =
        subst Told (sym (eqb-true byte 63 is)) (inl (record { spelling = 63 ∷ []; rest = after; piece = One NotSlash; sign = glob_one; parts = refl }))
    by false false true h k is = subst Told (sym (eqb-true byte 91 is)) (class_tells before after)
    by false false false h k is = inr (rw (h, k, is) refl)

pub glob_reads : IsReader GlobSign glob_piece
glob_reads = record { gives = glob_given; other = glob_other; tells = glob_tells }

-- ---- whole patterns

not_star : (pattern : List ℕ) → is_lone_star pattern ≡ false → pattern ≢ 42 ∷ []
not_star pattern none same = false≢true (sym none ∙ ap is_lone_star same)

other_star : (pattern : List ℕ) → pattern ≢ 42 ∷ [] → is_lone_star pattern ≡ false
other_star [] other = refl
other_star (byte ∷ []) other = by (byte == 42) refl
  where
    by : (b : Bool) → (byte == 42) ≡ b → (byte == 42) ≡ false
    by false is = is
    by true is = absurd (other (ap (λ (b : ℕ). b ∷ []) (eqb-true byte 42 is)))
other_star (byte ∷ next ∷ rest) other = refl

-- a pattern of key functions reads as its pieces, and as no others
pub key_pattern : {Sign : Signs} {first : Reader} → IsReader Sign first → (pattern : List ℕ) → IsKeyPattern Sign pattern (key_pieces first pattern)
key_pattern {Sign} {first} r pattern = by (is_lone_star pattern) refl
  where
    by : (b : Bool) → is_lone_star pattern ≡ b → IsKeyPattern Sign pattern (key_pieces first pattern)
    by true is = subst (λ (b : Bool). IsKeyPattern Sign pattern (cond b (Rest ∷ []) (reading first 0 0 pattern))) (sym is) (subst (λ (text : List ℕ). IsKeyPattern Sign text (Rest ∷ [])) (sym (star_is pattern is)) lone_star)
      where
        star_is : (text : List ℕ) → is_lone_star text ≡ true → text ≡ 42 ∷ []
        star_is [] none = absurd (false≢true none)
        star_is (byte ∷ []) star = ap (λ (b : ℕ). b ∷ []) (eqb-true byte 42 star)
        star_is (byte ∷ next ∷ rest) none = absurd (false≢true none)
    by false is = subst (λ (b : Bool). IsKeyPattern Sign pattern (cond b (Rest ∷ []) (reading first 0 0 pattern))) (sym is) (of_pieces (not_star pattern is) (reads_as r 0 pattern))

pub key_pattern-once : {Sign : Signs} {first : Reader} → IsReader Sign first → (pattern : List ℕ) (pieces : List Piece) → IsKeyPattern Sign pattern pieces → pieces ≡ key_pieces first pattern
key_pattern-once r _ _ lone_star = refl
key_pattern-once {Sign} {first} r pattern pieces (of_pieces other read) = reads_once r read ∙ ap (λ (b : Bool). cond b (Rest ∷ []) (reading first 0 0 pattern)) (sym (other_star pattern other))

pub key_pattern-is : {Sign : Signs} {first : Reader} → IsReader Sign first → (pattern : List ℕ) (pieces : List Piece) → IsKeyPattern Sign pattern pieces ↔ (pieces ≡ key_pieces first pattern)
key_pattern-is {Sign} {first} r pattern pieces = (key_pattern-once r pattern pieces, λ same. subst (IsKeyPattern Sign pattern) (sym same) (key_pattern r pattern))

pub reads_as-is : {Sign : Signs} {first : Reader} → IsReader Sign first → (before : ℕ) (pattern : List ℕ) (pieces : List Piece) → ReadsAs Sign before pattern pieces ↔ (pieces ≡ reading first 0 before pattern)
reads_as-is {Sign} {first} r before pattern pieces = (reads_once r, λ same. subst (ReadsAs Sign before pattern) (sym same) (reads_as r before pattern))
