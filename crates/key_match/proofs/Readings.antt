-- A pattern is read alike from any place.
use Rattle.std.proofs.Common.{◌≡◌, ℕ, zero, suc, ◌+◌, ◌<◌, List, [], ◌∷◌, length, get_or, drop, refl, ap, sym, ◌∙◌, arith, add-one, drop-cons, ◌≤◌, ◌-◌, zero-add, if◌then◌else◌, Bool, true, false, not, take, eqb, eq-eqb, length-take}
use Rattle.std.specs.List.{prefix_len}
use Rattle.std.proofs.lemmas.List.{drop_all, drop-drop}
use Rattle.std.proofs.lemmas.Bool.{false≢true, eqb-true}
use Rattle.std.proofs.lemmas.List.Sums.{prefix_len_stops}
use Rattle.key_match.specs.Pieces.{Segment, One, Class, Rest}
use Rattle.key_match.specs.Patterns.{Reader, reading, is_lone_star, is_some_text, begins_with, in_braces, brace_piece, in_class, items_or_literal, ranges_of, colon_piece, glob_piece, key_pieces}
use Rattle.key_match.specs.Helps.Tokens.{last_byte, byte_before, pieces_at, first_at, reader_of, pieces_of, piece_of, IsFirst, IsReadAt}
use Rattle.key_match.specs.declared.token.Dialect.{Dialect}
use Rattle.key_match.specs.declared.token.Dialect.TheVariants.{Colon, Brace, Glob}
use Rattle.key_match.specs.declared.token.Reading.{Reading}

not-false : (b : Bool) → not b ≡ false → b ≡ true
not-false true h = refl
not-false false h = absurd (false≢true (sym h))

pub reading-skip : (first : Reader) (n before : ℕ) (xs : List ℕ) → reading first n before xs ≡ reading first 0 (last_byte before xs n) (drop n xs)
unfolding reading
reading-skip first zero before xs = refl
reading-skip first (suc n) before [] = refl
reading-skip first (suc n) before (x ∷ xs) = reading-skip first n x xs

pub last_byte-nil : (start n : ℕ) → last_byte start [] n ≡ start
last_byte-nil start zero = refl
last_byte-nil start (suc n) = refl

pub last_byte-drop : (start m n : ℕ) (xs : List ℕ) → last_byte (last_byte start xs m) (drop m xs) n ≡ last_byte start xs (m + n)
last_byte-drop start zero n xs = rw zero-add
last_byte-drop start (suc m) n [] = last_byte-nil start n ∙ sym (last_byte-nil start (suc m + n))
last_byte-drop start (suc m) n (x ∷ xs) = last_byte-drop x m n xs ∙ ap (last_byte start (x ∷ xs)) (let e : suc (m + n) ≡ suc m + n = omega arith in e)

pub last_byte-suc : (start at : ℕ) (xs : List ℕ) → at < length xs → last_byte start xs (suc at) ≡ get_or xs at 0
last_byte-suc start zero [] h = absurd (omega arith)
last_byte-suc start zero (x ∷ xs) h = refl
last_byte-suc start (suc at) [] h = absurd (omega arith)
last_byte-suc start (suc at) (x ∷ xs) h = last_byte-suc x at xs (omega arith)

pub last_byte-one : (start at : ℕ) (xs : List ℕ) → 0 < at → at < length xs → last_byte start xs at ≡ get_or xs (at - 1) 0
last_byte-one start zero xs p h = absurd (omega arith)
last_byte-one start (suc at) xs p h =
    last_byte-suc start at xs (omega arith) ∙ ap (λ k. get_or xs k 0) (let e : at ≡ suc at - 1 = omega arith in e)

pub pieces_at-end : (dialect : Dialect) (pattern : List ℕ) (at : ℕ) → length pattern ≤ at → pieces_at dialect pattern at ≡ []
unfolding pieces_at reading
pieces_at-end dialect pattern at h = ap (λ rest. reading (reader_of dialect) 0 (byte_before pattern at) rest) (drop_all at pattern h)

reading-open : (first : Reader) (start at : ℕ) (pattern : List ℕ) → at < length pattern → let found = first (last_byte start pattern at) (get_or pattern at 0) (drop (at + 1) pattern) in reading first 0 (last_byte start pattern at) (drop at pattern) ≡ found.piece ∷ reading first 0 (last_byte start pattern (at + 1 + found.further)) (drop (at + 1 + found.further) pattern)
unfolding reading
reading-open first start at pattern h =
    let before = last_byte start pattern at in
    let byte = get_or pattern at 0 in
    let after = drop (at + 1) pattern in
    let found = first before byte after in
    let opened : drop at pattern ≡ byte ∷ after = rw (add-one, drop-cons pattern at 0) in
    let same : byte ≡ last_byte start pattern (at + 1) = sym (rw add-one (last_byte-suc start at pattern h)) in
    let there : last_byte byte after found.further ≡ last_byte start pattern (at + 1 + found.further) =
    ap (λ b. last_byte b after found.further) same ∙ last_byte-drop start (at + 1) found.further pattern in
    let left : drop found.further after ≡ drop (at + 1 + found.further) pattern = drop-drop found.further (at + 1) pattern in
    ap (reading first 0 before) opened
    ∙ ap (λ rest. found.piece ∷ rest) (reading-skip first found.further byte after
    ∙ ap (λ b. reading first 0 b (drop found.further after)) there
    ∙ ap (reading first 0 (last_byte start pattern (at + 1 + found.further))) left)

-- the first piece at a place, and the others behind it
pub pieces_at-open : (dialect : Dialect) (pattern : List ℕ) (at : ℕ) → at < length pattern
    → pieces_at dialect pattern at ≡ (first_at (reader_of dialect) pattern at).piece ∷ pieces_at dialect pattern (at + 1 + (first_at (reader_of dialect) pattern at).further)
unfolding pieces_at
pieces_at-open dialect pattern at h = reading-open (reader_of dialect) (if is_lone_star pattern then 47 else 0) at pattern h

-- the token read at a place is the first of the pieces there
pub IsReadAt-first : (dialect : Dialect) (pattern : List ℕ) (at : ℕ) (found : Reading) → at < length pattern → IsFirst (first_at (reader_of dialect) pattern at) at found → found.next ≤ length pattern → IsReadAt dialect pattern at found
IsReadAt-first dialect pattern at found h first within = record {
  pieces =
      pieces_at-open dialect pattern at h
      ∙ ap (λ piece. piece ∷ pieces_at dialect pattern (at + 1 + (first_at (reader_of dialect) pattern at).further)) (sym first.piece)
      ∙ ap (λ next. piece_of found.token ∷ pieces_at dialect pattern next) (sym first.next);
  after = let e = first.next in omega arith;
  within = within;
}

is_some_text-take : (n : ℕ) (xs : List ℕ) → 0 < n → n < length xs → is_some_text (take n xs) ≡ true
is_some_text-take zero xs p h = absurd (omega arith)
is_some_text-take (suc n) [] p h = absurd (omega arith)
is_some_text-take (suc n) (x ∷ xs) p h = refl

begins_with-drop : (byte n : ℕ) (xs : List ℕ) → n < length xs → get_or xs n 0 ≡ byte → begins_with byte (drop n xs) ≡ true
begins_with-drop byte n xs h e = rw (drop-cons xs n 0 h) (eq-eqb (get_or xs n 0) byte e)

pub brace_piece-segment : (before byte n : ℕ) (after : List ℕ) → n ≡ prefix_len in_braces after → byte ≡ 123 → 0 < n → n < length after → get_or after n 0 ≡ 125 → brace_piece before byte after ≡ record { piece = Segment (take n after); further = n + 1 }
brace_piece-segment before byte n after whole opens some within closes =
    let opened : eqb byte 123 ≡ true = eq-eqb byte 123 opens in
    let named : is_some_text (take n after) ≡ true = is_some_text-take n after some within in
    let long : length (take n after) ≡ n = omega (arith, length-take {A = ℕ}) in
    let closed : begins_with 125 (drop n after) ≡ true = begins_with-drop 125 n after within closes in
    rw (← whole, long, opened, named, closed)

pub items_or_literal-class : (negated : Bool) (sign n : ℕ) (body : List ℕ) → n ≡ prefix_len in_class body → 0 < n → n < length body → items_or_literal negated sign body ≡ record { piece = One (Class negated (ranges_of (take n body))); further = sign + n + 1 }
items_or_literal-class negated sign n body whole some within =
    let named : is_some_text (take n body) ≡ true = is_some_text-take n body some within in
    let long : length (take n body) ≡ n = omega (arith, length-take {A = ℕ}) in
    let short : prefix_len in_class body < length body = omega arith in
    let stops : in_class (get_or body n 0) ≡ false = ap (λ k. in_class (get_or body k 0)) whole ∙ prefix_len_stops in_class body 0 short in
    let closed : begins_with 93 (drop n body) ≡ true = begins_with-drop 93 n body within (closing (get_or body n 0) stops) in
    rw (← whole, long, named, closed)
  where
    closing : (b : ℕ) → in_class b ≡ false → b ≡ 93
    closing b h = eqb-true b 93 (not-false (eqb b 93) h)

-- ---- a whole pattern

lone_star_is : (first : Reader) (pattern : List ℕ) → is_lone_star pattern ≡ true → (first 47 42 []).piece ≡ Rest → reading first 0 47 pattern ≡ Rest ∷ []
unfolding reading
lone_star_is first [] h e = absurd (false≢true h)
lone_star_is first (b ∷ []) h e =
    let star : b ≡ 42 = eqb-true b 42 h in
    ap (λ (byte : ℕ). (first 47 byte []).piece ∷ reading first (first 47 byte []).further byte []) star
    ∙ ap (λ piece. piece ∷ []) e
lone_star_is first (b ∷ c ∷ rest) h e = absurd (false≢true h)

key_pieces-start : (first : Reader) (pattern : List ℕ) → (first 47 42 []).piece ≡ Rest → reading first 0 (byte_before pattern 0) (drop 0 pattern) ≡ key_pieces first pattern
key_pieces-start first pattern e = go (is_lone_star pattern) refl
  where
    go : (v : Bool) → is_lone_star pattern ≡ v → reading first 0 (byte_before pattern 0) (drop 0 pattern) ≡ key_pieces first pattern
    go true h = rw h (lone_star_is first pattern h e)
    go false h = rw h refl

glob-before : (passed before other : ℕ) (pattern : List ℕ) → reading glob_piece passed before pattern ≡ reading glob_piece passed other pattern
unfolding reading
glob-before passed before other [] = refl
glob-before zero before other (b ∷ rest) = refl
glob-before (suc passed) before other (b ∷ rest) = refl

pub pieces_at-start : (dialect : Dialect) (pattern : List ℕ) → pieces_at dialect pattern 0 ≡ pieces_of dialect pattern
unfolding pieces_at
pieces_at-start Colon pattern = key_pieces-start colon_piece pattern refl
pieces_at-start Brace pattern = key_pieces-start brace_piece pattern refl
pieces_at-start Glob pattern = glob-before 0 (byte_before pattern 0) 0 pattern
