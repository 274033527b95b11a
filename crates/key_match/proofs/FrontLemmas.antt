-- A text that fits begins with the pattern's bytes before its first sign.
use Rattle.std.proofs.Common.{◌≡◌, ◌⊎◌, inl, inr, ℕ, ◌+◌, ◌<◌, Bool, get_or, true, false, List, [], ◌∷◌, ◌++◌, Option, None, Some, MatchOption, length, length-take, take, drop, refl, ap, sym, ◌∙◌, subst, arith, append-nil, append_assoc}
use Rattle.std.specs.Prelude.{◌==◌}
use Rattle.std.specs.List.{before_first, concat, position_or_len}
use Rattle.std.proofs.lemmas.Bool.{eqb-true, false≢true}
use Rattle.std.proofs.lemmas.List.{take-append-drop, take_more}
use Rattle.std.proofs.lemmas.List.Quantifiers.{position-Some}
use Rattle.key_match.specs.Fronts.{HasFront, before_star, brace_front, colon_front, glob_front, plain_bytes, star_front}
use Rattle.key_match.specs.Names.{CoversAlike}
use Rattle.key_match.specs.Patterns.{Reader, FirstPiece, brace_pieces, colon_pieces, glob_pieces, literal}
use Rattle.key_match.specs.Pieces.{Covers, Piece, Only, NotSlash, Class, One, Segment, Stretch, Rest, EachStandsFor, StandsFor}
use Rattle.key_match.specs.Signs.{Signs, ColonSign, BraceSign, GlobSign, ReadsAs, ended, by_sign, by_itself, IsKeyPattern, lone_star, of_pieces}
use Rattle.key_match.specs.Stars.{AgreesToStar, star_of}
use Rattle.key_match.specs.Helps.Tokens.{byte_before, first_at, pieces_at, pieces_of, reader_of}
use Rattle.key_match.specs.declared.token.Dialect.{Dialect}
use Rattle.key_match.specs.declared.token.Dialect.TheVariants.{Colon, Brace, Glob}
use Rattle.key_match.proofs.Readings.{pieces_at-open, pieces_at-start}
use Rattle.key_match.specs.Helps.Fronts.{is_itself}
use Rattle.key_match.proofs.SignLemmas.{HasSign, IsReader, reads_as, sign_given}
use Rattle.key_match.proofs.SyntaxLemmas.{brace_reads, colon_reads, glob_reads, key_pattern}

-- each piece is one byte for itself
abbrev pub are_itself : List Piece → Bool
are_itself [] = true
are_itself (One (Only byte) ∷ pieces) = are_itself pieces
are_itself (piece ∷ pieces) = false

-- the text begins with the bytes, and where all pieces are bytes, it is these
record Begins (pieces : List Piece) (text : List ℕ) : Type 0 where
  pub behind : List ℕ
  pub begins : text ≡ plain_bytes pieces ++ behind
  pub whole : are_itself pieces ≡ true → behind ≡ []

one_byte : (byte : ℕ) (part : List ℕ) → StandsFor (One (Only byte)) part → part ≡ byte ∷ []
one_byte byte [] none = absurd (false≢true none)
one_byte byte (found ∷ []) same = ap (λ (b : ℕ). b ∷ []) (eqb-true found byte same)
one_byte byte (found ∷ next ∷ more) none = absurd (false≢true none)

nothing_begins : (pieces : List Piece) (text : List ℕ) → plain_bytes pieces ≡ [] → are_itself pieces ≡ false → Begins pieces text
nothing_begins pieces text none other = record {
  behind = text;
  begins = ap (λ (front : List ℕ). front ++ text) (sym none);
  whole = λ all. absurd (false≢true (sym other ∙ all));
}

parts_begin : (pieces : List Piece) (parts : List (List ℕ)) → EachStandsFor pieces parts → Begins pieces (concat parts)
parts_begin [] [] each = record { behind = []; begins = refl; whole = λ all. refl }
parts_begin [] (part ∷ parts) each = absurd each
parts_begin (piece ∷ pieces) [] each = absurd each
parts_begin (One (Only byte) ∷ pieces) (part ∷ parts) each =
    let rest = parts_begin pieces parts each.1 in
    record {
      behind = rest.behind;
      begins = ap (λ (p : List ℕ). p ++ concat parts) (one_byte byte part each.0) ∙ ap (λ (text : List ℕ). byte ∷ text) rest.begins;
      whole = rest.whole;
    }
parts_begin (One NotSlash ∷ pieces) (part ∷ parts) each = nothing_begins (One NotSlash ∷ pieces) (part ++ concat parts) refl refl
parts_begin (One (Class negated ranges) ∷ pieces) (part ∷ parts) each = nothing_begins (One (Class negated ranges) ∷ pieces) (part ++ concat parts) refl refl
parts_begin (Segment name ∷ pieces) (part ∷ parts) each = nothing_begins (Segment name ∷ pieces) (part ++ concat parts) refl refl
parts_begin (Stretch ∷ pieces) (part ∷ parts) each = nothing_begins (Stretch ∷ pieces) (part ++ concat parts) refl refl
parts_begin (Rest ∷ pieces) (part ∷ parts) each = nothing_begins (Rest ∷ pieces) (part ++ concat parts) refl refl

-- a sign is no byte for itself
other_front : (piece : Piece) (pieces : List Piece) → is_itself piece ≡ false → (plain_bytes (piece ∷ pieces) ≡ []) × (are_itself (piece ∷ pieces) ≡ false)
other_front (One (Only byte)) pieces other = absurd (false≢true (sym other))
other_front (One NotSlash) pieces other = (refl, refl)
other_front (One (Class negated ranges)) pieces other = (refl, refl)
other_front (Segment name) pieces other = (refl, refl)
other_front Stretch pieces other = (refl, refl)
other_front Rest pieces other = (refl, refl)

-- the front is the pattern exactly where the pattern has no sign
front_whole : {Sign : Signs} {first : Reader} → IsReader Sign first → {before : ℕ} {pattern : List ℕ} {pieces : List Piece} → ReadsAs Sign before pattern pieces → plain_bytes pieces ≡ pattern → are_itself pieces ≡ true
front_whole r ended same = refl
front_whole {Sign} {first} r (by_sign {before} spelling rest {pattern} {piece} {pieces} sign others parts) same = by spelling sign parts
  where
    none : plain_bytes (piece ∷ pieces) ≡ []
    none = (other_front piece pieces (r.other before spelling rest piece sign)).0

    by : (text : List ℕ) → Sign before text rest piece → pattern ≡ text ++ rest → are_itself (piece ∷ pieces) ≡ true
    by [] there is = absurd (r.gives before [] rest piece there)
    by (byte ∷ inside) there is = absurd (let empty : [] ≡ byte ∷ (inside ++ rest) = sym none ∙ same ∙ is in cc)
front_whole r (by_itself {before} {byte} {rest} {pieces} none others) same = front_whole r others (let tail : plain_bytes pieces ≡ rest = cc in tail)

covers_begins : (pieces : List Piece) (text : List ℕ) → Covers pieces text → Begins pieces text
covers_begins pieces text (parts, divides) = subst (Begins pieces) divides.whole (parts_begin pieces parts divides.each)

has_front : (pieces : List Piece) (pattern text : List ℕ) → (plain_bytes pieces ≡ pattern → are_itself pieces ≡ true) → Covers pieces text → HasFront (plain_bytes pieces) pattern text
has_front pieces pattern text all covers =
    let found = covers_begins pieces text covers in
    record {
      behind = found.behind;
      begins = found.begins;
      whole = λ same. found.begins ∙ ap (λ (behind : List ℕ). plain_bytes pieces ++ behind) (found.whole (all same)) ∙ append-nil (plain_bytes pieces) ∙ same;
    }

key_whole : {Sign : Signs} {first : Reader} → IsReader Sign first → {pattern : List ℕ} {pieces : List Piece} → IsKeyPattern Sign pattern pieces → plain_bytes pieces ≡ pattern → are_itself pieces ≡ true
key_whole r lone_star same = absurd (let bad : [] ≡ 42 ∷ [] = same in cc)
key_whole r (of_pieces other read) same = front_whole r read same

-- ---- a key that fits begins with the pattern's front

pub colon_begins : (pattern key : List ℕ) → Covers (colon_pieces pattern) key → HasFront (colon_front pattern) pattern key
colon_begins pattern key = has_front (colon_pieces pattern) pattern key (key_whole colon_reads (key_pattern colon_reads pattern))

pub brace_begins : (pattern key : List ℕ) → Covers (brace_pieces pattern) key → HasFront (brace_front pattern) pattern key
brace_begins pattern key = has_front (brace_pieces pattern) pattern key (key_whole brace_reads (key_pattern brace_reads pattern))

pub alike_begins : (pattern key : List ℕ) → CoversAlike (brace_pieces pattern) key → HasFront (brace_front pattern) pattern key
alike_begins pattern key covers = brace_begins pattern key (covers.0, covers.1)

pub glob_begins : (pattern key : List ℕ) → Covers (glob_pieces pattern) key → HasFront (glob_front pattern) pattern key
glob_begins pattern key = has_front (glob_pieces pattern) pattern key (front_whole glob_reads (reads_as glob_reads 0 pattern))

pub star_begins : (pattern key : List ℕ) → AgreesToStar key pattern → HasFront (star_front pattern) pattern key
star_begins pattern key = by (star_of pattern) refl
  where
    by : (o : Option ℕ) → star_of pattern ≡ o → MatchOption o (key ≡ pattern) (λ star. take star pattern ≡ take star key) → HasFront (before_star o pattern) pattern key
    by None e same = record { behind = []; begins = same ∙ sym (append-nil pattern); whole = λ front. same }
    by (Some star) e same = record {
      behind = drop star key;
      begins = sym (take-append-drop star key) ∙ ap (λ (front : List ℕ). front ++ drop star key) (sym same);
      whole = λ front. absurd (let within = (position-Some (λ (byte : ℕ). byte == 42) pattern star 0 e).0 in omega (arith, within, ap length front, length-take {A = ℕ}));
    }

-- what a key begins with up to a cut, the whole key begins with
pub cut_begins : (pattern key : List ℕ) → Covers (brace_pieces pattern) (before_first (λ byte. byte == 63) key) → (behind : List ℕ) × (key ≡ brace_front pattern ++ behind)
cut_begins pattern key covers =
    let place = position_or_len (λ (byte : ℕ). byte == 63) key in
    let found = brace_begins pattern (take place key) covers in
    let front = brace_front pattern in (
      found.behind ++ drop place key,
      sym (take-append-drop place key) ∙ ap (λ (text : List ℕ). text ++ drop place key) found.begins ∙ append_assoc front found.behind (drop place key),
    )

-- ---- the front, byte by byte

abbrev signs_of : Dialect → Signs
signs_of Colon = ColonSign
signs_of Brace = BraceSign
signs_of Glob = GlobSign

dialect_reads : (dialect : Dialect) → IsReader (signs_of dialect) (reader_of dialect)
dialect_reads Colon = colon_reads
dialect_reads Brace = brace_reads
dialect_reads Glob = glob_reads

-- a piece that is one byte for itself is the byte that stands there, and the others stand behind that
itself_at : (dialect : Dialect) (pattern : List ℕ) (at : ℕ) (piece : Piece) (pieces : List Piece) → at < length pattern → pieces_at dialect pattern at ≡ piece ∷ pieces → is_itself piece ≡ true
    → pieces_at dialect pattern at ≡ One (Only (get_or pattern at 0)) ∷ pieces_at dialect pattern (at + 1)
itself_at dialect pattern at piece pieces within read itself = by_tell (r.tells (byte_before pattern at) (get_or pattern at 0) (drop (at + 1) pattern))
  where
    r : IsReader (signs_of dialect) (reader_of dialect)
    r = dialect_reads dialect

    first : FirstPiece
    first = first_at (reader_of dialect) pattern at

    opened : pieces_at dialect pattern at ≡ first.piece ∷ pieces_at dialect pattern (at + 1 + first.further)
    opened = pieces_at-open dialect pattern at within

    by_tell : HasSign (signs_of dialect) (byte_before pattern at) (get_or pattern at 0 ∷ drop (at + 1) pattern) ⊎ (first ≡ literal (get_or pattern at 0)) → pieces_at dialect pattern at ≡ One (Only (get_or pattern at 0)) ∷ pieces_at dialect pattern (at + 1)
    by_tell (inl has) =
        let same : piece ≡ first.piece = (let lists : piece ∷ pieces ≡ first.piece ∷ pieces_at dialect pattern (at + 1 + first.further) = sym read ∙ opened in cc) in
        let sign = sign_given r (byte_before pattern at) (get_or pattern at 0) (drop (at + 1) pattern) has.spelling has.rest has.piece has.sign has.parts in
        absurd (false≢true (sym (r.other (byte_before pattern at) has.spelling has.rest has.piece has.sign) ∙ ap is_itself (sym (same ∙ sign)) ∙ itself))
    by_tell (inr plain) =
        opened ∙ ap (λ (found : FirstPiece). found.piece ∷ pieces_at dialect pattern (at + 1 + found.further)) plain
        ∙ ap (λ (next : ℕ). One (Only (get_or pattern at 0)) ∷ pieces_at dialect pattern next) (let e : at + 1 + 0 ≡ at + 1 = omega arith in e)

-- what is passed so far and the front of what is left are the front
pub front_start : (dialect : Dialect) (pattern : List ℕ) → take 0 pattern ++ plain_bytes (pieces_at dialect pattern 0) ≡ plain_bytes (pieces_of dialect pattern)
front_start dialect pattern = ap plain_bytes (pieces_at-start dialect pattern)

pub front_more : (dialect : Dialect) (pattern : List ℕ) (at : ℕ) (piece : Piece) (pieces : List Piece) (front : List ℕ) → at < length pattern → pieces_at dialect pattern at ≡ piece ∷ pieces → is_itself piece ≡ true
    → take at pattern ++ plain_bytes (pieces_at dialect pattern at) ≡ front → take (at + 1) pattern ++ plain_bytes (pieces_at dialect pattern (at + 1)) ≡ front
front_more dialect pattern at piece pieces front within read itself so_far =
    let left = plain_bytes (pieces_at dialect pattern (at + 1)) in
    ap (λ (passed : List ℕ). passed ++ left) (take_more pattern at 0 within) ∙ append_assoc (take at pattern) (get_or pattern at 0 ∷ []) left
    ∙ ap (λ (found : List Piece). take at pattern ++ plain_bytes found) (sym (itself_at dialect pattern at piece pieces within read itself)) ∙ so_far
