-- A pattern without a sign of its function has a piece for each byte, which stands for that byte alone.
use Rattle.std.proofs.Common.{◌≡◌, inl, inr, ℕ, suc, Bool, true, false, List, [], ◌∷◌, ◌++◌, Option, None, Some, MatchOption, ◌+◌, ◌<◌, cond, length, arith, map, position, take, refl, sym, subst, ap, ◌∙◌}
use Rattle.std.specs.Prelude.{◌==◌, not, codes, nat_lt}
use Rattle.std.specs.List.{concat, list_any, prefix_len}
use borrow.Author.Tests.{ltb-true}
use Rattle.std.proofs.lemmas.Bool.{eq-eqb, eqb-true, false≢true, ne_eqb, or_parts}
use Rattle.key_match.specs.Patterns.{Reader, FirstPiece, brace_piece, brace_pieces, colon_piece, colon_pieces, glob_piece, glob_pieces, is_lone_star, literal, reading}
use Rattle.key_match.specs.Pieces.{Covers, EachStandsFor, One, Only, Piece, StandsFor}
use Rattle.key_match.specs.Stars.{AgreesToStar}
use Rattle.perm_base.specs.Patterns.{is_pattern}
use Rattle.perm_base.specs.declared.shapes.Fit.{Fit}
use Rattle.perm_base.specs.declared.shapes.Fit.TheVariants.{Exact, KeyMatch, KeyMatch2, KeyMatch3, Glob}
use Rattle.role_meaning.specs.Fits.{Fits, IsMatched}

-- the byte stands in the text
abbrev has_byte : ℕ → List ℕ → Bool
has_byte byte text = list_any (λ (b : ℕ). b == byte) text

-- the piece of a byte that stands for itself
abbrev itself : ℕ → Piece
itself byte = One (Only byte)

plain_reading : (first : Reader) (is_sign : ℕ → Bool) → ((before byte : ℕ) (after : List ℕ) → is_sign byte ≡ false → first before byte after ≡ literal byte) → (before : ℕ) (pattern : List ℕ) → list_any is_sign pattern ≡ false → reading first 0 before pattern ≡ map itself pattern
unfolding reading
plain_reading first is_sign plain before [] none = refl
plain_reading first is_sign plain before (byte ∷ after) none =
    let parts = or_parts (is_sign byte) (list_any is_sign after) none in
    let here : first before byte after ≡ literal byte = plain before byte after parts.0 in
    subst (λ (read : FirstPiece). read.piece ∷ reading first read.further byte after ≡ itself byte ∷ map itself after) (sym here)
    (ap (λ (pieces : List Piece). itself byte ∷ pieces) (plain_reading first is_sign plain byte after parts.1))

stands_for_itself : (byte : ℕ) (part : List ℕ) → StandsFor (itself byte) part → part ≡ byte ∷ []
stands_for_itself byte [] none = absurd (false≢true none)
stands_for_itself byte (found ∷ []) same = ap (λ (b : ℕ). b ∷ []) (eqb-true found byte same)
stands_for_itself byte (found ∷ next ∷ more) none = absurd (false≢true none)

itself_each : (pattern : List ℕ) (parts : List (List ℕ)) → EachStandsFor (map itself pattern) parts → concat parts ≡ pattern
itself_each [] [] each = refl
itself_each [] (part ∷ parts) each = absurd each
itself_each (byte ∷ pattern) [] each = absurd each
itself_each (byte ∷ pattern) (part ∷ parts) each =
    let one : part ≡ byte ∷ [] = stands_for_itself byte part each.0 in
    let rest : concat parts ≡ pattern = itself_each pattern parts each.1 in
    subst (λ (p : List ℕ). p ++ concat parts ≡ byte ∷ pattern) (sym one) (ap (λ (text : List ℕ). byte ∷ text) rest)

itself_covers : (pieces : List Piece) (pattern name : List ℕ) → pieces ≡ map itself pattern → Covers pieces name → name ≡ pattern
itself_covers pieces pattern name plain (parts, divides) =
    sym divides.whole ∙ itself_each pattern parts (subst (λ (found : List Piece). EachStandsFor found parts) plain divides.each)

-- one test of a byte, with its sides the other way round
no_sign : (sign byte : ℕ) → (sign == byte) ≡ false → (byte == sign) ≡ false
no_sign sign byte other = ne_eqb byte sign (λ same. false≢true (sym other ∙ eq-eqb sign byte (sym same)))

one_more : (n : ℕ) → 1 + n ≡ suc n
one_more n = omega arith

plain_length : (sign : ℕ) (text : List ℕ) → list_any (λ (byte : ℕ). has_byte byte (sign ∷ [])) text ≡ false → prefix_len (λ (byte : ℕ). not (byte == sign)) text ≡ length text
plain_length sign [] none = refl
plain_length sign (byte ∷ text) none =
    let parts = or_parts (has_byte byte (sign ∷ [])) (list_any (λ (b : ℕ). has_byte b (sign ∷ [])) text) none in
    let here : (byte == sign) ≡ false = no_sign sign byte (or_parts (sign == byte) false parts.0).0 in
    subst (λ (test : Bool). cond (not test) (1 + prefix_len (λ (b : ℕ). not (b == sign)) text) 0 ≡ suc (length text)) (sym here)
    (ap (λ (n : ℕ). 1 + n) (plain_length sign text parts.1) ∙ one_more (length text))

not_less : (n : ℕ) (test : Bool) → nat_lt n n ≡ test → test ≡ false
not_less n true less = absurd (let h : n < n = ltb-true n n less in omega arith)
not_less n false less = refl

plain_position : (sign : ℕ) (text : List ℕ) → list_any (λ (byte : ℕ). has_byte byte (sign ∷ [])) text ≡ false → position (λ byte. byte == sign) text ≡ None
plain_position sign text none =
    let All : ℕ → Type 0 = λ n. cond (nat_lt n (length text)) (Some n) None ≡ None in
    subst All (sym (plain_length sign text none)) (ap (λ (test : Bool). cond test (Some (length text)) None) (not_less (length text) (nat_lt (length text) (length text)) refl))

plain_star : (name pattern : List ℕ) → list_any (λ (byte : ℕ). has_byte byte (42 ∷ [])) pattern ≡ false → AgreesToStar name pattern → name ≡ pattern
plain_star name pattern none agrees =
    subst (λ (star : Option ℕ). MatchOption star (name ≡ pattern) (λ at. take at pattern ≡ take at name)) (plain_position 42 pattern none) agrees

not_lone : (pattern signs : List ℕ) → list_any (λ (byte : ℕ). has_byte byte (42 ∷ signs)) pattern ≡ false → is_lone_star pattern ≡ false
not_lone [] signs none = refl
not_lone (byte ∷ []) signs none =
    no_sign 42 byte (or_parts (42 == byte) (has_byte byte signs) (or_parts (has_byte byte (42 ∷ signs)) false none).0).0
not_lone (byte ∷ next ∷ more) signs none = refl

-- neither the star nor a second sign
no_two : (sign byte : ℕ) → has_byte byte (42 ∷ sign ∷ []) ≡ false → ((byte == 42) ≡ false) × ((byte == sign) ≡ false)
no_two sign byte none =
    let parts = or_parts (42 == byte) (has_byte byte (sign ∷ [])) none in
    (no_sign 42 byte parts.0, no_sign sign byte (or_parts (sign == byte) false parts.1).0)

plain_colon : (before byte : ℕ) (after : List ℕ) → has_byte byte (codes "*:") ≡ false → colon_piece before byte after ≡ literal byte
plain_colon before byte after none = let others = no_two 58 byte none in rw (others.0, others.1) refl

plain_brace : (before byte : ℕ) (after : List ℕ) → has_byte byte (codes "*{") ≡ false → brace_piece before byte after ≡ literal byte
plain_brace before byte after none = let others = no_two 123 byte none in rw (others.0, others.1) refl

plain_glob : (before byte : ℕ) (after : List ℕ) → has_byte byte (codes "*?[") ≡ false → glob_piece before byte after ≡ literal byte
plain_glob before byte after none =
    let parts = or_parts (42 == byte) (has_byte byte (63 ∷ 91 ∷ [])) none in
    let more = or_parts (63 == byte) (has_byte byte (91 ∷ [])) parts.1 in
    let star : (byte == 42) ≡ false = no_sign 42 byte parts.0 in
    let one : (byte == 63) ≡ false = no_sign 63 byte more.0 in
    let class : (byte == 91) ≡ false = no_sign 91 byte (or_parts (91 == byte) false more.1).0 in
    rw (star, one, class) refl

plain_matched : (fit : Fit) (name pattern : List ℕ) → is_pattern fit pattern ≡ false → IsMatched fit name pattern → name ≡ pattern
plain_matched Exact name pattern none never = absurd never
plain_matched KeyMatch name pattern none agrees = plain_star name pattern none agrees
plain_matched KeyMatch2 name pattern none covers =
    itself_covers (colon_pieces pattern) pattern name
    (rw (not_lone pattern (58 ∷ []) none) (plain_reading colon_piece (λ (byte : ℕ). has_byte byte (codes "*:")) plain_colon 0 pattern none)) covers
plain_matched KeyMatch3 name pattern none covers =
    itself_covers (brace_pieces pattern) pattern name
    (rw (not_lone pattern (123 ∷ []) none) (plain_reading brace_piece (λ (byte : ℕ). has_byte byte (codes "*{")) plain_brace 0 pattern none)) covers
plain_matched Glob name pattern none covers =
    itself_covers (glob_pieces pattern) pattern name (plain_reading glob_piece (λ (byte : ℕ). has_byte byte (codes "*?[")) plain_glob 0 pattern none) covers

pub plain_fits : (fit : Fit) (name pattern : List ℕ) → is_pattern fit pattern ≡ false → Fits fit name pattern → name ≡ pattern
unfolding Fits
plain_fits fit name pattern none (inl same) = same
plain_fits fit name pattern none (inr matched) = plain_matched fit name pattern none matched
