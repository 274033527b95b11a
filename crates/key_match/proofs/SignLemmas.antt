-- A pattern reads as the pieces that its reader gives, and as no others.
use Rattle.std.proofs.Common.{◌≡◌, ◌⊎◌, inl, inr, ℕ, zero, suc, ◌≤◌, false, List, [], ◌∷◌, ◌++◌, length, drop, refl, ap, sym, ◌∙◌, subst, arith, le_refl}
use Rattle.std.proofs.Math.Seq.{drop-append_seam}
use Rattle.std.proofs.lemmas.Bool.{false≢true}
use Rattle.std.proofs.lemmas.List.{length-append}
use Rattle.key_match.specs.Patterns.{FirstPiece, Reader, reading, literal}
use Rattle.key_match.specs.Pieces.{Piece, Only, One}
use Rattle.key_match.specs.Signs.{Signs, HasNoSign, last_of, ReadsAs, ended, by_sign, by_itself}
use Rattle.key_match.specs.Helps.Fronts.{is_itself}
use Rattle.key_match.specs.Helps.Tokens.{last_byte}
use Rattle.key_match.proofs.Readings.{reading-skip}

-- the reader gives the piece of a sign, and how many bytes of it follow the first
abbrev pub Gives : Reader → ℕ → List ℕ → List ℕ → Piece → Type 0
Gives first before [] rest piece = ⊥
Gives first before (byte ∷ inside) rest piece = first before byte (inside ++ rest) ≡ record { piece = piece; further = length inside }

-- a sign stands at the front of the pattern
pub record HasSign (Sign : Signs) (before : ℕ) (pattern : List ℕ) : Type 0 where
  pub spelling : List ℕ
  pub rest : List ℕ
  pub piece : Piece
  pub sign : Sign before spelling rest piece
  pub parts : pattern ≡ spelling ++ rest

-- the reader reads these signs, and each other byte as itself
pub record IsReader (Sign : Signs) (first : Reader) : Type 0 where
  pub gives : (before : ℕ) (spelling rest : List ℕ) (piece : Piece) → Sign before spelling rest piece → Gives first before spelling rest piece
  pub other : (before : ℕ) (spelling rest : List ℕ) (piece : Piece) → Sign before spelling rest piece → is_itself piece ≡ false
  pub tells : (before byte : ℕ) (after : List ℕ) → HasSign Sign before (byte ∷ after) ⊎ (first before byte after ≡ literal byte)

last_byte-front : (start : ℕ) (inside rest : List ℕ) → last_byte start (inside ++ rest) (length inside) ≡ last_of start inside
last_byte-front start [] rest = refl
last_byte-front start (x ∷ inside) rest = last_byte-front x inside rest

-- behind a sign the reader goes on with the rest
reading-sign : (first : Reader) (before byte : ℕ) (inside rest : List ℕ) (piece : Piece) → Gives first before (byte ∷ inside) rest piece
    → reading first 0 before (byte ∷ (inside ++ rest)) ≡ piece ∷ reading first 0 (last_of byte inside) rest
unfolding reading
reading-sign first before byte inside rest piece given =
    ap (λ (found : FirstPiece). found.piece ∷ reading first found.further byte (inside ++ rest)) given
    ∙ ap (λ (pieces : List Piece). piece ∷ pieces)
    (reading-skip first (length inside) byte (inside ++ rest)
    ∙ ap (λ (b : ℕ). reading first 0 b (drop (length inside) (inside ++ rest))) (last_byte-front byte inside rest)
    ∙ ap (reading first 0 (last_of byte inside)) (drop-append_seam inside rest))

reading-itself : (first : Reader) (before byte : ℕ) (after : List ℕ) → first before byte after ≡ literal byte → reading first 0 before (byte ∷ after) ≡ One (Only byte) ∷ reading first 0 byte after
unfolding reading
reading-itself first before byte after plain = ap (λ (found : FirstPiece). found.piece ∷ reading first found.further byte after) plain

-- the piece of the sign that stands at a front is the first that the reader gives
pub sign_given : {Sign : Signs} {first : Reader} → IsReader Sign first → (before byte : ℕ) (after spelling rest : List ℕ) (piece : Piece) → Sign before spelling rest piece → byte ∷ after ≡ spelling ++ rest
    → (first before byte after).piece ≡ piece
sign_given r before byte after [] rest piece sign same = absurd (r.gives before [] rest piece sign)
sign_given {Sign} {first} r before byte after (b ∷ inside) rest piece sign same =
    let head : byte ≡ b = cc in
    let tail : after ≡ inside ++ rest = cc in
    ap (λ (c : ℕ). (first before c after).piece) head ∙ ap (λ (text : List ℕ). (first before b text).piece) tail ∙ ap (λ (found : FirstPiece). found.piece) (r.gives before (b ∷ inside) rest piece sign)

-- a byte that is read as itself begins no sign
no_sign : {Sign : Signs} {first : Reader} → IsReader Sign first → (before byte : ℕ) (after : List ℕ) → first before byte after ≡ literal byte → HasNoSign Sign before (byte ∷ after)
no_sign {Sign} {first} r before byte after plain spelling rest piece same sign =
    let found : One (Only byte) ≡ piece = ap (λ (read : FirstPiece). read.piece) (sym plain) ∙ sign_given r before byte after spelling rest piece sign same in
    false≢true (sym (r.other before spelling rest piece sign) ∙ ap is_itself (sym found))

-- what the reader gives is read so
sign_read : {Sign : Signs} {first : Reader} → IsReader Sign first → (before byte : ℕ) (after spelling rest : List ℕ) (piece : Piece) → Sign before spelling rest piece → byte ∷ after ≡ spelling ++ rest
    → ((start : ℕ) (pattern : List ℕ) → length pattern ≤ length after → ReadsAs Sign start pattern (reading first 0 start pattern)) → ReadsAs Sign before (byte ∷ after) (reading first 0 before (byte ∷ after))
sign_read {Sign} {first} r before byte after [] rest piece sign same next = absurd (r.gives before [] rest piece sign)
sign_read {Sign} {first} r before byte after (b ∷ inside) rest piece sign same next =
    let small : length rest ≤ length after = omega (arith, ap length same, length-append inside rest) in
    let pieces = reading-sign first before b inside rest piece (r.gives before (b ∷ inside) rest piece sign) in
    let whole : ReadsAs Sign before (b ∷ (inside ++ rest)) (piece ∷ reading first 0 (last_of b inside) rest) = by_sign (b ∷ inside) rest sign (next (last_of b inside) rest small) refl in
    subst (λ (pattern : List ℕ). ReadsAs Sign before pattern (reading first 0 before pattern)) (sym same)
    (subst (λ (found : List Piece). ReadsAs Sign before (b ∷ (inside ++ rest)) found) (sym pieces) whole)

reads_within : {Sign : Signs} {first : Reader} → IsReader Sign first → (most before : ℕ) (pattern : List ℕ) → length pattern ≤ most → ReadsAs Sign before pattern (reading first 0 before pattern)
unfolding reading
reads_within r most before [] small = ended
reads_within r zero before (byte ∷ after) small = absurd (omega arith)
reads_within {Sign} {first} r (suc most) before (byte ∷ after) small =
    by_tell (λ start pattern less. reads_within r most start pattern (omega (arith, less, small))) (r.tells before byte after)
  where
    by_tell : ((start : ℕ) (pattern : List ℕ) → length pattern ≤ length after → ReadsAs Sign start pattern (reading first 0 start pattern))
        → HasSign Sign before (byte ∷ after) ⊎ (first before byte after ≡ literal byte) → ReadsAs Sign before (byte ∷ after) (reading first 0 before (byte ∷ after))
    by_tell next (inl at) = sign_read r before byte after at.spelling at.rest at.piece at.sign at.parts next
    by_tell next (inr plain) =
        subst (λ (pieces : List Piece). ReadsAs Sign before (byte ∷ after) pieces) (sym (reading-itself first before byte after plain))
        (by_itself (no_sign r before byte after plain) (next byte after (le_refl (length after))))

pub reads_as : {Sign : Signs} {first : Reader} → IsReader Sign first → (before : ℕ) (pattern : List ℕ) → ReadsAs Sign before pattern (reading first 0 before pattern)
reads_as r before pattern = reads_within r (length pattern) before pattern (le_refl (length pattern))

-- what is read is what the reader gives
sign_once : {Sign : Signs} {first : Reader} → IsReader Sign first → (before : ℕ) (pattern spelling rest : List ℕ) (piece : Piece) (pieces : List Piece) → Sign before spelling rest piece → pattern ≡ spelling ++ rest
    → pieces ≡ reading first 0 (last_of before spelling) rest → piece ∷ pieces ≡ reading first 0 before pattern
sign_once r before pattern [] rest piece pieces sign same others = absurd (r.gives before [] rest piece sign)
sign_once {Sign} {first} r before pattern (b ∷ inside) rest piece pieces sign same others =
    ap (λ (found : List Piece). piece ∷ found) others ∙ sym (reading-sign first before b inside rest piece (r.gives before (b ∷ inside) rest piece sign)) ∙ ap (reading first 0 before) (sym same)

pub reads_once : {Sign : Signs} {first : Reader} → IsReader Sign first → {before : ℕ} {pattern : List ℕ} {pieces : List Piece} → ReadsAs Sign before pattern pieces → pieces ≡ reading first 0 before pattern
unfolding reading
reads_once r ended = refl
reads_once r (by_sign {before} spelling rest {pattern} {piece} {pieces} sign others same) = sign_once r before pattern spelling rest piece pieces sign same (reads_once r others)
reads_once {Sign} {first} r (by_itself {before} {byte} {rest} {pieces} none others) = by_tell (reads_once r others) (r.tells before byte rest)
  where
    by_tell : pieces ≡ reading first 0 byte rest → HasSign Sign before (byte ∷ rest) ⊎ (first before byte rest ≡ literal byte) → One (Only byte) ∷ pieces ≡ reading first 0 before (byte ∷ rest)
    by_tell same (inl at) = absurd (none at.spelling at.rest at.piece at.parts at.sign)
    by_tell same (inr plain) = ap (λ (found : List Piece). One (Only byte) ∷ found) same ∙ sym (reading-itself first before byte rest plain)
