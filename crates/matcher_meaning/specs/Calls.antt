-- What functions give for the texts of their arguments (Casbin, functions in matchers). The place is the call's.
use Rattle.std.specs.Prelude.{◌≡◌, ◌⊎◌, ◌↔◌, ℕ, ◌==◌, ◌&&◌, Bool, false, List, [], ◌∷◌, Option, Some, None, IsTrue, Ok, if◌then◌else◌}
use Rattle.std.specs.List.{before_first}
use Rattle.std.specs.Str.{bytes_eq}
use Rattle.effect_fold.specs.declared.fault.Cause.TheVariants.{Kind, BadAddress, BadBlock, Pattern}
use Rattle.ip_match.specs.declared.address.Address.{Address}
use Rattle.ip_match.specs.declared.block.Block.{Block}
use Rattle.ip_match.specs.Addresses.{IsAddress}
use Rattle.ip_match.specs.Blocks.{IsBlock, IsInside}
use Rattle.key_match.specs.Divisions.{LongerFirst, ShorterSegmentFirst, IsNamedPart}
use Rattle.key_match.specs.Names.{CoversAlike}
use Rattle.key_match.specs.Patterns.{brace_pieces, colon_pieces, glob_pieces}
use Rattle.key_match.specs.Pieces.{Covers}
use Rattle.key_match.specs.Stars.{AgreesToStar, part_at_star}
use Rattle.matcher_read.specs.declared.tree.Function.{Function}
use Rattle.matcher_read.specs.declared.tree.Function.TheVariants as f
use Rattle.perm_value.specs.Datum.{Datum}
use Rattle.perm_value.specs.Datum as datum
use Rattle.regex_gate.specs.Found.{has_match}
use Rattle.matcher_meaning.specs.Answers.{Evaluation, fails}

-- whether a fact holds
abbrev pub IsWhether : Type 0 → Evaluation → Type 0
IsWhether fact r = (b : Bool) × (IsTrue b ↔ fact) × (r ≡ Ok (datum.truth b))

-- a text of which the fact holds
abbrev pub IsText : (List ℕ → Type 0) → Evaluation → Type 0
IsText fact r = (t : List ℕ) × fact t × (r ≡ Ok (datum.text t))

-- the search at this place for this pattern is the one that was refused
abbrev pub is_refused : Option (ℕ × List ℕ) → ℕ → List ℕ → Bool
is_refused None at pattern = false
is_refused (Some refused) at pattern = refused.0 == at && bytes_eq refused.1 pattern

-- whether there is a match, or the fault of a pattern that cannot be read
abbrev pub matched : ℕ → Option Bool → Evaluation
matched at (Some is_found) = Ok (datum.truth is_found)
matched at None = fails Pattern at

-- whether the pattern has a match in the text; the fault `Pattern` where it cannot be read, whatever is refused, and where the search was refused
abbrev pub searched : Option (ℕ × List ℕ) → ℕ → (text pattern : List ℕ) → Evaluation
searched refused at text pattern =
    if is_refused refused at pattern then fails Pattern at else matched at (has_match pattern text)

-- whether an address lies in a block; that the first text is no address is told before the second is no block
abbrev pub IsInBlock : ℕ → (text block : List ℕ) → Evaluation → Type 0
IsInBlock at text block r =
    (((a : Address) → ¬ (IsAddress text a)) × (r ≡ fails BadAddress at))
    ⊎ ((((a : Address) × IsAddress text a) × ((b : Block) → ¬ (IsBlock block b)) × (r ≡ fails BadBlock at))
    ⊎ ((a : Address) × (b : Block) × IsAddress text a × IsBlock block b × IsWhether (IsInside a b.address b.bits) r))

-- a key without its first `?` and what follows
abbrev pub without_query : List ℕ → List ℕ
without_query key = before_first (λ byte. byte == 63) key

-- a function of two texts
abbrev pub OfTwo : Option (ℕ × List ℕ) → ℕ → Function → List ℕ → List ℕ → Evaluation → Type 0
OfTwo refused at f.KeyMatch key pattern r = IsWhether (AgreesToStar key pattern) r
OfTwo refused at f.KeyMatch2 key pattern r = IsWhether (Covers (colon_pieces pattern) key) r
OfTwo refused at f.KeyMatch3 key pattern r = IsWhether (Covers (brace_pieces pattern) key) r
OfTwo refused at f.KeyMatch4 key pattern r = IsWhether (CoversAlike (brace_pieces pattern) key) r
OfTwo refused at f.KeyMatch5 key pattern r = IsWhether (Covers (brace_pieces pattern) (without_query key)) r
OfTwo refused at f.GlobMatch key pattern r = IsWhether (Covers (glob_pieces pattern) key) r
OfTwo refused at f.RegexMatch text pattern r = r ≡ searched refused at text pattern
OfTwo refused at f.IpMatch text block r = IsInBlock at text block r
OfTwo refused at f.KeyGet key pattern r = r ≡ Ok (datum.text (part_at_star key pattern))
OfTwo refused at f.KeyGet2 _ _ r = r ≡ fails Kind at
OfTwo refused at f.KeyGet3 _ _ r = r ≡ fails Kind at

-- a function of three texts
abbrev pub OfThree : ℕ → Function → List ℕ → List ℕ → List ℕ → Evaluation → Type 0
OfThree at f.KeyGet2 key pattern name r = IsText (IsNamedPart LongerFirst (colon_pieces pattern) key name) r
OfThree at f.KeyGet3 key pattern name r = IsText (IsNamedPart ShorterSegmentFirst (brace_pieces pattern) key name) r
OfThree at _ _ _ _ r = r ≡ fails Kind at

-- a value as a text
abbrev pub text_of : Datum → Option (List ℕ)
text_of (datum.text t) = Some t
text_of _ = None

-- a text before others, where there are both
abbrev pub text_before : Option (List ℕ) → Option (List (List ℕ)) → Option (List (List ℕ))
text_before (Some t) (Some ts) = Some (t ∷ ts)
text_before _ _ = None

-- the values as texts, where each is one
abbrev pub texts_of : List Datum → Option (List (List ℕ))
texts_of [] = Some []
texts_of (d ∷ ds) = text_before (text_of d) (texts_of ds)
