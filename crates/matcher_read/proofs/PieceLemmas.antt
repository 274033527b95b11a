-- The pieces of a name between its dots, and what they say.
use Rattle.std.proofs.Common.{◌||◌, ◌≡◌, ℕ, ◌<◌, Bool, true, false, cond, eqb, List, [], ◌∷◌, length, codes, Option, Some, None, MatchOption, refl, ap, sym, subst, ◌∙◌, arith, lit<}
use Rattle.std.proofs.lemmas.Slice.Eq.{bytes_eq-Decides}
use Rattle.std.proofs.lemmas.List.Splits.{slice_split_first, slice_split_none, length-slice_split, join_with_byte-slice_split}
use Rattle.std.proofs.lemmas.Bool.{or_from}
use Rattle.std.proofs.lemmas.List.Sums.{fails_before_first}
use Rattle.std.proofs.lemmas.Str.Pattern.{IsSplitOnceResult, split_once_first}
use Rattle.std.specs.List.{position_or_len, after_first, slice_split, join_with_byte}
use Rattle.std.specs.Str.{bytes_eq}
use Rattle.matcher_read.specs.Helps.Machine.{name_operand, is_in}
use Rattle.matcher_read.specs.Helps.NameParts.{request_of, policy_of}
use Rattle.matcher_read.specs.Helps.TokenLists.{pieces}
use Rattle.matcher_read.specs.Tokens.{name, column_of, is_eval_name, is_reserved}
use denote.Ref.{Bor}

-- no byte passes: one piece
one_part : (p : ℕ → Bool) (bs : List ℕ) → position_or_len p bs ≡ length bs → slice_split p bs ≡ bs ∷ []
one_part p bs h = slice_split_none p bs (λ k d inside. fails_before_first p bs k d (omega (arith, h)))

-- cut once at a dot
pub pieces_cut : (bs : List ℕ) (r : Option (Bor (List ℕ) × Bor (List ℕ))) → IsSplitOnceResult 46 bs r → MatchOption r (pieces bs ≡ bs ∷ []) (λ cut. pieces bs ≡ cut.0.now ∷ pieces cut.1.now)
pieces_cut bs None h = one_part (λ b. eqb b 46) bs (split_once_first 46 bs None h (lit< tt))
pieces_cut bs (Some cut) h =
    let first = split_once_first 46 bs (Some cut) h (lit< tt) in
    slice_split_first (λ b. eqb b 46) bs 0 first.0 ∙ ap (λ (part : List ℕ). part ∷ pieces (after_first (λ b. eqb b 46) bs)) (sym first.1) ∙ ap (λ (rest : List ℕ). cut.0.now ∷ pieces rest) (sym first.2)

-- there is a piece
pub pieces_some : (bs : List ℕ) → 0 < length (pieces bs)
pieces_some bs = omega (arith, length-slice_split (λ b. eqb b 46) bs)

-- one piece is the whole
pub pieces_one : (bs piece : List ℕ) → pieces bs ≡ piece ∷ [] → piece ≡ bs
pieces_one bs piece h = sym (ap (join_with_byte 46) h) ∙ join_with_byte-slice_split 46 bs

-- the operand of a name by its first piece
pub operand_behind : (at : ℕ) (first : List ℕ) (parts : List (List ℕ)) → 0 < length parts
    → name_operand at (first ∷ parts) ≡ cond (bytes_eq first (codes "r")) (Some (request_of at parts)) (cond (bytes_eq first (codes "p")) (policy_of at parts) None)
operand_behind at first [] h = absurd (omega (arith, h))
operand_behind at first (column ∷ names) h = refl

-- a column of the policy stands alone
pub policy_of_more : (at : ℕ) (first : List ℕ) (names : List (List ℕ)) → 0 < length names → None ≡ policy_of at (first ∷ names)
policy_of_more at first [] h = absurd (omega (arith, h))
policy_of_more at first (next ∷ names) h = refl

-- one piece or more
pub pieces_cases : (P : List (List ℕ) → Type 0) (bs : List ℕ) → P (bs ∷ []) → ((a b : List ℕ) (cs : List (List ℕ)) → pieces bs ≡ a ∷ b ∷ cs → P (a ∷ b ∷ cs)) → P (pieces bs)
pieces_cases P bs one more = by_list (pieces bs) refl
  where
    by_list : (ps : List (List ℕ)) → pieces bs ≡ ps → P ps
    by_list [] e = absurd (omega (arith, pieces_some bs, ap length e))
    by_list (a ∷ []) e = subst (λ (piece : List ℕ). P (piece ∷ [])) (sym (pieces_one bs a e)) one
    by_list (a ∷ b ∷ cs) e = more a b cs e

-- a text that is one piece is no text of more
pub other_text : (bs text : List ℕ) (a b : List ℕ) (cs : List (List ℕ)) → pieces text ≡ text ∷ [] → pieces bs ≡ a ∷ b ∷ cs → bytes_eq bs text ≡ false
other_text bs text a b cs one more = by_test (bytes_eq bs text) refl
  where
    by_test : (t : Bool) → bytes_eq bs text ≡ t → t ≡ false
    by_test true e = absurd (let same : text ∷ [] ≡ a ∷ b ∷ cs = sym one ∙ ap pieces (sym ((bytes_eq-Decides bs text).0 e)) ∙ more in cc)
    by_test false e = refl

-- the word `in`
pub in_word : (bs : List ℕ) → is_in (pieces bs) ≡ bytes_eq bs (codes "in")
in_word bs = pieces_cases (λ ps. is_in ps ≡ bytes_eq bs (codes "in")) bs refl (λ a b cs e. sym (other_text bs (codes "in") a b cs refl e))

-- the words that are no names of calls
pub reserved-is : (bs : List ℕ) → is_reserved (pieces bs) ≡ (bytes_eq bs (codes "true") || bytes_eq bs (codes "false") || bytes_eq bs (codes "in"))
reserved-is bs = pieces_cases (λ ps. is_reserved ps ≡ (bytes_eq bs (codes "true") || bytes_eq bs (codes "false") || bytes_eq bs (codes "in"))) bs refl (λ a b cs e.
    let other : (text : List ℕ) → pieces text ≡ text ∷ [] → bytes_eq bs text ≡ false = λ text one. other_text bs text a b cs one e in
    sym (or_from (bytes_eq bs (codes "true") || bytes_eq bs (codes "false")) (bytes_eq bs (codes "in")) (or_from (bytes_eq bs (codes "true")) (bytes_eq bs (codes "false")) (other (codes "true") refl) (other (codes "false") refl)) (other (codes "in") refl)))

pub reserved-last : (bs : List ℕ) → bytes_eq bs (codes "true") ≡ false → bytes_eq bs (codes "false") ≡ false → bytes_eq bs (codes "in") ≡ is_reserved (pieces bs)
reserved-last bs first second = sym (reserved-is bs ∙ ap (λ (t : Bool). t || bytes_eq bs (codes "false") || bytes_eq bs (codes "in")) first ∙ ap (λ (t : Bool). t || bytes_eq bs (codes "in")) second)

-- the name `eval`
pub eval_word : (bs : List ℕ) → is_eval_name (pieces bs) ≡ bytes_eq bs (codes "eval")
eval_word bs = pieces_cases (λ ps. is_eval_name ps ≡ bytes_eq bs (codes "eval")) bs refl (λ a b cs e. sym (other_text bs (codes "eval") a b cs refl e))

-- a name of three parts or more is no column of the policy
pub column_of_more : (first second : List ℕ) (names : List (List ℕ)) → 0 < length names → None ≡ column_of (name (first ∷ second ∷ names))
column_of_more first second [] h = absurd (omega (arith, h))
column_of_more first second (next ∷ names) h = refl
