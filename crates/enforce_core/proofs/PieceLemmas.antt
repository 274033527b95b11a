-- Texts that are cut out of bytes one after the other.
use Rattle.std.proofs.Common.{◌≡◌, ℕ, zero, suc, ◌+◌, ◌-◌, ◌<◌, ◌≤◌, ◌&&◌, nat_le, Bool, true, false, List, [], ◌∷◌, ◌++◌, Some, drop, length, map, slice_get, take, refl, sym, ap, subst, ◌∙◌, arith}
use Rattle.std.specs.Prelude.{IsUtf8}
use Rattle.std.proofs.lemmas.Bool.{le-leb, lt-leb}
use Rattle.std.proofs.lemmas.List.{append-nil, append_assoc, length-append, length-map, map_push}
use Rattle.perm_value.specs.Datum.{Datum, text}
use Rattle.perm_value.specs.Seen.{datum, datum_step}
use Rattle.perm_value.specs.declared.value.Value.{Value}
use Rattle.perm_value.specs.declared.value.Value.TheFolds.{fold-roll-Value}
use Rattle.perm_value.specs.declared.value.Value.TheOpen.{Value-F}
use Rattle.perm_value.specs.declared.value.Value.TheVariants as kind
use Rattle.enforce_core.specs.Asked.{CutStops}
use Rattle.enforce_core.specs.Helps.Cut.{PieceStops}
use Rattle.enforce_core.specs.Pieces.{pieces, pieces_of, rise}
use Rattle.enforce_core.specs.declared.stops.AskStop.{AskStop}
use Rattle.enforce_core.specs.declared.stops.AskStop.TheVariants as stop

-- the datum of a text
text_datum : (held : List ℕ) → datum (kind.Text held) ≡ text held
text_datum held = ap datum (sym (kind.rolls-Text held)) ∙ fold-roll-Value Datum datum_step (Value-F.Text held)

-- a text that was put behind other values
pub text_pushed : (values more : List Value) (held : List ℕ) → more ≡ values ++ kind.Text held ∷ [] → map datum more ≡ map datum values ++ text held ∷ []
text_pushed values more held pushed = ap (map datum) pushed ∙ map_push datum values (kind.Text held) ∙ ap (λ (d : Datum). map datum values ++ d ∷ []) (text_datum held)

-- the first of what is left of a list stands in it
head_of_drop : {X : Type 0} (xs : List X) (i : ℕ) (x : X) (rest : List X) → drop i xs ≡ x ∷ rest → slice_get xs i ≡ Some x
head_of_drop {X} [] zero x rest is = absurd cc
head_of_drop {X} [] (suc i) x rest is = absurd cc
head_of_drop {X} (y ∷ ys) zero x rest is = ap (λ (l : List X). slice_get l zero) is
head_of_drop {X} (y ∷ ys) (suc i) x rest is = head_of_drop ys i x rest is

-- one step on in what is left
tail_of_drop : {X : Type 0} (xs : List X) (i : ℕ) (x : X) (rest : List X) → drop i xs ≡ x ∷ rest → drop (suc i) xs ≡ rest
tail_of_drop [] zero x rest is = absurd cc
tail_of_drop [] (suc i) x rest is = absurd cc
tail_of_drop (y ∷ ys) zero x rest is = ap (drop (suc zero)) is
tail_of_drop (y ∷ ys) (suc i) x rest is = tail_of_drop ys i x rest is

-- the next piece, of what is left
next_piece : (bytes : List ℕ) (from end : ℕ) (ends left : List ℕ) → left ≡ end ∷ ends → pieces bytes from left ≡ take (end - from) (drop from bytes) ∷ pieces bytes end ends
unfolding pieces
next_piece bytes from end ends left is = ap (pieces bytes from) is

-- no piece is left
no_piece : (bytes : List ℕ) (from : ℕ) (left : List ℕ) → left ≡ [] → pieces bytes from left ≡ []
unfolding pieces
no_piece bytes from left is = ap (pieces bytes from) is

-- an end in order
next_rise : (from most end : ℕ) (ends left : List ℕ) → left ≡ end ∷ ends → nat_le from end ≡ true → nat_le end most ≡ true → rise from most left ≡ rise end most ends
unfolding rise
next_rise from most end ends left is above within =
    ap (rise from most) is ∙ ap (λ (b : Bool). b && nat_le end most && rise end most ends) above ∙ ap (λ (b : Bool). b && rise end most ends) within

-- no end is left
no_rise : (from most : ℕ) (left : List ℕ) → left ≡ [] → rise from most left ≡ true
unfolding rise
no_rise from most left is = ap (rise from most) is

-- one that is out of order
bad_rise_from : (from most end : ℕ) (ends left : List ℕ) → left ≡ end ∷ ends → nat_le from end ≡ false → rise from most left ≡ false
unfolding rise
bad_rise_from from most end ends left is below = ap (rise from most) is ∙ ap (λ (b : Bool). b && nat_le end most && rise end most ends) below

-- of three tests the second fails
second_fails : (first second third : Bool) → second ≡ false → (first && second && third) ≡ false
second_fails true true third is = absurd cc
second_fails true false third is = refl
second_fails false second third is = refl

bad_rise_past : (from most end : ℕ) (ends left : List ℕ) → left ≡ end ∷ ends → nat_le end most ≡ false → rise from most left ≡ false
unfolding rise
bad_rise_past from most end ends left is past = ap (rise from most) is ∙ second_fails (nat_le from end) (nat_le end most) (rise end most ends) past

-- ---- the values under way

-- so many texts are values, these ends are left, and the last end is where the next piece begins
pub record IsCut (bytes ends rest : List ℕ) (number from : ℕ) (values : List Value) : Type 0 where
  pub same : map datum values ++ map text (pieces bytes from rest) ≡ map text (pieces_of bytes ends)
  pub left : pieces bytes from rest ≡ drop number (pieces_of bytes ends)
  pub rises : rise from (length bytes) rest ≡ rise 0 (length bytes) ends
  pub count : length values ≡ number
  pub within : from ≤ length bytes

module _ (bytes ends : List ℕ) where
  -- at the first end
  pub cut_none : (values : List Value) → values ≡ [] → IsCut bytes ends ends 0 0 values
  cut_none values none = subst (IsCut bytes ends ends 0 0) (sym none) (record {
    same = refl;
    left = refl;
    rises = refl;
    count = refl;
    within = omega arith;
  })

  module _ (rest behind : List ℕ) (number from end : ℕ) (values : List Value) (is : IsCut bytes ends rest number from values) (here : rest ≡ end ∷ behind) where
    abbrev piece : List ℕ
    piece = take (end - from) (drop from bytes)

    cut : pieces bytes from rest ≡ piece ∷ pieces bytes end behind
    cut = next_piece bytes from end behind rest here

    -- one end on
    pub cut_next : (more : List Value) (held : List ℕ) → from ≤ end → end ≤ length bytes → held ≡ take (end - from) (drop from bytes) → map datum more ≡ map datum values ++ text held ∷ [] → IsCut bytes ends behind (number + 1) end more
    cut_next more held above most made pushed =
        let on : suc number ≡ number + 1 = omega arith in
        let front : map datum more ≡ map datum values ++ text piece ∷ [] = pushed ∙ ap (λ (t : List ℕ). map datum values ++ text t ∷ []) made in
        record {
          same = ap (λ (ds : List Datum). ds ++ map text (pieces bytes end behind)) front ∙ append_assoc (map datum values) (text piece ∷ []) (map text (pieces bytes end behind))
              ∙ ap (λ (ps : List (List ℕ)). map datum values ++ map text ps) (sym cut) ∙ is.same;
          left = sym (tail_of_drop (pieces_of bytes ends) number piece (pieces bytes end behind) (sym is.left ∙ cut)) ∙ ap (λ (n : ℕ). drop n (pieces_of bytes ends)) on;
          rises = sym (next_rise from (length bytes) end behind rest here (le-leb from end above) (le-leb end (length bytes) most)) ∙ is.rises;
          count = omega (arith, ap (λ (ds : List Datum). length ds) pushed, length-append (map datum values) (text held ∷ []), length-map more datum, length-map values datum, is.count);
          within = most;
        }

    -- an end that is out of order
    pub cut_below : end < from → rise 0 (length bytes) ends ≡ false
    cut_below below = sym is.rises ∙ bad_rise_from from (length bytes) end behind rest here (lt-leb from end below)

    pub cut_past : length bytes < end → rise 0 (length bytes) ends ≡ false
    cut_past past = sym is.rises ∙ bad_rise_past from (length bytes) end behind rest here (lt-leb end (length bytes) past)

    -- a piece that is no text
    pub cut_bad : (held : List ℕ) → held ≡ take (end - from) (drop from bytes) → (why : AskStop) → PieceStops held (number + 1) why → CutStops bytes ends why
    cut_bad held made (stop.NotUtf8 field) bad =
        let place : number ≡ field - 1 = omega (arith, bad.0) in
        record {
          piece = piece;
          is = subst (λ (n : ℕ). slice_get (pieces_of bytes ends) n ≡ Some piece) place (head_of_drop (pieces_of bytes ends) number piece (pieces bytes end behind) (sym is.left ∙ cut));
          bad = subst (λ (t : List ℕ). IsUtf8 t → ⊥) made bad.1;
        }
    cut_bad held made stop.NoMemory bad = tt
    cut_bad held made stop.Ends bad = absurd bad
    cut_bad held made (stop.Request fault) bad = absurd bad
    cut_bad held made (stop.Arity got want) bad = absurd bad

  -- all ends are behind
  module _ (rest : List ℕ) (number from : ℕ) (values : List Value) (is : IsCut bytes ends rest number from values) (none : rest ≡ []) where
    pub cut_all : map datum values ≡ map text (pieces_of bytes ends)
    cut_all = sym (append-nil (map datum values)) ∙ ap (λ (ps : List (List ℕ)). map datum values ++ map text ps) (sym (no_piece bytes from rest none)) ∙ is.same

    pub cut_rises : rise 0 (length bytes) ends ≡ true
    cut_rises = sym is.rises ∙ no_rise from (length bytes) rest none
