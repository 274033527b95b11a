-- Divisions in which equal names have equal parts, from the left.
use Rattle.std.proofs.Common.{◌≡◌, ℕ, ◌+◌, ◌-◌, ◌≤◌, Bool, true, false, not, ◌&&◌, List, [], ◌∷◌, ◌++◌, length, take, drop, None, Some, is_some, cond, IsTrue, refl, ap, sym, ◌∙◌, subst, arith, length-drop}
use Rattle.std.specs.List.{concat, list_any}
use Rattle.std.specs.Prelude.{◌↔◌}
use Rattle.std.specs.Str.{bytes_eq}
use Rattle.std.proofs.lemmas.Bool.{false≢true}
use Rattle.std.proofs.lemmas.List.{drop-drop, take-append-drop, length-take-le, take_all}
use Rattle.std.proofs.lemmas.Slice.Eq.{bytes_eq-Decides}
use Rattle.key_match.specs.Pieces.{ByteSet, Piece, One, Segment, Stretch, Rest, StandsFor, Divides}
use Rattle.key_match.specs.Divisions.{has_name}
use Rattle.key_match.specs.Names.{EachNamed, NamesAgree, CoversAlike}
use Rattle.key_match.specs.Helps.Fits.{pieces_fit, pieces_from}
use Rattle.key_match.specs.Helps.Parts.{part_between}
use Rattle.key_match.specs.Helps.Given.{given_part, given_to, repeats, is_free_of, AreParts, GivenAgree, CoversGiven, CutsAlike, IsNameless, PassesTo}
use Rattle.key_match.specs.Helps.Tokens.{pieces_at}
use Rattle.key_match.specs.declared.fit.Place.{Place}
use Rattle.key_match.specs.declared.token.Dialect.TheVariants.{Brace}
use Rattle.key_match.specs.declared.alike.Given.{Given, Nothing, And'}
use Rattle.key_match.proofs.Bools.{and_first, and_second, or-false_first, or-false_second}
use Rattle.key_match.proofs.Covers.{Covers-from_fits, fits-from_Covers}
use Rattle.key_match.proofs.Parts.{IsCut-from, HasFit-from, AreEnds-one}

-- ---- names

bytes_same : (xs ys : List ℕ) → bytes_eq xs ys ≡ true → xs ≡ ys
bytes_same xs ys h = (bytes_eq-Decides xs ys).0 h

same_bytes : (xs ys : List ℕ) → xs ≡ ys → bytes_eq xs ys ≡ true
same_bytes xs ys h = (bytes_eq-Decides xs ys).1 h

not-true_false : (b : Bool) → not b ≡ true → b ≡ false
not-true_false true h = absurd (false≢true h)
not-true_false false h = refl

given_to-named : (given : Given) (name : List ℕ) (piece : Piece) → has_name name piece ≡ true → given_to given piece ≡ given_part given name
given_to-named given name (One bytes) h = absurd (false≢true h)
given_to-named given name (Segment found) h = ap (given_part given) (bytes_same found name h)
given_to-named given name Stretch h = absurd (false≢true h)
given_to-named given name Rest h = absurd (false≢true h)

EachNamed-given : (given : Given) (name part : List ℕ) (pieces : List Piece) (parts : List (List ℕ)) → given_part given name ≡ Some part → GivenAgree given pieces parts → EachNamed name part pieces parts
EachNamed-given given name part [] parts e h = tt
EachNamed-given given name part (piece ∷ pieces) [] e h = tt
EachNamed-given given name part (piece ∷ pieces) (found ∷ parts) e h =
    (λ named. h.0 part (given_to-named given name piece named ∙ e), EachNamed-given given name part pieces parts e h.1)

EachNamed-none : (name part : List ℕ) (pieces : List Piece) (parts : List (List ℕ)) → list_any (has_name name) pieces ≡ false → EachNamed name part pieces parts
EachNamed-none name part [] parts h = tt
EachNamed-none name part (piece ∷ pieces) [] h = tt
EachNamed-none name part (piece ∷ pieces) (found ∷ parts) h =
    (λ named. absurd (false≢true (sym (or-false_first (has_name name piece) _ h) ∙ named)), EachNamed-none name part pieces parts (or-false_second (has_name name piece) _ h))

-- ---- nothing to agree on

none_given : (given : Given) (piece : Piece) (wanted : List ℕ) → is_some (given_to given piece) ≡ false → given_to given piece ≡ Some wanted → ⊥
none_given given piece wanted h e = false≢true (sym h ∙ ap is_some e)

repeats-named : (name : List ℕ) (piece : Piece) (pieces : List Piece) → has_name name piece ≡ true → repeats piece pieces ≡ false → list_any (has_name name) pieces ≡ false
repeats-named name (One bytes) pieces h k = absurd (false≢true h)
repeats-named name (Segment found) pieces h k = ap (λ (n : List ℕ). list_any (has_name n) pieces) (sym (bytes_same found name h)) ∙ k
repeats-named name Stretch pieces h k = absurd (false≢true h)
repeats-named name Rest pieces h k = absurd (false≢true h)

free-agrees : (given : Given) (pieces : List Piece) (parts : List (List ℕ)) → is_free_of given pieces ≡ true → NamesAgree pieces parts × GivenAgree given pieces parts
free-agrees given [] parts h = (tt, tt)
free-agrees given (piece ∷ pieces) [] h = (tt, tt)
free-agrees given (piece ∷ pieces) (part ∷ parts) h =
    let new = not (is_some (given_to given piece)) in
    let single = not (repeats piece pieces) in
    let front : (new && single) ≡ true = and_first (new && single) _ h in
    let after = free-agrees given pieces parts (and_second (new && single) _ h) in
    let fresh = not-true_false (is_some (given_to given piece)) (and_first new _ front) in
    let alone = not-true_false (repeats piece pieces) (and_second new _ front) in
    ((λ name named. EachNamed-none name part pieces parts (repeats-named name piece pieces named alone), after.0), (λ wanted e. absurd (none_given given piece wanted fresh e), after.1))

pub CoversGiven-free : (given : Given) (pieces : List Piece) (text : List ℕ) → is_free_of given pieces ≡ true → pieces_fit pieces text ≡ true → CoversGiven given pieces text
CoversGiven-free given pieces text free h =
    let covers = Covers-from_fits pieces text h in
    let agrees = free-agrees given pieces covers.0 free in
    record { parts = covers.0; divides = covers.1; names = agrees.0; agree = agrees.1 }

pub fits-from_CoversGiven : (given : Given) (pieces : List Piece) (text : List ℕ) → CoversGiven given pieces text → pieces_fit pieces text ≡ true
fits-from_CoversGiven given pieces text h = fits-from_Covers pieces text (h.parts, h.divides)

-- with no part given
nothing_given : (pieces : List Piece) (parts : List (List ℕ)) → GivenAgree Nothing pieces parts
nothing_given [] parts = tt
nothing_given (piece ∷ pieces) [] = tt
nothing_given (piece ∷ pieces) (part ∷ parts) = (λ wanted e. absurd (nothing_to piece wanted e), nothing_given pieces parts)
  where
    nothing_to : (piece : Piece) (wanted : List ℕ) → given_to Nothing piece ≡ Some wanted → ⊥
    nothing_to (One bytes) wanted e = cc
    nothing_to (Segment name) wanted e = cc
    nothing_to Stretch wanted e = cc
    nothing_to Rest wanted e = cc

pub CoversGiven-nothing : (pieces : List Piece) (text : List ℕ) → CoversAlike pieces text → CoversGiven Nothing pieces text
CoversGiven-nothing pieces text h = record { parts = h.0; divides = h.1; names = h.2; agree = nothing_given pieces h.0 }

pub CoversAlike-given : (given : Given) (pieces : List Piece) (text : List ℕ) → CoversGiven given pieces text → CoversAlike pieces text
CoversAlike-given given pieces text h = (h.parts, h.divides, h.names)

-- ---- the first part

-- some end of the first part gives such a division
abbrev pub HasCut : Given → Piece → List Piece → List ℕ → ℕ → Type 0
HasCut given piece pieces key from =
    (end : ℕ) × (from ≤ end) × (end ≤ length key) × StandsFor piece (part_between key from end) × CutsAlike given piece pieces key from end

pub HasCut-from : (given : Given) (piece : Piece) (pieces : List Piece) (key : List ℕ) (from : ℕ) → from ≤ length key → CoversGiven given (piece ∷ pieces) (drop from key) → HasCut given piece pieces key from
HasCut-from given piece pieces key from within h = go h.parts h.divides h.names h.agree
  where
    go : (parts : List (List ℕ)) → Divides (piece ∷ pieces) (drop from key) parts → NamesAgree (piece ∷ pieces) parts → GivenAgree given (piece ∷ pieces) parts → HasCut given piece pieces key from
    go [] divides names agree = absurd divides.each
    go (part ∷ parts) divides names agree =
        let cut = IsCut-from key from part (concat parts) within (sym divides.whole) in
        let end = from + length part in (
          end,
          cut.after_from,
          cut.within,
          subst (StandsFor piece) (sym cut.part_is) divides.each.0,
          (
            parts,
            record { whole = sym cut.rest_is; each = divides.each.1 },
            subst (λ (x : List ℕ). NamesAgree (piece ∷ pieces) (x ∷ parts)) (sym cut.part_is) names,
            subst (λ (x : List ℕ). GivenAgree given (piece ∷ pieces) (x ∷ parts)) (sym cut.part_is) agree,
          ),
        )

pub CoversGiven-cut : (given : Given) (piece : Piece) (pieces : List Piece) (key : List ℕ) (from end : ℕ) → from ≤ end → StandsFor piece (part_between key from end) → CutsAlike given piece pieces key from end → CoversGiven given (piece ∷ pieces) (drop from key)
CoversGiven-cut given piece pieces key from end above stands cut =
    let n = end - from in
    let there : from + n ≡ end = omega arith in
    let left : drop n (drop from key) ≡ drop end key = drop-drop n from key ∙ ap (λ k. drop k key) there in
    record {
      parts = part_between key from end ∷ cut.0;
      divides = record {
        whole = ap (λ xs. take n (drop from key) ++ xs) (cut.1.whole ∙ sym left) ∙ take-append-drop n (drop from key);
        each = (stands, cut.1.each);
      };
      names = cut.2;
      agree = cut.3;
    }

-- a piece without a name
pub CutsAlike-nameless : (given : Given) (piece : Piece) (pieces : List Piece) (key : List ℕ) (from end : ℕ) → IsNameless piece → CoversGiven given pieces (drop end key) → CutsAlike given piece pieces key from end
CutsAlike-nameless given piece pieces key from end nameless h =
    (h.parts, h.divides, (λ name named. absurd (false≢true (sym (nameless.unnamed name) ∙ named)), h.names), (λ wanted e. absurd (let none = nameless.ungiven given in let clash : None ≡ Some wanted = sym none ∙ e in cc), h.agree))

pub CoversGiven-after : (given : Given) (piece : Piece) (pieces : List Piece) (key : List ℕ) (from end : ℕ) → CutsAlike given piece pieces key from end → CoversGiven given pieces (drop end key)
CoversGiven-after given piece pieces key from end cut = record { parts = cut.0; divides = cut.1; names = cut.2.1; agree = cut.3.1 }

-- a segment whose name was given this part
pub CutsAlike-given : (given : Given) (name : List ℕ) (pieces : List Piece) (key : List ℕ) (from end : ℕ) → given_part given name ≡ Some (part_between key from end) → CoversGiven given pieces (drop end key) → CutsAlike given (Segment name) pieces key from end
CutsAlike-given given name pieces key from end e h =
    let part = part_between key from end in (
      h.parts,
      h.divides,
      (λ other named. EachNamed-given given other part pieces h.parts (ap (given_part given) (sym (bytes_same name other named)) ∙ e) h.agree, h.names),
      (λ wanted d. let same : Some part ≡ Some wanted = sym e ∙ d in cc, h.agree),
    )

pub part_given : (given : Given) (name part : List ℕ) (pieces : List Piece) (key : List ℕ) (from end : ℕ) → given_part given name ≡ Some part → CutsAlike given (Segment name) pieces key from end → part_between key from end ≡ part
part_given given name part pieces key from end e cut = cut.3.0 part e

-- a segment with a new name
GivenAgree-more : (name part : List ℕ) (given more : Given) (pieces : List Piece) (parts : List (List ℕ)) → ((other : List ℕ) → given_part more other ≡ cond (bytes_eq name other) (Some part) (given_part given other)) → EachNamed name part pieces parts → GivenAgree given pieces parts → GivenAgree more pieces parts
GivenAgree-more name part given more [] parts e named h = tt
GivenAgree-more name part given more (piece ∷ pieces) [] e named h = tt
GivenAgree-more name part given more (piece ∷ pieces) (found ∷ parts) e named h =
    (agree piece named.0 h.0, GivenAgree-more name part given more pieces parts e named.1 h.1)
  where
    agree : (piece : Piece) → (IsTrue (has_name name piece) → found ≡ part) → ((wanted : List ℕ) → given_to given piece ≡ Some wanted → found ≡ wanted) → (wanted : List ℕ) → given_to more piece ≡ Some wanted → found ≡ wanted
    agree (One bytes) named old wanted d = old wanted d
    agree (Segment other) named old wanted d = go (bytes_eq name other) refl
      where
        go : (v : Bool) → bytes_eq name other ≡ v → found ≡ wanted
        go true same =
            let it : Some part ≡ Some wanted = sym (ap (λ b. cond b (Some part) (given_part given other)) same) ∙ sym (e other) ∙ d in
            let its : found ≡ part = named (same_bytes other name (sym (bytes_same name other same))) in
            cc
        go false differ = old wanted (sym (ap (λ b. cond b (Some part) (given_part given other)) differ) ∙ sym (e other) ∙ d)
    agree Stretch named old wanted d = old wanted d
    agree Rest named old wanted d = old wanted d

GivenAgree-less : (name part : List ℕ) (given more : Given) (pieces : List Piece) (parts : List (List ℕ)) → ((other : List ℕ) → given_part more other ≡ cond (bytes_eq name other) (Some part) (given_part given other)) → given_part given name ≡ None → GivenAgree more pieces parts → GivenAgree given pieces parts
GivenAgree-less name part given more [] parts e new h = tt
GivenAgree-less name part given more (piece ∷ pieces) [] e new h = tt
GivenAgree-less name part given more (piece ∷ pieces) (found ∷ parts) e new h =
    (agree piece h.0, GivenAgree-less name part given more pieces parts e new h.1)
  where
    agree : (piece : Piece) → ((wanted : List ℕ) → given_to more piece ≡ Some wanted → found ≡ wanted) → (wanted : List ℕ) → given_to given piece ≡ Some wanted → found ≡ wanted
    agree (One bytes) now wanted d = now wanted d
    agree (Segment other) now wanted d = go (bytes_eq name other) refl
      where
        go : (v : Bool) → bytes_eq name other ≡ v → found ≡ wanted
        go true same =
            let clash : None ≡ Some wanted = sym new ∙ ap (given_part given) (bytes_same name other same) ∙ d in
            cc
        go false differ = now wanted (e other ∙ ap (λ b. cond b (Some part) (given_part given other)) differ ∙ d)
    agree Stretch now wanted d = now wanted d
    agree Rest now wanted d = now wanted d

pub CoversGiven-more : (given more : Given) (name : List ℕ) (pieces : List Piece) (key : List ℕ) (from end : ℕ) → ((other : List ℕ) → given_part more other ≡ cond (bytes_eq name other) (Some (part_between key from end)) (given_part given other)) → CutsAlike given (Segment name) pieces key from end → CoversGiven more pieces (drop end key)
CoversGiven-more given more name pieces key from end e cut =
    let part = part_between key from end in
    record {
      parts = cut.0;
      divides = cut.1;
      names = cut.2.1;
      agree = GivenAgree-more name part given more pieces cut.0 e (cut.2.0 name (same_bytes name name refl)) cut.3.1;
    }

pub CutsAlike-more : (given more : Given) (name : List ℕ) (pieces : List Piece) (key : List ℕ) (from end : ℕ) → given_part given name ≡ None → CoversGiven more pieces (drop end key) → ((other : List ℕ) → given_part more other ≡ cond (bytes_eq name other) (Some (part_between key from end)) (given_part given other)) → CutsAlike given (Segment name) pieces key from end
CutsAlike-more given more name pieces key from end new h e =
    let part = part_between key from end in
    let own : given_part more name ≡ Some part = e name ∙ ap (λ b. cond b (Some part) (given_part given name)) (same_bytes name name refl) in (
      h.parts,
      h.divides,
      (λ other named. EachNamed-given more other part pieces h.parts (ap (given_part more) (sym (bytes_same name other named)) ∙ own) h.agree, h.names),
      (λ wanted d. absurd (let clash : None ≡ Some wanted = sym new ∙ d in cc), GivenAgree-less name part given more pieces h.parts e new h.agree),
    )

-- ---- passing over a byte

pub nameless-one : (bytes : ByteSet) → IsNameless (One bytes)
nameless-one bytes = record { unnamed = λ name. refl; ungiven = λ given. refl }

pub byte-forward : (given : Given) (bytes : ByteSet) (pieces : List Piece) (key : List ℕ) (from : ℕ) → from ≤ length key → CoversGiven given (One bytes ∷ pieces) (drop from key) → CoversGiven given pieces (drop (from + 1) key)
byte-forward given bytes pieces key from within h =
    let cut = HasCut-from given (One bytes) pieces key from within h in
    let ends = (AreEnds-one bytes key from (cut.0, cut.1, cut.2, cut.3)).only cut.0 cut.1 cut.2 cut.3 in
    let same : cut.0 ≡ from + 1 = omega (arith, ends.0, ends.1) in
    subst (λ (k : ℕ). CoversGiven given pieces (drop k key)) same (CoversGiven-after given (One bytes) pieces key from cut.0 cut.4)

pub byte-backward : (given : Given) (bytes : ByteSet) (pieces : List Piece) (key : List ℕ) (from : ℕ) → from ≤ length key → pieces_fit (One bytes ∷ pieces) (drop from key) ≡ true → CoversGiven given pieces (drop (from + 1) key) → CoversGiven given (One bytes ∷ pieces) (drop from key)
byte-backward given bytes pieces key from within h covers =
    let fit = HasFit-from (One bytes) pieces key from within h in
    let ends = AreEnds-one bytes key from (fit.0, fit.1, fit.2, fit.3) in
    CoversGiven-cut given (One bytes) pieces key from (from + 1) (omega arith) (ends.all (from + 1) (omega arith) (omega arith))
    (CutsAlike-nameless given (One bytes) pieces key from (from + 1) (nameless-one bytes) covers)

pub byte-fits : (bytes : ByteSet) (pieces : List Piece) (key : List ℕ) (from : ℕ) → from ≤ length key → pieces_fit (One bytes ∷ pieces) (drop from key) ≡ true → (from + 1 ≤ length key) × (pieces_fit pieces (drop (from + 1) key) ≡ true)
byte-fits bytes pieces key from within h =
    let fit = HasFit-from (One bytes) pieces key from within h in
    let ends = (AreEnds-one bytes key from (fit.0, fit.1, fit.2, fit.3)).only fit.0 fit.1 fit.2 fit.3 in
    let same : fit.0 ≡ from + 1 = omega (arith, ends.0, ends.1) in
    (omega (arith, fit.2), ap (λ k. pieces_fit pieces (drop k key)) (sym same) ∙ fit.4)

-- ---- passing over the part that a name was given

AreParts-given : (given : Given) (name part : List ℕ) → AreParts given → given_part given name ≡ Some part → StandsFor (Segment name) part
AreParts-given Nothing name part h e = absurd (let clash : None ≡ Some part = e in cc)
AreParts-given (And' found own p before) name part h e = go (bytes_eq found.now name) refl (AreParts-given before name part h.1)
  where
    go : (v : Bool) → bytes_eq found.now name ≡ v → (given_part before name ≡ Some part → StandsFor (Segment name) part) → StandsFor (Segment name) part
    go true same after =
        let it : Some own.now ≡ Some part = sym (ap (λ b. cond b (Some own.now) (given_part before name)) same) ∙ e in
        let its : own.now ≡ part = cc in
        subst (StandsFor (Segment name)) its h.0
    go false differ after = after (sym (ap (λ b. cond b (Some own.now) (given_part before name)) differ) ∙ e)

-- the key goes on with the part
abbrev pub GoesOnWith : List ℕ → List ℕ → ℕ → Type 0
GoesOnWith part key from = bytes_eq part (take (length part) (drop from key)) ≡ true

part_there : (part key : List ℕ) (from : ℕ) → GoesOnWith part key from → part_between key from (from + length part) ≡ part
part_there part key from h =
    let n : from + length part - from ≡ length part = omega arith in
    ap (λ k. take k (drop from key)) n ∙ sym (bytes_same part (take (length part) (drop from key)) h)

given-backward : (given : Given) (name part : List ℕ) (pieces : List Piece) (key : List ℕ) (from : ℕ) → given_part given name ≡ Some part → AreParts given → GoesOnWith part key from → CoversGiven given pieces (drop (from + length part) key) → CoversGiven given (Segment name ∷ pieces) (drop from key)
given-backward given name part pieces key from e parts on covers =
    let end = from + length part in
    let there = part_there part key from on in
    CoversGiven-cut given (Segment name) pieces key from end (omega arith) (subst (StandsFor (Segment name)) (sym there) (AreParts-given given name part parts e))
    (CutsAlike-given given name pieces key from end (e ∙ ap (λ (x : List ℕ). Some x) (sym there)) covers)

given-forward : (given : Given) (name part : List ℕ) (pieces : List Piece) (key : List ℕ) (from : ℕ) → given_part given name ≡ Some part → from ≤ length key → CoversGiven given (Segment name ∷ pieces) (drop from key) → GoesOnWith part key from × CoversGiven given pieces (drop (from + length part) key)
given-forward given name part pieces key from e within covers =
    let cut = HasCut-from given (Segment name) pieces key from within covers in
    let end = cut.0 in
    let le = cut.1 in
    let top = cut.2 in
    let same : part_between key from end ≡ part = part_given given name part pieces key from end e cut.4 in
    let long : length part ≡ end - from = ap length (sym same) ∙ length-take-le (end - from) (drop from key) (omega (arith, length-drop {A = ℕ})) in
    let there : end ≡ from + length part = omega arith in (
      same_bytes part (take (length part) (drop from key)) (sym same ∙ ap (λ n. take n (drop from key)) (sym long)),
      subst (λ (k : ℕ). CoversGiven given pieces (drop k key)) there (CoversGiven-after given (Segment name) pieces key from end cut.4),
    )

-- what tells whether the pieces behind bytes that are passed over cover the key tells it of all
pub told_behind : {pattern key : List ℕ} {from at : Place} {told : Bool} (given : Given) (pieces : List Piece) → PassesTo pattern key from at → pieces_at Brace pattern at.pattern ≡ pieces
    → (IsTrue told ↔ CoversGiven given pieces (drop at.key key)) → (IsTrue told ↔ CoversGiven given (pieces_from Brace pattern from) (drop from.key key))
told_behind {key = key} {at = at} given pieces passes read tells = (
  λ h. passes.backward given (subst (λ (p : List Piece). CoversGiven given p (drop at.key key)) (sym read) (tells.0 h)),
  λ covers. tells.1 (subst (λ (p : List Piece). CoversGiven given p (drop at.key key)) read (passes.forward given covers)),
)

-- where a segment's name was given a part, the key goes on with that part or does not fit
module _ {pattern key : List ℕ} {from at : Place} {starts : Bool} (given : Given) (name part : List ℕ) (next : List Piece) (passes : PassesTo pattern key from at) (read : pieces_at Brace pattern at.pattern ≡ Segment name ∷ next)
    (wanted : given_part given name ≡ Some part) (is : starts ≡ bytes_eq part (take (length part) (take (length key - at.key) (drop at.key key)))) where
  goes_on : starts ≡ bytes_eq part (take (length part) (drop at.key key))
  goes_on = is ∙ ap (λ (x : List ℕ). bytes_eq part (take (length part) x)) (take_all (length key - at.key) (drop at.key key) (omega (arith, length-drop {A = ℕ})))

  pub told_part : {told : Bool} → AreParts given → starts ≡ true → (IsTrue told ↔ CoversGiven given next (drop (at.key + length part) key)) → (IsTrue told ↔ CoversGiven given (pieces_from Brace pattern from) (drop from.key key))
  told_part parts on tells =
      told_behind given (Segment name ∷ next) passes read
      (λ h. given-backward given name part next key at.key wanted parts (sym goes_on ∙ on) (tells.0 h), λ covers. tells.1 (given-forward given name part next key at.key wanted passes.key_within covers).1)

  pub told_other : starts ≡ false → (IsTrue starts ↔ CoversGiven given (pieces_from Brace pattern from) (drop from.key key))
  told_other off =
      told_behind given (Segment name ∷ next) passes read (λ h. absurd (false≢true (sym off ∙ h)), λ covers. goes_on ∙ (given-forward given name part next key at.key wanted passes.key_within covers).0)
