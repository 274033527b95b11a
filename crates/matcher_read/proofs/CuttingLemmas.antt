-- The cut of a text is what is computed, and it is one.
use Rattle.std.proofs.Common.{◌≡◌, ℕ, zero, suc, ◌+◌, ◌<◌, ◌≤◌, Bool, true, false, cond, List, [], ◌∷◌, ◌++◌, length, take, drop, Option, Some, None, refl, sym, ap, ◌∙◌, subst, inl, inr, arith}
use Rattle.std.proofs.lemmas.Bool.{cases_lt}
use Rattle.std.proofs.lemmas.List.{append-nil, length-append, length-drop, length-take, nil_from_length, take-append-drop}
use Rattle.std.proofs.lemmas.List.Sums.{prefix_len-drop_all, prefix_len-drop_no, prefix_len-le-length, prefix_len_stops}
use Rattle.std.proofs.Math.Seq.{drop-append_seam}
use Rattle.text_parts.specs.Blanks.{AreBlanks, behind_blanks, is_blank}
use Rattle.matcher_read.specs.Tokens.{Placed, placed, IsLongest, IsCut, ended, strayed, one_token}
use Rattle.matcher_read.specs.Helps.Cuts.{Found, sized_token, token_at, Cut, onto_cut, cut_at_token, cut_full, blanks, cut_within, cut}
use Rattle.text_parts.proofs.BlankLemmas.{behind_blanks-drop}
use Rattle.text_parts.proofs.CallerLemmas.{prefix_len-passing, list_all-prefix}
use Rattle.matcher_read.proofs.TokenLemmas.{token_at-spelled, token_at-longest, token_at-full, token_at-is, token_at-none, token_at-stray}

abbrev pub the_cut : List Placed → Option ℕ → Cut
the_cut tokens stray = record { tokens = tokens; stray = stray }

-- the text behind its blanks
pub record IsBehind (text front : List ℕ) : Type 0 where
  pub rest : front ≡ drop (blanks text) text
  pub size : blanks text + length front ≡ length text

pub is_behind : (text front : List ℕ) → front ≡ behind_blanks text → IsBehind text front
is_behind text front e =
    let rest : front ≡ drop (blanks text) text = e ∙ behind_blanks-drop text in
    record {
      rest = rest;
      size = omega (arith, ap length rest, length-drop (blanks text) text, prefix_len-le-length is_blank text);
    }

-- behind the blanks stands none
pub blanks-behind : (bytes : List ℕ) → blanks (drop (blanks bytes) bytes) ≡ 0
blanks-behind bytes =
    elim (cases_lt (blanks bytes) (length bytes)) as (λ _. blanks (drop (blanks bytes) bytes) ≡ 0) [
      | inl within ↦ prefix_len-drop_no is_blank bytes (blanks bytes) 0 within (prefix_len_stops is_blank bytes 0 within)
      | inr past ↦ prefix_len-drop_all is_blank bytes (blanks bytes) past
    ]

blank_first : (t : Bool) (n : ℕ) → cond t (1 + n) 0 ≡ 0 → t ≡ false
blank_first true n e = absurd (omega arith)
blank_first false n e = refl

full_first : (byte : ℕ) (bytes : List ℕ) → blanks (byte ∷ bytes) ≡ 0 → is_blank byte ≡ false
full_first byte bytes e = blank_first (is_blank byte) (blanks bytes) e

no_blanks : (byte : ℕ) (bytes : List ℕ) → is_blank byte ≡ false → blanks (byte ∷ bytes) ≡ 0
no_blanks byte bytes e = ap (λ (t : Bool). cond t (1 + blanks bytes) 0) e

-- what is computed is a cut
cut_at_token-sound : (next : ℕ → List ℕ → Cut) (at place : ℕ) (blank front : List ℕ) (o : Option Found) → 0 < length front → token_at front ≡ o → blanks front ≡ 0 → AreBlanks blank → at ≡ place + length blank
    → ((p : ℕ) (rest : List ℕ) → length rest < length front → IsCut p rest (next p rest).tokens (next p rest).stray)
    → IsCut place (blank ++ front) (cut_at_token next at front o).tokens (cut_at_token next at front o).stray
cut_at_token-sound next at place blank [] o some e full is here rest = absurd (omega arith)
cut_at_token-sound next at place blank (byte ∷ bytes) None some e full is here rest =
    subst (λ (p : ℕ). IsCut place (blank ++ byte ∷ bytes) [] (Some p)) (sym here) (strayed blank (byte ∷ bytes) is (record {
      some = (byte, bytes, refl, full_first byte bytes full);
      none = token_at-none (byte ∷ bytes) e;
    }) refl)
cut_at_token-sound next at place blank (byte ∷ bytes) (Some front) some e full is here rest =
    let text : List ℕ = byte ∷ bytes in
    let spelling : List ℕ = take front.size text in
    let behind : List ℕ = drop front.size text in
    let there = token_at-spelled text front e in
    let size : length spelling ≡ front.size = omega (arith, length-take front.size text, there.within) in
    let parts : spelling ++ behind ≡ text = take-append-drop front.size text in
    let longest : IsLongest front.token spelling (spelling ++ behind) = subst (λ (t : List ℕ). IsLongest front.token spelling t) (sym parts) (token_at-longest text front e) in
    let shorter : length behind < length text = omega (arith, length-drop front.size text, there.some) in
    let same : at + front.size ≡ place + length blank + length spelling = omega (arith, here, size) in
    let cut_behind = rest (at + front.size) behind shorter in
    let moved : IsCut (place + length blank + length spelling) behind (next (at + front.size) behind).tokens (next (at + front.size) behind).stray = subst (λ (p : ℕ). IsCut p behind (next (at + front.size) behind).tokens (next (at + front.size) behind).stray) same cut_behind in
    subst (λ (p : ℕ). IsCut place (blank ++ text) (placed p front.token ∷ (next (at + front.size) behind).tokens) (next (at + front.size) behind).stray) (sym here) (one_token blank spelling behind is longest moved (ap (λ (t : List ℕ). blank ++ t) (sym parts)))

cut_full-sound : (next : ℕ → List ℕ → Cut) (at place : ℕ) (blank front : List ℕ) → blanks front ≡ 0 → AreBlanks blank → at ≡ place + length blank
    → ((p : ℕ) (rest : List ℕ) → length rest < length front → IsCut p rest (next p rest).tokens (next p rest).stray)
    → IsCut place (blank ++ front) (cut_full next at front).tokens (cut_full next at front).stray
cut_full-sound next at place blank [] full is here rest = subst (λ (t : List ℕ). IsCut place t [] None) (sym (append-nil blank)) (ended is)
cut_full-sound next at place blank (byte ∷ bytes) full is here rest = cut_at_token-sound next at place blank (byte ∷ bytes) (token_at (byte ∷ bytes)) (omega arith) refl full is here rest

cut_within-sound : (most place : ℕ) (bytes : List ℕ) → length bytes ≤ most → IsCut place bytes (cut_within most place bytes).tokens (cut_within most place bytes).stray
unfolding cut_within
cut_within-sound zero place bytes few = subst (λ (t : List ℕ). IsCut place t [] None) (sym (nil_from_length bytes (omega arith))) (ended refl)
cut_within-sound (suc most) place bytes few =
    let n : ℕ = blanks bytes in
    let blank : List ℕ = take n bytes in
    let front : List ℕ = drop n bytes in
    let size : length blank ≡ n = omega (arith, length-take n bytes, prefix_len-le-length is_blank bytes) in
    let cut_front = cut_full-sound (cut_within most) (place + n) place blank front (blanks-behind bytes) (list_all-prefix is_blank bytes) (omega arith) (λ p rest shorter. cut_within-sound most p rest (omega (arith, length-drop n bytes))) in
    subst (λ (t : List ℕ). IsCut place t (cut_full (cut_within most) (place + n) front).tokens (cut_full (cut_within most) (place + n) front).stray) (take-append-drop n bytes) cut_front

-- a cut is what is computed
pub cut_within-front : (most place : ℕ) (blank front : List ℕ) → AreBlanks blank → blanks front ≡ 0 → cut_within (suc most) place (blank ++ front) ≡ cut_full (cut_within most) (place + length blank) front
unfolding cut_within
cut_within-front most place blank front is full =
    let n : blanks (blank ++ front) ≡ length blank = omega (arith, prefix_len-passing is_blank blank front is, full) in
    ap (λ (k : ℕ). cut_full (cut_within most) (place + k) (drop k (blank ++ front))) n ∙ ap (λ (t : List ℕ). cut_full (cut_within most) (place + length blank) t) (drop-append_seam blank front)

pub cut_full-at : (next : ℕ → List ℕ → Cut) (place : ℕ) (bytes : List ℕ) (o : Option Found) → 0 < length bytes → token_at bytes ≡ o → cut_full next place bytes ≡ cut_at_token next place bytes o
cut_full-at next place [] o some e = absurd (omega arith)
cut_full-at next place (byte ∷ bytes) o some e = ap (λ (f : Option Found). cut_at_token next place (byte ∷ bytes) f) e

-- a token where there is one
pub cut_full-token : (next : ℕ → List ℕ → Cut) (place : ℕ) (bytes : List ℕ) (front : Found) → token_at bytes ≡ Some front → cut_full next place bytes ≡ onto_cut (placed place front.token) (next (place + front.size) (drop front.size bytes))
cut_full-token next place bytes front e =
    let there = token_at-spelled bytes front e in
    cut_full-at next place bytes (Some front) (omega (arith, there.some, there.within)) e

pub cut_within-one : (most : ℕ) {place : ℕ} {bytes : List ℕ} {tokens : List Placed} {stray : Option ℕ} → IsCut place bytes tokens stray → length bytes ≤ most → cut_within most place bytes ≡ the_cut tokens stray
unfolding cut_within
cut_within-one zero (ended {place = place} {blanks = blank} is) few = refl
cut_within-one zero (strayed {place = place} blank bytes {text = text} is begins e) few =
    let some : length text ≡ length blank + suc (length begins.some.1) = ap length e ∙ length-append blank bytes ∙ ap (λ (t : List ℕ). length blank + length t) begins.some.2 in
    absurd (omega arith)
cut_within-one zero (one_token {place = place} blank spelling behind {text = text} is longest rest e) few =
    let front = token_at-is _ spelling behind longest in
    let there = token_at-spelled (spelling ++ behind) _ front in
    absurd (omega (arith, ap length e, length-append blank (spelling ++ behind), there.some, there.within))
cut_within-one (suc most) (ended {place = place} {blanks = blank} is) few =
    ap (λ (t : List ℕ). cut_within (suc most) place t) (sym (append-nil blank)) ∙ cut_within-front most place blank [] is refl
cut_within-one (suc most) (strayed {place = place} blank bytes {text = text} is begins e) few =
    let full : blanks bytes ≡ 0 = ap blanks begins.some.2 ∙ no_blanks begins.some.0 begins.some.1 begins.some.3 in
    let some : 0 < length bytes = omega (arith, ap length begins.some.2) in
    ap (λ (t : List ℕ). cut_within (suc most) place t) e ∙ cut_within-front most place blank bytes is full ∙ cut_full-at (cut_within most) (place + length blank) bytes None some (token_at-stray bytes begins)
cut_within-one (suc most) (one_token {place = place} blank spelling behind {text = text} {token = token} is longest rest e) few =
    let front = token_at-is token spelling behind longest in
    let there = token_at-spelled (spelling ++ behind) (sized_token token (length spelling)) front in
    let full = token_at-full (spelling ++ behind) (sized_token token (length spelling)) front in
    let at : ℕ = place + length blank in
    let short : length behind ≤ most = omega (arith, ap length e, length-append blank (spelling ++ behind), length-append spelling behind, there.some) in
    ap (λ (t : List ℕ). cut_within (suc most) place t) e ∙ cut_within-front most place blank (spelling ++ behind) is full ∙ cut_full-token (cut_within most) at (spelling ++ behind) (sized_token token (length spelling)) front
    ∙ ap (λ (t : List ℕ). onto_cut (placed at token) (cut_within most (at + length spelling) t)) (drop-append_seam spelling behind) ∙ ap (λ (c : Cut). onto_cut (placed at token) c) (cut_within-one most rest short)

pub cut-is : (place : ℕ) (bytes : List ℕ) → IsCut place bytes (cut place bytes).tokens (cut place bytes).stray
unfolding cut
cut-is place bytes = cut_within-sound (length bytes) place bytes (omega arith)

pub cut-one : {place : ℕ} {bytes : List ℕ} {tokens : List Placed} {stray : Option ℕ} → IsCut place bytes tokens stray → cut place bytes ≡ the_cut tokens stray
unfolding cut
cut-one {bytes = bytes} is = cut_within-one (length bytes) is (omega arith)

-- the law that a text is cut in one way
pub cut_is_one : {place : ℕ} {bytes : List ℕ} {tokens others : List Placed} {stray other : Option ℕ} → IsCut place bytes tokens stray → IsCut place bytes others other → (tokens ≡ others) × (stray ≡ other)
cut_is_one one another =
    let same = sym (cut-one one) ∙ cut-one another in
    (ap (λ (c : Cut). c.tokens) same, ap (λ (c : Cut). c.stray) same)

-- the law that each text is cut
pub has_cut : (place : ℕ) (bytes : List ℕ) → (tokens : List Placed) × (stray : Option ℕ) × IsCut place bytes tokens stray
has_cut place bytes = ((cut place bytes).tokens, (cut place bytes).stray, cut-is place bytes)
