-- Going back to the latest rest, and in what follows it to the latest stretch, loses nothing.
use Rattle.std.proofs.Common.{◌≡◌, ℕ, ◌+◌, ◌<◌, Bool, true, false, not, ◌&&◌, ◌||◌, List, [], ◌∷◌, length, get_or, drop, refl, ap, sym, ◌∙◌, subst, ⊎_elim, arith, suc, cond, add-one, drop-cons, length-drop}
use Rattle.std.proofs.lemmas.Bool.{false≢true, eqb-true}
use Rattle.std.proofs.lemmas.Bool.Decides.{eqb_tells}
use Rattle.std.specs.List.{prefix_len}
use Rattle.std.proofs.lemmas.List.{drop-drop}
use Rattle.key_match.specs.Pieces.{ByteSet, Only, NotSlash, Class, Piece, One, Segment, Stretch, Rest, has, not_slash}
use Rattle.key_match.specs.Helps.Fits.{byte_fits, stretch_fits, end_fits, pieces_fit, LeadsTo}
use Rattle.key_match.proofs.Bools.{or_first, or_second, or_cases, and_both, and_first, and_second, and_true, or_false, or-false_first, or-false_second, same_test}

abbrev Test : Type 0
Test = List ℕ → Bool

-- ---- ends and stretches

pub stretch-here : (f : Test) (t : List ℕ) → f t ≡ true → stretch_fits f t ≡ true
stretch-here f [] h = h
stretch-here f (b ∷ t) h = or_first (f (b ∷ t)) _ h

pub end-here : (f : Test) (t : List ℕ) → f t ≡ true → end_fits f t ≡ true
end-here f [] h = h
end-here f (b ∷ t) h = or_first (f (b ∷ t)) _ h

pub end-from_stretch : (f : Test) (t : List ℕ) → stretch_fits f t ≡ true → end_fits f t ≡ true
end-from_stretch f [] h = h
end-from_stretch f (b ∷ t) h =
    ⊎_elim (or_first (f (b ∷ t)) _)
    (λ k. or_second (f (b ∷ t)) _ (end-from_stretch f t (and_second (not_slash b) _ k)))
    (or_cases (f (b ∷ t)) _ h)

pub stretch-stretch : (f : Test) (t : List ℕ) → stretch_fits (stretch_fits f) t ≡ true → stretch_fits f t ≡ true
stretch-stretch f [] h = h
stretch-stretch f (b ∷ t) h =
    ⊎_elim (λ k. k)
    (λ k. or_second (f (b ∷ t)) _ (and_both (not_slash b) _ (and_first (not_slash b) _ k) (stretch-stretch f t (and_second (not_slash b) _ k))))
    (or_cases (stretch_fits f (b ∷ t)) _ h)

pub end-end : (f : Test) (t : List ℕ) → end_fits (end_fits f) t ≡ true → end_fits f t ≡ true
end-end f [] h = h
end-end f (b ∷ t) h =
    ⊎_elim (λ k. k) (λ k. or_second (f (b ∷ t)) _ (end-end f t k)) (or_cases (end_fits f (b ∷ t)) _ h)

pub end-stretch : (f : Test) (t : List ℕ) → end_fits (stretch_fits f) t ≡ true → end_fits f t ≡ true
end-stretch f [] h = h
end-stretch f (b ∷ t) h =
    ⊎_elim (end-from_stretch f (b ∷ t)) (λ k. or_second (f (b ∷ t)) _ (end-stretch f t k))
    (or_cases (stretch_fits f (b ∷ t)) _ h)

-- ---- a byte

-- the bytes that pass are all `/`, or none of them is
abbrev pub KnowsSlash : (ℕ → Bool) → Type 0
KnowsSlash test = (a b : ℕ) → test a ≡ true → test b ≡ true → not_slash a ≡ not_slash b

pub KnowsSlash-has : (bytes : ByteSet) → KnowsSlash (has bytes)
KnowsSlash-has (Only wanted) a b h k = ap not_slash (eqb-true a wanted h ∙ sym (eqb-true b wanted k))
KnowsSlash-has NotSlash a b h k = h ∙ sym k
KnowsSlash-has (Class negated ranges) a b h k = and_first (not_slash a) _ h ∙ sym (and_first (not_slash b) _ k)

stretch-byte_more : (test : ℕ → Bool) (f : Test) (b : ℕ) (t : List ℕ) → KnowsSlash test → test b ≡ true → not_slash b ≡ true → stretch_fits (byte_fits test f) t ≡ true → stretch_fits f t ≡ true
stretch-byte_more test f b [] knows passes plain h = absurd (false≢true h)
stretch-byte_more test f b (c ∷ t) knows passes plain h =
    ⊎_elim
    (λ k.
    let plain_c : not_slash c ≡ true = knows c b (and_first (test c) _ k) passes ∙ plain in
    or_second (f (c ∷ t)) _ (and_both (not_slash c) _ plain_c (stretch-here f t (and_second (test c) _ k))))
    (λ k. or_second (f (c ∷ t)) _ (and_both (not_slash c) _ (and_first (not_slash c) _ k) (stretch-byte_more test f b t knows passes plain (and_second (not_slash c) _ k))))
    (or_cases (test c && f t) _ h)

pub stretch-byte : (test : ℕ → Bool) (f : Test) (b : ℕ) (t : List ℕ) → KnowsSlash test → test b ≡ true → stretch_fits (byte_fits test f) (b ∷ t) ≡ true → stretch_fits f t ≡ true
stretch-byte test f b t knows passes h =
    ⊎_elim (λ k. stretch-here f t (and_second (test b) _ k))
    (λ k. stretch-byte_more test f b t knows passes (and_first (not_slash b) _ k) (and_second (not_slash b) _ k))
    (or_cases (test b && f t) _ h)

end-byte_more : (test : ℕ → Bool) (f : Test) (t : List ℕ) → end_fits (byte_fits test f) t ≡ true → end_fits f t ≡ true
end-byte_more test f [] h = absurd (false≢true h)
end-byte_more test f (c ∷ t) h =
    ⊎_elim (λ k. or_second (f (c ∷ t)) _ (end-here f t (and_second (test c) _ k)))
    (λ k. or_second (f (c ∷ t)) _ (end-byte_more test f t k))
    (or_cases (test c && f t) _ h)

pub end-byte : (test : ℕ → Bool) (f : Test) (b : ℕ) (t : List ℕ) → end_fits (byte_fits test f) (b ∷ t) ≡ true → end_fits f t ≡ true
end-byte test f b t h =
    ⊎_elim (λ k. end-here f t (and_second (test b) _ k)) (end-byte_more test f t) (or_cases (test b && f t) _ h)

pub not_slash-other : (b : ℕ) → (b ≡ 47 → ⊥) → not_slash b ≡ true
not_slash-other b h = ⊎_elim (λ k. absurd (h k.1)) (λ k. ap not k.0) (eqb_tells b 47)

-- ---- what leads where

pub LeadsTo-trans : (ps qs rs : List Piece) (t u v : List ℕ) → LeadsTo ps t qs u → LeadsTo qs u rs v → LeadsTo ps t rs v
LeadsTo-trans ps qs rs t u v h k = record {
  same = h.same ∙ k.same;
  in_stretch = λ x. k.in_stretch (h.in_stretch x);
  anywhere = λ x. k.anywhere (h.anywhere x);
}

-- the same where the later pieces and texts are equal ones
pub LeadsTo-alike : (ps qs rs : List Piece) (t u v : List ℕ) → LeadsTo ps t qs u → qs ≡ rs → u ≡ v → LeadsTo ps t rs v
LeadsTo-alike ps qs rs t u v h e d =
    let h' = subst (λ (x : List Piece). LeadsTo ps t x u) e h in
    subst (λ (x : List ℕ). LeadsTo ps t rs x) d h'

open_at : (key : List ℕ) (k : ℕ) → k < length key → drop k key ≡ get_or key k 0 ∷ drop (k + 1) key
open_at key k h = rw (add-one, drop-cons key k 0) refl

pub LeadsTo-byte : (ps later next : List Piece) (t key : List ℕ) (k : ℕ) (bytes : ByteSet) → LeadsTo ps t later (drop k key) → later ≡ One bytes ∷ next → k < length key → has bytes (get_or key k 0) ≡ true → LeadsTo ps t next (drop (k + 1) key)
LeadsTo-byte ps later next t key k bytes h e lt passes =
    let b = get_or key k 0 in
    let rest = drop (k + 1) key in
    let g = LeadsTo-alike ps later (One bytes ∷ next) t (drop k key) (b ∷ rest) h e (open_at key k lt) in
    record {
      same = g.same ∙ and_true (has bytes b) _ passes;
      in_stretch = λ x. stretch-byte (has bytes) (pieces_fit next) b rest (KnowsSlash-has bytes) passes (g.in_stretch x);
      anywhere = λ x. end-byte (has bytes) (pieces_fit next) b rest (g.anywhere x);
    }

pub LeadsTo-segment : (ps later next : List Piece) (t key : List ℕ) (k : ℕ) (name : List ℕ) → LeadsTo ps t later (drop k key) → later ≡ Segment name ∷ next → k < length key → not_slash (get_or key k 0) ≡ true → LeadsTo ps t (Stretch ∷ next) (drop (k + 1) key)
LeadsTo-segment ps later next t key k name h e lt passes =
    let b = get_or key k 0 in
    let rest = drop (k + 1) key in
    let g = LeadsTo-alike ps later (Segment name ∷ next) t (drop k key) (b ∷ rest) h e (open_at key k lt) in
    record {
      same = g.same ∙ and_true (not_slash b) _ passes;
      in_stretch = λ x. stretch-byte not_slash (stretch_fits (pieces_fit next)) b rest (KnowsSlash-has NotSlash) passes (g.in_stretch x);
      anywhere = λ x. end-byte not_slash (stretch_fits (pieces_fit next)) b rest (g.anywhere x);
    }

pub pattern_ended : (ps later : List Piece) (t key : List ℕ) (k : ℕ) → LeadsTo ps t later (drop k key) → later ≡ [] → k < length key → pieces_fit ps t ≡ false
pattern_ended ps later t key k h e lt =
    (LeadsTo-alike ps later [] t (drop k key) (get_or key k 0 ∷ drop (k + 1) key) h e (open_at key k lt)).same

-- ---- within a stretch

-- pieces that lose nothing by leaving out bytes before `/`, as those that begin with a stretch or a rest
LeadsTo-stretch : (ps later : List Piece) (t left : List ℕ) → LeadsTo ps t later left → (stretch_fits (pieces_fit later) left ≡ true → pieces_fit later left ≡ true) → LeadsTo (Stretch ∷ ps) t later left
LeadsTo-stretch ps later t left h keeps = record {
  same = same_test (stretch_fits (pieces_fit ps) t) (pieces_fit later left) (λ x. keeps (h.in_stretch x)) (λ x. stretch-here (pieces_fit ps) t (h.same ∙ x));
  in_stretch = λ x. h.in_stretch (stretch-stretch (pieces_fit ps) t x);
  anywhere = λ x. h.anywhere (end-stretch (pieces_fit ps) t x);
}

pub keeps-stretch : (qs : List Piece) (u : List ℕ) → stretch_fits (pieces_fit (Stretch ∷ qs)) u ≡ true → pieces_fit (Stretch ∷ qs) u ≡ true
keeps-stretch qs u h = stretch-stretch (pieces_fit qs) u h

pub keeps-rest : (qs : List Piece) (u : List ℕ) → stretch_fits (pieces_fit (Rest ∷ qs)) u ≡ true → pieces_fit (Rest ∷ qs) u ≡ true
keeps-rest qs u h = end-end (pieces_fit qs) u (end-from_stretch (end_fits (pieces_fit qs)) u h)

-- what leads to a stretch leads on to where the pieces behind it lead
pub LeadsTo-behind : (whole ps later : List Piece) (piece : Piece) (text t left : List ℕ) → LeadsTo whole text (Stretch ∷ ps) t → LeadsTo ps t (piece ∷ later) left
    → ((qs : List Piece) (u : List ℕ) → stretch_fits (pieces_fit (piece ∷ qs)) u ≡ true → pieces_fit (piece ∷ qs) u ≡ true) → LeadsTo whole text (piece ∷ later) left
LeadsTo-behind whole ps later piece text t left here behind keeps = LeadsTo-trans _ _ _ _ _ _ here (LeadsTo-stretch ps (piece ∷ later) t left behind (keeps later left))

pub LeadsTo-past : (ps : List Piece) (b : ℕ) (t : List ℕ) → pieces_fit ps (b ∷ t) ≡ false → not_slash b ≡ true → LeadsTo (Stretch ∷ ps) (b ∷ t) (Stretch ∷ ps) t
LeadsTo-past ps b t misses plain =
    let f = pieces_fit ps in
    let e : stretch_fits f (b ∷ t) ≡ stretch_fits f t = or_false (f (b ∷ t)) _ misses ∙ and_true (not_slash b) _ plain in
    record {
      same = e;
      in_stretch = λ x. stretch-here (stretch_fits f) t (sym e ∙ stretch-stretch f (b ∷ t) x);
      anywhere = λ x. ⊎_elim (λ k. end-here (stretch_fits f) t (sym e ∙ k)) (λ k. k) (or_cases (stretch_fits f (b ∷ t)) _ x);
    }

pub LeadsTo-past_at : (ps : List Piece) (key : List ℕ) (k : ℕ) → pieces_fit ps (drop k key) ≡ false → k < length key → not_slash (get_or key k 0) ≡ true → LeadsTo (Stretch ∷ ps) (drop k key) (Stretch ∷ ps) (drop (k + 1) key)
LeadsTo-past_at ps key k misses lt plain =
    let e = open_at key k lt in
    let left = drop (k + 1) key in
    subst (λ (x : List ℕ). LeadsTo (Stretch ∷ ps) x (Stretch ∷ ps) left) (sym e)
    (LeadsTo-past ps (get_or key k 0) left (ap (pieces_fit ps) (sym e) ∙ misses) plain)

-- ---- within a rest

pub end-past : (f : Test) (key : List ℕ) (k : ℕ) → f (drop k key) ≡ false → k < length key → end_fits f (drop k key) ≡ end_fits f (drop (k + 1) key)
end-past f key k misses lt =
    let e = open_at key k lt in
    ap (end_fits f) e ∙ or_false (f (get_or key k 0 ∷ drop (k + 1) key)) _ (ap f (sym e) ∙ misses)

slash-none : (f : Test) (t : List ℕ) → stretch_fits f t ≡ false → prefix_len not_slash t ≡ length t → end_fits f t ≡ false
slash-none f [] h e = h
slash-none f (b ∷ t) h e = go (slash-none f t) (not_slash b) refl
  where
    go : (stretch_fits f t ≡ false → prefix_len not_slash t ≡ length t → end_fits f t ≡ false) → (v : Bool) → not_slash b ≡ v → (f (b ∷ t) || end_fits f t) ≡ false
    go after true plain =
        let rest : stretch_fits f t ≡ false = sym (and_true (not_slash b) _ plain) ∙ or-false_second (f (b ∷ t)) _ h in
        let long : 1 + prefix_len not_slash t ≡ suc (length t) = rw plain at e in
        or_false (f (b ∷ t)) _ (or-false_first (f (b ∷ t)) _ h) ∙ after rest (omega arith)
    go after false slash =
        let short : 0 ≡ suc (length t) = rw slash at e in
        absurd (omega arith)

slash-some : (f : Test) (t : List ℕ) → stretch_fits f t ≡ false → prefix_len not_slash t < length t → end_fits f t ≡ end_fits f (drop (prefix_len not_slash t + 1) t)
slash-some f [] h lt = absurd (omega arith)
slash-some f (b ∷ t) h lt = go (slash-some f t) (not_slash b) refl
  where
    go : (stretch_fits f t ≡ false → prefix_len not_slash t < length t → end_fits f t ≡ end_fits f (drop (prefix_len not_slash t + 1) t)) → (v : Bool) → not_slash b ≡ v → (f (b ∷ t) || end_fits f t) ≡ end_fits f (drop (cond (not_slash b) (1 + prefix_len not_slash t) 0 + 1) (b ∷ t))
    go after true plain =
        let rest : stretch_fits f t ≡ false = sym (and_true (not_slash b) _ plain) ∙ or-false_second (f (b ∷ t)) _ h in
        let short : 1 + prefix_len not_slash t < suc (length t) = rw plain at lt in
        let more : suc (prefix_len not_slash t + 1) ≡ 1 + prefix_len not_slash t + 1 = omega arith in
        or_false (f (b ∷ t)) _ (or-false_first (f (b ∷ t)) _ h) ∙ after rest (omega arith)
        ∙ rw plain (ap (λ n. end_fits f (drop n (b ∷ t))) more)
    go after false slash = rw slash (or_false (f (b ∷ t)) _ (or-false_first (f (b ∷ t)) _ h))

-- the same from a place of the key on
pub slash-none_at : (f : Test) (key : List ℕ) (k : ℕ) → stretch_fits f (drop k key) ≡ false → k + prefix_len not_slash (drop k key) ≡ length key → end_fits f (drop k key) ≡ false
slash-none_at f key k h e = slash-none f (drop k key) h (omega (arith, length-drop {A = ℕ}))

pub slash-some_at : (f : Test) (key : List ℕ) (k slash : ℕ) → stretch_fits f (drop k key) ≡ false → slash ≡ k + prefix_len not_slash (drop k key) → slash < length key → end_fits f (drop k key) ≡ end_fits f (drop (slash + 1) key)
slash-some_at f key k slash h e lt =
    let n = prefix_len not_slash (drop k key) in
    let same : k + (n + 1) ≡ slash + 1 = omega arith in
    slash-some f (drop k key) h (omega (arith, length-drop {A = ℕ}))
    ∙ ap (end_fits f) (drop-drop (n + 1) k key ∙ ap (λ m. drop m key) same)
