-- Where the `::` of an address stands, and that its groups are its only ones.
use Rattle.std.proofs.Common.{◌≡◌, ℕ, ◌*◌, ◌-◌, ◌^◌, List, [], ◌∷◌, ◌++◌, length, inl, inr, sym, ap, subst, ◌∙◌, append_assoc, arith}
use Rattle.std.specs.List.{join_with_byte}
use Rattle.std.specs.Int.Digits.{number_from_digits}
use Rattle.std.proofs.lemmas.List.{append-nil}
use Rattle.ip_match.specs.Addresses.{AreGroups, IsV6, IsWhole, IsShortened, group_numbers}
use Rattle.ip_match.proofs.GapLemmas.{NoGap, NoGap-joined, no_bytes, one_colon, gap_in, same_cut}
use Rattle.ip_match.proofs.GroupLemmas.{groups_solid, no_groups, parts_are}
use Rattle.ip_match.proofs.ShortenedLemmas.{shortened_value}

pub no_gap_in : (text front back : List ℕ) → NoGap text → text ≡ front ++ (58 ∷ 58 ∷ []) ++ back → ⊥
no_gap_in text front back h e = gap_in front back (subst NoGap (e ∙ append_assoc front (58 ∷ 58 ∷ []) back) h)

pub whole_has_none : (text : List ℕ) (number : ℕ) → IsWhole text number → NoGap text
whole_has_none text number w =
    let joined = NoGap-joined w.groups [] (groups_solid w.groups w.spelled.0) no_bytes in
    subst NoGap (append-nil (join_with_byte 58 w.groups) ∙ sym w.spelled.1) joined

pub none_before : (front back : List ℕ) (number : ℕ) → IsShortened front back number → NoGap (front ++ 58 ∷ [])
none_before front back number s =
    subst (λ (t : List ℕ). NoGap (t ++ 58 ∷ [])) (sym s.left_spelled.1) (NoGap-joined s.left (58 ∷ []) (groups_solid s.left s.left_spelled.0) one_colon)

-- the first `::` is the only one
pub same_sides : (text f b g d : List ℕ) → text ≡ f ++ (58 ∷ 58 ∷ []) ++ b → text ≡ g ++ (58 ∷ 58 ∷ []) ++ d → NoGap (f ++ 58 ∷ []) → NoGap (g ++ 58 ∷ []) → (f ≡ g) × (b ≡ d)
same_sides text f b g d e k =
    same_cut f b g d (sym (append_assoc f (58 ∷ 58 ∷ []) b) ∙ sym e ∙ k ∙ append_assoc g (58 ∷ 58 ∷ []) d)

pub groups_unique : (text : List ℕ) (groups others : List (List ℕ)) → AreGroups text groups → AreGroups text others → groups ≡ others
groups_unique [] groups others h k = no_groups groups h ∙ sym (no_groups others k)
groups_unique (x ∷ text) groups others h k = sym (parts_are (x ∷ text) groups (omega arith) h) ∙ parts_are (x ∷ text) others (omega arith) k

whole_unique : (text : List ℕ) (m n : ℕ) → IsWhole text m → IsWhole text n → m ≡ n
whole_unique text m n h k =
    h.value ∙ ap (λ (groups : List (List ℕ)). number_from_digits 65536 (group_numbers groups)) (groups_unique text h.groups k.groups h.spelled k.spelled) ∙ sym k.value

shortened_unique : (front back : List ℕ) (m n : ℕ) → IsShortened front back m → IsShortened front back n → m ≡ n
shortened_unique front back m n h k =
    let left = ap (λ (groups : List (List ℕ)). number_from_digits 65536 (group_numbers groups) * 2 ^ (16 * (8 - length groups))) (groups_unique front h.left k.left h.left_spelled k.left_spelled) in
    let right = ap (λ (groups : List (List ℕ)). number_from_digits 65536 (group_numbers groups)) (groups_unique back h.right k.right h.right_spelled k.right_spelled) in
    omega (arith, left, right, shortened_value front back m h, shortened_value front back n k)

pub v6_unique : (text : List ℕ) (m n : ℕ) → IsV6 text m → IsV6 text n → m ≡ n
v6_unique text m n (inl h) (inl k) = whole_unique text m n h k
v6_unique text m n (inl h) (inr k) = absurd (no_gap_in text k.0 k.1 (whole_has_none text m h) k.2)
v6_unique text m n (inr h) (inl k) = absurd (no_gap_in text h.0 h.1 (whole_has_none text n k) h.2)
v6_unique text m n (inr h) (inr k) =
    let same = same_sides text h.0 h.1 k.0 k.1 h.2 k.2 (none_before h.0 h.1 m h.3) (none_before k.0 k.1 n k.3) in
    let here : IsShortened k.0 k.1 m = rw (← same.0, ← same.1) h.3 in
    shortened_unique k.0 k.1 m n here k.3
