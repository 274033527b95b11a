-- Texts that are pushed behind others.
use Rattle.std.proofs.Common.{◌≡◌, ℕ, List, ◌++◌, append_assoc, ap, ◌∙◌}

-- a text that is the one that was wanted
pub pushed_so : (old new text wanted : List ℕ) → text ≡ wanted → new ≡ old ++ text → new ≡ old ++ wanted
pushed_so old new text wanted same grown = grown ∙ ap (λ (l : List ℕ). old ++ l) same

-- two texts, one behind the other
pub two_pushed : (old one new a b : List ℕ) → one ≡ old ++ a → new ≡ one ++ b → new ≡ old ++ (a ++ b)
two_pushed old one new a b first second = second ∙ ap (λ (l : List ℕ). l ++ b) first ∙ append_assoc old a b

-- and more of them
pub three_pushed : (old one two new a b c : List ℕ) → one ≡ old ++ a → two ≡ one ++ b → new ≡ two ++ c → new ≡ old ++ (a ++ b ++ c)
three_pushed old one two new a b c first second third = two_pushed old two new (a ++ b) c (two_pushed old one two a b first second) third

pub four_pushed : (old one two three new a b c d : List ℕ) → one ≡ old ++ a → two ≡ one ++ b → three ≡ two ++ c → new ≡ three ++ d → new ≡ old ++ (a ++ b ++ c ++ d)
four_pushed old one two three new a b c d first second third fourth = two_pushed old three new (a ++ b ++ c) d (three_pushed old one two three a b c first second third) fourth

pub five_pushed : (old one two three four new a b c d e : List ℕ) → one ≡ old ++ a → two ≡ one ++ b → three ≡ two ++ c → four ≡ three ++ d → new ≡ four ++ e → new ≡ old ++ (a ++ b ++ c ++ d ++ e)
five_pushed old one two three four new a b c d e first second third fourth fifth = two_pushed old four new (a ++ b ++ c ++ d) e (four_pushed old one two three four a b c d first second third fourth) fifth
