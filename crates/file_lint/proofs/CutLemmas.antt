-- A text that is cut at its first such byte, or behind its letters, or that begins with the byte-order mark.
use Rattle.std.proofs.Common.{◌≡◌, ℕ, ◌+◌, ◌-◌, ◌<◌, ◌≤◌, true, List, [], ◌++◌, Option, Some, None, Bor, get_or, length, take, drop, refl, sym, ap, ◌∙◌, arith}
use Rattle.std.specs.Prelude.{◌==◌, IsUtf8}
use Rattle.std.specs.List.{after_first, before_first, position_or_len, prefix_len}
use Rattle.std.specs.Str.{IsCharBoundary}
use Rattle.std.proofs.lemmas.Bool.Decides.{Decides-eqb}
use Rattle.std.proofs.lemmas.List.{drop_all, get_or-take, length-take, take_all, take_rest}
use Rattle.std.proofs.lemmas.List.Folds.{length-prefix_len}
use Rattle.std.proofs.lemmas.List.Sums.{prefix_len_passes}
use Rattle.std.proofs.lemmas.Slice.Eq.{starts_is}
use Rattle.std.proofs.lemmas.Str.{IsCharBoundary-past_char, IsUtf8-from_ascii}
use Rattle.std.proofs.lemmas.Str.Ascii.{IsAscii-from_reads}
use Rattle.std.proofs.lemmas.Str.Pattern.{IsSplitOnceResult, split_once_first}
use Rattle.text_parts.specs.Names.{is_word}
use Rattle.text_parts.proofs.CallerLemmas.{word_ascii}
use Rattle.file_lint.specs.Hints.{begins_so}
use Rattle.file_lint.specs.ModelNames.{order_mark}

pub cut_front : (sign : ℕ) (text : List ℕ) (cut : Bor (List ℕ) × Bor (List ℕ)) → IsSplitOnceResult sign text (Some cut) → sign < 128 → cut.0.now ≡ before_first (λ byte. byte == sign) text
cut_front sign text cut is ascii = (split_once_first sign text (Some cut) is ascii).1

pub front_within : (sign : ℕ) (text front : List ℕ) → front ≡ before_first (λ byte. byte == sign) text → length front ≤ length text
front_within sign text front is = omega (arith, ap (λ (l : List ℕ). length l) is, length-take (position_or_len (λ byte. byte == sign) text) text)

pub cut_back : (sign : ℕ) (text : List ℕ) (cut : Bor (List ℕ) × Bor (List ℕ)) → IsSplitOnceResult sign text (Some cut) → sign < 128 → cut.1.now ≡ after_first (λ byte. byte == sign) text
cut_back sign text cut is ascii = (split_once_first sign text (Some cut) is ascii).2

pub whole_front : (sign : ℕ) (text : List ℕ) → IsSplitOnceResult sign text None → sign < 128 → text ≡ before_first (λ byte. byte == sign) text
whole_front sign text is ascii = let end = split_once_first sign text None is ascii in sym (take_all (position_or_len (λ byte. byte == sign) text) text (omega (arith, end)))

pub none_back : (sign : ℕ) (text : List ℕ) → IsSplitOnceResult sign text None → sign < 128 → [] ≡ after_first (λ byte. byte == sign) text
none_back sign text is ascii = let end = split_once_first sign text None is ascii in sym (drop_all (position_or_len (λ byte. byte == sign) text + 1) text (omega (arith, end)))

-- a line that is cut behind its end, and within it
pub front_past : (bytes whole : List ℕ) (before column : ℕ) → bytes ≡ whole → before ≡ column → length bytes ≤ before → bytes ≡ take column whole
front_past bytes whole before column same at past = sym (take_all before bytes past) ∙ ap (take before) same ∙ ap (λ (n : ℕ). take n whole) at

pub rest_past : (bytes whole : List ℕ) (before column : ℕ) → bytes ≡ whole → before ≡ column → length bytes ≤ before → [] ≡ drop column whole
rest_past bytes whole before column same at past = sym (drop_all before bytes past) ∙ ap (drop before) same ∙ ap (λ (n : ℕ). drop n whole) at

pub front_here : (bytes whole : List ℕ) (before column : ℕ) → bytes ≡ whole → before ≡ column → take before bytes ≡ take column whole
front_here bytes whole before column same at = ap (take before) same ∙ ap (λ (n : ℕ). take n whole) at

pub rest_here : (bytes whole : List ℕ) (before column : ℕ) → bytes ≡ whole → before ≡ column → take (length bytes - before) (drop before bytes) ≡ drop column whole
rest_here bytes whole before column same at = take_rest bytes before ∙ ap (drop before) same ∙ ap (λ (n : ℕ). drop n whole) at

-- letters, digits and `_` are a text
pub word_utf8 : (text : List ℕ) → IsUtf8 (take (prefix_len is_word text) text)
word_utf8 text =
    let n = prefix_len is_word text in
    IsUtf8-from_ascii (take n text) (IsAscii-from_reads (take n text) n (omega (arith, length-prefix_len is_word text))
    (λ k before. rw (get_or-take n text k 0 before) (word_ascii (get_or text k 0) (prefix_len_passes is_word text k 0 before))))

-- behind the mark the text may be cut
pub mark_boundary : (text : List ℕ) → IsUtf8 text → begins_so order_mark text ≡ true → IsCharBoundary text 3
unfolding lib.Utf8.encode
mark_boundary text utf8 begins =
    let cut : text ≡ order_mark ++ drop 3 text = (starts_is Decides-eqb text order_mark true (sym begins)).0 refl in
    IsCharBoundary-past_char text (drop 3 text) 0 65279 (omega arith) utf8 cut
