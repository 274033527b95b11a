-- Hashes that are made byte by byte and column by column, and texts that are cut.
use Rattle.std.proofs.Common.{◌≡◌, ℕ, zero, suc, ◌+◌, ◌-◌, ◌*◌, ◌%◌, ◌^◌, ◌<◌, ◌≤◌, true, List, [], ◌∷◌, length, take, drop, get_or, slice_get, Some, refl, sym, ap, ◌∙◌, arith}
use Rattle.std.specs.Prelude.{fold, nat_lt}
use Rattle.std.specs.List.{list_all}
use Rattle.std.proofs.lemmas.Bool.{and_parts}
use Rattle.std.proofs.lemmas.List.{drop_all, drop_more, take_all}
use Rattle.std.proofs.lemmas.List.Sums.{fold_more}
use Rattle.std.proofs.lemmas.Nat.{mul-mod_first}
use Rattle.std.proofs.lemmas.Option.{get_or_from_slice_get}
use Rattle.policy_table.specs.Tables.{Fields}
use Rattle.policy_index.specs.Hashes.{bytes_hash, front_hash, hash_step, most_front, text_hash}

-- the text of one column more
pub fields_more : (columns : List ℕ) (rule : Fields) (at d hash next whole : ℕ) (text : List ℕ) → at < length columns → slice_get rule (get_or columns at d) ≡ Some text → next ≡ text_hash hash text
    → fold (λ (h : ℕ) (column : ℕ). text_hash h (get_or rule column [])) hash (drop at columns) ≡ whole → fold (λ (h : ℕ) (column : ℕ). text_hash h (get_or rule column [])) next (drop (at + 1) columns) ≡ whole
fields_more columns rule at d hash next whole text within there is so_far =
    ap (λ (h : ℕ). fold (λ (g : ℕ) (column : ℕ). text_hash g (get_or rule column [])) h (drop (at + 1) columns)) (is ∙ ap (text_hash hash) (sym (get_or_from_slice_get rule (get_or columns at d) text [] there)))
    ∙ sym (ap (fold (λ (g : ℕ) (column : ℕ). text_hash g (get_or rule column [])) hash) (drop_more columns at d within))
    ∙ so_far

pub below_more : (columns : List ℕ) (count at : ℕ) → at < length columns → list_all (λ (column : ℕ). nat_lt column count) (drop at columns) ≡ true → list_all (λ (column : ℕ). nat_lt column count) (drop (at + 1) columns) ≡ true
below_more columns count at within below =
    (and_parts (nat_lt (get_or columns at 0) count) (list_all (λ (column : ℕ). nat_lt column count) (drop (at + 1) columns)) (sym (ap (list_all (λ (column : ℕ). nat_lt column count)) (drop_more columns at 0 within)) ∙ below)).1

-- the hash of a front of one byte more
pub front_next : (hash : ℕ) (text : List ℕ) (at d front next : ℕ) → at < length text → front ≡ front_hash hash (take at text) → next ≡ hash_step front (get_or text at d) → next ≡ front_hash hash (take (at + 1) text)
front_next hash text at d front next within is step =
    step ∙ ap (λ (h : ℕ). hash_step h (get_or text at d)) is ∙ sym (fold_more hash_step (hash_step hash 258) text at d within)

-- what is cut to 64 bits before it goes on need not be
cut_sum : (sum more : ℕ) → (sum % 2 ^ 64 + more) % 2 ^ 64 ≡ (sum + more) % 2 ^ 64
cut_sum sum more = omega arith

cut_before : (sum factor more : ℕ) → ((sum % 2 ^ 64 * factor) % 2 ^ 64 + more) % 2 ^ 64 ≡ (sum * factor + more) % 2 ^ 64
cut_before sum factor more = omega (arith, mul-mod_first sum factor (2 ^ 64))

over_gone : (sum over : ℕ) → (sum + over * 2 ^ 64) % 2 ^ 64 ≡ sum % 2 ^ 64
over_gone sum over = omega arith

-- two steps are one product of the hash, with the square of the factor
squared : (hash first second : ℕ) → (hash * 1099511628211 + (first + 1)) * 1099511628211 + (second + 1) ≡ hash * 956575116354345 + ((first + 1) * 1099511628211 + (second + 1)) + hash * 65536 * 2 ^ 64
squared hash first second = omega arith

pub two_bytes : (hash first second : ℕ) → ((hash * 956575116354345) % 2 ^ 64 + ((first + 1) * 1099511628211 + (second + 1))) % 2 ^ 64 ≡ hash_step (hash_step hash first) second
unfolding hash_step
two_bytes hash first second =
    cut_sum (hash * 956575116354345) ((first + 1) * 1099511628211 + (second + 1))
    ∙ sym (over_gone (hash * 956575116354345 + ((first + 1) * 1099511628211 + (second + 1))) (hash * 65536))
    ∙ ap (λ (sum : ℕ). sum % 2 ^ 64) (sym (squared hash first second))
    ∙ sym (cut_before (hash * 1099511628211 + (first + 1)) 1099511628211 (second + 1))
    ∙ sym (ap (λ (before : ℕ). ((before * 1099511628211) % 2 ^ 64 + (second + 1)) % 2 ^ 64) (cut_sum (hash * 1099511628211) (first + 1)))

-- four steps are one product of the hash, with the square of the square
fourth_power : (hash front back : ℕ) → (hash * 956575116354345 + front) * 956575116354345 + back ≡ hash * 11527715348014283921 + (front * 956575116354345 + back) + hash * 49604198419 * 2 ^ 64
fourth_power hash front back = omega arith

cut_parts : (hash part back : ℕ) → (hash % 2 ^ 64 + (part % 2 ^ 64 + back) % 2 ^ 64) % 2 ^ 64 ≡ (hash + (part + back)) % 2 ^ 64
cut_parts hash part back = omega arith

two_pairs : (hash front back : ℕ) → ((hash * 11527715348014283921) % 2 ^ 64 + ((front * 956575116354345) % 2 ^ 64 + back) % 2 ^ 64) % 2 ^ 64 ≡ (((((hash * 956575116354345) % 2 ^ 64 + front) % 2 ^ 64) * 956575116354345) % 2 ^ 64 + back) % 2 ^ 64
two_pairs hash front back =
    cut_parts (hash * 11527715348014283921) (front * 956575116354345) back
    ∙ sym (over_gone (hash * 11527715348014283921 + (front * 956575116354345 + back)) (hash * 49604198419))
    ∙ ap (λ (sum : ℕ). sum % 2 ^ 64) (sym (fourth_power hash front back))
    ∙ sym (cut_before (hash * 956575116354345 + front) 956575116354345 back)
    ∙ sym (ap (λ (before : ℕ). ((before * 956575116354345) % 2 ^ 64 + back) % 2 ^ 64) (cut_sum (hash * 956575116354345) front))

pub four_bytes : (hash first second third fourth : ℕ)
    → ((hash * 11527715348014283921) % 2 ^ 64 + ((((first + 1) * 1099511628211 + (second + 1)) * 956575116354345) % 2 ^ 64 + ((third + 1) * 1099511628211 + (fourth + 1))) % 2 ^ 64) % 2 ^ 64 ≡ hash_step (hash_step (hash_step (hash_step hash first) second) third) fourth
four_bytes hash first second third fourth =
    two_pairs hash ((first + 1) * 1099511628211 + (second + 1)) ((third + 1) * 1099511628211 + (fourth + 1))
    ∙ ap (λ (before : ℕ). ((before * 956575116354345) % 2 ^ 64 + ((third + 1) * 1099511628211 + (fourth + 1))) % 2 ^ 64) (two_bytes hash first second)
    ∙ two_bytes (hash_step (hash_step hash first) second) third fourth

-- the hash of what is left behind two bytes, behind four, and behind the last one
pub pair_more : (bytes : List ℕ) (at d e so_far next whole : ℕ) → at + 1 < length bytes → next ≡ hash_step (hash_step so_far (get_or bytes at d)) (get_or bytes (at + 1) e)
    → bytes_hash so_far (drop at bytes) ≡ whole → bytes_hash next (drop (at + 2) bytes) ≡ whole
pair_more bytes at d e so_far next whole within is same =
    let places : at + 2 ≡ at + 1 + 1 = omega arith in
    let pair : drop at bytes ≡ get_or bytes at d ∷ get_or bytes (at + 1) e ∷ drop (at + 1 + 1) bytes =
    drop_more bytes at d (omega arith) ∙ ap (λ (rest : List ℕ). get_or bytes at d ∷ rest) (drop_more bytes (at + 1) e within) in
    ap (λ (n : ℕ). bytes_hash next (drop n bytes)) places
    ∙ ap (λ (h : ℕ). bytes_hash h (drop (at + 1 + 1) bytes)) is
    ∙ sym (ap (bytes_hash so_far) pair)
    ∙ same

pub four_more : (bytes : List ℕ) (at d e f g so_far next whole : ℕ) → at + 2 + 1 < length bytes → next ≡ hash_step (hash_step (hash_step (hash_step so_far (get_or bytes at d)) (get_or bytes (at + 1) e)) (get_or bytes (at + 2) f)) (get_or bytes (at + 2 + 1) g)
    → bytes_hash so_far (drop at bytes) ≡ whole → bytes_hash next (drop (at + 2 + 2) bytes) ≡ whole
four_more bytes at d e f g so_far next whole within is same =
    pair_more bytes (at + 2) f g (hash_step (hash_step so_far (get_or bytes at d)) (get_or bytes (at + 1) e)) next whole within is
    (pair_more bytes at d e so_far (hash_step (hash_step so_far (get_or bytes at d)) (get_or bytes (at + 1) e)) whole (omega (arith, within)) refl same)

pub last_byte : (bytes : List ℕ) (at d so_far next whole : ℕ) → at < length bytes → length bytes - at < 2 → next ≡ hash_step so_far (get_or bytes at d) → bytes_hash so_far (drop at bytes) ≡ whole → next ≡ whole
last_byte bytes at d so_far next whole within few is same =
    let last : drop at bytes ≡ get_or bytes at d ∷ [] =
    drop_more bytes at d within ∙ ap (λ (rest : List ℕ). get_or bytes at d ∷ rest) (drop_all (at + 1) bytes (omega arith)) in
    is ∙ sym (ap (bytes_hash so_far) last) ∙ same

-- a text that is short enough is not cut
pub short_whole : (text : List ℕ) → length text ≤ 255 → text ≡ take most_front text
short_whole text few = sym (take_all most_front text few)

pub short_few : (n : ℕ) (text : List ℕ) → length (take n text) ≤ n
short_few zero text = omega arith
short_few (suc n) [] = omega arith
short_few (suc n) (byte ∷ text) = omega (arith, short_few n text)
