-- Groups joined by colons, read one after the other.
use Rattle.std.proofs.Common.{◌≡◌, ℕ, ◌+◌, ◌*◌, ◌^◌, ◌<◌, ◌≤◌, List, [], ◌∷◌, ◌++◌, length, refl, sym, ap, subst, ◌∙◌, append_assoc, arith}
use Rattle.std.specs.List.{AllByRecursion, join_with_byte}
use Rattle.std.specs.Int.Digits.{number_from_digits}
use Rattle.std.specs.Char.{digit_value}
use Rattle.std.specs.Str.Parse.{digits_value}
use Rattle.std.proofs.Math.Nat.{pow-le-pow_right}
use Rattle.std.proofs.lemmas.Int.Digits.{digits_value-lt, number_push}
use Rattle.std.proofs.lemmas.List.{length-append, length_push, map_push}
use Rattle.std.proofs.lemmas.Nat.{pow-add, mul-add-lt}
use Rattle.ip_match.specs.Addresses.{IsGroup, AreGroups, group_numbers}
use Rattle.ip_match.specs.Helps.Parts.{parts_of}
use Rattle.ip_match.proofs.PartLemmas.{Lacks, parts_joined, text_of_parts}
use Rattle.ip_match.proofs.NumeralLemmas.{Lacks-digits}
use Rattle.ip_match.proofs.GapLemmas.{IsSolid}

each_more : {X : Type 0} (P : X → Type 0) (xs : List X) (x : X) → AllByRecursion P xs → P x → AllByRecursion P (xs ++ x ∷ [])
each_more P [] x h k = (k, tt)
each_more P (y ∷ xs) x h k = (h.0, each_more P xs x h.1 k)

each_at : {X : Type 0} (P : X → Type 0) (xs : List X) (x : X) (ys : List X) → AllByRecursion P (xs ++ x ∷ ys) → P x
each_at P [] x ys h = h.0
each_at P (y ∷ xs) x ys h = each_at P xs x ys h.1

pub group_lacks : (c : ℕ) (group : List ℕ) → 16 ≤ digit_value c → IsGroup group → Lacks c group
group_lacks c group other h = Lacks-digits 16 c group other h.0.1

groups_lack : (groups : List (List ℕ)) → AllByRecursion IsGroup groups → AllByRecursion (Lacks 58) groups
groups_lack [] h = tt
groups_lack (g ∷ groups) h = (group_lacks 58 g (omega arith) h.0, groups_lack groups h.1)

pub groups_solid : (groups : List (List ℕ)) → AllByRecursion IsGroup groups → AllByRecursion IsSolid groups
groups_solid [] h = tt
groups_solid (g ∷ groups) h = (record { some = h.0.0.0; lacks = group_lacks 58 g (omega arith) h.0 }, groups_solid groups h.1)

pub group_small : (group : List ℕ) → IsGroup group → digits_value 16 group < 65536
group_small group h =
    let below = digits_value-lt 16 group h.0.1 in
    let short : 16 ^ length group ≤ 16 ^ 4 = pow-le-pow_right (omega arith) {i = length group} {j = 4} h.1 in
    omega arith

-- no group is the empty text
pub no_groups : (groups : List (List ℕ)) → AreGroups [] groups → groups ≡ []
no_groups [] h = refl
no_groups (g ∷ []) h = absurd (let none = ap (length {A = ℕ}) h.1 in let some = h.0.0.0.0 in omega arith)
no_groups (g ∷ g2 ∷ groups) h = absurd (let none = ap (length {A = ℕ}) h.1 in let some = h.0.0.0.0 in omega (arith, length-append g (58 ∷ join_with_byte 58 (g2 ∷ groups))))

pub parts_are : (text : List ℕ) (groups : List (List ℕ)) → 0 < length text → AreGroups text groups → parts_of 58 text ≡ groups
parts_are text [] some h = absurd (let none = ap (length {A = ℕ}) h.1 in omega arith)
parts_are text (g ∷ groups) some h = ap (parts_of 58) h.1 ∙ parts_joined 58 g groups (groups_lack (g ∷ groups) h.0)

-- the groups read before the rest, and what they write
pub record Walked (text rest : List ℕ) (count number : ℕ) : Type 0 where
  pub groups : List (List ℕ)
  pub each : AllByRecursion IsGroup groups
  pub parts : parts_of 58 text ≡ groups ++ parts_of 58 rest
  pub count_is : count ≡ length groups
  pub number_is : number ≡ number_from_digits 65536 (group_numbers groups)
  pub few : count ≤ 8
  pub small : number < 2 ^ (16 * count)

number_more : (groups : List (List ℕ)) (group : List ℕ) (number : ℕ) → number ≡ number_from_digits 65536 (group_numbers groups) → number * 65536 + digits_value 16 group ≡ number_from_digits 65536 (group_numbers (groups ++ group ∷ []))
number_more groups group number e =
    rw (e, map_push (digits_value 16) groups group, number_push 65536 (group_numbers groups) (digits_value 16 group)) refl

small_more : (count number digit : ℕ) → number < 2 ^ (16 * count) → digit < 65536 → number * 65536 + digit < 2 ^ (16 * (count + 1))
small_more count number digit h k =
    let wider : 2 ^ (16 * count + 16) ≡ 2 ^ (16 * count) * 2 ^ 16 = pow-add 2 (16 * count) 16 in
    let same : 2 ^ (16 * (count + 1)) ≡ 2 ^ (16 * count + 16) = ap (λ (n : ℕ). 2 ^ n) (omega arith) in
    omega (arith, mul-add-lt number 65536 digit (2 ^ (16 * count)) h k)

pub walked_more : (text rest : List ℕ) (count number : ℕ) (part after : List ℕ) → Walked text rest count number → parts_of 58 rest ≡ part ∷ parts_of 58 after → IsGroup part → count < 8 → Walked text after (count + 1) (number * 65536 + digits_value 16 part)
walked_more text rest count number part after w cut group room = record {
  groups = w.groups ++ part ∷ [];
  each = each_more IsGroup w.groups part w.each group;
  parts = w.parts ∙ ap (λ (parts : List (List ℕ)). w.groups ++ parts) cut ∙ sym (append_assoc w.groups (part ∷ []) (parts_of 58 after));
  count_is = omega (arith, w.count_is, length_push w.groups part);
  number_is = number_more w.groups part number w.number_is;
  few = omega arith;
  small = small_more count number (digits_value 16 part) w.small (group_small part group);
}

-- what stands next is a group, and there is room for it, if the text is at most eight groups
pub walked_on : (text rest : List ℕ) (count number : ℕ) (part : List ℕ) (parts : List (List ℕ)) → Walked text rest count number → parts_of 58 rest ≡ part ∷ parts → 0 < length text → (groups : List (List ℕ)) → AreGroups text groups → length groups ≤ 8 → IsGroup part × (count < 8)
walked_on text rest count number part parts w cut some groups h most =
    let all : groups ≡ w.groups ++ part ∷ parts = sym (parts_are text groups some h) ∙ w.parts ∙ ap (λ (parts : List (List ℕ)). w.groups ++ parts) cut in
    let each : AllByRecursion IsGroup (w.groups ++ part ∷ parts) = subst (AllByRecursion IsGroup) all h.0 in
    (each_at IsGroup w.groups part parts each, omega (arith, w.count_is, ap (length {A = List ℕ}) all, length-append w.groups (part ∷ parts)))

-- the last part is read
pub record Ended (text : List ℕ) (count number : ℕ) : Type 0 where
  pub groups : List (List ℕ)
  pub spelled : AreGroups text groups
  pub parts : parts_of 58 text ≡ groups
  pub count_is : count ≡ length groups
  pub number_is : number ≡ number_from_digits 65536 (group_numbers groups)
  pub few : count ≤ 8
  pub small : number < 2 ^ (16 * count)

pub walked_all : (text rest : List ℕ) (count number : ℕ) → Walked text rest count number → parts_of 58 rest ≡ rest ∷ [] → IsGroup rest → count < 8 → Ended text (count + 1) (number * 65536 + digits_value 16 rest)
walked_all text rest count number w last group room =
    let all : parts_of 58 text ≡ w.groups ++ rest ∷ [] = w.parts ∙ ap (λ (parts : List (List ℕ)). w.groups ++ parts) last in
    record {
      groups = w.groups ++ rest ∷ [];
      spelled = (each_more IsGroup w.groups rest w.each group, text_of_parts 58 text _ all);
      parts = all;
      count_is = omega (arith, w.count_is, length_push w.groups rest);
      number_is = number_more w.groups rest number w.number_is;
      few = omega arith;
      small = small_more count number (digits_value 16 rest) w.small (group_small rest group);
    }

pub ended_is : (text : List ℕ) (count number : ℕ) → Ended text count number → 0 < length text → (groups : List (List ℕ)) → AreGroups text groups → (count ≡ length groups) × (number ≡ number_from_digits 65536 (group_numbers groups))
ended_is text count number e some groups h =
    let same : e.groups ≡ groups = sym e.parts ∙ parts_are text groups some h in
    (e.count_is ∙ ap (length {A = List ℕ}) same, e.number_is ∙ ap (λ (gs : List (List ℕ)). number_from_digits 65536 (group_numbers gs)) same)
