-- Values beside those that they are copies of.
use Rattle.std.proofs.Common.{◌≡◌, List, [], ◌∷◌, map, string_cmp, refl, sym, ◌∙◌}
use Rattle.std.specs.List.Sorted.{IsStrictlySortedBy}
use Rattle.std.specs.Map.{keys_of}
use Rattle.perm_value.specs.Seen.{datum, members}
use Rattle.perm_value.specs.declared.value.Value.{Value}
use Rattle.perm_value.proofs.MadeLemmas.{Made, MembersMade, names_rise}
use Rattle.perm_value.proofs.MemberLemmas.{Named, listed, members_listed}

-- the second value is a copy of the first
abbrev pub IsCopyOf : Value → Value → Type 0
IsCopyOf v copy = datum copy ≡ datum v

pub copied_values : (vs copies : List Value) → Made IsCopyOf vs copies → map datum copies ≡ map datum vs
copied_values [] [] made = refl
copied_values [] (w ∷ ws) made = absurd made
copied_values (v ∷ vs) [] made = absurd made
copied_values (v ∷ vs) (w ∷ ws) made = rw (made.0, copied_values vs ws made.1) refl

copied_listed : (es copies : List Named) → MembersMade IsCopyOf es copies → listed copies ≡ listed es
copied_listed [] [] made = refl
copied_listed [] (c ∷ cs) made = absurd made
copied_listed (e ∷ es) [] made = absurd made
copied_listed (e ∷ es) (c ∷ cs) made = rw (made.0, made.1, copied_listed es cs made.2) refl

pub copied_members : (es copies : List Named) → MembersMade IsCopyOf es copies → IsStrictlySortedBy string_cmp (keys_of es) → members copies ≡ members es
copied_members es copies made sorted =
    members_listed copies (names_rise IsCopyOf es copies made sorted) ∙ copied_listed es copies made ∙ sym (members_listed es sorted)
