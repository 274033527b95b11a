-- What a caller's proof cites of the words in `specs/`.
use Rattle.std.proofs.Common.{rules, ◌≡◌, ℕ, ◌+◌, ◌≤◌, min, List, [], ◌∷◌, ◌++◌, Option, Some, None, refl, sym, ap, subst, ◌∙◌, arith, append-nil, append_assoc}
use Rattle.std.proofs.lemmas.List.Elements.{Contains-append_left, Contains-append_right}
use Rattle.outside.specs.Faults.{most_faults, Rose}
use Rattle.regex_gate.specs.Refusals.{Refusals, after_refusal, after_refusals, RefusedOnly, IsRefused, IsUsed}
pub use Rattle.regex_gate.proofs.FoundLemmas.{answered_readable}
pub use Rattle.regex_gate.proofs.SearchLemmas.{found_alike, has_match_text}

-- these patterns more, and then those
refusals_more : (before : Refusals) (some others : List (List ℕ)) → after_refusals before (some ++ others) ≡ after_refusals (after_refusals before some) others
refusals_more before [] others = refl
refusals_more before (pattern ∷ some) others = refusals_more (after_refusal before pattern) some others

-- the log got these patterns
logs_more : (before : Refusals) (more : List (List ℕ)) → (after_refusals before more).patterns ≡ before.patterns ++ more
logs_more before [] = sym (append-nil before.patterns)
logs_more before (pattern ∷ more) = logs_more (after_refusal before pattern) more ∙ append_assoc before.patterns (pattern ∷ []) more

-- a count that rose does not fall
rises_more : (before : Refusals) (more : List (List ℕ)) (least : ℕ) → least ≤ most_faults → least ≤ before.count → least ≤ (after_refusals before more).count
rises_more before [] least most low = low
rises_more before (pattern ∷ more) least most low = rises_more (after_refusal before pattern) more least most (omega (arith, most, low))

-- a finder that was not asked
pub used_none : (refusals : Refusals) → IsUsed refusals refusals
used_none refusals = record { more = []; refused = refl }

-- a finder that refused nothing
pub used_same : (before now : Refusals) → now ≡ before → IsUsed before now
used_same before now same = record { more = []; refused = same }

-- a finder that refused once, or not
pub used_one : (before now : Refusals) (refused : Option (List ℕ)) → RefusedOnly before now refused → IsUsed before now
used_one before now None is = record { more = []; refused = is }
used_one before now (Some pattern) is = record { more = pattern ∷ []; refused = is }

-- one behind a use in which it refused nothing
pub only_since : (before between now : Refusals) (refused : Option (List ℕ)) → between ≡ before → RefusedOnly between now refused → RefusedOnly before now refused
only_since before between now refused same = subst (λ (r : Refusals). RefusedOnly r now refused) same

-- two uses, one after the other
pub used_then : (before between now : Refusals) → IsUsed before between → IsUsed between now → IsUsed before now
used_then before between now one other = record {
  more = one.more ++ other.more;
  refused = other.refused ∙ ap (λ (r : Refusals). after_refusals r other.more) one.refused ∙ sym (refusals_more before one.more other.more);
}

-- how the log grew in a use
pub used_grown : (before now : Refusals) (used : IsUsed before now) → now.patterns ≡ before.patterns ++ used.more
used_grown before now used = ap (λ (r : Refusals). r.patterns) used.refused ∙ logs_more before used.more

-- one refusal
pub refused_once : (before now : Refusals) (pattern : List ℕ) → now ≡ after_refusal before pattern → IsRefused before now pattern
refused_once before now pattern is = record {
  rose = omega (arith, ap (λ (r : Refusals). r.count) is);
  more = pattern ∷ [];
  grown = ap (λ (r : Refusals). r.patterns) is;
  logged = Contains-append_right [] (pattern ∷ []) pattern (search rules);
}

-- what was refused behind a use was refused since before it
pub refused_since : (before between now : Refusals) (pattern : List ℕ) → IsUsed before between → IsRefused between now pattern → IsRefused before now pattern
refused_since before between now pattern used refused = record {
  rose = omega (arith, refused.rose, not_fallen);
  more = used.more ++ refused.more;
  grown = refused.grown ∙ ap (λ (patterns : List (List ℕ)). patterns ++ refused.more) (used_grown before between used) ∙ append_assoc before.patterns used.more refused.more;
  logged = Contains-append_right used.more refused.more pattern refused.logged;
}
  where
    not_fallen : min before.count most_faults ≤ between.count
    not_fallen = subst (λ (r : Refusals). min before.count most_faults ≤ r.count) (sym used.refused) (rises_more before used.more (min before.count most_faults) (omega arith) (omega arith))

-- what was refused stays refused
pub refused_still : (before between now : Refusals) (pattern : List ℕ) → IsRefused before between pattern → IsUsed between now → IsRefused before now pattern
refused_still before between now pattern refused used = record {
  rose = subst (λ (r : Refusals). Rose before.count r.count) (sym used.refused) (rises_more between used.more (min (before.count + 1) most_faults) (omega arith) refused.rose);
  more = refused.more ++ used.more;
  grown = used_grown between now used ∙ ap (λ (patterns : List (List ℕ)). patterns ++ used.more) refused.grown ∙ append_assoc before.patterns refused.more used.more;
  logged = Contains-append_left refused.more used.more pattern refused.logged;
}
