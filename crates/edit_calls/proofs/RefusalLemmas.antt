-- Searches that go over a list place by place: what is left of the list has the answer of the whole.
use Rattle.std.proofs.Common.{◌≡◌, ℕ, ◌+◌, Bool, true, false, not, ◌||◌, cond, eqb, refl, sym, ap, ◌∙◌}
use Rattle.std.proofs.Common.{List, [], ◌∷◌, length, drop, slice_get, Option, Some, None}
use Rattle.std.specs.List.{find, flat_map, list_any}
use Rattle.std.specs.Option.{option_map_or, option_or}
use Rattle.std.proofs.lemmas.List.{drop_more}
use Rattle.std.proofs.lemmas.Option.{get_or_from_slice_get, slice_get_within}
use Rattle.policy_table.specs.Limits.{has_short_fields}
use Rattle.policy_table.specs.Tables.{Fields}
use Rattle.edit_calls.specs.Refusals.{other_length}
use Rattle.edit_calls.specs.declared.refused.CallRefused.{CallRefused}
use Rattle.edit_calls.specs.declared.refused.CallRefused.TheVariants.{Columns}

-- a field of the rule is too long
abbrev pub is_long_rule : Fields → Bool
is_long_rule rule = not (has_short_fields rule)

-- the rules of pairs, each old one before its new one
abbrev pub both_rules : List (Fields × Fields) → List Fields
both_rules pairs = flat_map (λ (pair : Fields × Fields). pair.0 ∷ pair.1 ∷ []) pairs

-- a list from a place on begins with what stands there
drop_there : {X : Type 0} (xs : List X) (at : ℕ) (x : X) → slice_get xs at ≡ Some x → drop at xs ≡ x ∷ drop (at + 1) xs
drop_there xs at x there = drop_more xs at x (slice_get_within xs at x there) ∙ ap (λ y. y ∷ drop (at + 1) xs) (get_or_from_slice_get xs at x x there)

module _ {X : Type 0} (p : X → Bool) (xs : List X) (at : ℕ) (x : X) (there : slice_get xs at ≡ Some x) (whole : Bool) where
  -- whether one passes, from this place on
  any_there : list_any p (drop at xs) ≡ whole → (p x || list_any p (drop (at + 1) xs)) ≡ whole
  any_there left = sym (ap (list_any p) (drop_there xs at x there)) ∙ left

  -- one that passes settles it
  pub any-passes : list_any p (drop at xs) ≡ whole → p x ≡ true → true ≡ whole
  any-passes left is = sym (ap (λ b. b || list_any p (drop (at + 1) xs)) is) ∙ any_there left

  -- one that fails leaves it open
  pub any-fails : list_any p (drop at xs) ≡ whole → p x ≡ false → list_any p (drop (at + 1) xs) ≡ whole
  any-fails left is = sym (ap (λ b. b || list_any p (drop (at + 1) xs)) is) ∙ any_there left

module _ (columns : ℕ) where
  -- the refusal for a rule that was found
  abbrev told : Option Fields → Option CallRefused
  told found = option_map_or (λ (rule : Fields). Some (Columns columns (length rule))) found None

  -- the refusal of rules is that of the first, or else that of the others
  other_length-cons : (rule : Fields) (rules : List Fields) → other_length columns (rule ∷ rules) ≡ option_or (other_length columns (rule ∷ [])) (other_length columns rules)
  other_length-cons rule rules = by_test (eqb (length rule) columns) (find (λ (other : Fields). not (eqb (length other) columns)) rules)
    where
      by_test : (test : Bool) (found : Option Fields) → told (cond (not test) (Some rule) found) ≡ option_or (told (cond (not test) (Some rule) None)) (told found)
      by_test true found = refl
      by_test false found = refl

  -- what the first rule comes to decides whether the others count
  by_first : (rule : Fields) (rules : List Fields) (first : Option CallRefused) → other_length columns (rule ∷ []) ≡ first
      → other_length columns (rule ∷ rules) ≡ option_or first (other_length columns rules)
  by_first rule rules first is = other_length-cons rule rules ∙ ap (λ o. option_or o (other_length columns rules)) is

  module _ (rules : List Fields) (at : ℕ) (rule : Fields) (there : slice_get rules at ≡ Some rule) where
    module _ (whole : Option CallRefused) (left : other_length columns (drop at rules) ≡ whole) where
      -- the refusal from this place on
      rule_there : (first : Option CallRefused) → other_length columns (rule ∷ []) ≡ first → option_or first (other_length columns (drop (at + 1) rules)) ≡ whole
      rule_there first is = sym (ap (other_length columns) (drop_there rules at rule there) ∙ by_first rule (drop (at + 1) rules) first is) ∙ left

      -- the rule here is refused
      pub rule-refused : (refused : CallRefused) → other_length columns (rule ∷ []) ≡ Some refused → Some refused ≡ whole
      rule-refused refused is = rule_there (Some refused) is

      -- the rule here is not refused
      pub rule-passes : other_length columns (rule ∷ []) ≡ None → other_length columns (drop (at + 1) rules) ≡ whole
      rule-passes is = rule_there None is

module _ (columns : ℕ) (pairs : List (Fields × Fields)) (at : ℕ) (pair : Fields × Fields) (there : slice_get pairs at ≡ Some pair) where
  -- the rules behind the pair here
  abbrev behind : List Fields
  behind = both_rules (drop (at + 1) pairs)

  -- the rules from this pair on begin with its two
  both_there : both_rules (drop at pairs) ≡ pair.0 ∷ pair.1 ∷ behind
  both_there = ap both_rules (drop_there pairs at pair there)

  module _ (whole : Option CallRefused) (left : other_length columns (both_rules (drop at pairs)) ≡ whole) where
    -- the refusal from this pair on
    old_there : (first : Option CallRefused) → other_length columns (pair.0 ∷ []) ≡ first → option_or first (other_length columns (pair.1 ∷ behind)) ≡ whole
    old_there first is = sym (ap (other_length columns) both_there ∙ by_first columns pair.0 (pair.1 ∷ behind) first is) ∙ left

    -- the old rule here is refused
    pub old-refused : (refused : CallRefused) → other_length columns (pair.0 ∷ []) ≡ Some refused → Some refused ≡ whole
    old-refused refused is = old_there (Some refused) is

    module _ (passes : other_length columns (pair.0 ∷ []) ≡ None) where
      -- the refusal behind an old rule that is not refused
      new_there : (first : Option CallRefused) → other_length columns (pair.1 ∷ []) ≡ first → option_or first (other_length columns behind) ≡ whole
      new_there first is = sym (by_first columns pair.1 behind first is) ∙ old_there None passes

      -- the new rule here is refused
      pub new-refused : (refused : CallRefused) → other_length columns (pair.1 ∷ []) ≡ Some refused → Some refused ≡ whole
      new-refused refused is = new_there (Some refused) is

      -- neither is refused
      pub pair-passes : other_length columns (pair.1 ∷ []) ≡ None → other_length columns behind ≡ whole
      pair-passes is = new_there None is
