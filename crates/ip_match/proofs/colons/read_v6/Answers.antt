use Rattle.std.proofs.Common.{◌∷◌, [], ◌++◌, inl, inr}
use Rattle.ip_match.specs.Addresses.{IsShortened}
use Rattle.ip_match.proofs.GapLemmas.{NoGap-from_spec}
use Rattle.ip_match.proofs.ColonLemmas.{no_gap_in, whole_has_none, none_before, same_sides}
use Rattle.ip_match.proofs.colons.read_v6.Goals as goal

pub returns-in-None-clause-only : goal.returns-in-None-clause-only
returns-in-None-clause-only c = λ n h.
    elim h [
      | inl whole ↦ c.read_whole.ensures.only n whole
      | inr at ↦ absurd (no_gap_in c.args.text.now at.0 at.1 (NoGap-from_spec c.args.text.now c.in-None.ensures.none) at.2)
    ]

pub returns-in-Some-clause-only : goal.returns-in-Some-clause-only
returns-in-Some-clause-only c = λ n h.
    let cut = c.in-Some.ensures in
    elim h [
      | inl whole ↦ absurd (no_gap_in c.args.text.now _ _ (whole_has_none c.args.text.now n whole) cut.spelled)
      | inr at ↦
          let same = same_sides c.args.text.now at.0 at.1 c.in-Some.front.now c.in-Some.back.now at.2 cut.spelled (none_before at.0 at.1 n at.3) (NoGap-from_spec (c.in-Some.front.now ++ 58 ∷ []) cut.first) in
          let here : IsShortened c.in-Some.front.now c.in-Some.back.now n = rw (← same.0, ← same.1) at.3 in
          c.read_shortened.ensures.only n here
    ]
