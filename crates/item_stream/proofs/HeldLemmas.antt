-- What is held behind a line, and what ends with it, by the line's kind.
use Rattle.std.proofs.Common.{◌≡◌, ℕ, true, false, List, sym, ap, ◌∙◌}
use Rattle.std.specs.Prelude.{Bool, None, if◌then◌else◌}
use Rattle.std.proofs.lemmas.Bool.{cond-false, cond-true}
use Rattle.item_stream.specs.Lines.{kind_of}
use Rattle.item_stream.specs.Sections.{Held, ended_at, ended_by, goes_on, held_by, next_held, nothing, section_of, with_line}
use Rattle.item_stream.specs.declared.kind.Kind.{Kind}

held_is : (follow : Bool) (kind : Kind) (held : Held) (line : List ℕ) → kind ≡ kind_of follow line → held_by kind held line ≡ next_held follow held line
unfolding next_held
held_is follow kind held line is = ap (λ (k : Kind). held_by k held line) is

ended_is : (follow : Bool) (kind : Kind) (held : Held) (line : List ℕ) → kind ≡ kind_of follow line → ended_by kind held line ≡ ended_at follow held line
unfolding ended_at
ended_is follow kind held line is = ap (λ (k : Kind). ended_by k held line) is

module _ (follow : Bool) (kind : Kind) (held : Held) (line : List ℕ) (is : kind ≡ kind_of follow line) where
  -- a line that says nothing
  pub held_passed : kind.passed ≡ true → held ≡ next_held follow held line
  held_passed passed = sym (cond-true kind.passed held (if goes_on held kind then with_line held line else nothing) passed) ∙ held_is follow kind held line is

  pub ended_passed : kind.passed ≡ true → None ≡ ended_at follow held line
  ended_passed passed = sym (cond-true kind.passed None (if goes_on held kind then None else section_of (with_line held line)) passed) ∙ ended_is follow kind held line is

  module _ (full : kind.passed ≡ false) (next : Held) (next-is : next ≡ with_line held line) where
    held_full : held_by kind held line ≡ (if goes_on held kind then with_line held line else nothing)
    held_full = cond-false kind.passed held (if goes_on held kind then with_line held line else nothing) full

    ended_full : ended_by kind held line ≡ (if goes_on held kind then None else section_of (with_line held line))
    ended_full = cond-false kind.passed None (if goes_on held kind then None else section_of (with_line held line)) full

    -- one behind which its section goes on
    pub held_open : goes_on held kind ≡ true → next ≡ next_held follow held line
    held_open open_is = next-is ∙ sym (cond-true (goes_on held kind) (with_line held line) nothing open_is) ∙ sym held_full ∙ held_is follow kind held line is

    pub ended_open : goes_on held kind ≡ true → None ≡ ended_at follow held line
    ended_open open_is = sym (cond-true (goes_on held kind) None (section_of (with_line held line)) open_is) ∙ sym ended_full ∙ ended_is follow kind held line is

    -- one that ends it
    pub held_ended : goes_on held kind ≡ false → nothing ≡ next_held follow held line
    held_ended ends = sym (cond-false (goes_on held kind) (with_line held line) nothing ends) ∙ sym held_full ∙ held_is follow kind held line is

    pub ended_ended : goes_on held kind ≡ false → section_of next ≡ ended_at follow held line
    ended_ended ends = ap section_of next-is ∙ sym (cond-false (goes_on held kind) None (section_of (with_line held line)) ends) ∙ sym ended_full ∙ ended_is follow kind held line is
