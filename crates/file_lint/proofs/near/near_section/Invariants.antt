use Rattle.std.proofs.Common.{◌≡◌, ℕ, List, Bor, drop, find, map}
use Rattle.file_lint.specs.Near.{is_near, near_name, section_names}
use Rattle.file_lint.proofs.near.near_section.Given as goal

abbrev pub invariant-loop-name : goal.invariant-loop-name
invariant-loop-name l = find (is_near l.text) (map (λ (name : Bor (List ℕ)). name.now) (drop l.name-index l.name-items)) ≡ near_name l.text section_names
