use Rattle.std.proofs.Common.{◌≡◌, ℕ, List, false, take}
use Rattle.std.specs.List.{list_any}
use Rattle.std.specs.Map.{keys_of}
use Rattle.std.specs.Str.{bytes_eq}
use Rattle.role_domain.specs.Helps.Tallies.{has_text, own_at, rows_at}
use Rattle.role_domain.proofs.tallies.Tallies.touch_all.Given as goal

abbrev pub invariant-loop-at : goal.invariant-loop-at
invariant-loop-at l = record {
  mine : (text : List ℕ) → has_text l.self text ≡ false → has_text l.initial.self text ≡ false;
  theirs : (text : List ℕ) → has_text l.self text ≡ false → list_any (bytes_eq text) (take l.at (keys_of l.others)) ≡ false;
  own : (text : List ℕ) → own_at l.self text ≡ own_at l.initial.self text;
  rows : (text : List ℕ) → rows_at l.self text ≡ rows_at l.initial.self text;
}
