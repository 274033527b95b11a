use denote.Shadow.{shadow}
use denote.Text.{Utf8}
use Rattle.std.proofs.Common.{◌≡◌, ◌++◌, ℕ, Bor, List, length, map}
use Rattle.model_conf.specs.Columns.{columns_in}
use Rattle.model_conf.proofs.columns.cut_columns.Given as goal

abbrev pub invariant-loop-name : goal.invariant-loop-name
invariant-loop-name l = record {
  utf8 : shadow (Utf8 l.rest);
  columns : map (λ (name : Bor (List ℕ)). name.now) l.names.items ++ columns_in l.rest ≡ columns_in l.text;
}

abbrev pub decreases-loop-name : goal.decreases-loop-name
decreases-loop-name l = length l.rest
