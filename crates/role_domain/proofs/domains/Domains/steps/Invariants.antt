use Rattle.std.proofs.Common.{◌≡◌, ℕ, List, false, take}
use Rattle.std.specs.Prelude.{All}
use Rattle.std.specs.List.{list_any}
use Rattle.std.specs.Map.{keys_of}
use Rattle.std.specs.Str.{bytes_eq}
use Rattle.role_domain.specs.Domains.{IsRight, found}
use Rattle.role_domain.specs.Helps.Turns.{CanStep, Turn, after_of}
use Rattle.role_domain.specs.Relations.{Relation}
use Rattle.role_domain.specs.Steps.{IsReady}
use Rattle.role_domain.specs.declared.prepared.DomainStep.{DomainStep}
use Rattle.role_domain.proofs.domains.Domains.steps.Given as goal

abbrev pub invariant-loop-at : goal.invariant-loop-at
invariant-loop-at l = record {
  texts : keys_of l.touched.items ≡ take l.at (keys_of l.coming);
  later : (text : List ℕ) → list_any (bytes_eq text) (take l.at (keys_of l.coming)) ≡ false → found l.self.entries text ≡ found l.initial.self.entries text;
  ready : (turn : Turn) → turn.terms ≡ l.terms → ((text : List ℕ) → CanStep turn text (found l.initial.self.entries text) l.coming l.going l.patterns) → All (λ (one : List ℕ × DomainStep). IsReady (after_of turn) one.0 (found l.self.entries one.0) one.1) l.touched.items;
  right : (relation : Relation) (text : List ℕ) → IsRight relation text (found l.initial.self.entries text) → IsRight relation text (found l.self.entries text);
}
