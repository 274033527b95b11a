-- All domains while rows come and go.
use Rattle.std.proofs.Common.{◌≡◌, ◌≤◌, ℕ, Bool, false, List, [], Option, None, Some, length, refl, sym, ap, subst, ◌∙◌, arith}
use Rattle.std.specs.Prelude.{All, is_some}
use Rattle.std.specs.List.{IsDistinct, list_any}
use Rattle.std.specs.Map.{keys_of}
use Rattle.std.specs.Option.{option_map_or}
use Rattle.std.specs.Str.{bytes_eq}
use Rattle.std.proofs.lemmas.Map.Made.{is_some-lookup}
use Rattle.policy_table.specs.Tables.{Fields}
use Rattle.role_domain.specs.Domains.{AreDomains, Domains, IsRight, found}
use Rattle.role_domain.specs.Helps.Tallies.{Brings, Tallies, has_text, own_at, rows_at}
use Rattle.role_domain.specs.Helps.Turns.{CanStep, CanTurn, IsTurnOf, Turn, after_of}
use Rattle.role_domain.specs.Relations.{Relation}
use Rattle.role_domain.specs.Steps.{AreReady, IsReady}
use Rattle.role_domain.specs.declared.prepared.DomainStep.{DomainStep}
use Rattle.role_domain.specs.declared.terms.Terms.{Terms}
use Rattle.role_domain.proofs.StepLemmas.{untouched}
use Rattle.role_domain.proofs.TouchLemmas.{Entries}
use Rattle.role_graph.specs.Groups.{times}

-- tallies that are the same at a text bring the same
brings_same : (terms : Terms) (there : Bool) (text : List ℕ) (rows : List Fields) (old new : Tallies) → own_at new text ≡ own_at old text → rows_at new text ≡ rows_at old text → Brings terms.domains there text rows old → Brings terms.domains there text rows new
brings_same terms there text rows old new own pairs brings = record {
  own = own ∙ brings.own;
  two = subst (All (λ (row : Fields). length row ≡ 2)) (sym pairs) brings.two;
  pairs = λ test tells one. ap (times one) pairs ∙ brings.pairs test tells one;
}

brings_turn : (turn : Turn) (terms : Terms) (there : Bool) (text : List ℕ) (rows turned : List Fields) (tallies : Tallies) → turn.terms ≡ terms → turned ≡ rows → Brings terms.domains there text rows tallies → Brings turn.terms.domains there text turned tallies
brings_turn turn terms there text rows turned tallies same_terms same_rows brings =
    subst (λ (t : Terms). Brings t.domains there text turned tallies) (sym same_terms)
    (subst (λ (l : List Fields). Brings terms.domains there text l tallies) (sym same_rows) brings)

-- what is to become of the domain of each text can be told
pub can_steps : (turn : Turn) (terms : Terms) (come go patterns : List Fields) (domains : Domains) (old coming going : Tallies) → IsTurnOf turn terms come go → CanTurn turn domains patterns
    → ((text : List ℕ) → Brings terms.domains (is_some (found domains.entries text)) text come old)
    → ((text : List ℕ) → own_at coming text ≡ own_at old text) → ((text : List ℕ) → rows_at coming text ≡ rows_at old text)
    → ((text : List ℕ) → Brings terms.domains (is_some (found domains.entries text)) text go going)
    → (text : List ℕ) → CanStep turn text (found domains.entries text) coming going patterns
can_steps turn terms come go patterns domains old coming going is can brought own pairs gone text = record {
  turned = can.turned;
  right = can.right.right text;
  come = brings_turn turn terms (is_some (found domains.entries text)) text come turn.come coming is.terms_are is.come_are
      (brings_same terms (is_some (found domains.entries text)) text come old coming (own text) (pairs text) (brought text));
  go = brings_turn turn terms (is_some (found domains.entries text)) text go turn.go going is.terms_are is.go_are (gone text);
  patterns = can.patterns;
  few_before = can.few_before;
  few = can.few;
  columns = can.columns;
  some = can.some;
  most = can.most;
}

nothing_there : {X Y : Type 0} (f : X → Y) (there : Option X) (d : Y) → is_some there ≡ false → option_map_or f there d ≡ d
nothing_there f None d none = refl
nothing_there f (Some x) d none = absurd cc

-- what is told of the touched domains makes all domains ready
pub turn_ready : (turn : Turn) (patterns : List Fields) (old between new : Domains) (coming going : Tallies) (touched : List (List ℕ × DomainStep)) (count : ℕ)
    → ((text : List ℕ) → CanStep turn text (found old.entries text) coming going patterns)
    → keys_of touched ≡ keys_of coming → IsDistinct bytes_eq (keys_of coming)
    → All (λ (one : List ℕ × DomainStep). IsReady (after_of turn) one.0 (found between.entries one.0) one.1) touched
    → ((text : List ℕ) → has_text coming text ≡ false → found between.entries text ≡ found old.entries text)
    → ((text : List ℕ) → has_text coming text ≡ false → has_text going text ≡ false)
    → new.entries ≡ between.entries → count ≡ length touched → count ≤ new.spare
    → AreReady (after_of turn) touched new
turn_ready turn patterns old between new coming going touched count can texts once each others theirs same long room = record {
  once = subst (IsDistinct bytes_eq) (sym texts) once;
  room = omega (arith, long, room);
  each = subst (λ (entries : Entries). All (λ (one : List ℕ × DomainStep). IsReady (after_of turn) one.0 (found entries one.0) one.1) touched) (sym same) each;
  others = λ text none. by text (is_some-lookup (bytes_eq text) coming ∙ ap (list_any (bytes_eq text)) (sym texts) ∙ none);
}
  where
    by : (text : List ℕ) → has_text coming text ≡ false → IsRight (after_of turn) text (found new.entries text)
    by text none =
        subst (IsRight (after_of turn) text) (sym (ap (λ (entries : Entries). found entries text) same ∙ others text none))
        (untouched turn text (found old.entries text) coming going patterns (can text)
        (nothing_there (λ tally. tally.own) (found coming text) 0 none) (nothing_there (λ tally. tally.rows.items) (found coming text) [] none)
        (nothing_there (λ tally. tally.own) (found going text) 0 (theirs text none)) (nothing_there (λ tally. tally.rows.items) (found going text) [] (theirs text none)))

-- domains stay right where each text does
pub all_right : (relation : Relation) (old between new : Entries) → ((text : List ℕ) → IsRight relation text (found old text) → IsRight relation text (found between text)) → new ≡ between → AreDomains relation old → AreDomains relation new
all_right relation old between new kept same are = subst (AreDomains relation) (sym same) (record { right = λ text. kept text (are.right text) })
