-- A decision that knows what a name reaches which its rows ask about.
use Rattle.std.proofs.Common.{◌≡◌, ◌↔◌, ◌∙◌, ℕ, Bool, IsTrue, List, Option, map, sym, subst}
use Rattle.std.specs.Prelude.{IfSome, option_copied}
use Rattle.std.specs.Borrow.{Bor}
use Rattle.std.proofs.lemmas.Option.{same_Some}
use Rattle.model_conf.specs.ModelText.{ModelParts}
use Rattle.perm_base.specs.declared.shapes.RoleShape.{RoleShape}
use Rattle.perm_base.specs.declared.shapes.Shapes.{Shapes}
use Rattle.perm_base.specs.declared.shapes.TableId.TheVariants.{G, P}
use Rattle.perm_value.specs.Seen.{datum}
use Rattle.perm_value.specs.declared.value.Value.{Value}
use Rattle.policy_state.specs.Asked.{IsAskedOf}
use Rattle.policy_state.specs.States.{State, tables}
use Rattle.policy_table.specs.Tables.{Policy, rows}
use Rattle.role_domain.specs.Reach.{ReachesName}
use Rattle.role_meaning.specs.Links.{IsLinked}
use Rattle.matcher_meaning.specs.Cases.{IsLinkedBy}
use Rattle.matcher_meaning.specs.Verdicts.{case_of}
use Rattle.decision.specs.Helps.Asked.{case_in, rows_of}
use Rattle.decision.specs.Helps.LeftOut.{LeavesOut}
use Rattle.decision.specs.Helps.ReachedNames.{KnowsLinks}
use Rattle.decision.specs.declared.asking.Asking.{Asking}
use Rattle.decision.specs.declared.links.AskedName.{AskedName}
use Rattle.decision.specs.declared.looked.Looked.{Looked}

-- what is lent of a name that is known is known
pub knows_asked : (found : Option AskedName) (lent : Option (Bor AskedName)) (state : State) → option_copied lent ≡ found → IfSome found (KnowsLinks state) → IfSome (option_copied lent) (KnowsLinks state)
knows_asked found lent state same knows = subst (λ (o : Option AskedName). IfSome o (KnowsLinks state)) (sym same) knows

-- the rows that are left out are so for the same model, policy and request
pub leaves_asked : (one other : Asking) (looked : Looked) → other.model.now ≡ one.model.now → other.state.now ≡ one.state.now → other.request.now ≡ one.request.now → LeavesOut (case_in one) (rows_of one) looked → LeavesOut (case_in other) (rows_of other) looked
leaves_asked one other looked same_model same_state same_request leaves =
    subst (λ (values : List Value). LeavesOut (case_of other.model.now other.state.now.shapes (tables other.state.now) (map datum values)) (rows (tables other.state.now) P) looked) (sym same_request)
    (subst (λ (s : State). LeavesOut (case_of other.model.now s.shapes (tables s) (map datum one.request.now)) (rows (tables s) P) looked) (sym same_state)
    (subst (λ (m : ModelParts). LeavesOut (case_of m one.state.now.shapes (tables one.state.now) (map datum one.request.now)) (rows (tables one.state.now) P) looked) (sym same_model) leaves))

-- a relation that is asked in its way links as the chains of its rows do
pub linked_by : (shapes : Shapes) (policy : Policy) (relation : ℕ) (domain : Option (List ℕ)) (x y : List ℕ) (asked : IsAskedOf shapes relation domain) (Told : Type 0) → Told ↔ IsLinked asked.shape (rows policy (G relation)) shapes.limit domain x y
    → Told ↔ IsLinkedBy shapes policy relation x y domain
linked_by shapes policy relation domain x y asked Told told = (
  λ holds. record { shape = asked.shape; has = asked.there; asked = asked.asked; linked = told.0 holds },
  λ by. told.1 (subst (λ (s : RoleShape). IsLinked s (rows policy (G relation)) shapes.limit domain x y) (same_Some by.shape asked.shape (sym by.has ∙ asked.there)) by.linked),
)

-- a question about a known name reads what this reaches
pub known_told : (state : State) (known : AskedName) (relation : ℕ) (domain : Option (List ℕ)) (x y : List ℕ) (test : Bool) → KnowsLinks state known → known.relation ≡ relation → known.name.now ≡ x → option_copied known.domain ≡ domain
    → IsTrue test ↔ ReachesName known.reach y → IsTrue test ↔ IsLinkedBy state.shapes (tables state) relation x y domain
known_told state known relation domain x y test knows same_relation same_name same_domain told =
    subst (λ (d : Option (List ℕ)). IsTrue test ↔ IsLinkedBy state.shapes (tables state) relation x y d) same_domain
    (subst (λ (name : List ℕ). IsTrue test ↔ IsLinkedBy state.shapes (tables state) relation name y (option_copied known.domain)) same_name
    (subst (λ (number : ℕ). IsTrue test ↔ IsLinkedBy state.shapes (tables state) number known.name.now y (option_copied known.domain)) same_relation
    (λ holds. (knows.links y).0 (told.0 holds), λ linked. told.1 ((knows.links y).1 linked))))
