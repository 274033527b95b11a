-- A text says one model, or has one fault, and not both.
use Rattle.std.proofs.Common.{◌≡◌, ℕ, ◌⊎◌, inl, inr, List, [], Option, Some, None, refl, sym, ap, ◌∙◌, subst, arith}
use Rattle.effect_fold.specs.declared.effect.Effect.{Effect}
use Rattle.matcher_read.specs.Expression.{Expression}
use Rattle.matcher_read.specs.Faults.{IsFault}
use Rattle.matcher_read.specs.Matcher.{IsMatcher}
use Rattle.matcher_read.specs.declared.fault.MatcherFault.{MatcherFault}
use Rattle.perm_base.specs.declared.shapes.RoleShape.{RoleShape}
use Rattle.model_conf.specs.Columns.{AreColumns, columns_in}
use Rattle.model_conf.specs.Effects.{model_effect}
use Rattle.model_conf.specs.Faults.{IsEntryFault, missing, request_columns, policy_columns, role_shape, unknown_effect, matcher, undeclared, IsModelFault, too_long, not_utf8, at_line, behind_lines, first_missing, fault_of}
use Rattle.model_conf.specs.ModelText.{ModelParts, parts_of, Values, IsText, HasValues, HasEffect, SayModel, IsModel}
use Rattle.model_conf.specs.Helps.Outlines.{IsSettled}
use Rattle.model_conf.specs.Relations.{relations_of, first_bad_shape}
use Rattle.model_conf.specs.Sections.{Entry, entries_of, first_fault}
use Rattle.model_conf.specs.Statements.{Statement}
use Rattle.model_conf.specs.Uses.{Use, uses, first_undeclared}
use Rattle.model_conf.specs.declared.fault.ModelFault.{ModelFault}
use Rattle.model_conf.specs.declared.fault.ModelFault.TheVariants as fault
use Rattle.model_conf.specs.declared.key.Key.{Key}
use Rattle.model_conf.specs.declared.key.Key.TheVariants as k
use Rattle.model_conf.proofs.FaultLemmas.{none_missing}
use Rattle.model_conf.proofs.UniqueLemmas.{AreStatements-once}

-- ---- one value

one_value : {T : Type 0} (o : Option T) (x y : T) → o ≡ Some x → o ≡ Some y → x ≡ y
one_value o x y e f = cc

no_value : {T : Type 0} (o : Option T) (x : T) → o ≡ Some x → o ≡ None → ⊥
no_value o x e f = absurd cc

values : List ℕ → List ℕ → List ℕ → List ℕ → Values
values request policy effect matcher_ = record { request = request; policy = policy; effect = effect; matcher = matcher_ }

same_values_by : (v w : Values) → v.request ≡ w.request → v.policy ≡ w.policy → v.effect ≡ w.effect → v.matcher ≡ w.matcher → v ≡ w
unfolding values
same_values_by v w request policy effect matcher_ =
    ap (λ (x : List ℕ). values x v.policy v.effect v.matcher) request ∙ ap (λ (x : List ℕ). values w.request x v.effect v.matcher) policy
    ∙ ap (λ (x : List ℕ). values w.request w.policy x v.matcher) effect ∙ ap (λ (x : List ℕ). values w.request w.policy w.effect x) matcher_

pub same_values : (entries : List Entry) (v w : Values) → HasValues entries v → HasValues entries w → v ≡ w
same_values entries v w one two =
    same_values_by v w (one_value _ _ _ one.request two.request) (one_value _ _ _ one.policy two.policy) (one_value _ _ _ one.effect two.effect) (one_value _ _ _ one.matcher two.matcher)

same_model : (m n : ModelParts) → m.request ≡ n.request → m.policy ≡ n.policy → m.relations ≡ n.relations → m.effect ≡ n.effect → m.matcher_text ≡ n.matcher_text → m.matcher ≡ n.matcher → m ≡ n
same_model m n request policy relations effect matcher_text matcher_ =
    ap (λ (x : List (List ℕ)). parts_of x m.policy m.relations m.effect m.matcher_text m.matcher) request
    ∙ ap (λ (x : List (List ℕ)). parts_of n.request x m.relations m.effect m.matcher_text m.matcher) policy
    ∙ ap (λ (x : List RoleShape). parts_of n.request n.policy x m.effect m.matcher_text m.matcher) relations
    ∙ ap (λ (x : Effect). parts_of n.request n.policy n.relations x m.matcher_text m.matcher) effect
    ∙ ap (λ (x : List ℕ). parts_of n.request n.policy n.relations n.effect x m.matcher) matcher_text
    ∙ ap (λ (x : Expression). parts_of n.request n.policy n.relations n.effect n.matcher_text x) matcher_

-- ---- entries

-- where all else is in order, the matcher's text says one matcher, or has one fault
abbrev pub AreSettled : List Entry → Type 0
AreSettled entries = (v : Values) (effect : Effect) → HasEffect entries v effect → IsSettled v.matcher

pub SayModel-once : (entries : List Entry) → AreSettled entries → (m n : ModelParts) → SayModel entries m → SayModel entries n → m ≡ n
SayModel-once entries settled m n one two =
    let v = one.values in
    let same : two.values ≡ v = same_values entries two.values v two.has.has.has one.has.has.has in
    let effects : m.effect ≡ n.effect = one_value _ _ _ one.has.effect_is (subst (λ (w : Values). model_effect (relations_of entries) (columns_in w.policy) w.effect ≡ Some n.effect) same two.has.effect_is) in
    let matchers : m.matcher ≡ n.matcher = (settled v m.effect one.has).once m.matcher n.matcher one.matcher (subst (λ (w : Values). IsMatcher w.matcher n.matcher) same two.matcher) in
    same_model m n (one.request ∙ sym (two.request ∙ ap (λ (w : Values). columns_in w.request) same)) (one.policy ∙ sym (two.policy ∙ ap (λ (w : Values). columns_in w.policy) same))
    (one.relations ∙ sym two.relations) effects (one.matcher_text ∙ sym (two.matcher_text ∙ ap (λ (w : Values). w.matcher) same)) matchers

-- the faults of entries along the order of reading
abbrev ByMatcher : List Entry → Values → ModelFault → Type 0
ByMatcher entries v f =
    ((inner : MatcherFault) × IsFault v.matcher inner × (f ≡ fault.Matcher inner))
    ⊎ ((e : Expression) × (first : Use) × IsMatcher v.matcher e × (first_undeclared (columns_in v.request) (columns_in v.policy) (relations_of entries) (uses e) ≡ Some first) × (f ≡ fault_of first))

abbrev ByEffect : List Entry → Values → ModelFault → Type 0
ByEffect entries v f = ((model_effect (relations_of entries) (columns_in v.policy) v.effect ≡ None) × (f ≡ fault.UnknownEffect)) ⊎ ((effect : Effect) × HasEffect entries v effect × ByMatcher entries v f)

abbrev ByShape : List Entry → Values → ModelFault → Type 0
ByShape entries v f = ((number : ℕ) × (first_bad_shape entries ≡ Some number) × (f ≡ fault.RoleShape number)) ⊎ ((first_bad_shape entries ≡ None) × ByEffect entries v f)

abbrev ByPolicy : List Entry → Values → ModelFault → Type 0
ByPolicy entries v f = (¬ (AreColumns (columns_in v.policy)) × (f ≡ fault.Columns k.P)) ⊎ (AreColumns (columns_in v.policy) × ByShape entries v f)

abbrev ByRequest : List Entry → Values → ModelFault → Type 0
ByRequest entries v f = (¬ (AreColumns (columns_in v.request)) × (f ≡ fault.Columns k.R)) ⊎ (AreColumns (columns_in v.request) × ByPolicy entries v f)

abbrev ByKey : List Entry → ModelFault → Type 0
ByKey entries f = ((key : Key) × (first_missing entries ≡ Some key) × (f ≡ fault.Missing key)) ⊎ ((v : Values) × HasValues entries v × ByRequest entries v f)

by_key : (entries : List Entry) (f : ModelFault) → IsEntryFault entries f → ByKey entries f
by_key entries f (missing {key} e) = inl (key, e, refl)
by_key entries f (request_columns v has none) = inr (v, has, inl (none, refl))
by_key entries f (policy_columns v has are none) = inr (v, has, inr (are, inl (none, refl)))
by_key entries f (role_shape v {number} has bad) = inr (v, has.has, inr (has.request, inr (has.policy, inl (number, bad, refl))))
by_key entries f (unknown_effect v has shapes none) = inr (v, has.has, inr (has.request, inr (has.policy, inr (shapes, inl (none, refl)))))
by_key entries f (matcher v effect {inner} has is) = inr (v, has.has.has, inr (has.has.request, inr (has.has.policy, inr (has.shapes, inr (effect, has, inl (inner, is, refl))))))
by_key entries f (undeclared v effect e first has is names same) = inr (v, has.has.has, inr (has.has.request, inr (has.has.policy, inr (has.shapes, inr (effect, has, inr (e, first, is, names, same))))))

matcher_once : (entries : List Entry) (v : Values) (f g : ModelFault) → IsSettled v.matcher → ByMatcher entries v f → ByMatcher entries v g → f ≡ g
matcher_once entries v f g settled (inl a) (inl b) = a.2 ∙ ap fault.Matcher (settled.one_fault a.0 b.0 a.1 b.1) ∙ sym b.2
matcher_once entries v f g settled (inl a) (inr b) = absurd (settled.apart a.0 b.0 a.1 b.2)
matcher_once entries v f g settled (inr a) (inl b) = absurd (settled.apart b.0 a.0 b.1 a.2)
matcher_once entries v f g settled (inr a) (inr b) =
    let same : b.0 ≡ a.0 = settled.once b.0 a.0 b.2 a.2 in
    let first : a.1 ≡ b.1 = one_value _ _ _ a.3 (subst (λ (e : Expression). first_undeclared (columns_in v.request) (columns_in v.policy) (relations_of entries) (uses e) ≡ Some b.1) same b.3) in
    a.4 ∙ ap fault_of first ∙ sym b.4

effect_once : (entries : List Entry) → AreSettled entries → (v : Values) (f g : ModelFault) → ByEffect entries v f → ByEffect entries v g → f ≡ g
effect_once entries settled v f g (inl a) (inl b) = a.1 ∙ sym b.1
effect_once entries settled v f g (inl a) (inr b) = absurd (no_value _ _ b.1.effect_is a.0)
effect_once entries settled v f g (inr a) (inl b) = absurd (no_value _ _ a.1.effect_is b.0)
effect_once entries settled v f g (inr a) (inr b) = matcher_once entries v f g (settled v a.0 a.1) a.2 b.2

shape_once : (entries : List Entry) → AreSettled entries → (v : Values) (f g : ModelFault) → ByShape entries v f → ByShape entries v g → f ≡ g
shape_once entries settled v f g (inl a) (inl b) = a.2 ∙ ap fault.RoleShape (one_value _ _ _ a.1 b.1) ∙ sym b.2
shape_once entries settled v f g (inl a) (inr b) = absurd (no_value _ _ a.1 b.0)
shape_once entries settled v f g (inr a) (inl b) = absurd (no_value _ _ b.1 a.0)
shape_once entries settled v f g (inr a) (inr b) = effect_once entries settled v f g a.1 b.1

policy_once : (entries : List Entry) → AreSettled entries → (v : Values) (f g : ModelFault) → ByPolicy entries v f → ByPolicy entries v g → f ≡ g
policy_once entries settled v f g (inl a) (inl b) = a.1 ∙ sym b.1
policy_once entries settled v f g (inl a) (inr b) = absurd (a.0 b.0)
policy_once entries settled v f g (inr a) (inl b) = absurd (b.0 a.0)
policy_once entries settled v f g (inr a) (inr b) = shape_once entries settled v f g a.1 b.1

request_once : (entries : List Entry) → AreSettled entries → (v : Values) (f g : ModelFault) → ByRequest entries v f → ByRequest entries v g → f ≡ g
request_once entries settled v f g (inl a) (inl b) = a.1 ∙ sym b.1
request_once entries settled v f g (inl a) (inr b) = absurd (a.0 b.0)
request_once entries settled v f g (inr a) (inl b) = absurd (b.0 a.0)
request_once entries settled v f g (inr a) (inr b) = policy_once entries settled v f g a.1 b.1

pub has_all : (entries : List Entry) (v : Values) (key : Key) → HasValues entries v → first_missing entries ≡ Some key → ⊥
has_all entries v key has e = no_value _ _ e (none_missing entries _ _ _ _ has.request has.policy has.effect has.matcher)

key_once : (entries : List Entry) → AreSettled entries → (f g : ModelFault) → ByKey entries f → ByKey entries g → f ≡ g
key_once entries settled f g (inl a) (inl b) = a.2 ∙ ap fault.Missing (one_value _ _ _ a.1 b.1) ∙ sym b.2
key_once entries settled f g (inl a) (inr b) = absurd (has_all entries b.0 a.0 b.1 a.1)
key_once entries settled f g (inr a) (inl b) = absurd (has_all entries a.0 b.0 a.1 b.1)
key_once entries settled f g (inr a) (inr b) = request_once entries settled a.0 f g a.2 (subst (λ (w : Values). ByRequest entries w g) (same_values entries b.0 a.0 b.1 a.1) b.2)

pub IsEntryFault-once : (entries : List Entry) → AreSettled entries → (f g : ModelFault) → IsEntryFault entries f → IsEntryFault entries g → f ≡ g
IsEntryFault-once entries settled f g one two = key_once entries settled f g (by_key entries f one) (by_key entries g two)

-- entries that say a model have no fault
pub faulty_entries : (entries : List Entry) → AreSettled entries → (f : ModelFault) (m : ModelParts) → IsEntryFault entries f → SayModel entries m → ⊥
faulty_entries entries settled f m (missing {key} e) says = has_all entries says.values key says.has.has.has e
faulty_entries entries settled f m (request_columns v has none) says = none (subst (λ (w : Values). AreColumns (columns_in w.request)) (same_values entries says.values v says.has.has.has has) says.has.has.request)
faulty_entries entries settled f m (policy_columns v has are none) says = none (subst (λ (w : Values). AreColumns (columns_in w.policy)) (same_values entries says.values v says.has.has.has has) says.has.has.policy)
faulty_entries entries settled f m (role_shape v has bad) says = no_value _ _ bad says.has.shapes
faulty_entries entries settled f m (unknown_effect v has shapes none) says =
    no_value _ _ (subst (λ (w : Values). model_effect (relations_of entries) (columns_in w.policy) w.effect ≡ Some m.effect) (same_values entries says.values v says.has.has.has has.has) says.has.effect_is) none
faulty_entries entries settled f m (matcher v effect {inner} has is) says =
    (settled v effect has).apart inner m.matcher is (subst (λ (w : Values). IsMatcher w.matcher m.matcher) (same_values entries says.values v says.has.has.has has.has.has) says.matcher)
faulty_entries entries settled f m (undeclared v effect e first has is names same) says =
    let values_are = same_values entries says.values v says.has.has.has has.has.has in
    let expressions : m.matcher ≡ e = (settled v effect has).once m.matcher e (subst (λ (w : Values). IsMatcher w.matcher m.matcher) values_are says.matcher) is in
    let declared : first_undeclared (columns_in v.request) (columns_in v.policy) (relations_of entries) (uses e) ≡ None =
    ap (λ (x : Expression). first_undeclared (columns_in v.request) (columns_in v.policy) (relations_of entries) (uses x)) (sym expressions)
    ∙ ap (λ (x : List (List ℕ)). first_undeclared x (columns_in v.policy) (relations_of entries) (uses m.matcher)) (sym (says.request ∙ ap (λ (w : Values). columns_in w.request) values_are))
    ∙ ap (λ (x : List (List ℕ)). first_undeclared m.request x (relations_of entries) (uses m.matcher)) (sym (says.policy ∙ ap (λ (w : Values). columns_in w.policy) values_are))
    ∙ ap (λ (x : List RoleShape). first_undeclared m.request m.policy x (uses m.matcher)) (sym says.relations) ∙ says.declared in
    no_value _ _ names declared

-- ---- texts

pub same_statements : (bytes : List ℕ) (one two : List Statement) → IsText bytes one → IsText bytes two → one ≡ two
same_statements bytes one two first second = AreStatements-once _ one two first.said second.said

-- where the lines are in order, the matcher's text says one matcher, or has one fault
abbrev pub AreSettledIn : List ℕ → Type 0
AreSettledIn bytes = (statements : List Statement) → IsText bytes statements → first_fault [] statements ≡ None → AreSettled (entries_of statements)

pub IsModel-once : (bytes : List ℕ) → AreSettledIn bytes → (m n : ModelParts) → IsModel bytes m → IsModel bytes n → m ≡ n
IsModel-once bytes settled m n one two =
    let same = same_statements bytes two.statements one.statements two.text one.text in
    SayModel-once (entries_of one.statements) (settled one.statements one.text one.lines) m n one.says (subst (λ (s : List Statement). SayModel (entries_of s) n) same two.says)

pub faulty_text : (bytes : List ℕ) → AreSettledIn bytes → (f : ModelFault) (m : ModelParts) → IsModelFault bytes f → IsModel bytes m → ⊥
faulty_text bytes settled f m (too_long long) is = omega (arith, is.text.few)
faulty_text bytes settled f m (not_utf8 few none) is = none is.text.utf8
faulty_text bytes settled f m (at_line statements text_ first) is = no_value _ _ first (subst (λ (s : List Statement). first_fault [] s ≡ None) (same_statements bytes is.statements statements is.text text_) is.lines)
faulty_text bytes settled f m (behind_lines statements text_ lines fault_) is =
    faulty_entries (entries_of statements) (settled statements text_ lines) f m fault_ (subst (λ (s : List Statement). SayModel (entries_of s) m) (same_statements bytes is.statements statements is.text text_) is.says)

pub IsModelFault-once : (bytes : List ℕ) → AreSettledIn bytes → (f g : ModelFault) → IsModelFault bytes f → IsModelFault bytes g → f ≡ g
IsModelFault-once bytes settled f g (too_long long) (too_long long') = refl
IsModelFault-once bytes settled f g (too_long long) (not_utf8 few none) = absurd (omega arith)
IsModelFault-once bytes settled f g (too_long long) (at_line s text_ first) = absurd (omega (arith, text_.few))
IsModelFault-once bytes settled f g (too_long long) (behind_lines s text_ lines is) = absurd (omega (arith, text_.few))
IsModelFault-once bytes settled f g (not_utf8 few none) (too_long long) = absurd (omega arith)
IsModelFault-once bytes settled f g (not_utf8 few none) (not_utf8 few' none') = refl
IsModelFault-once bytes settled f g (not_utf8 few none) (at_line s text_ first) = absurd (none text_.utf8)
IsModelFault-once bytes settled f g (not_utf8 few none) (behind_lines s text_ lines is) = absurd (none text_.utf8)
IsModelFault-once bytes settled f g (at_line s text_ first) (too_long long) = absurd (omega (arith, text_.few))
IsModelFault-once bytes settled f g (at_line s text_ first) (not_utf8 few none) = absurd (none text_.utf8)
IsModelFault-once bytes settled f g (at_line s text_ first) (at_line s' text_' first') = one_value _ _ _ first (subst (λ (l : List Statement). first_fault [] l ≡ Some g) (same_statements bytes s' s text_' text_) first')
IsModelFault-once bytes settled f g (at_line s text_ first) (behind_lines s' text_' lines is) = absurd (no_value _ _ first (subst (λ (l : List Statement). first_fault [] l ≡ None) (same_statements bytes s' s text_' text_) lines))
IsModelFault-once bytes settled f g (behind_lines s text_ lines is) (too_long long) = absurd (omega (arith, text_.few))
IsModelFault-once bytes settled f g (behind_lines s text_ lines is) (not_utf8 few none) = absurd (none text_.utf8)
IsModelFault-once bytes settled f g (behind_lines s text_ lines is) (at_line s' text_' first) = absurd (no_value _ _ first (subst (λ (l : List Statement). first_fault [] l ≡ None) (same_statements bytes s s' text_ text_') lines))
IsModelFault-once bytes settled f g (behind_lines s text_ lines is) (behind_lines s' text_' lines' is') =
    IsEntryFault-once (entries_of s) (settled s text_ lines) f g is (subst (λ (l : List Statement). IsEntryFault (entries_of l) g) (same_statements bytes s' s text_' text_) is')

-- by the laws of matchers every text is settled
pub settled_by_laws : ((text : List ℕ) (e f : Expression) → IsMatcher text e → IsMatcher text f → e ≡ f) → ((text : List ℕ) (f g : MatcherFault) → IsFault text f → IsFault text g → f ≡ g) → ((text : List ℕ) (f : MatcherFault) (e : Expression) → IsFault text f → ¬ (IsMatcher text e))
    → (bytes : List ℕ) → AreSettledIn bytes
settled_by_laws once one_fault apart bytes statements text_ lines v effect has = record { once = once v.matcher; one_fault = one_fault v.matcher; apart = apart v.matcher }
