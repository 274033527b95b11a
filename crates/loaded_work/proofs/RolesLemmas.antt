-- What roles imply is told by one text, and a report is long or short.
use Rattle.std.proofs.Common.{◌≡◌, ℕ, ◌<◌, ◌≤◌, Bool, true, false, leb, List, [], ◌++◌, length, inl, inr, ⊎_elim, refl, sym, ap, subst, ◌∙◌, arith, leb-true, leb-false}
use Rattle.std.specs.Prelude.{◌⊎◌, ◌≢◌, ◌==◌, Option, Some, None, Ok, Err, if◌then◌else◌, is_some}
use Rattle.std.specs.Option.{option_map_or}
use Rattle.answer_lines.specs.LineText.{line_text}
use Rattle.answer_lines.specs.Told.{is_printable, is_query_told}
use Rattle.answer_lines.specs.declared.answer.Answer.{Answer}
use Rattle.answer_lines.specs.declared.answer.Answer.TheVariants as answer
use Rattle.command_words.specs.FileNames.{SubjectName}
use Rattle.model_conf.specs.ModelText.{ModelParts}
use Rattle.perm_base.specs.RoleShapes.{shape_of}
use Rattle.perm_base.specs.declared.shapes.RoleShape.{RoleShape}
use Rattle.perm_base.specs.declared.shapes.Shapes.{Shapes}
use Rattle.perm_base.specs.declared.shapes.TableId.TheVariants.{P, G}
use Rattle.policy_query.specs.Names.{named_columns, names_refusal}
use Rattle.policy_query.specs.declared.refused.QueryRefused.{QueryRefused}
use Rattle.policy_query.specs.declared.refused.QueryRefused.TheVariants as query
use Rattle.policy_table.specs.Tables.{Fields, Policy, rows}
use Rattle.rbac_query.specs.Asked.{AreImplicitRoles, AreImplicitUsers, IsAnswered, OfRelation, hierarchy}
use Rattle.rbac_query.specs.Permissions.{AreImplicitPermissions}
use Rattle.rbac_query.specs.Report.{IsReport}
use Rattle.role_meaning.specs.Implied.{AreImplied}
use Rattle.role_meaning.specs.ImpliedUsers.{AreImpliedUsers}
use Rattle.run_status.specs.Parts.{limit_of}
use Rattle.run_status.specs.declared.part.Part.TheVariants as part
use Rattle.loaded_work.specs.Roles.{IsImplied, IsLong, IsReplied, IsReported, IsShort, line_of, no_report}

-- what is asked of roles has one answer
pub record ImpliesOnce : Type 0 where
  pub roles : (shape : RoleShape) (rules : List Fields) (limit : ℕ) (domain : Option (List ℕ)) (x : List ℕ) (names others : List (List ℕ)) → AreImplied shape rules limit domain x names → AreImplied shape rules limit domain x others → names ≡ others
  pub users : (shape : RoleShape) (rules : List Fields) (limit : ℕ) (domain : Option (List ℕ)) (x : List ℕ) (names others : List (List ℕ)) → AreImpliedUsers shape rules limit domain x names → AreImpliedUsers shape rules limit domain x others → names ≡ others
  pub rules : (model : ModelParts) (shapes : Shapes) (policy : Policy) (domain : Option (List ℕ)) (name : List ℕ) (first second : List Fields) → AreImplicitPermissions model shapes policy domain name first → AreImplicitPermissions model shapes policy domain name second → first ≡ second
  pub report : (shapes : Shapes) (policy : Policy) (first second : List ℕ) → IsReport shapes policy first → IsReport shapes policy second → first ≡ second

-- a reply is one where the value is
reply_once : {T : Type 0} (Holds : T → Type 0) (told : T → Answer) → ((first second : T) → Holds first → Holds second → first ≡ second) → (refusal : Option QueryRefused) (one other : Answer) → IsReplied refusal Holds told one → IsReplied refusal Holds told other → one ≡ other
reply_once Holds told once None one other (x, holds, is) (y, holds_too, same) = is ∙ ap told (once x y holds holds_too) ∙ sym same
reply_once Holds told once (Some refused) one other is same = is ∙ sym same

-- what holds of a relation's one shape
of_one : (shapes : Shapes) (policy : Policy) (relation : ℕ) (One Other : RoleShape → List Fields → Type 0) (A : Type 0) → ((shape : RoleShape) → One shape (rows policy (G relation)) → Other shape (rows policy (G relation)) → A) → OfRelation shapes policy relation One → OfRelation shapes policy relation Other → A
of_one shapes policy relation One Other A both p q =
    let same : q.shape ≡ p.shape = same_Some (sym q.there ∙ p.there) in
    both p.shape p.holds (subst (λ (shape : RoleShape). Other shape (rows policy (G relation))) same q.holds)
  where
    same_Some : {x y : RoleShape} → Some x ≡ Some y → x ≡ y
    same_Some e = cc

module _ (law : ImpliesOnce) where
  roles_once : (shapes : Shapes) (policy : Policy) (domain : Option (List ℕ)) (name : List ℕ) (names others : List (List ℕ)) → AreImplicitRoles shapes policy hierarchy domain name names → AreImplicitRoles shapes policy hierarchy domain name others → names ≡ others
  roles_once shapes policy domain name names others p q = of_one shapes policy hierarchy _ _ (names ≡ others) (λ shape one other. law.roles shape (rows policy (G hierarchy)) shapes.limit domain name names others one other) p q

  users_once : (shapes : Shapes) (policy : Policy) (domain : Option (List ℕ)) (name : List ℕ) (names others : List (List ℕ)) → AreImplicitUsers shapes policy hierarchy domain name names → AreImplicitUsers shapes policy hierarchy domain name others → names ≡ others
  users_once shapes policy domain name names others p q = of_one shapes policy hierarchy _ _ (names ≡ others) (λ shape one other. law.users shape (rows policy (G hierarchy)) shapes.limit domain name names others one other) p q

  pub implied_once : (model : ModelParts) (shapes : Shapes) (policy : Policy) (subject : SubjectName) (first second : List ℕ) → IsImplied model shapes policy subject first → IsImplied model shapes policy subject second → first ≡ second
  implied_once model shapes policy subject first second p q =
      let refusal = names_refusal shapes hierarchy subject.domain in
      let roles = reply_once (AreImplicitRoles shapes policy hierarchy subject.domain subject.name) (answer.Roles 0) (roles_once shapes policy subject.domain subject.name) refusal p.roles q.roles p.roles_are q.roles_are in
      let users = reply_once (AreImplicitUsers shapes policy hierarchy subject.domain subject.name) (answer.Users 0) (users_once shapes policy subject.domain subject.name) refusal p.users q.users p.users_are q.users_are in
      let rules = reply_once (AreImplicitPermissions model shapes policy subject.domain subject.name) (answer.Rows 0 P) (law.rules model shapes policy subject.domain subject.name) refusal p.rules q.rules p.rules_are q.rules_are in
      p.text_is ∙ ap (λ (reply : Answer). line_text (line_of 1 reply) ++ line_text (line_of 2 p.users) ++ line_text (line_of 3 p.rules)) roles
      ∙ ap (λ (reply : Answer). line_text (line_of 1 q.roles) ++ line_text (line_of 2 reply) ++ line_text (line_of 3 p.rules)) users
      ∙ ap (λ (reply : Answer). line_text (line_of 1 q.roles) ++ line_text (line_of 2 q.users) ++ line_text (line_of 3 reply)) rules ∙ sym q.text_is

  -- where there is a report, there is the relation
  no_relation : {A : Type 0} (shapes : Shapes) (policy : Policy) (text : List ℕ) → IsReport shapes policy text → shape_of shapes.roles hierarchy ≡ None → A
  no_relation shapes policy text is none = let there = is.there in absurd cc

  pub reported_once : (shapes : Shapes) (policy : Policy) (first second : List ℕ) → IsReported shapes policy first → IsReported shapes policy second → first ≡ second
  reported_once shapes policy first second (inl is) (inl same) = law.report shapes policy first second is same
  reported_once shapes policy first second (inl is) (inr none) = no_relation shapes policy first is none.0
  reported_once shapes policy first second (inr none) (inl is) = no_relation shapes policy second is none.0
  reported_once shapes policy first second (inr none) (inr same) = none.1 ∙ sym same.1

  -- a report of this size is short
  pub short_by : (shapes : Shapes) (policy : Policy) (text : List ℕ) → IsReport shapes policy text → length text ≤ limit_of part.Report → IsShort shapes policy
  short_by shapes policy text is within other same = subst (λ (t : List ℕ). length t ≤ limit_of part.Report) (law.report shapes policy text other is same) within

  -- without the relation there is no report
  pub short_none : (shapes : Shapes) (policy : Policy) → shape_of shapes.roles hierarchy ≡ None → IsShort shapes policy
  short_none shapes policy none text is = no_relation shapes policy text is none

  module _ (there : (shapes : Shapes) (policy : Policy) (shape : RoleShape) → shape_of shapes.roles hierarchy ≡ Some shape → (text : List ℕ) × IsReport shapes policy text) where
    pub long_or_short : (shapes : Shapes) (policy : Policy) → IsLong shapes policy ⊎ IsShort shapes policy
    long_or_short shapes policy = by_shape (shape_of shapes.roles hierarchy) refl
      where
        by_size : (text : List ℕ) → IsReport shapes policy text → (test : Bool) → leb (length text) (limit_of part.Report) ≡ test → IsLong shapes policy ⊎ IsShort shapes policy
        by_size text is true e = inr (short_by shapes policy text is (leb-true (length text) (limit_of part.Report) e))
        by_size text is false e = inl (text, is, leb-false (length text) (limit_of part.Report) e)

        by_shape : (shape : Option RoleShape) → shape_of shapes.roles hierarchy ≡ shape → IsLong shapes policy ⊎ IsShort shapes policy
        by_shape None none = inr (short_none shapes policy none)
        by_shape (Some shape) some = let text = there shapes policy shape some in by_size text.0 text.1 (leb (length text.0) (limit_of part.Report)) refl

-- ---- what is replied

pub replied : {T : Type 0} (refusal : Option QueryRefused) (Holds : T → Type 0) (told : T → Answer) (value : T) → IsAnswered refusal Holds (Ok value) → IsReplied refusal Holds told (told value)
replied refusal Holds told value (none, holds) = subst (λ (r : Option QueryRefused). IsReplied r Holds told (told value)) (sym none) (value, holds, refl)

pub replied_not : {T : Type 0} (refusal : Option QueryRefused) (Holds : T → Type 0) (told : T → Answer) (refused : QueryRefused) (reply : Answer) → IsAnswered refusal Holds (Err refused) → reply ≡ answer.Query refused → refused ≢ query.NoMemory → IsReplied refusal Holds told reply
replied_not refusal Holds told refused reply why is told_why =
    ⊎_elim (λ memory. absurd (told_why memory)) (λ some. subst (λ (r : Option QueryRefused). IsReplied r Holds told reply) (sym some) is) why

-- why names are refused can be told
pub refusal_told : (shapes : Shapes) (domain : Option (List ℕ)) (refused : QueryRefused) → names_refusal shapes hierarchy domain ≡ Some refused → is_query_told refused ≡ true
refusal_told shapes domain refused is = by (shape_of shapes.roles hierarchy) is
  where
    of : (want got : ℕ) (test : Bool) → (if test then None else Some (query.Columns want got)) ≡ Some refused → is_query_told refused ≡ true
    of want got true is = absurd cc
    of want got false is = let same : query.Columns want got ≡ refused = cc in subst (λ (r : QueryRefused). is_query_told r ≡ true) same refl

    by : (shape : Option RoleShape) → option_map_or (λ (shape : RoleShape). if named_columns shape.with_domain == named_columns (is_some domain) then None else Some (query.Columns (named_columns shape.with_domain) (named_columns (is_some domain)))) shape (Some (query.NoTable (G hierarchy))) ≡ Some refused
        → is_query_told refused ≡ true
    by None is = let same : query.NoTable (G hierarchy) ≡ refused = cc in subst (λ (r : QueryRefused). is_query_told r ≡ true) same refl
    by (Some shape) is = of (named_columns shape.with_domain) (named_columns (is_some domain)) (named_columns shape.with_domain == named_columns (is_some domain)) is

pub refused_printable : {T : Type 0} (shapes : Shapes) (domain : Option (List ℕ)) (Holds : T → Type 0) (refused : QueryRefused) (reply : Answer) → IsAnswered (names_refusal shapes hierarchy domain) Holds (Err refused) → reply ≡ answer.Query refused → refused ≢ query.NoMemory → is_printable reply ≡ true
refused_printable shapes domain Holds refused reply why is told =
    ⊎_elim (λ memory. absurd (told memory)) (λ some. ap is_printable is ∙ refusal_told shapes domain refused some) why

-- ---- the three lines

-- lines that were appended one after the other
pub three_appended : (none first second third a b c : List ℕ) → none ≡ [] → first ≡ none ++ a → second ≡ first ++ b → third ≡ second ++ c → third ≡ a ++ b ++ c
three_appended none first second third a b c empty one two three = three ∙ ap (λ (t : List ℕ). t ++ c) (two ∙ ap (λ (t : List ℕ). t ++ b) (one ∙ ap (λ (t : List ℕ). t ++ a) empty))

pub implied_of : (model : ModelParts) (shapes : Shapes) (policy : Policy) (subject : SubjectName) (name : List ℕ) (domain : Option (List ℕ)) (roles users rules : Answer) (text : List ℕ) → name ≡ subject.name → domain ≡ subject.domain
    → IsReplied (names_refusal shapes hierarchy domain) (AreImplicitRoles shapes policy hierarchy domain name) (answer.Roles 0) roles
    → IsReplied (names_refusal shapes hierarchy domain) (AreImplicitUsers shapes policy hierarchy domain name) (answer.Users 0) users
    → IsReplied (names_refusal shapes hierarchy domain) (AreImplicitPermissions model shapes policy domain name) (answer.Rows 0 P) rules
    → text ≡ line_text (line_of 1 roles) ++ line_text (line_of 2 users) ++ line_text (line_of 3 rules) → IsImplied model shapes policy subject text
implied_of model shapes policy subject name domain roles users rules text name-is domain-is roles-are users-are rules-are is =
    let here : SubjectName = record { name = name; domain = domain } in
    let at : IsImplied model shapes policy here text = record { roles = roles; users = users; rules = rules; roles_are = roles-are; users_are = users-are; rules_are = rules-are; text_is = is } in
    subst (λ (n : List ℕ). IsImplied model shapes policy (record { name = n; domain = subject.domain }) text) name-is
    (subst (λ (d : Option (List ℕ)). IsImplied model shapes policy (record { name = name; domain = d }) text) domain-is at)

-- the state is the first of what was loaded
pub implied_over : (model : ModelParts) (shapes others : Shapes) (policy second : Policy) (subject : SubjectName) (text : List ℕ) → others ≡ shapes → second ≡ policy → IsImplied model others second subject text → IsImplied model shapes policy subject text
implied_over model shapes others policy second subject text same-shapes same-policy is =
    subst (λ (s : Shapes). IsImplied model s policy subject text) same-shapes (subst (λ (p : Policy). IsImplied model others p subject text) same-policy is)

pub reported_over : (shapes others : Shapes) (policy second : Policy) (Holds : Shapes → Policy → Type 0) → others ≡ shapes → second ≡ policy → Holds others second → Holds shapes policy
reported_over shapes others policy second Holds same-shapes same-policy is =
    subst (λ (s : Shapes). Holds s policy) same-shapes (subst (λ (p : Policy). Holds others p) same-policy is)
