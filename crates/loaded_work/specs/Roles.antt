-- What the commands `implicit` and `report` write of the role relation g, at version 0.
use Rattle.std.specs.Prelude.{◌≡◌, ◌⊎◌, ◌<◌, ◌≤◌, ℕ, List, ◌++◌, Option, Some, None, length}
use Rattle.answer_lines.specs.LineText.{line_text}
use Rattle.answer_lines.specs.declared.answer.Answer.{Answer}
use Rattle.answer_lines.specs.declared.answer.Answer.TheVariants as answer
use Rattle.answer_lines.specs.declared.answer.Line.{Line}
use Rattle.command_words.specs.FileNames.{SubjectName}
use Rattle.model_conf.specs.ModelText.{ModelParts}
use Rattle.perm_base.specs.RoleShapes.{shape_of}
use Rattle.perm_base.specs.declared.shapes.Shapes.{Shapes}
use Rattle.perm_base.specs.declared.shapes.TableId.TheVariants.{P, G}
use Rattle.policy_query.specs.Names.{names_refusal}
use Rattle.policy_query.specs.declared.refused.QueryRefused.{QueryRefused}
use Rattle.policy_query.specs.declared.refused.QueryRefused.TheVariants.{NoTable}
use Rattle.policy_table.specs.Tables.{Policy}
use Rattle.rbac_query.specs.Asked.{AreImplicitRoles, AreImplicitUsers, hierarchy}
use Rattle.rbac_query.specs.Permissions.{AreImplicitPermissions}
use Rattle.rbac_query.specs.Report.{IsReport}
use Rattle.run_status.specs.Parts.{limit_of}
use Rattle.run_status.specs.declared.part.Part.TheVariants as part

-- the refusal where there is one, and else a value of which this holds
abbrev pub IsReplied : {T : Type 0} → Option QueryRefused → (T → Type 0) → (T → Answer) → Answer → Type 0
IsReplied {T} None Holds told reply = (value : T) × Holds value × (reply ≡ told value)
IsReplied (Some refused) Holds told reply = reply ≡ answer.Query refused

abbrev pub line_of : ℕ → Answer → Line
line_of number reply = record { number = number; answer = reply }

-- the implied roles of a name, the users that have it as an implied role, and the rules that count for it, each by a line
pub record IsImplied (model : ModelParts) (shapes : Shapes) (policy : Policy) (subject : SubjectName) (text : List ℕ) : Type 0 where
  pub roles : Answer
  pub users : Answer
  pub rules : Answer
  pub roles_are : IsReplied (names_refusal shapes hierarchy subject.domain) (AreImplicitRoles shapes policy hierarchy subject.domain subject.name) (answer.Roles 0) roles
  pub users_are : IsReplied (names_refusal shapes hierarchy subject.domain) (AreImplicitUsers shapes policy hierarchy subject.domain subject.name) (answer.Users 0) users
  pub rules_are : IsReplied (names_refusal shapes hierarchy subject.domain) (AreImplicitPermissions model shapes policy subject.domain subject.name) (answer.Rows 0 P) rules
  pub text_is : text ≡ line_text (line_of 1 roles) ++ line_text (line_of 2 users) ++ line_text (line_of 3 rules)

-- the line of a report where there is no relation g
abbrev pub no_report : List ℕ
no_report = line_text (line_of 1 (answer.Query (NoTable (G hierarchy))))

-- the report of g, or that line
abbrev pub IsReported : Shapes → Policy → List ℕ → Type 0
IsReported shapes policy text = IsReport shapes policy text ⊎ ((shape_of shapes.roles hierarchy ≡ None) × (text ≡ no_report))

-- the report is not longer than it may be
abbrev pub IsShort : Shapes → Policy → Type 0
IsShort shapes policy = (text : List ℕ) → IsReport shapes policy text → length text ≤ limit_of part.Report

-- it is longer
abbrev pub IsLong : Shapes → Policy → Type 0
IsLong shapes policy = (text : List ℕ) × IsReport shapes policy text × (limit_of part.Report < length text)
