-- The warnings of a policy's rules: what loads and then surprises, each in the row where it stands.
use Rattle.std.specs.Prelude.{◌≡◌, ◌⊎◌, ℕ, ◌+◌, ◌&&◌, ◌||◌, Bool, true, false, is_none, not, slice_set, List, [], ◌∷◌, ◌++◌, codes, flat_map, get_or, Option, Some, None, if◌then◌else◌}
use Rattle.std.specs.List.{AllZip}
use Rattle.std.specs.Str.{bytes_eq}
use Rattle.effect_fold.specs.declared.effect.Effect.{Effect}
use Rattle.effect_fold.specs.declared.effect.Effect.TheVariants.{Priority, SubjectPriority}
use Rattle.ip_match.specs.Blocks.{IsBlock}
use Rattle.ip_match.specs.declared.block.Block.{Block as IpBlock}
use Rattle.matcher_read.specs.Expression.{Expression}
use Rattle.model_conf.specs.ModelText.{ModelParts}
use Rattle.model_conf.specs.RuleText.{IsNoRuleText, IsRuleText}
use Rattle.perm_base.specs.Patterns.{is_pattern}
use Rattle.perm_base.specs.RoleShapes.{shape_of}
use Rattle.perm_base.specs.declared.shapes.RoleShape.{RoleShape}
use Rattle.perm_base.specs.declared.shapes.Shapes.{Shapes}
use Rattle.perm_base.specs.declared.shapes.TableId.{TableId}
use Rattle.perm_base.specs.declared.shapes.TableId.TheVariants.{P, G}
use Rattle.policy_csv.specs.declared.entry.Entry.{Entry}
use Rattle.policy_table.specs.Ranks.{rank}
use Rattle.policy_table.specs.Tables.{Fields, Policy, rows, stands}
use Rattle.text_parts.specs.Lines.{has_byte}
use Rattle.text_parts.specs.Numbered.{Line}
use Rattle.file_lint.specs.Columns.{field_column}
use Rattle.file_lint.specs.Findings.{finding, in_order}
use Rattle.file_lint.specs.ModelWarnings.{brace_words}
use Rattle.file_lint.specs.Nodes.{looked_in}
use Rattle.file_lint.specs.Texts.{quoted}
use Rattle.file_lint.specs.declared.finding.Finding.{Finding}
use Rattle.file_lint.specs.declared.finding.Level.TheVariants.{Warning}
use Rattle.file_lint.specs.declared.nodes.Held.{Held}
use Rattle.file_lint.specs.declared.nodes.Held.TheVariants.{Block, KeyPattern, RuleText}
use Rattle.file_lint.specs.declared.nodes.Looked.{Looked}

-- a warning at the field of a line that has so many fields before it, the table's name among them
abbrev pub warning_in : Line → ℕ → List ℕ → Finding
warning_in line before words = finding line.number (field_column before line.text) Warning words

abbrev pub field_of : Fields → ℕ → List ℕ
field_of rule at = get_or rule at []

-- a rule that stands already
abbrev pub repeat_warnings : Policy → Line → Entry → List Finding
repeat_warnings before line entry =
    if stands entry.rule (rows before entry.table) then warning_in line 0 (codes "this rule stands above already: it counts once") ∷ [] else []

-- `allow` or `deny`
abbrev pub is_effect : List ℕ → Bool
is_effect text = bytes_eq text (codes "allow") || bytes_eq text (codes "deny")

abbrev pub effect_warnings : Line → Fields → Option ℕ → List Finding
effect_warnings line rule None = []
effect_warnings line rule (Some at) =
    if is_effect (field_of rule at) then [] else warning_in line (at + 1) (quoted (field_of rule at) ++ codes " is neither allow nor deny: the rule counts as not matched") ∷ []

-- where p is ranked, a first field that is no number
abbrev pub rank_warnings : Line → Fields → Bool → List Finding
rank_warnings line rule false = []
rank_warnings line rule true =
    if is_none (rank rule) then warning_in line 1 (quoted (field_of rule 0) ++ codes " is no number: the rule ranks behind every number") ∷ [] else []

-- a subject that is a pattern of g's function
abbrev pub subject_warnings : Line → Fields → ℕ → Option RoleShape → List Finding
subject_warnings line rule at None = []
subject_warnings line rule at (Some shape) =
    if is_pattern shape.names (field_of rule at)
    then warning_in line (at + 1) (quoted (field_of rule at) ++ codes " is a pattern of g: a name that is asked is never a pattern, so this rule is for the name of these very bytes") ∷ []
    else []

-- the first rule that fits decides
abbrev pub is_by_priority : Effect → Bool
is_by_priority Priority = true
is_by_priority SubjectPriority = true
is_by_priority _ = false

-- an equal rule but for this effect stands above
abbrev pub has_other : Policy → Fields → ℕ → List ℕ → Bool
has_other before rule at effect = stands (slice_set rule at effect) (rows before P)

-- the rule does not stand yet, and one that differs in its effect alone does
abbrev pub is_behind_other : Policy → Fields → ℕ → Bool
is_behind_other before rule at = not (stands rule (rows before P)) && (has_other before rule at (codes "allow") || has_other before rule at (codes "deny"))

-- a rule behind one that differs in its effect alone, and decides first
abbrev pub order_warnings : Effect → Policy → Line → Fields → Option ℕ → List Finding
order_warnings effect before line rule None = []
order_warnings effect before line rule (Some at) =
    if is_by_priority effect && is_behind_other before rule at then warning_in line (at + 1) (codes "a rule above differs in its effect alone: it decides first, and this one is never reached") ∷ [] else []

-- a link from a name to itself
abbrev pub link_words : List ℕ → List ℕ
link_words name = codes "a link from " ++ quoted name ++ codes " to itself"

abbrev pub link_warnings : Line → Fields → List Finding
link_warnings line rule = if bytes_eq (field_of rule 0) (field_of rule 1) then warning_in line 2 (link_words (field_of rule 0)) ∷ [] else []

-- what the fields of a rule of p surprise by
abbrev pub policy_warnings : Shapes → Line → Fields → List Finding
policy_warnings shapes line rule =
    effect_warnings line rule shapes.effect_column ++ rank_warnings line rule shapes.ranked ++ subject_warnings line rule shapes.subject_column (shape_of shapes.roles 1)

-- what a rule surprises by, behind the rules of these tables
abbrev pub own_warnings : ModelParts → Shapes → Policy → Line → Entry → TableId → List Finding
own_warnings model shapes before line entry P = policy_warnings shapes line entry.rule ++ order_warnings model.effect before line entry.rule shapes.effect_column
own_warnings model shapes before line entry (G number) = link_warnings line entry.rule

-- a field that is no address and no block, or no rule text
abbrev pub Surprises : (good bad : Type 0) → Finding → List Finding → Type 0
Surprises good bad found findings = (good × (findings ≡ [])) ⊎ (bad × (findings ≡ found ∷ []))

-- what a field surprises by that the matcher takes for this
abbrev pub HeldFinds : ModelParts → Line → ℕ → List ℕ → Held → List Finding → Type 0
HeldFinds model line at text Block findings =
    Surprises ((block : IpBlock) × IsBlock text block) ((block : IpBlock) → ¬ (IsBlock text block))
    (warning_in line (at + 1) (quoted text ++ codes " is no address and no block: ipMatch fails with it")) findings
HeldFinds model line at text KeyPattern findings =
    findings ≡ (if has_byte 123 text then warning_in line (at + 1) brace_words ∷ [] else [])
HeldFinds model line at text RuleText findings =
    Surprises ((e : Expression) × IsRuleText model text e) (IsNoRuleText model text)
    (warning_in line (at + 1) (quoted text ++ codes " says no rule: eval fails with it")) findings

-- what the field of a column surprises by
abbrev pub LookedFinds : ModelParts → Line → Fields → Looked → List Finding → Type 0
LookedFinds model line rule look findings = HeldFinds model line look.at (field_of rule look.at) look.held findings

-- all of these, of a rule of p
pub record IsLookedAt (model : ModelParts) (line : Line) (rule : Fields) (findings : List Finding) : Type 0 where
  pub pieces : List (List Finding)
  pub each : AllZip (LookedFinds model line rule) (looked_in model) pieces
  pub together : findings ≡ flat_map (λ (piece : List Finding). piece) pieces

abbrev pub AreLooked : ModelParts → Line → Fields → TableId → List Finding → Type 0
AreLooked model line rule P findings = IsLookedAt model line rule findings
AreLooked model line rule (G number) findings = findings ≡ []

-- the warnings of a rule, behind the rules of these tables, in the order of their columns
pub record RowFinds (model : ModelParts) (shapes : Shapes) (before : Policy) (line : Line) (entry : Entry) (findings : List Finding) : Type 0 where
  pub looked : List Finding
  pub are_looked : AreLooked model line entry.rule entry.table looked
  pub all : findings ≡ in_order (repeat_warnings before line entry ++ own_warnings model shapes before line entry entry.table ++ looked)
