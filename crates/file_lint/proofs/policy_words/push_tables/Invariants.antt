use Rattle.std.proofs.Common.{◌≡◌, ◌++◌, codes, drop, flat_map}
use Rattle.std.specs.Prelude.{string_bytes}
use Rattle.perm_base.specs.declared.shapes.RoleShape.{RoleShape}
use Rattle.file_lint.specs.Mended.{relation_key}
use Rattle.file_lint.specs.PolicyWords.{tables_text}
use Rattle.file_lint.proofs.policy_words.push_tables.Given as goal

abbrev pub invariant-loop-shape : goal.invariant-loop-shape
invariant-loop-shape l = string_bytes l.words ++ flat_map (λ (shape : RoleShape). codes ", " ++ relation_key shape.number) (drop l.shape-index l.shape-items) ≡ string_bytes l.fn.words ++ tables_text l.model
