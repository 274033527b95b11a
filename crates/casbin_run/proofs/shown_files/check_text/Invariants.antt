use Rattle.std.proofs.Common.{◌≡◌, ◌++◌, drop}
use Rattle.std.specs.Prelude.{flat_map, map, string_bytes}
use Rattle.perm_base.specs.declared.shapes.RoleShape.{RoleShape}
use Rattle.perm_base.specs.declared.shapes.TableId.TheVariants.{G}
use Rattle.casbin_run.specs.Texts.{check_text, count_line}
use Rattle.casbin_run.proofs.shown_files.check_text.Given as goal

abbrev pub invariant-loop-shape : goal.invariant-loop-shape
invariant-loop-shape l =
    string_bytes l.text ++ flat_map (count_line l.loaded.tables.policy) (map (λ (shape : RoleShape). G shape.number) (drop l.shape-index l.relations)) ≡ check_text l.loaded.model l.loaded.tables.policy
