-- Shapes without role relations.
use Rattle.std.specs.Prelude.{false, [], None}
use Rattle.perm_base.specs.declared.shapes.Shapes.{Shapes}

abbrev pub without_roles : Shapes
without_roles = record { columns = 1; effect_column = None; subject_column = 0; roles = []; limit = 10; ranked = false }
