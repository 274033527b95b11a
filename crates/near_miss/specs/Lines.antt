-- The lines that tell near misses: `  p#2 alice, data2, read lacks r.obj == p.obj`, each with LF.
use Rattle.std.specs.Prelude.{ℕ, ◌-◌, List, [], ◌++◌, codes, decimal, flat_map, map}
use Rattle.std.specs.List.{slice_index_or}
use Rattle.model_conf.specs.ModelText.{ModelParts}
use Rattle.perm_base.specs.FieldLine.{printed}
use Rattle.policy_table.specs.Tables.{Fields}
use Rattle.near_miss.specs.declared.misses.NearMiss.{NearMiss}

-- the texts of the parts
abbrev pub part_texts : List ModelParts → List (List ℕ)
part_texts parts = map (λ (part : ModelParts). part.matcher_text) parts

-- the line of a near miss among these rules, by its number and the text of its part
abbrev pub miss_line : List ModelParts → List Fields → NearMiss → List ℕ
miss_line parts rules miss =
    codes "  p#" ++ decimal miss.row ++ codes " " ++ printed (slice_index_or rules (miss.row - 1) []) ++ codes " lacks " ++ slice_index_or (part_texts parts) miss.part [] ++ codes "\n"

-- the lines of near misses
abbrev pub miss_lines : List ModelParts → List Fields → List NearMiss → List ℕ
miss_lines parts rules misses = flat_map (miss_line parts rules) misses
