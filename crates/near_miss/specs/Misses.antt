-- Near misses: rows of p that fit a request in all parts of the matcher's conjunction but one.
use Rattle.std.specs.Prelude.{◌≡◌, ℕ, suc, Bool, true, false, if◌then◌else◌, List, [], ◌∷◌, take, Option, Some, None, option_map, Result, Ok, Err}
use Rattle.std.specs.List.{AllZip, list_all}
use Rattle.effect_fold.specs.declared.fault.Fault.{Fault}
use Rattle.model_conf.specs.ModelText.{ModelParts}
use Rattle.perm_base.specs.declared.shapes.Shapes.{Shapes}
use Rattle.perm_base.specs.declared.shapes.TableId.TheVariants.{P}
use Rattle.perm_value.specs.Datum.{Datum}
use Rattle.policy_table.specs.Tables.{Fields, Policy, rows}
use Rattle.matcher_meaning.specs.Cases.{Case, at_row}
use Rattle.matcher_meaning.specs.Verdicts.{IsTruthOf, case_of}
use Rattle.near_miss.specs.declared.misses.NearMiss.{NearMiss}

-- a truth that is true, and no fault
abbrev pub holds : Result Bool Fault → Bool
holds (Ok b) = b
holds (Err failed) = false

-- the place, counted from 0, of the one part that is false where all others are true; a part that fails is not false
abbrev pub lacking : List (Result Bool Fault) → Option ℕ
lacking [] = None
lacking (Ok true ∷ others) = option_map suc (lacking others)
lacking (Ok false ∷ others) = if list_all holds others then Some 0 else None
lacking (Err failed ∷ others) = None

-- a request of a part's model over these tables, at a row
abbrev pub case_at : Shapes → Policy → List Datum → Fields → ModelParts → Case
case_at shapes policy request fields part = at_row (case_of part shapes policy request) (Some fields)

-- the parts come to these truths at a row; a search for a pattern that counts as refused is a fault of its part
abbrev pub HaveTruths : Shapes → Policy → List Datum → (List ℕ → Type 0) → List ModelParts → Fields → List (Result Bool Fault) → Type 0
HaveTruths shapes policy request IsBad parts fields truths = AllZip (λ part truth. IsTruthOf (λ b. b) (case_at shapes policy request fields part) IsBad truth) parts truths

-- the row lacks this part alone, or it is no near miss
abbrev pub Lacks : Shapes → Policy → List Datum → (List ℕ → Type 0) → List ModelParts → Fields → Option ℕ → Type 0
Lacks shapes policy request IsBad parts fields lack =
    (truths : List (Result Bool Fault)) × HaveTruths shapes policy request IsBad parts fields truths × (lack ≡ lacking truths)

-- this row, by its number, and this part
abbrev pub near_miss : ℕ → ℕ → NearMiss
near_miss row part = record { row = row; part = part }

-- the near misses by what rows lack, of which the first row has this number
abbrev pub misses_from : ℕ → List (Option ℕ) → List NearMiss
misses_from number [] = []
misses_from number (None ∷ lacks) = misses_from (suc number) lacks
misses_from number (Some part ∷ lacks) = near_miss number part ∷ misses_from (suc number) lacks

-- the first near misses of the rows of p in their order, so many at most
abbrev pub AreNearMisses : Shapes → Policy → List Datum → (List ℕ → Type 0) → List ModelParts → ℕ → List NearMiss → Type 0
AreNearMisses shapes policy request IsBad parts most misses =
    (lacks : List (Option ℕ)) × AllZip (Lacks shapes policy request IsBad parts) (rows policy P) lacks × (misses ≡ take most (misses_from 1 lacks))
