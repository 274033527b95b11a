-- The relations of shapes by their numbers, and what limits say of each.
use Rattle.std.proofs.Common.{◌≡◌, ◌≢◌, ℕ, zero, suc, ◌+◌, ◌<◌, ◌≤◌, Bool, true, false, cond, eqb, List, [], ◌∷◌, length, map, filter, get_or, Option, Some, None, refl, sym, ap, subst, ◌∙◌, arith}
use Rattle.std.specs.Prelude.{if◌then◌else◌, nat_lt}
use Rattle.std.specs.List.{sum_by}
use Rattle.std.proofs.lemmas.Bool.{eq-eqb, ltb-false, ne_eqb}
use Rattle.std.proofs.lemmas.List.{get_or-map, length-map}
use Rattle.std.proofs.lemmas.List.Kept.{AllPairs-from_increasing}
use Rattle.std.proofs.lemmas.List.Sums.{sum_by-cons}
use Rattle.perm_base.specs.Patterns.{is_pattern}
use Rattle.perm_base.specs.RoleShapes.{AreRoles, shape_of}
use Rattle.perm_base.specs.declared.shapes.RoleShape.{RoleShape}
use Rattle.perm_base.specs.declared.shapes.Shapes.{Shapes}
use Rattle.perm_base.specs.declared.shapes.TableId.TheVariants.{G, P}
use Rattle.policy_table.specs.Limits.{domain_pairs, domains_of, passed, pattern_rows, role_rows, with_domains}
use Rattle.policy_table.specs.Tables.{Policy, rows}
use Rattle.policy_table.specs.declared.limit.Limit.{Limit}
use Rattle.policy_table.specs.declared.limit.Limit.TheVariants.{Domains, PatternRows, PolicyRows, RoleRows}
use Rattle.policy_table.proofs.CallerLemmas.{sum_passing}

-- relations whose numbers rise
abbrev AreRising : List RoleShape → Type 0
AreRising roles = (i j : ℕ) (d : RoleShape) → i < j → j < length roles → (get_or roles i d).number < (get_or roles j d).number

rising : (roles : List RoleShape) → AreRoles roles → AreRising roles
rising roles are = λ i j d before within.
    let number : RoleShape → ℕ = λ (shape : RoleShape). shape.number in
    let less : get_or (map number roles) i 0 < get_or (map number roles) j 0
    = AllPairs-from_increasing (map number roles) are.rising i j 0 before (omega (arith, within, length-map roles number)) in
    omega (arith, less, get_or-map number roles i d 0 (omega (arith, before, within)), get_or-map number roles j d 0 within)

-- each is found by its number
found_at : (roles : List RoleShape) (k : ℕ) (d : RoleShape) → AreRising roles → k < length roles → shape_of roles (get_or roles k d).number ≡ Some (get_or roles k d)
found_at [] k d rise within = absurd (omega (arith, within))
found_at (role ∷ roles) zero d rise within = ap (λ (b : Bool). cond b (Some role) (shape_of roles role.number)) (eq-eqb role.number role.number refl)
found_at (role ∷ roles) (suc k) d rise within =
    let apart : role.number ≢ (get_or roles k d).number = λ e. absurd (let less : role.number < (get_or roles k d).number = rise 0 (suc k) d (omega arith) within in omega (arith, less, e)) in
    ap (λ (b : Bool). cond b (Some role) (shape_of roles (get_or roles k d).number)) (ne_eqb role.number (get_or roles k d).number apart)
    ∙ found_at roles k d (λ i j e before inside. rise (suc i) (suc j) e (omega (arith, before)) (omega (arith, inside))) (omega (arith, within))

pub found_itself : (roles : List RoleShape) (k : ℕ) (d : RoleShape) → AreRoles roles → k < length roles → shape_of roles (get_or roles k d).number ≡ Some (get_or roles k d)
found_itself roles k d are within = found_at roles k d (rising roles are) within

-- what is counted of a relation that is found is counted of all
counted_of : (f : RoleShape → ℕ) (roles : List RoleShape) (number : ℕ) (shape : RoleShape) → shape_of roles number ≡ Some shape → f shape ≤ sum_by f roles
counted_of f [] number shape found = absurd cc
counted_of f (role ∷ roles) number shape found =
    subst (λ n. f shape ≤ n) (sym (sum_by-cons f role roles)) (by (eqb role.number number) found (counted_of f roles number shape))
  where
    by : (test : Bool) → cond test (Some role) (shape_of roles number) ≡ Some shape → (shape_of roles number ≡ Some shape → f shape ≤ sum_by f roles) → f shape ≤ f role + sum_by f roles
    by true is rest = let itself : shape ≡ role = cc in subst (λ (r : RoleShape). f r ≤ f role + sum_by f roles) (sym itself) (omega arith)
    by false is rest = omega (arith, rest is)

-- tables within the limits have few rows with a pattern as their domain
few_patterns : (shapes : Shapes) (policy : Policy) → passed shapes policy ≡ None → pattern_rows shapes policy ≤ 64
few_patterns shapes policy is = by (nat_lt 200000 (length (rows policy P))) (nat_lt 200000 (role_rows shapes policy)) (nat_lt 64 (pattern_rows shapes policy)) refl is
  where
    rest : Option Limit
    rest = if nat_lt 16384 (domain_pairs shapes policy) then Some Domains else None

    by : (a b c : Bool) → nat_lt 64 (pattern_rows shapes policy) ≡ c → (if a then Some PolicyRows else if b then Some RoleRows else if c then Some PatternRows else rest) ≡ None → pattern_rows shapes policy ≤ 64
    by true b c e none = absurd cc
    by false true c e none = absurd cc
    by false false true e none = absurd cc
    by false false false e none = ltb-false 64 (pattern_rows shapes policy) e

-- so does each relation whose rules have domains
pub few_patterns_of : (shapes : Shapes) (policy : Policy) (number : ℕ) (shape : RoleShape) → passed shapes policy ≡ None → shape_of shapes.roles number ≡ Some shape → shape.with_domain ≡ true
    → length (filter (is_pattern shape.domains) (domains_of (rows policy (G shape.number)))) ≤ 64
few_patterns_of shapes policy number shape none found with_domain =
    let counted : RoleShape → ℕ = λ (role : RoleShape). length (filter (is_pattern role.domains) (domains_of (rows policy (G role.number)))) in
    let all : sum_by counted (with_domains shapes) ≡ sum_by (λ (role : RoleShape). if role.with_domain then counted role else 0) shapes.roles
    = sum_passing (λ (role : RoleShape). role.with_domain) counted shapes.roles in
    let one : (if shape.with_domain then counted shape else 0) ≤ sum_by (λ (role : RoleShape). if role.with_domain then counted role else 0) shapes.roles
    = counted_of (λ (role : RoleShape). if role.with_domain then counted role else 0) shapes.roles number shape found in
    let here : (if shape.with_domain then counted shape else 0) ≡ counted shape = ap (λ (b : Bool). if b then counted shape else 0) with_domain in
    omega (arith, few_patterns shapes policy none, all, one, here)
