-- How truths stand, one after the other.
use Rattle.std.proofs.Common.{◌≡◌, ℕ, suc, ◌&&◌, Bool, true, false, List, [], ◌∷◌, ◌++◌, length, Option, Some, None, Result, Ok, Err, refl, sym, ap, ◌∙◌, arith}
use Rattle.std.specs.Prelude.{if◌then◌else◌, option_map}
use Rattle.std.specs.List.{list_all}
use Rattle.std.proofs.lemmas.Bool.{false≢true}
use Rattle.std.proofs.lemmas.List.{append-nil, append_assoc}
use Rattle.effect_fold.specs.declared.fault.Fault.{Fault}
use Rattle.near_miss.specs.Misses.{holds, lacking}
use Rattle.near_miss.specs.Helps.Rows.{StandsFor, lack_of, standing_with}
use Rattle.near_miss.specs.declared.row.Standing.{Standing}
use Rattle.near_miss.specs.declared.row.Standing.TheVariants as standing

-- the place, where all others hold
abbrev first_if : Bool → Option ℕ
first_if b = if b then Some 0 else None

both_false : (b : Bool) → (b && false) ≡ false
both_false true = refl
both_false false = refl

hold_more : (ts : List (Result Bool Fault)) → list_all holds (ts ++ Ok true ∷ []) ≡ list_all holds ts
hold_more [] = refl
hold_more (t ∷ ts) = ap (λ (b : Bool). holds t && b) (hold_more ts)

hold_not : (t : Result Bool Fault) (ts others : List (Result Bool Fault)) → holds t ≡ false → list_all holds (ts ++ t ∷ others) ≡ false
hold_not t [] others not = ap (λ (b : Bool). b && list_all holds others) not
hold_not t (first ∷ ts) others not = ap (λ (b : Bool). holds first && b) (hold_not t ts others not) ∙ both_false (holds first)

lacking_true : (ts : List (Result Bool Fault)) → lacking (ts ++ Ok true ∷ []) ≡ lacking ts
lacking_true [] = refl
lacking_true (Ok true ∷ ts) = ap (option_map suc) (lacking_true ts)
lacking_true (Ok false ∷ ts) = ap first_if (hold_more ts)
lacking_true (Err failed ∷ ts) = refl

lacking_fault : (failed : Fault) (ts others : List (Result Bool Fault)) → lacking (ts ++ Err failed ∷ others) ≡ None
lacking_fault failed [] others = refl
lacking_fault failed (Ok true ∷ ts) others = ap (option_map suc) (lacking_fault failed ts others)
lacking_fault failed (Ok false ∷ ts) others = ap first_if (hold_not (Err failed) ts others refl)
lacking_fault failed (Err other ∷ ts) others = refl

some_inside : (o : Option ℕ) (at : ℕ) → option_map suc o ≡ Some at → (n : ℕ) × (o ≡ Some n)
some_inside (Some n) at e = (n, refl)
some_inside None at e = absurd cc

lacking_two : (ts others : List (Result Bool Fault)) (at : ℕ) → lacking ts ≡ Some at → lacking (ts ++ Ok false ∷ others) ≡ None
lacking_two [] others at e = absurd cc
lacking_two (Ok true ∷ ts) others at e = let inner = some_inside (lacking ts) at e in ap (option_map suc) (lacking_two ts others inner.0 inner.1)
lacking_two (Ok false ∷ ts) others at e = ap first_if (hold_not (Ok false) ts others refl)
lacking_two (Err failed ∷ ts) others at e = absurd cc

lacking_first : (ts : List (Result Bool Fault)) → list_all holds ts ≡ true → lacking (ts ++ Ok false ∷ []) ≡ Some (length ts)
lacking_first [] hold = refl
lacking_first (Ok true ∷ ts) hold = ap (option_map suc) (lacking_first ts hold) ∙ ap (λ (n : ℕ). Some n) (omega arith)
lacking_first (Ok false ∷ ts) hold = absurd (false≢true hold)
lacking_first (Err failed ∷ ts) hold = absurd (false≢true hold)

lacking_none : (ts : List (Result Bool Fault)) → list_all holds ts ≡ true → lacking ts ≡ None
lacking_none [] hold = refl
lacking_none (Ok true ∷ ts) hold = ap (option_map suc) (lacking_none ts hold)
lacking_none (Ok false ∷ ts) hold = absurd (false≢true hold)
lacking_none (Err failed ∷ ts) hold = absurd (false≢true hold)

-- one truth more
behind : (ts others : List (Result Bool Fault)) (t : Result Bool Fault) → (ts ++ t ∷ []) ++ others ≡ ts ++ t ∷ others
behind ts others t = append_assoc ts (t ∷ []) others

pub stands_more : (ts : List (Result Bool Fault)) (s : Standing) (t : Result Bool Fault) → StandsFor ts s → StandsFor (ts ++ t ∷ []) (standing_with s (length ts) t)
stands_more ts standing.AllHold (Ok true) is = hold_more ts ∙ is
stands_more ts standing.AllHold (Ok false) is = lacking_first ts is
stands_more ts standing.AllHold (Err failed) is = λ others. ap lacking (behind ts others (Err failed)) ∙ lacking_fault failed ts others
stands_more ts (standing.Lacks at) (Ok true) is = lacking_true ts ∙ is
stands_more ts (standing.Lacks at) (Ok false) is = λ others. ap lacking (behind ts others (Ok false)) ∙ lacking_two ts others at is
stands_more ts (standing.Lacks at) (Err failed) is = λ others. ap lacking (behind ts others (Err failed)) ∙ lacking_fault failed ts others
stands_more ts standing.Other t is = λ others. ap lacking (behind ts others t) ∙ is (t ∷ others)

-- what is lacked at the end
pub lack_is : (ts : List (Result Bool Fault)) (s : Standing) → StandsFor ts s → lack_of s ≡ lacking ts
lack_is ts standing.AllHold is = sym (lacking_none ts is)
lack_is ts (standing.Lacks at) is = sym is
lack_is ts standing.Other is = sym (ap lacking (sym (append-nil ts)) ∙ is [])
