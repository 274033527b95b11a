-- The counts of domains beside the rules that have them.
use Rattle.std.proofs.Common.{◌≡◌, ℕ, ◌+◌, ◌<◌, ◌^◌, Bool, true, cond, if◌then◌else◌, List, [], ◌∷◌, ◌++◌, length, drop, get_or, refl, sym, ap, subst, ◌∙◌, arith}
use Rattle.std.specs.List.{IsDistinct, count_by, sum_by}
use Rattle.std.proofs.lemmas.List.{drop_more, length-map}
use Rattle.std.proofs.lemmas.List.Sums.{count_by-le-length, sum_by-append, sum_by-cons}
use Rattle.std.specs.Str.{bytes_eq}
use Rattle.perm_base.specs.Patterns.{is_pattern}
use Rattle.policy_table.specs.Changes.{inserted, replaced, without}
use Rattle.policy_table.specs.Helps.Domains.{AreCounted, CanCount, Counted, domain_of}
use Rattle.policy_table.specs.Limits.{domains_of}
use Rattle.policy_table.specs.Tables.{Fields, same, stands}
use Rattle.policy_table.proofs.DomainLemmas.{count_cons, recounted}
use Rattle.policy_table.proofs.SumLemmas.{sum_inserted, sum_replaced, sum_without}

-- whether a rule's domain passes, as a number
abbrev pub one : (List ℕ → Bool) → Fields → ℕ
one q rule = cond {A = ℕ} (q (domain_of rule)) 1 0

-- how many domains pass is a sum over the rules
pub domains_sum : (q : List ℕ → Bool) (rules : List Fields) → count_by q (domains_of rules) ≡ sum_by (one q) rules
domains_sum q [] = refl
domains_sum q (rule ∷ rules) = count_cons q (domain_of rule) (domains_of rules) ∙ ap (λ n. one q rule + n) (domains_sum q rules) ∙ sym (sum_by-cons (one q) rule rules)

-- and over two lists the sum of both
pub count_both : (q : List ℕ → Bool) (front back : List (List ℕ)) → count_by q (front ++ back) ≡ count_by q front + count_by q back
count_both q front back = sum_by-append (λ (text : List ℕ). cond {A = ℕ} (q text) 1 0) front back

-- where there are not too many one more can be counted
pub can_count : (rules : List Fields) (counted : Counted) → AreCounted (domains_of rules) counted → length rules + 1 < 2 ^ 64 → CanCount counted
can_count rules counted are few = record {
  each = λ text. omega (arith, are.each text, count_by-le-length (bytes_eq text) (domains_of rules), length-map rules domain_of);
  patterns = λ fit. omega (arith, are.patterns fit, count_by-le-length (is_pattern fit) (domains_of rules), length-map rules domain_of);
}

-- the domains with one rule more
pub counted_inserted : (ranked : Bool) (rule : Fields) (rules : List Fields) (counted : Counted) → AreCounted (domain_of rule ∷ domains_of rules) counted → AreCounted (domains_of (inserted ranked rule rules)) counted
counted_inserted ranked rule rules counted are =
    recounted _ _ counted are
    (λ q. omega (arith, domains_sum q (inserted ranked rule rules), sum_inserted (one q) ranked rule rules, domains_sum q rules, count_cons q (domain_of rule) (domains_of rules)))

-- a rule that is to go is counted beside those that stay
pub counted_part : (rule : Fields) (rules : List Fields) (counted : Counted) → IsDistinct same rules → stands rule rules ≡ true → AreCounted (domains_of rules) counted
    → AreCounted (domain_of rule ∷ domains_of (without rule rules)) counted
counted_part rule rules counted distinct some are =
    recounted _ _ counted are
    (λ q. omega (arith, count_cons q (domain_of rule) (domains_of (without rule rules)), domains_sum q (without rule rules), domains_sum q rules, sum_without (one q) rule rules distinct some))

-- a new rule in for an old one
pub counted_replaced : (ranked : Bool) (old new : Fields) (rules : List Fields) (counted : Counted) → IsDistinct same rules → stands old rules ≡ true
    → AreCounted (domain_of new ∷ domains_of (without old rules)) counted → AreCounted (domains_of (replaced ranked old new rules)) counted
counted_replaced ranked old new rules counted distinct some are =
    recounted _ _ counted are
    (λ q. omega (
      arith,
      count_cons q (domain_of new) (domains_of (without old rules)),
      domains_sum q (without old rules),
      domains_sum q (replaced ranked old new rules),
      sum_without (one q) old rules distinct some,
      sum_replaced (one q) ranked old new rules distinct some,
    ))

-- the domains of the rules from a place on
pub domains_from : (rules : List Fields) (i : ℕ) (rule : Fields) (others : List (List ℕ)) → i < length rules → rule ≡ get_or rules i rule
    → domains_of (drop i rules) ++ others ≡ domain_of rule ∷ (domains_of (drop (i + 1) rules) ++ others)
domains_from rules i rule others within here =
    ap (λ (l : List Fields). domains_of l ++ others) (drop_more rules i rule within) ∙ ap (λ (r : Fields). domain_of r ∷ (domains_of (drop (i + 1) rules) ++ others)) (sym here)

-- a rule with its domain is put in
pub counted_pushed : (ranked counted : Bool) (rule : Fields) (domain : List ℕ) (rules after : List Fields) (d : Counted) → counted ≡ true → domain ≡ domain_of rule → after ≡ inserted ranked rule rules
    → AreCounted (if counted then domain ∷ domains_of rules else domains_of rules) d → AreCounted (domains_of after) d
counted_pushed ranked counted rule domain rules after d is named made are =
    subst (λ (l : List Fields). AreCounted (domains_of l) d) (sym made)
    (counted_inserted ranked rule rules d
    (subst (λ (t : List ℕ). AreCounted (t ∷ domains_of rules) d) named (subst (λ (b : Bool). AreCounted (if b then domain ∷ domains_of rules else domains_of rules) d) is are)))

-- in a list of its own
pub counted_alone : (listed : List Fields) (rule : Fields) (rules : List Fields) (counted : Counted) → listed ≡ rule ∷ [] → IsDistinct same rules → stands rule rules ≡ true → AreCounted (domains_of rules) counted
    → AreCounted (domains_of listed ++ domains_of (without rule rules)) counted
counted_alone listed rule rules counted is distinct some are =
    subst (λ (l : List Fields). AreCounted (domains_of l ++ domains_of (without rule rules)) counted) (sym is) (counted_part rule rules counted distinct some are)

-- a rule with its domain is put in for an old one
pub counted_put : (ranked counted : Bool) (old new : Fields) (domain : List ℕ) (rules after : List Fields) (d : Counted) → counted ≡ true → domain ≡ domain_of new → after ≡ replaced ranked old new rules
    → IsDistinct same rules → stands old rules ≡ true → AreCounted (if counted then domain ∷ domains_of (without old rules) else domains_of (without old rules)) d → AreCounted (domains_of after) d
counted_put ranked counted old new domain rules after d is named made distinct some are =
    subst (λ (l : List Fields). AreCounted (domains_of l) d) (sym made)
    (counted_replaced ranked old new rules d distinct some
    (subst (λ (t : List ℕ). AreCounted (t ∷ domains_of (without old rules)) d) named
    (subst (λ (b : Bool). AreCounted (if b then domain ∷ domains_of (without old rules) else domains_of (without old rules)) d) is are)))
