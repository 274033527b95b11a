use Rattle.std.proofs.Common.{◌∙◌, List, ℕ, [], Some, ap, arith, subst, sym}
use Rattle.policy_table.specs.Tables.{Fields, rows}
use Rattle.role_domain.specs.Domains.{IsDomain, IsRight, found}
use Rattle.role_domain.specs.Helps.OwnRows.{CanMake, HasRowsAt, HaveRows, Owned, lent}
use Rattle.role_domain.specs.Relations.{Relation}
use Rattle.role_domain.proofs.Keyed.{same_text}
use Rattle.role_domain.proofs.OwnLemmas.{IsFilling, can_make, filling_first, filling_next}
use Rattle.role_domain.proofs.domains.Domains.fill.Goals as goal

pub loop-text-init : goal.loop-text-init
loop-text-init c =
    let all : List Fields = rows c.args.tables.now.policy c.args.table in
    let have : HaveRows all [] c.in_ok-owned.owned = subst (λ (l : List Fields). HaveRows l [] c.in_ok-owned.owned) c.rows.ensures.value c.in_ok-owned.ensures in
    record {
      filling = λ text.
          filling_first (record { terms = c.args.terms; rows = all }) text (found c.in_ok-owned.owned text) (found c.reserve.new.self.entries text) (have.at text)
          (subst (λ entries. IsRight (record { terms = c.args.terms; rows = [] }) text (found entries text)) (sym c.reserve.ensures.same) (c.requires.right.right text));
      room = omega (arith, c.in_ok-reserve.ensures.room, c.len.ensures);
    }

pub domain_with-requires : goal.domain_with-requires
domain_with-requires c =
    let all : List Fields = rows c.args.tables.now.policy c.args.table in
    let has : HasRowsAt all [] c.in-Some.text (Some c.in-Some.own) =
    subst (λ there. IsFilling (record { terms = c.args.terms; rows = all }) c.in-Some.text there (found c.loop-text.self.entries c.in-Some.text)) c.in-Some.ensures.there (c.loop-text.invariant.filling c.in-Some.text) in (
      all,
      subst (λ text. CanMake c.args.terms text all (lent c.deref.result.now) c.args.patterns.now) (sym c.bytes.ensures)
          (subst (λ own. CanMake c.args.terms c.in-Some.text all (lent own) c.args.patterns.now) (sym c.deref.ensures.value) (can_make c.args.terms c.in-Some.text all c.args.patterns.now c.in-Some.own c.args.self.now has c.requires)),
    )

pub loop-text-preserved : goal.loop-text-preserved
loop-text-preserved c =
    let all : List Fields = rows c.args.tables.now.policy c.args.table in
    let relation : Relation = record { terms = c.args.terms; rows = all } in
    let key : List ℕ = c.in-Some.text in
    let has : HasRowsAt all [] key (Some c.in-Some.own) =
    subst (λ there. IsFilling relation key there (found c.loop-text.self.entries key)) c.in-Some.ensures.there (c.loop-text.invariant.filling key) in
    let can : CanMake c.args.terms c.bytes.result.now all (lent c.deref.result.now) c.args.patterns.now =
    subst (λ text. CanMake c.args.terms text all (lent c.deref.result.now) c.args.patterns.now) (sym c.bytes.ensures)
    (subst (λ own. CanMake c.args.terms key all (lent own) c.args.patterns.now) (sym c.deref.ensures.value) (can_make c.args.terms key all c.args.patterns.now c.in-Some.own c.args.self.now has c.requires)) in
    let right : IsDomain relation key c.in_ok-domain.domain = subst (λ text. IsDomain relation text c.in_ok-domain.domain) c.bytes.ensures (c.in_ok-domain.ensures all can) in
    record {
      filling = λ text.
          filling_next relation key text (found c.loop-text.owned text) (found c.pop.new.self text) (found c.loop-text.self.entries text) (found c.put.new.self.entries text) c.in_ok-domain.domain right (c.loop-text.invariant.filling text)
          (λ is. (ap (found c.pop.new.self) (same_text text key is) ∙ c.in-Some.ensures.gone, ap (found c.put.new.self.entries) (same_text text key is) ∙ c.put.ensures.there))
          (λ differ. (c.in-Some.ensures.others text differ, c.put.ensures.others text differ));
      room = omega (arith, c.loop-text.invariant.room, c.in-Some.ensures.fewer, c.put.ensures.spare);
    }

pub returns : goal.returns
returns c = record {
  right = λ text.
      subst (λ there. IsFilling (record { terms = c.args.terms; rows = rows c.args.tables.now.policy c.args.table }) text there (found c.loop-text.self.entries text)) (ap (λ (owned : Owned). found owned text) c.in_default.ensures.none)
      (c.loop-text.invariant.filling text);
}
