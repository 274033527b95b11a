use Rattle.std.proofs.Common.{refl, ap, length, arith}
use Rattle.role_domain.proofs.BringLemmas.{tells_of, test_of}
use Rattle.role_domain.proofs.StepLemmas.{changed_ready, rows_few, rows_stand, same_domain}
use Rattle.role_graph.specs.Groups.{times}
use Rattle.role_domain.proofs.domain_steps.step_of.Goals as goal

pub prepare-requires-clause-stand : goal.prepare-requires-clause-stand
prepare-requires-clause-stand c = λ row.
    let decided = c.links_are_decided.ensures.fits in
    omega (
      arith,
      ap (times row) c.rows_of-2.ensures,
      rows_stand c.requires.0 c.args.text.now c.args.domain.now c.args.coming.now c.args.going.now c.requires.1 c.requires.2 (test_of decided c.requires.0.terms.domains c.args.text.now) (tells_of decided c.requires.0.terms.domains c.args.text.now) row,
    )

pub prepare-requires-clause-few : goal.prepare-requires-clause-few
prepare-requires-clause-few c =
    let decided = c.links_are_decided.ensures.fits in
    omega (
      arith,
      ap length c.rows_of.ensures,
      ap length c.rows_of-2.ensures,
      rows_few c.requires.0 c.args.text.now c.args.domain.now c.args.coming.now c.args.going.now c.requires.1 c.requires.2 (test_of decided c.requires.0.terms.domains c.args.text.now) (tells_of decided c.requires.0.terms.domains c.args.text.now),
    )

pub returns-in_err-edit-clause-right : goal.returns-in_err-edit-clause-right
returns-in_err-edit-clause-right c = λ relation.
    same_domain relation c.args.text.now c.args.domain.now (record { own = c.args.domain.now.own; graph = c.prepare.new.self }) refl c.prepare.ensures.same_names c.prepare.ensures.same_limit c.prepare.ensures.same_rows

pub returns-clause-ready : goal.returns-clause-ready
returns-clause-ready c = λ turn patterns can.
    changed_ready turn c.args.text.now c.args.domain.now c.args.coming.now c.args.going.now patterns can (record { own = c.args.domain.now.own; graph = c.prepare.new.self }) _ c.in_ok-edit.edit c.rows_of.result.now c.rows_of-2.result.now
    (omega (arith, c.own_of.ensures, c.own_of-2.ensures)) c.if-own-eq0.false c.in_ok-edit.ensures.same_names c.in_ok-edit.ensures.same_limit c.in_ok-edit.ensures.same_rows c.in_ok-edit.ensures.good c.rows_of.ensures c.rows_of-2.ensures c.in_ok-edit.ensures.rows

pub returns-clause-right : goal.returns-clause-right
returns-clause-right c = λ relation.
    same_domain relation c.args.text.now c.args.domain.now (record { own = c.args.domain.now.own; graph = c.prepare.new.self }) refl c.in_ok-edit.ensures.same_names c.in_ok-edit.ensures.same_limit c.in_ok-edit.ensures.same_rows
