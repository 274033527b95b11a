use Rattle.demo_run.proofs.DemoLemmas.{desk_is, key_within}
use Rattle.demo_run.proofs.demo.demo_desk.Goals as goal

pub make_state-requires-clause-key : goal.make_state-requires-clause-key
make_state-requires-clause-key c = key_within c.args.program.now c.args.shapes c.in_ok-key.key c.requires.suits c.in_ok-key.ensures.within

pub returns : goal.returns
returns c = record {
  desk =
      desk_is c.args.count c.args.shapes c.in_ok-tables.tables.policy c.in_ok-state.state c.in_ok-desk.desk c.in_ok-tables.ensures.policy c.in_ok-state.ensures.shapes c.in_ok-state.ensures.tables c.in_ok-state.ensures.start c.in_ok-state.ensures.tail
      c.in_ok-desk.ensures.state c.in_ok-desk.ensures.pending c.in_ok-desk.ensures.kept;
}
