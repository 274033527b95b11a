use Rattle.policy_state.proofs.IndexLemmas.{have_columns}
use Rattle.policy_state.proofs.state.make_state.Goals as goal

pub make_index-requires : goal.make_index-requires
make_index-requires c = have_columns c.args.shapes c.args.tables.policy c.args.key c.requires.sound.shaped c.requires.key
