use Rattle.loaded_work.proofs.WorkLemmas.{key_fits}
use Rattle.loaded_work.proofs.opened.open_loaded.Goals as goal

pub make_state-requires-clause-key : goal.make_state-requires-clause-key
make_state-requires-clause-key c =
    key_fits c.args.loaded.model c.in_ok-program.program c.args.loaded.shapes c.in_ok-key.key c.in_ok-program.ensures c.requires.suits c.in_ok-key.ensures.within
