use Rattle.std.specs.Arc.{arc_value}
use Rattle.enforce_core.proofs.PlaceLemmas.{same_between}
use Rattle.enforce_core.proofs.place.copy_published.Goals as goal

pub returns : goal.returns
returns c =
    same_between c.args.desk.now.state c.state.result.now c.in_ok-copy.copy (arc_value c.in_ok-state.state) c.state.ensures.state c.in_ok-state.ensures.ok (record {
      shapes = c.in_ok-copy.ensures.shapes;
      key = c.in_ok-copy.ensures.key;
      start = c.in_ok-copy.ensures.start;
      tail = c.in_ok-copy.ensures.tail;
      tables_are = c.in_ok-copy.ensures.tables;
      stands = c.in_ok-copy.ensures.stands;
    })
