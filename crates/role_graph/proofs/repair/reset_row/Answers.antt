use Rattle.std.proofs.Common.{◌∙◌, arith, refl}
use Rattle.role_graph.specs.Helps.Kept.{linked_of}
use Rattle.role_graph.specs.Helps.Roles.{nodes_of}
use Rattle.role_graph.proofs.Mended.{reset_ends, reset_gone, reset_kept, written_column, written_long, written_row}
use Rattle.role_graph.proofs.repair.reset_row.Goals as goal

pub loop-other-init : goal.loop-other-init
loop-other-init c = record {
  long = refl;
  square = c.size-other-end.ensures.square;
  spare = refl;
  others = λ a b differ. refl;
  later = λ b past. refl;
  reset = λ old same long before. record { each = λ b low. absurd (omega (arith, low)) };
}

pub stays-requires-clause-few : goal.stays-requires-clause-few
stays-requires-clause-few c = omega (arith, c.loop-other.invariant.long, c.requires.few, c.requires.long)

pub stays-requires-clause-node : goal.stays-requires-clause-node
stays-requires-clause-node c = omega (arith, c.loop-other.invariant.long, c.requires.node)

pub stays-requires-clause-other : goal.stays-requires-clause-other
stays-requires-clause-other c = omega (arith, c.loop-other.invariant.long, c.loop-other-test.true, c.size-other-end.ensures.value)

pub loop-other-preserved-then-stays : goal.loop-other-preserved-then-stays
loop-other-preserved-then-stays c = record {
  long = c.loop-other.invariant.long;
  square = c.loop-other.invariant.square;
  spare = c.loop-other.invariant.spare;
  others = c.loop-other.invariant.others;
  later = λ b past. c.loop-other.invariant.later b (omega (arith, past));
  reset = λ old same long before.
      let here = c.loop-other.invariant.later c.loop-other.other (omega arith) ∙ same c.loop-other.other in
      reset_kept (linked_of c.args.links.now) (nodes_of c.args.roles.now) old c.args.node c.loop-other.other c.loop-other.square.cells (c.stays.ensures.kept (linked_of c.args.links.now) (nodes_of c.args.roles.now) old c.if-stays.true here (c.loop-other.invariant.long ∙ long) before.closed
      (c.left_nodes-left.ensures old (omega (arith, c.requires.node, long)) before)) here
      (c.loop-other.invariant.reset old same long before);
}

pub write-requires-clause-a : goal.write-requires-clause-a
write-requires-clause-a c = omega (arith, c.loop-other.invariant.long, c.requires.node)

pub write-requires-clause-b : goal.write-requires-clause-b
write-requires-clause-b c = omega (arith, c.loop-other.invariant.long, c.loop-other-test.true, c.size-other-end.ensures.value)

pub loop-other-preserved : goal.loop-other-preserved
loop-other-preserved c =
    let node = c.args.node in
    let other = c.loop-other.other in
    let cells = c.loop-other.square.cells in
    let new = c.write.new.square.cells in
    record {
      long = written_long cells new node other 255 c.write.ensures.cells ∙ c.loop-other.invariant.long;
      square = c.write.ensures.square;
      spare = c.write.ensures.spare ∙ c.loop-other.invariant.spare;
      others = λ a b differ. written_row cells new node other 255 a b differ c.write.ensures.cells ∙ c.loop-other.invariant.others a b differ;
      later = λ b past.
          written_column cells new node other 255 b (omega (arith, c.loop-other.invariant.long, c.requires.node)) (λ same. absurd (omega (arith, past, same))) c.write.ensures.cells ∙ c.loop-other.invariant.later b (omega (arith, past));
      reset = λ old same long before.
          let here = c.loop-other.invariant.later other (omega arith) ∙ same other in
          reset_gone (linked_of c.args.links.now) (nodes_of c.args.roles.now) old node other cells new (c.stays.ensures.gone (linked_of c.args.links.now) (nodes_of c.args.roles.now) old c.if-stays.false here (c.loop-other.invariant.long ∙ long) before.closed
          (c.left_nodes-left.ensures old (omega (arith, c.requires.node, long)) before)) c.loop-other.invariant.square
          (omega (arith, c.loop-other.invariant.long, c.requires.node)) (omega (arith, c.loop-other.invariant.long, c.loop-other-test.true, c.size-other-end.ensures.value)) c.write.ensures.cells (c.loop-other.invariant.reset old same long before);
    }

pub returns-clause-reset : goal.returns-clause-reset
returns-clause-reset c = λ old same long before.
    reset_ends (linked_of c.args.links.now) (nodes_of c.args.roles.now) old c.args.node c.loop-other.other _ c.loop-other.square.cells (omega (arith, c.size-other-end.ensures.value, c.loop-other-test.false, long)) (c.loop-other.invariant.reset old same long before)
