use Rattle.std.proofs.Common.{◌++◌}
use Rattle.std.proofs.lemmas.Result.{err_from_is_err_and}
use Rattle.outside.proofs.CallerLemmas.{pushes_stopped, pushes_then}
use Rattle.run_status.specs.Helps.Pieces.{piece_text}
use Rattle.run_status.proofs.stop_text.push_message.Goals as goal

pub returns-in_err-push_piece : goal.returns-in_err-push_piece
returns-in_err-push_piece g c =
    let p = err_from_is_err_and c.from_residual.result c.from_residual.ensures.1 in
    let first = piece_text c.args.message.first in
    let second = piece_text c.args.message.second in
    rw p.1 (pushes_stopped _ _ _ _ (first ++ second) (piece_text c.args.message.third) _ (pushes_stopped _ _ _ _ first second _ c.in_err-push_piece.ensures))

pub returns-in_err-push_piece-2 : goal.returns-in_err-push_piece-2
returns-in_err-push_piece-2 g c =
    let p = err_from_is_err_and c.from_residual-in_err-push_piece-2.result c.from_residual-in_err-push_piece-2.ensures.1 in
    let first = piece_text c.args.message.first in
    let second = piece_text c.args.message.second in
    let both = pushes_then _ _ _ _ _ _ first second _ c.in_ok-push_piece.ensures.took c.push_piece.ensures.counted c.in_err-push_piece-2.ensures in
    rw p.1 (pushes_stopped _ _ _ _ (first ++ second) (piece_text c.args.message.third) _ both)

pub returns : goal.returns
returns g c =
    let first = piece_text c.args.message.first in
    let second = piece_text c.args.message.second in
    let both = pushes_then _ _ _ _ _ _ first second _ c.in_ok-push_piece.ensures.took c.push_piece.ensures.counted c.in_ok-push_piece-2.ensures in
    pushes_then _ _ _ _ _ _ (first ++ second) (piece_text c.args.message.third) _ both.took both.counted c.push_piece-3.ensures
