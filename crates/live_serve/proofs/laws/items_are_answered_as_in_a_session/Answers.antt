use Rattle.live_serve.proofs.LawLemmas.{session_texts}
use Rattle.live_serve.proofs.laws.items_are_answered_as_in_a_session.Goals as goal

pub returns : goal.returns
returns c = session_texts
