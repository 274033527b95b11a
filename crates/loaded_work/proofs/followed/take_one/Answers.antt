use Rattle.loaded_work.proofs.followed.take_one.Goals as goal

pub returns : goal.returns
returns c = record { result = c.take-taken.result; takes = c.take-taken.ensures.taken; known = c.in_ok-push_taken.ensures.known; appended = c.in_ok-push_taken.ensures.appended }
