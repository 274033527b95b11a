-- What a run answers, and what of it was taken.
use Rattle.std.specs.Prelude.{◌≡◌, ℕ, List, take}
use Rattle.outside.specs.Told.{TookFront, with_back}
use Rattle.refusal_meaning.specs.Unread.{AreUnreadable}
use Rattle.session_meaning.specs.Plain.{all_refused}
use Rattle.casbin_run.specs.Finders.{Logs}
use Rattle.casbin_run.specs.Given.{Given, IsInOrder}
use Rattle.casbin_run.specs.Jobs.{has_workers, shapes_with}
use Rattle.loaded_work.specs.Texts.{joined}
use Rattle.casbin_run.specs.Worlds.{World}
use Rattle.casbin_run.specs.Written.{Writes}

-- all is in order, and this is the text of the task on the model, the policy, and the items or packets, where these patterns were refused for each of them
pub record IsAnswered (g : Given) (refused : List (List (List ℕ))) (text : List ℕ) : Type 0 where
  pub in_order : IsInOrder g
  pub pieces : List (List ℕ)
  pub writes : Writes in_order.job.task in_order.model (shapes_with in_order.job.options in_order.model) in_order.policy in_order.items in_order.packets refused pieces text

-- such a text, where nothing was refused but searches for patterns that cannot be read
pub record IsCalmlyAnswered (g : Given) (text : List ℕ) : Type 0 where
  pub refused : List (List (List ℕ))
  pub answered : IsAnswered g refused text
  pub unread : AreUnreadable (all_refused refused)

-- such a text, and what was refused for one item after the other is what the finders refused
pub record Answers (g : Given) (before now : World) : Type 0 where
  pub text : List ℕ
  pub refused : List (List (List ℕ))
  pub answered : IsAnswered g refused text
  pub logged : Logs (has_workers answered.in_order.job.task) before.finders now.finders (all_refused refused)

-- `out` took it, and nothing else
pub record TookAll (g : Given) (before now : World) : Type 0 where
  pub answers : Answers g before now
  pub took : now.out.bytes ≡ with_back before.out.bytes answers.text

-- `out` took a front of it
pub record TookSome (g : Given) (before now : World) : Type 0 where
  pub answers : Answers g before now
  pub took : TookFront before.out.bytes now.out.bytes answers.text

-- `out` took the first so many pieces of it: the whole lines of the first items
pub record TookFirst (g : Given) (before now : World) : Type 0 where
  pub answers : Answers g before now
  pub count : ℕ
  pub took : now.out.bytes ≡ with_back before.out.bytes (joined (take count answers.answered.pieces))
