use Rattle.session_meaning.proofs.PrintableLemmas.{reply_printable}
use Rattle.session_meaning.proofs.laws.replies_are_printable.Goals as goal

pub returns : goal.returns
returns c = record { printable = reply_printable c.order_of_rows_is_one.ensures.moved }
