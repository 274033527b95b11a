-- What a caller cites: one item more, and a desk that stands behind the items so far.
pub use Rattle.session_meaning.proofs.LineLemmas.{all_more, plain_more, plain_none}
pub use Rattle.session_meaning.proofs.PrintableLemmas.{QueryTold, RowsAreMoved, names_told, plain_printable, query_told, reply_printable, rows_told, rule_stands, rule_told}
pub use Rattle.session_meaning.proofs.DeskLemmas.{behind_call, behind_keep, behind_none, behind_other, behind_publish, desk_call, desk_edits, desk_not_recalled, desk_recalled, desk_version, only_asks, out_at_desk}
pub use Rattle.session_meaning.proofs.GivenLemmas.{given_front}
pub use Rattle.session_meaning.proofs.ReplyLemmas.{SomeJudged, reply_some}
pub use Rattle.session_meaning.proofs.OutLemmas.{history_none, history_publish, history_same, out_among}
