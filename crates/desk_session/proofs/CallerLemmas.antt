-- What a caller cites: a request that is answered over a policy, and a script that is under way.
pub use Rattle.desk_session.proofs.LogLemmas.{judged_in, logged_more, logs_more, none_asked, on_err_of}
pub use Rattle.desk_session.proofs.RequestLemmas.{answers_arity, answers_decided, answers_fault, asked_decided, decided_printable}
pub use Rattle.desk_session.proofs.QueryLemmas.{refused_is}
pub use Rattle.desk_session.proofs.StepLemmas.{request_step}
pub use Rattle.desk_session.proofs.PlainLemmas.{IsUnderWay, alone, alone_before, stands_alone, stands_before, under_way_more, under_way_none, way_used}
