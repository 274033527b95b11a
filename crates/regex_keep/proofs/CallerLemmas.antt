-- A finder that keeps patterns may go to another thread, as callers that are generic over a finder ask.
use denote.Param.Send.{IsSend, sendable}
use Rattle.std.proofs.Crossing.{crosses}
use Rattle.lru.proofs.cache.LruCache.TheSendSync.{the_send}
use Rattle.regex_keep.specs.contracts.kept_search.KeptSearch as kept_search
use Rattle.regex_keep.specs.contracts.keeping_finder.KeepingFinder as keeping_finder

kept_search_send : IsSend kept_search.the_row
kept_search_send = search (sendable, crosses) depth 40 fits 100000

pub keeping_finder_send : IsSend keeping_finder.the_row
keeping_finder_send = search (sendable, crosses, the_send, kept_search_send) depth 60 fits 1000000
