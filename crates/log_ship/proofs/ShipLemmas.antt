-- Packets of the edits of a log, one after the other.
use Rattle.std.proofs.Common.{◌≡◌, ℕ, zero, suc, ◌+◌, ◌-◌, ◌≤◌, List, [], ◌∷◌, ◌++◌, append_assoc, append-nil, drop, slice_get, length, Some, refl, sym, ap, ◌∙◌, arith}
use Rattle.log_ship.proofs.HistoryLemmas.{drop_at}
use Rattle.log_ship.specs.Packets.{IsPacketOf, log_packets, printed, shipped}
use Rattle.log_ship.specs.declared.packet.Packet.{Packet}
use Rattle.policy_table.specs.declared.change.Change.{Change}
use Rattle.version_log.specs.EditText.{printed_edit}
use Rattle.version_log.specs.Log.{Logged, versions}

-- the text so far, and what is left: the edits behind a version
pub record IsUpTo (log : Logged) (before : ℕ) (text : List ℕ) : Type 0 where
  pub from : log.start ≤ before
  pub all : text ++ shipped (before + 1) (drop (before - log.start) log.tail) ≡ log_packets log

pub nothing_yet : (log : Logged) → IsUpTo log log.start []
nothing_yet log =
    let none : log.start - log.start ≡ 0 = omega arith in
    record { from = omega arith; all = ap (λ (n : ℕ). shipped (log.start + 1) (drop n log.tail)) none }

-- the packet behind a version
pub one_packet : (log : Logged) (before : ℕ) (text longer : List ℕ) (packet : Packet) → IsUpTo log before text → IsPacketOf log (before + 1) packet → longer ≡ text ++ printed packet → IsUpTo log (before + 1) longer
one_packet log before text longer packet so_far is more =
    let place : (before + 1) - log.start - 1 ≡ before - log.start = omega (arith, so_far.from) in
    let next : (before + 1) - log.start ≡ suc (before - log.start) = omega (arith, so_far.from) in
    let there : slice_get log.tail (before - log.start) ≡ Some is.edit = ap (slice_get log.tail) (sym place) ∙ is.is.there in
    let told : packet.text ≡ printed_edit is.edit = is.text.text in
    let same : packet ≡ record { number = before + 1; text = printed_edit is.edit } = λ j. record { number = is.numbered j; text = told j } in
    let rest : List ℕ = shipped ((before + 1) + 1) (drop (suc (before - log.start)) log.tail) in
    record {
      from = omega (arith, so_far.from);
      all =
          ap (λ (n : ℕ). longer ++ shipped ((before + 1) + 1) (drop n log.tail)) next
          ∙ ap (λ (t : List ℕ). t ++ shipped ((before + 1) + 1) (drop (suc (before - log.start)) log.tail)) (more ∙ ap (λ (p : Packet). text ++ printed p) same)
          ∙ append_assoc text (printed (record { number = before + 1; text = printed_edit is.edit })) (shipped ((before + 1) + 1) (drop (suc (before - log.start)) log.tail))
          ∙ ap (λ (l : List (List Change)). text ++ shipped (before + 1) l) (sym (drop_at log.tail (before - log.start) is.edit there))
          ∙ so_far.all;
    }

-- all of them
pub all_packets : (log : Logged) (before : ℕ) (text : List ℕ) → versions log ≤ before → IsUpTo log before text → text ≡ log_packets log
all_packets log before text all so_far =
    sym (ap (λ (l : List (List Change)). text ++ shipped (before + 1) l) (none log.tail (before - log.start) (omega (arith, all, so_far.from))) ∙ append-nil text) ∙ so_far.all
  where
    none : (edits : List (List Change)) (count : ℕ) → length edits ≤ count → drop count edits ≡ []
    none [] zero le = refl
    none [] (suc count) le = refl
    none (edit ∷ edits) zero le = absurd (omega (arith, le))
    none (edit ∷ edits) (suc count) le = none edits count (omega (arith, le))
