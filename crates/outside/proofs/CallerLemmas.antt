-- What proofs here and in the crates above cite of told bytes, of texts that are pushed one after the other, and of what a source and a shelf tell of their calls.
use Rattle.std.proofs.Common.{◌≡◌, ℕ, ◌≤◌, Bool, true, false, List, [], ◌∷◌, ◌++◌, inl, inr, refl, sym, ap, ◌∙◌, append_assoc, arith}
use Rattle.std.specs.Prelude.{Option, Some, None, Result, Ok, Err}
use Rattle.std.specs.Global.{Vec}
use Rattle.std.proofs.lemmas.List.{append-nil}
use Rattle.outside.specs.Ends.{IsEndedOnce, ends_after}
use Rattle.outside.specs.Faults.{Rose}
use Rattle.outside.specs.Fetches.{Fetches}
use Rattle.outside.specs.Files.{Files}
use Rattle.outside.specs.Log.{Adds, call, has_failed}
use Rattle.outside.specs.Pushes.{PushesAll}
use Rattle.outside.specs.Told.{with_front, with_back, TookFront}
use Rattle.outside.specs.declared.fault.Failed.{Failed}
use Rattle.outside.specs.declared.fetch_log.FetchCall.{FetchCall}
use Rattle.outside.specs.declared.shelf.Fetch.{Fetch}

pub with_front-nothing : (told : Option (List ℕ)) → with_front [] told ≡ told
with_front-nothing None = refl
with_front-nothing (Some rest) = refl

pub with_front-append : (told : Option (List ℕ)) (a b : List ℕ) → with_front a (with_front b told) ≡ with_front (a ++ b) told
with_front-append None a b = refl
with_front-append (Some rest) a b = ap (λ (x : List ℕ). Some x) (sym (append_assoc a b rest))

pub with_back-nothing : (told : Option (List ℕ)) → told ≡ with_back told []
with_back-nothing None = refl
with_back-nothing (Some had) = ap (λ (x : List ℕ). Some x) (sym (append-nil had))

pub with_back-append : (told : Option (List ℕ)) (a b : List ℕ) → with_back (with_back told a) b ≡ with_back told (a ++ b)
with_back-append None a b = refl
with_back-append (Some had) a b = ap (λ (x : List ℕ). Some x) (append_assoc had a b)

-- a count that rose has risen since an earlier moment too
pub rose_later : (before mid now : ℕ) → before ≤ mid → Rose mid now → Rose before now
rose_later before mid now earlier rose = omega arith

-- a front of a text is a front of a longer one
pub front_of_more : (before now : Option (List ℕ)) (text more : List ℕ) → TookFront before now text → TookFront before now (text ++ more)
front_of_more before now text more some = record {
  front = some.front;
  rest = some.rest ++ more;
  parts = rw some.parts (append_assoc some.front some.rest more);
  took = some.took;
}

-- a text, and a front of the next
pub front_of_next : (before mid now : Option (List ℕ)) (text more : List ℕ) → mid ≡ with_back before text → TookFront mid now more → TookFront before now (text ++ more)
front_of_next before mid now text more whole some = record {
  front = text ++ some.front;
  rest = some.rest;
  parts = rw some.parts (sym (append_assoc text some.front some.rest));
  took = rw (some.took, whole) (with_back-append before text some.front);
}

-- a push that stopped stops before a longer text too
pub pushes_stopped : (before now : Option (List ℕ)) (a b : ℕ) (text more : List ℕ) (e : Failed) → PushesAll before now a b text (Err e) → PushesAll before now a b (text ++ more) (Err e)
pushes_stopped before now a b text more e stopped = record {
  took = stopped.took;
  stopped = front_of_more before now text more stopped.stopped;
  counted = stopped.counted;
  failed = stopped.failed;
}

-- behind a text that was pushed whole, what comes of the next is what comes of both
pub pushes_then : (before mid now : Option (List ℕ)) (a b c : ℕ) (text more : List ℕ) (r : Result (Unit {0}) Failed)
    → mid ≡ with_back before text → a ≤ b → PushesAll mid now b c more r → PushesAll before now a c (text ++ more) r
pushes_then before mid now a b c text more (Ok u) whole counted next = record {
  took = rw (next.took, whole) (with_back-append before text more);
  stopped = next.stopped;
  counted = omega (arith, next.counted);
  failed = next.failed;
}
pushes_then before mid now a b c text more (Err e) whole counted next = record {
  took = next.took;
  stopped = front_of_next before mid now text more whole next.stopped;
  counted = omega (arith, next.counted);
  failed = rose_later a b c counted next.failed;
}

-- however a push ended, a front was taken
pub pushes_some : (before now : Option (List ℕ)) (a b : ℕ) (text : List ℕ) (r : Result (Unit {0}) Failed) → PushesAll before now a b text r → TookFront before now text
pushes_some before now a b text (Ok u) pushed = record { front = text; rest = []; parts = sym (append-nil text); took = pushed.took }
pushes_some before now a b text (Err e) pushed = pushed.stopped

-- ---- ends of a source

-- an answer that does not say so
pub ends_kept : (ends : Option ℕ) → ends_after ends false ≡ ends
ends_kept None = refl
ends_kept (Some n) = refl

pub ended_once : (ends now : Option ℕ) (said : Bool) → now ≡ ends_after ends said → IsEndedOnce ends now
ended_once ends now true told = inr told
ended_once ends now false told = inl (told ∙ ends_kept ends)

-- ---- the log of a shelf

-- no call
pub adds_none : (log : Option (List FetchCall)) → Adds log log []
adds_none None = tt
adds_none (Some calls) = (calls, refl, sym (append-nil calls))

-- calls, and then more
pub adds_then : (before mid now : Option (List FetchCall)) (first more : List FetchCall) → Adds before mid first → Adds mid now more → Adds before now (first ++ more)
adds_then before mid None first more one two = tt
adds_then before None (Some now) first more one (earlier, told, is) = absurd cc
adds_then before (Some mid) (Some now) first more (earlier, told, mid_is) (later, same, now_is) =
    (earlier, told, now_is ∙ ap (λ (calls : List FetchCall). calls ++ more) (same_calls (sym same) ∙ mid_is) ∙ append_assoc earlier first more)
  where
    same_calls : {xs ys : List FetchCall} → Some xs ≡ Some ys → xs ≡ ys
    same_calls e = cc

-- a fetch of a shelf that tells no calls, and its call
pub with_call : (files now : Option Files) (calls calls_now : Option (List FetchCall)) (a b : ℕ) (name : List ℕ) (most : ℕ) (result : Result (Vec ℕ) Fetch)
    → Fetches files now None None a b name most result → Adds calls calls_now (call name (has_failed result) ∷ []) → Fetches files now calls calls_now a b name most result
with_call files now calls calls_now a b name most result is told = record {
  same_files = is.same_files;
  found = is.found;
  within = is.within;
  absent = is.absent;
  uncounted = is.uncounted;
  too_long = is.too_long;
  told = told;
  counted = is.counted;
  failed = is.failed;
}
