-- A piece of a stream that is taken section by section, and what is left where a stream ends.
use Rattle.std.proofs.Common.{◌≡◌, ◌⊎◌, ℕ, ◌+◌, ◌≤◌, Bool, List, [], ◌∷◌, ◌++◌, drop, length, inl, inr, ⊎_elim, refl, sym, ap, subst, ◌∙◌, append-nil, append_assoc, arith}
use Rattle.std.specs.Prelude.{Option, Some, None}
use Rattle.std.proofs.lemmas.List.{drop-drop, drop_all}
use Rattle.item_stream.proofs.CallerLemmas.{goes_nowhere, goes_then}
use Rattle.item_stream.specs.Sections.{GoesTo, Section, Stage, listed}
use Rattle.live_serve.specs.Helps.Ended.{LeavesEnded, TakesEnded}
use Rattle.live_serve.specs.Sayings.{AllSay, Saying}
use Rattle.live_serve.specs.Places.{Standing, StandsSomewhere, is_followers}
use Rattle.live_serve.specs.Served.{Halts, OfSection, Pushed, SectionStops}
use Rattle.live_serve.specs.Streams.{LeavesPiece, TakesPiece}
use Rattle.live_serve.proofs.SayLemmas.{say_one, say_then}
use Rattle.live_serve.proofs.ServeLemmas.{halts_since, halts_then, pushed_kind, pushed_none, pushed_somewhere, pushed_then, pushed_used, took_all, took_none}
use Rattle.model_conf.specs.ModelText.{ModelParts}
use Rattle.outside.proofs.CallerLemmas.{rose_later}
use Rattle.outside.specs.Faults.{Rose}
use Rattle.regex_gate.specs.Refusals.{IsUsed, Refusals}
use Rattle.run_status.specs.declared.stop.Stop.{Stop}
use Rattle.run_status.specs.declared.stop.Stop.TheVariants.{NoMemory}

-- of the same bytes
pub goes_same : (old new : Stage) (one other : List ℕ) (sections : List Section) (used : ℕ) → one ≡ other → GoesTo old one sections new (drop used one) → GoesTo old other sections new (drop used other)
goes_same old new one other sections used same goes = subst (λ (bytes : List ℕ). GoesTo old bytes sections new (drop used bytes)) same goes

-- some sections of a piece are answered, and these bytes of it are not looked at
pub record IsAmid (json : Bool) (model : ModelParts) (before now : Refusals) (old new : Standing) (stage stage_now : Stage) (piece rest : List ℕ) (out out_now : Option (List ℕ)) (a b : ℕ) : Type 0 where
  pub takes : TakesPiece json (is_followers old.place) model before now old new stage stage_now piece rest out out_now
  pub somewhere : StandsSomewhere new.place
  pub counted : a ≤ b

module _ (json : Bool) (model : ModelParts) (before : Refusals) (old : Standing) (stage : Stage) (piece : List ℕ) (out : Option (List ℕ)) (a : ℕ) where
  pub amid_none : (rest : List ℕ) → rest ≡ piece → StandsSomewhere old.place → IsAmid json model before before old old stage stage piece rest out out a a
  amid_none rest whole somewhere = record {
    takes = record {
      sections = [];
      sayings = [];
      goes = subst (λ (r : List ℕ). GoesTo stage piece [] stage r) (sym whole) (goes_nowhere stage piece);
      say = refl;
      pushed = pushed_none model before old out;
    };
    somewhere = somewhere;
    counted = omega arith;
  }

  module _ (between : Refusals) (mid : Standing) (stage_mid : Stage) (at : ℕ) (out_mid : Option (List ℕ)) (b : ℕ) (so : IsAmid json model before between old mid stage stage_mid piece (drop at piece) out out_mid a b) where
    -- no memory for more of the piece
    pub amid_stops : (out_rose : Type 0) → LeavesPiece json (is_followers old.place) model old stage piece out out_mid out_rose NoMemory
    amid_stops out_rose = record {
      sections = so.takes.sections;
      others = [];
      sayings = so.takes.sayings;
      stage_now = stage_mid;
      rest = drop at piece;
      goes = subst (λ (s : List Section). GoesTo stage piece s stage_mid (drop at piece)) (sym (append-nil so.takes.sections)) so.takes.goes;
      say = so.takes.say;
      halts = took_all model before between old mid out out_mid so.takes.sayings so.takes.pushed;
    }

    pub amid_used : IsUsed before between
    amid_used = pushed_used model before between old mid out out_mid so.takes.sayings so.takes.pushed

    module _ (stage_now : Stage) (used next : ℕ) (ended : Option Section) (goes : GoesTo stage_mid (drop at piece) (listed ended []) stage_now (drop used (drop at piece))) (next-is : next ≡ at + used) where
      -- the sections so far, and the one that ends there
      goes_on : GoesTo stage piece (so.takes.sections ++ listed ended []) stage_now (drop next piece)
      goes_on =
          subst (λ (r : List ℕ). GoesTo stage piece (so.takes.sections ++ listed ended []) stage_now r) (drop-drop used at piece ∙ ap (λ (n : ℕ). drop n piece) (sym next-is))
          (goes_then stage stage_mid stage_now piece (drop at piece) (drop used (drop at piece)) so.takes.sections (listed ended []) so.takes.goes goes)

      -- it is a section of the same stream
      same_kind : is_followers mid.place ≡ is_followers old.place
      same_kind = pushed_kind model before between old mid out out_mid so.takes.sayings so.takes.pushed

      -- what it says is answered
      pub amid_next : (now : Refusals) (new : Standing) (out_now : Option (List ℕ)) (c : ℕ) → TakesEnded json (is_followers mid.place) model between now mid new ended out_mid out_now → b ≤ c → IsAmid json model before now old new stage stage_now piece (drop next piece) out out_now a c
      amid_next now new out_now c takes counted = record {
        takes = record {
          sections = so.takes.sections ++ listed ended [];
          sayings = so.takes.sayings ++ takes.sayings;
          goes = goes_on;
          say = say_then json (is_followers old.place) so.takes.sections (listed ended []) so.takes.sayings takes.sayings so.takes.say (subst (λ (f : Bool). AllSay json f (listed ended []) takes.sayings) same_kind takes.say);
          pushed = pushed_then model before between now old mid new out out_mid out_now so.takes.sayings takes.sayings so.takes.pushed takes.pushed;
        };
        somewhere = pushed_somewhere model between now mid new out_mid out_now takes.sayings takes.pushed so.somewhere;
        counted = omega (arith, so.counted, counted);
      }

      -- it is not
      pub amid_halts : (out_now : Option (List ℕ)) (c : ℕ) (stop : Stop) → LeavesEnded json (is_followers mid.place) model mid ended out_mid out_now (Rose b c) stop → LeavesPiece json (is_followers old.place) model old stage piece out out_now (Rose a c) stop
      amid_halts out_now c stop leaves = record {
        sections = so.takes.sections ++ leaves.sections;
        others = leaves.others;
        sayings = so.takes.sayings ++ leaves.sayings;
        stage_now = stage_now;
        rest = drop next piece;
        goes = subst (λ (s : List Section). GoesTo stage piece s stage_now (drop next piece)) (ap (λ (s : List Section). so.takes.sections ++ s) leaves.parts ∙ sym (append_assoc so.takes.sections leaves.sections leaves.others)) goes_on;
        say = say_then json (is_followers old.place) so.takes.sections leaves.sections so.takes.sayings leaves.sayings so.takes.say (subst (λ (f : Bool). AllSay json f leaves.sections leaves.sayings) same_kind leaves.say);
        halts = halts_since model old out out_now (Rose b c) (Rose a c) stop (so.takes.sayings ++ leaves.sayings) (λ rose. rose_later a b c so.counted rose)
            (halts_then model before between old mid out out_mid out_now (Rose b c) stop so.takes.sayings leaves.sayings so.takes.pushed leaves.halts);
      }

    pub amid_all : length piece ≤ at → TakesPiece json (is_followers old.place) model before between old mid stage stage_mid piece [] out out_mid
    amid_all past = subst (λ (r : List ℕ). TakesPiece json (is_followers old.place) model before between old mid stage stage_mid piece r out out_mid) (drop_all at piece past) so.takes

-- ---- a section

-- one of the same lines
pub section_pushed : (json follow : Bool) (one other : List ℕ) → one ≡ other → (model : ModelParts) (before now : Refusals) (old new : Standing) (out out_now : Option (List ℕ)) → OfSection json follow (Some one) (Pushed model before now old new out out_now) → OfSection json follow (Some other) (Pushed model before now old new out out_now)
section_pushed json follow one other same model before now old new out out_now so = subst (λ (lines : List ℕ). OfSection json follow (Some lines) (Pushed model before now old new out out_now)) same so

pub section_stops : (json follow : Bool) (one other : List ℕ) → one ≡ other → (model : ModelParts) (old : Standing) (out out_now : Option (List ℕ)) (out_rose : Type 0) (stop : Stop) → SectionStops json follow model old (Some one) out out_now out_rose stop → SectionStops json follow model old (Some other) out out_now out_rose stop
section_stops json follow one other same model old out out_now out_rose stop stops = subst (λ (lines : List ℕ). SectionStops json follow model old (Some lines) out out_now out_rose stop) same stops

-- ---- one that may have ended

module _ (json follow : Bool) (model : ModelParts) (old new : Standing) (ended : Option Section) (out out_now : Option (List ℕ)) where
  pub ended_none : (refusals : Refusals) → new ≡ old → out_now ≡ out → ended ≡ None → TakesEnded json follow model refusals refusals old new ended out out_now
  ended_none refusals still quiet none =
      subst (λ (s : Standing). TakesEnded json follow model refusals refusals old s ended out out_now) (sym still)
      (subst (λ (o : Option (List ℕ)). TakesEnded json follow model refusals refusals old old ended out o) (sym quiet)
      (subst (λ (l : Option Section). TakesEnded json follow model refusals refusals old old l out out) (sym none) (record { sayings = []; say = refl; pushed = pushed_none model refusals old out })))

  pub ended_answered : (before now : Refusals) (it : Section) → ended ≡ Some it → OfSection json follow it (Pushed model before now old new out out_now) → TakesEnded json follow model before now old new ended out out_now
  ended_answered before now it some (sayings, says, pushed) =
      subst (λ (l : Option Section). TakesEnded json follow model before now old new l out out_now) (sym some) (record { sayings = sayings; say = say_one json follow it sayings says; pushed = pushed })

module _ (json follow : Bool) (model : ModelParts) (old : Standing) (ended : Option Section) (out out_now : Option (List ℕ)) (out_rose : Type 0) where
  -- before it is looked at
  pub ended_stops : out_now ≡ out → LeavesEnded json follow model old ended out out_now out_rose NoMemory
  ended_stops same = record { sections = []; others = listed ended []; parts = refl; sayings = []; say = refl; halts = took_none model old out out_now [] same }

  pub ended_halts : (it : Section) → ended ≡ Some it → (stop : Stop) → SectionStops json follow model old it out out_now out_rose stop → LeavesEnded json follow model old ended out out_now out_rose stop
  ended_halts it some stop (inl (sayings, says, halts)) =
      subst (λ (l : Option Section). LeavesEnded json follow model old l out out_now out_rose stop) (sym some) (record { sections = it ∷ []; others = []; parts = refl; sayings = sayings; say = say_one json follow it sayings says; halts = halts })
  ended_halts it some stop (inr (none, same)) = subst (λ (s : Stop). LeavesEnded json follow model old ended out out_now out_rose s) (sym none) (ended_stops same)
