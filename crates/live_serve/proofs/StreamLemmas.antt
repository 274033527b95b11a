-- A whole stream: pieces one after the other, and what is left.
use Rattle.std.proofs.Common.{◌≡◌, ℕ, ◌+◌, ◌<◌, ◌≤◌, ◌&&◌, Bool, eqb, List, [], ◌∷◌, ◌++◌, length, take, refl, sym, ap, subst, ◌∙◌, append-nil, append_assoc, arith}
use Rattle.std.specs.Prelude.{IfSome, Option}
use Rattle.std.proofs.lemmas.Bool.{ne_eqb}
use Rattle.std.proofs.lemmas.List.{length-append}
use Rattle.item_stream.proofs.CallerLemmas.{goes_all, goes_first, goes_further, goes_nowhere, goes_whole}
use Rattle.item_stream.specs.Sections.{GoesTo, Section, Stage, first_stage, left_at, listed, sections_of, whole_sections}
use Rattle.live_serve.specs.Helps.Ended.{LeavesEnded, TakesEnded, at_first}
use Rattle.live_serve.specs.Sayings.{AllSay, Saying}
use Rattle.live_serve.specs.Places.{Place, Standing, StandsSomewhere, at_desk, follows, is_followers}
use Rattle.live_serve.specs.Served.{AreFirst, Halts, Pushed, Serves}
use Rattle.live_serve.specs.Streams.{AnswerFirst, AreAnswered, IsFirst, LeavesPiece, OfRead, ServeStops, TakesPiece, TookFirstTexts, TookSomeTexts, TookTexts, service}
use Rattle.live_serve.proofs.PlaceLemmas.{told_from}
use Rattle.live_serve.proofs.SayLemmas.{say_then}
use Rattle.live_serve.proofs.ServeLemmas.{halts_since, halts_then, pushed_kind, pushed_none, pushed_somewhere, pushed_then, pushed_used}
use Rattle.model_conf.specs.ModelText.{ModelParts}
use Rattle.outside.proofs.CallerLemmas.{ended_once, ends_kept, rose_later, with_front-append, with_front-nothing}
use Rattle.outside.specs.Ends.{IsEndedOnce, ends_after}
use Rattle.outside.specs.Faults.{Rose}
use Rattle.outside.specs.Told.{with_front}
use Rattle.policy_state.specs.States.{tables}
use Rattle.regex_gate.proofs.CallerLemmas.{used_then}
use Rattle.regex_gate.specs.Refusals.{IsUsed, Refusals}
use Rattle.run_status.specs.declared.stop.Stop.{Stop}
use Rattle.run_status.specs.declared.stop.Stop.TheVariants.{CannotWrite, NoMemory}

regrouped : (a b c d : List Section) → (a ++ (b ++ c)) ++ d ≡ (a ++ b) ++ (c ++ d)
regrouped a b c d = append_assoc a (b ++ c) d ∙ ap (λ (s : List Section). a ++ s) (append_assoc b c d) ∙ sym (append_assoc a b (c ++ d))

-- what the first sections of a stream say was not answered to its end
module _ (json : Bool) (model : ModelParts) (place : Place) (begins : IsFirst place) (out out_now : Option (List ℕ)) (before now : Refusals) (input_rose : Type 0) (read : List ℕ) (sections others : List Section) (parts : sections_of (is_followers place) read ≡ sections ++ others)
    (sayings : List Saying) (say : AllSay json (is_followers place) sections sayings) where
  answer_first : (texts : List (List ℕ)) → AreFirst model (at_first place) sayings texts → AnswerFirst (service json model place) read texts
  answer_first texts some = record {
    sections = sections;
    others = others;
    parts = parts;
    first = some.first;
    more = some.others;
    say = subst (λ (s : List Saying). AllSay json (is_followers place) sections s) some.parts say;
    refused = some.refused;
    texts_are = told_from json model place some.first some.refused texts some.last begins some.steps;
  }

  pub stops_by : (out_rose : Type 0) (stop : Stop) → Halts model (at_first place) out out_now out_rose stop sayings → ServeStops (service json model place) before now out out_now input_rose out_rose stop read
  stops_by out_rose CannotWrite (some, rose) = (record { texts = some.texts; first = answer_first some.texts some.first; took = some.took }, rose)
  stops_by out_rose NoMemory some = record { texts = some.texts; first = answer_first some.texts some.first; took = some.took }
  stops_by out_rose _ halts = absurd halts

-- before the first item a place stands somewhere
first_somewhere : (place : Place) → IsFirst place → StandsSomewhere place
first_somewhere (at_desk desk) begins = (tables desk.state, [], begins)
first_somewhere (follows follower) begins = tt

-- these bytes were read, and all sections that end in them are answered
pub record IsServed (json : Bool) (model : ModelParts) (before now : Refusals) (place : Place) (standing : Standing) (stage : Stage) (left left_now : Option (List ℕ)) (out out_now : Option (List ℕ)) (pulls a b c d : ℕ) (ends ends_now : Option ℕ) : Type 0 where
  pub read : List ℕ
  pub left_is : left ≡ with_front read left_now
  pub takes : TakesPiece json (is_followers place) model before now (at_first place) standing (first_stage (is_followers place)) stage read [] out out_now
  pub somewhere : StandsSomewhere standing.place
  pub long : pulls ≤ length read
  pub input_counted : a ≤ b
  pub out_counted : c ≤ d
  pub ends_same : ends_now ≡ ends

module _ (json : Bool) (model : ModelParts) (before : Refusals) (place : Place) (begins : IsFirst place) (left out : Option (List ℕ)) (a c : ℕ) (ends : Option ℕ) where
  pub served_none : (standing : Standing) (stage : Stage) → standing ≡ at_first place → stage ≡ first_stage (is_followers place) → IsServed json model before before place standing stage left left out out 0 a a c c ends ends
  served_none standing stage standing-is stage-is =
      subst (λ (s : Standing). IsServed json model before before place s stage left left out out 0 a a c c ends ends) (sym standing-is)
      (subst (λ (s : Stage). IsServed json model before before place (at_first place) s left left out out 0 a a c c ends ends) (sym stage-is) (record {
        read = [];
        left_is = sym (with_front-nothing left);
        takes = record { sections = []; sayings = []; goes = goes_nowhere (first_stage (is_followers place)) []; say = refl; pushed = pushed_none model before (at_first place) out };
        somewhere = first_somewhere place begins;
        long = omega arith;
        input_counted = omega arith;
        out_counted = omega arith;
        ends_same = refl;
      }))

  module _ (between : Refusals) (mid : Standing) (stage_mid : Stage) (left_mid out_mid : Option (List ℕ)) (pulls b d : ℕ) (ends_mid : Option ℕ) (so : IsServed json model before between place mid stage_mid left left_mid out out_mid pulls a b c d ends ends_mid) where
    pub served_used : IsUsed before between
    served_used = pushed_used model before between (at_first place) mid out out_mid so.takes.sayings so.takes.pushed

    -- it is the same stream
    same_kind : is_followers mid.place ≡ is_followers place
    same_kind = pushed_kind model before between (at_first place) mid out out_mid so.takes.sayings so.takes.pushed

    -- the texts of what was read
    took_texts : (sections : List Section) → so.takes.sections ≡ sections → TookTexts (service json model place) before between sections out out_mid
    took_texts sections same = record {
      texts = so.takes.pushed.texts;
      answered = record {
        sayings = so.takes.sayings;
        refused = so.takes.pushed.serves.refused;
        say = subst (λ (s : List Section). AllSay json (is_followers place) s so.takes.sayings) same so.takes.say;
        texts_are = told_from json model place so.takes.sayings so.takes.pushed.serves.refused so.takes.pushed.texts mid.place begins so.takes.pushed.serves.steps;
        logged = so.takes.pushed.serves.logged;
      };
      took = so.takes.pushed.took;
    }

    -- the input failed: nothing more was read
    pub served_whole : TookTexts (service json model place) before between (whole_sections (is_followers place) so.read) out out_mid
    served_whole = took_texts (whole_sections (is_followers place) so.read) (sym (goes_whole (is_followers place) stage_mid so.read so.takes.sections so.takes.goes))

    -- ---- a further piece

    module _ (piece : List ℕ) (left_now : Option (List ℕ)) (some : left_mid ≡ with_front piece left_now) where
      left_further : left ≡ with_front (so.read ++ piece) left_now
      left_further = so.left_is ∙ ap (with_front so.read) some ∙ with_front-append left_now so.read piece

      pub served_more : (now : Refusals) (new : Standing) (stage_now : Stage) (out_now : Option (List ℕ)) (next e f : ℕ) (ends_now : Option ℕ) → ends_now ≡ ends_mid → 0 < length piece → TakesPiece json (is_followers mid.place) model between now mid new stage_mid stage_now piece [] out_mid out_now → next ≡ pulls + 1 → b ≤ e → d ≤ f
          → IsServed json model before now place new stage_now left left_now out out_now next a e c f ends ends_now
      served_more now new stage_now out_now next e f ends_now still long takes next-is counted pushed = record {
        read = so.read ++ piece;
        left_is = left_further;
        takes = record {
          sections = so.takes.sections ++ takes.sections;
          sayings = so.takes.sayings ++ takes.sayings;
          goes = goes_further (first_stage (is_followers place)) stage_mid stage_now so.read piece [] so.takes.sections takes.sections so.takes.goes takes.goes;
          say = say_then json (is_followers place) so.takes.sections takes.sections so.takes.sayings takes.sayings so.takes.say (subst (λ (f : Bool). AllSay json f takes.sections takes.sayings) same_kind takes.say);
          pushed = pushed_then model before between now (at_first place) mid new out out_mid out_now so.takes.sayings takes.sayings so.takes.pushed takes.pushed;
        };
        somewhere = pushed_somewhere model between now mid new out_mid out_now takes.sayings takes.pushed so.somewhere;
        long = omega (arith, so.long, long, next-is, length-append so.read piece);
        input_counted = omega (arith, so.input_counted, counted);
        out_counted = omega (arith, so.out_counted, pushed);
        ends_same = still ∙ so.ends_same;
      }

      pub piece_stops : (now : Refusals) (out_now : Option (List ℕ)) (input_rose : Type 0) (f : ℕ) (stop : Stop) → LeavesPiece json (is_followers mid.place) model mid stage_mid piece out_mid out_now (Rose d f) stop
          → OfRead left left_now (ServeStops (service json model place) before now out out_now input_rose (Rose c f) stop)
      piece_stops now out_now input_rose f stop leaves =
          let goes = goes_further (first_stage (is_followers place)) stage_mid leaves.stage_now so.read piece leaves.rest so.takes.sections (leaves.sections ++ leaves.others) so.takes.goes leaves.goes in
          let first = goes_first (is_followers place) leaves.stage_now (so.read ++ piece) leaves.rest (so.takes.sections ++ (leaves.sections ++ leaves.others)) goes in (
            so.read ++ piece,
            left_further,
            stops_by json model place begins out out_now before now input_rose (so.read ++ piece) (so.takes.sections ++ leaves.sections) (leaves.others ++ first.0) (first.1 ∙ regrouped so.takes.sections leaves.sections leaves.others first.0)
                (so.takes.sayings ++ leaves.sayings) (say_then json (is_followers place) so.takes.sections leaves.sections so.takes.sayings leaves.sayings so.takes.say (subst (λ (f : Bool). AllSay json f leaves.sections leaves.sayings) same_kind leaves.say)) (Rose c f) stop
                (halts_since model (at_first place) out out_now (Rose d f) (Rose c f) stop (so.takes.sayings ++ leaves.sayings) (λ rose. rose_later c d f so.out_counted rose)
                (halts_then model before between (at_first place) mid out out_mid out_now (Rose d f) stop so.takes.sayings leaves.sayings so.takes.pushed leaves.halts)),
          )

    -- ---- the end

    module _ (left_now : Option (List ℕ)) (same : left_mid ≡ left_now) (ended : Option Section) (ended-is : ended ≡ left_at stage_mid) where
      left_same : left ≡ with_front so.read left_now
      left_same = so.left_is ∙ ap (with_front so.read) same

      all_read : sections_of (is_followers place) so.read ≡ so.takes.sections ++ listed ended []
      all_read = goes_all (is_followers place) stage_mid so.read so.takes.sections ended so.takes.goes ended-is

      pub served_all : (now : Refusals) (new : Standing) (out_now : Option (List ℕ)) → TakesEnded json (is_followers mid.place) model between now mid new ended out_mid out_now → OfRead left left_now (λ read. TookTexts (service json model place) before now (sections_of (is_followers place) read) out out_now)
      served_all now new out_now rest =
          let pushed = pushed_then model before between now (at_first place) mid new out out_mid out_now so.takes.sayings rest.sayings so.takes.pushed rest.pushed in (
            so.read,
            left_same,
            record {
              texts = pushed.texts;
              answered = record {
                sayings = so.takes.sayings ++ rest.sayings;
                refused = pushed.serves.refused;
                say = subst (λ (s : List Section). AllSay json (is_followers place) s (so.takes.sayings ++ rest.sayings)) (sym all_read) (say_then json (is_followers place) so.takes.sections (listed ended []) so.takes.sayings rest.sayings so.takes.say (subst (λ (f : Bool). AllSay json f (listed ended []) rest.sayings) same_kind rest.say));
                texts_are = told_from json model place (so.takes.sayings ++ rest.sayings) pushed.serves.refused pushed.texts new.place begins pushed.serves.steps;
                logged = pushed.serves.logged;
              };
              took = pushed.took;
            },
          )

      pub end_stops : (now : Refusals) (out_now : Option (List ℕ)) (input_rose : Type 0) (f : ℕ) (stop : Stop) → LeavesEnded json (is_followers mid.place) model mid ended out_mid out_now (Rose d f) stop
          → OfRead left left_now (ServeStops (service json model place) before now out out_now input_rose (Rose c f) stop)
      end_stops now out_now input_rose f stop leaves = (
        so.read,
        left_same,
        stops_by json model place begins out out_now before now input_rose so.read (so.takes.sections ++ leaves.sections) leaves.others (all_read ∙ ap (λ (s : List Section). so.takes.sections ++ s) leaves.parts ∙ sym (append_assoc so.takes.sections leaves.sections leaves.others))
            (so.takes.sayings ++ leaves.sayings) (say_then json (is_followers place) so.takes.sections leaves.sections so.takes.sayings leaves.sayings so.takes.say (subst (λ (f : Bool). AllSay json f leaves.sections leaves.sayings) same_kind leaves.say)) (Rose c f) stop
            (halts_since model (at_first place) out out_now (Rose d f) (Rose c f) stop (so.takes.sayings ++ leaves.sayings) (λ rose. rose_later c d f so.out_counted rose)
            (halts_then model before between (at_first place) mid out out_mid out_now (Rose d f) stop so.takes.sayings leaves.sayings so.takes.pushed leaves.halts)),
      )

-- ---- one pull

-- an answer that something came, or that the source failed, is none that it is at its end
pub some_came : (ends ends_now : Option ℕ) (count : ℕ) (said : Bool) → ends_now ≡ ends_after ends (eqb count 0 && said) → 0 < count → ends_now ≡ ends
some_came ends ends_now count said told some =
    told ∙ ap (λ (test : Bool). ends_after ends (test && said)) (ne_eqb count 0 (λ e. absurd (omega (arith, e, some)))) ∙ ends_kept ends

pub ended_or_not : (ends mid now : Option ℕ) (said : Bool) → mid ≡ ends → now ≡ ends_after mid said → IsEndedOnce ends now
ended_or_not ends mid now said same told = subst (λ (e : Option ℕ). IsEndedOnce e now) same (ended_once mid now said told)

-- nothing came
pub nothing_came : (left left_now : Option (List ℕ)) (buffer : List ℕ) (count : ℕ) → count ≡ 0 → left ≡ with_front (take count buffer) left_now → left ≡ left_now
nothing_came left left_now buffer count none given = given ∙ ap (λ (n : ℕ). with_front (take n buffer) left_now) none ∙ with_front-nothing left_now

-- and so it is at its end
pub at_its_end : (left left_now : Option (List ℕ)) → left ≡ left_now → IfSome left (λ bytes. bytes ≡ []) → IfSome left_now (λ rest. rest ≡ [])
at_its_end left left_now same ended = subst (λ (o : Option (List ℕ)). IfSome o (λ rest. rest ≡ [])) same ended
