-- A stream that is served over what the files of a job were opened to.
use Rattle.std.proofs.Common.{◌≡◌, ℕ, Bool, true, false, List, [], inl, inr, refl, sym, ap, subst, ◌∙◌}
use Rattle.std.specs.Prelude.{Option, Some, None}
use Rattle.desk_session.proofs.CallerLemmas.{alone_before}
use Rattle.desk_session.specs.Desks.{StandsBehind}
use Rattle.live_serve.specs.Places.{Place, Standing, at_desk, follows, is_followers, state_at}
use Rattle.item_stream.specs.Sections.{sections_of}
use Rattle.live_serve.specs.Streams.{IsFirst, OfRead, Service, TookTexts, service}
use Rattle.log_ship.specs.Followers.{Following}
use Rattle.model_conf.specs.ModelText.{ModelParts}
use Rattle.outside.specs.Files.{Files}
use Rattle.outside.specs.Log.{Adds}
use Rattle.outside.specs.declared.fetch_log.FetchCall.{FetchCall}
use Rattle.perm_base.specs.declared.shapes.Shapes.{Shapes}
use Rattle.policy_desk.specs.Desks.{Work}
use Rattle.policy_state.specs.States.{State, tables}
use Rattle.policy_table.specs.Tables.{Policy}
use Rattle.policy_table.specs.declared.change.Change.{Change}
use Rattle.serve_run.specs.Helps.Opened.{IsOpened}
use Rattle.run_files.specs.Loads.{both_fetches}
use Rattle.serve_run.specs.declared.opened.OpenedFiles.{OpenedFiles}
use Rattle.run_status.proofs.CallerLemmas.{is_never_done}
use Rattle.run_status.specs.Messages.{line_of}
use Rattle.run_status.specs.Statuses.{status_of}
use Rattle.run_status.specs.Told.{IsTold}
use Rattle.run_status.specs.declared.status.Status.{Status}
use Rattle.run_status.specs.declared.status.Status.TheVariants as statuses
use Rattle.run_status.specs.declared.stop.Stop.{Stop}
use Rattle.session_meaning.specs.Desks.{IsBehind}
use Rattle.version_log.specs.Log.{versions}
use Rattle.serve_run.specs.Announced.{serving_line}
use Rattle.serve_run.specs.Helps.ServedStreams as helps
use Rattle.serve_run.specs.Helps.ServedStreams.{Announces, IsReady, ServedJob, ServedOpened, StopsJob, StopsOpened, opened_service}
use Rattle.serve_run.specs.Moments.{AskedErr, Moment}
use Rattle.serve_run.specs.Services as services
use Rattle.serve_run.specs.Services.{EndsServing, HasServed, IsAnnounced, IsCutOff, IsOpen, IsServed, StopsServing, service_on}
use Rattle.serve_run.specs.Words.{job_asked}
use Rattle.serve_run.specs.declared.words.Job.{Job}

-- ---- a desk

-- a desk over a policy of version 0 stands before all items
desk_before : (desk : Work) (state : State) → versions state.log ≡ 0 → desk.state ≡ state → desk.pending ≡ [] → desk.kept ≡ None → desk.floor ≡ state.log.start → StandsBehind (tables desk.state) [] desk
desk_before desk state none same no_pending keeps_all floor =
    let there = alone_before desk.state (ap (λ (s : State). versions s.log) same ∙ none) in
    record {
      edits = subst (λ (p : List (List Change)). IsBehind desk.state.shapes (tables desk.state) [] desk.state.log (tables desk.state) p desk.kept) (sym no_pending)
          (subst (λ (k : Option ℕ). IsBehind desk.state.shapes (tables desk.state) [] desk.state.log (tables desk.state) [] k) (sym keeps_all) there.edits);
      floor = floor ∙ sym (ap (λ (s : State). s.log.start) same);
    }

abbrev made : Bool → Bool → ModelParts → Shapes → Policy → Service
made json follow model shapes opening = record { json = json; follow = follow; model = model; shapes = shapes; opening = opening }

-- a place with the state that was opened serves over it
same_place : (job : Job) (opened : OpenedFiles) (place : Place) → is_followers place ≡ job.follow → state_at place ≡ opened.state → service job.json opened.program place ≡ opened_service job opened
same_place job opened place kind same = ap (λ (s : State). made job.json (is_followers place) opened.program s.shapes (tables s)) same ∙ ap (λ (f : Bool). made job.json f opened.program opened.state.shapes (tables opened.state)) kind

-- a follower of a state of version 0, at which nothing waits, is at its first
follower_first : (follower : Following) (state : State) → versions state.log ≡ 0 → follower.state ≡ state → follower.waiting ≡ [] → IsFirst (follows follower)
follower_first follower state none same empty = record { shapes_are = refl; policy_is = refl; first = ap (λ (s : State). versions s.log) same ∙ none; none_waits = empty }

-- ---- a clerk

pub desk_ready : (at : Standing) (desk : Work) (state : State) → at ≡ record { place = at_desk desk; number = 0 } → versions state.log ≡ 0 → desk.state ≡ state → desk.pending ≡ [] → desk.kept ≡ None → desk.floor ≡ state.log.start → IsReady state false at
desk_ready at desk state is none same no_pending keeps_all floor = subst (IsReady state false) (sym is) (record { kind = refl; state_is = same; first = desk_before desk state none same no_pending keeps_all floor; no_line = refl })

pub follower_ready : (at : Standing) (follower : Following) (state : State) → at ≡ record { place = follows follower; number = 0 } → versions state.log ≡ 0 → follower.state ≡ state → follower.waiting ≡ [] → IsReady state true at
follower_ready at follower state is none same empty = subst (IsReady state true) (sym is) (record { kind = refl; state_is = same; first = follower_first follower state none same empty; no_line = refl })

module _ (job : Job) (opened : OpenedFiles) (place : Place) (kind : is_followers place ≡ job.follow) (same : state_at place ≡ opened.state) (before now : Moment) (told : Announces job opened.rules before now) where
  pub stream_served : OfRead before.left now.left (λ read. TookTexts (service job.json opened.program place) before.refused now.refused (sections_of (is_followers place) read) before.out now.out) → ServedOpened job opened before now
  stream_served so = record { told = told; served = subst (λ (on : Service). IsServed on before now) (same_place job opened place kind same) so }

  pub stream_stops : (stop : Stop) → IsCutOff (service job.json opened.program place) before now stop → StopsOpened job opened before now stop
  stream_stops stop stops = inr (told, subst (λ (on : Service). IsCutOff on before now stop) (same_place job opened place kind same) stops)

-- ---- a job

-- another moment of a shelf
abbrev pub shelved : Option (List FetchCall) → ℕ → Moment → Moment
shelved calls faults at = record at { calls = calls; shelf_faults = faults }

module _ (files : Option Files) (job : Job) (opened : OpenedFiles) (is : IsOpened files job.files job.options opened) (calls calls_now : Option (List FetchCall)) (faults faults_now : ℕ) (fetched : Adds calls calls_now (both_fetches job.files false)) where
  same_service : opened_service job opened ≡ service_on job opened.program (tables opened.state)
  same_service = ap (λ (s : Shapes). made job.json job.follow opened.program s (tables opened.state)) is.shapes_are

  module _ (before now : Moment) where
    is_open : IsOpen files job opened.program (tables opened.state) (shelved calls faults before) (shelved calls_now faults_now now)
    is_open = record { are_files = is.are_files; fetched = fetched }

    announced : Announces job opened.rules before now → IsAnnounced job (tables opened.state) (shelved calls faults before) (shelved calls_now faults_now now)
    announced told = subst (λ (n : ℕ). IsTold before.err now.err before.err_faults now.err_faults (serving_line job.files.model n)) is.rules_are told

    pub job_served : ServedOpened job opened before now → ServedJob files job (shelved calls faults before) (shelved calls_now faults_now now)
    job_served so = record {
      model = opened.program;
      policy = tables opened.state;
      opened = is_open;
      told = announced so.told;
      served = subst (λ (on : Service). IsServed on before now) same_service so.served;
    }

    pub job_stops : (stop : Stop) → StopsOpened job opened before now stop → StopsJob files job (shelved calls faults before) (shelved calls_now faults_now now) stop
    job_stops stop (inl (memory, same)) = helps.behind_files opened.program (tables opened.state) is_open memory (ap (shelved calls_now faults_now) same)
    job_stops stop (inr (told, stops)) = helps.in_stream opened.program (tables opened.state) is_open (announced told) (subst (λ (on : Service). IsCutOff on before now stop) same_service stops)

-- ---- for words

module _ (words : List (List ℕ)) (files : Option Files) (job : Job) (asked : job_asked words ≡ Some job) (before now : Moment) where
  pub has_served : ServedJob files job before now → HasServed words files before now
  has_served so = record { job = job; model = so.model; policy = so.policy; asked = asked; opened = so.opened; told = so.told; served = so.served }

  pub stops_serving : (stop : Stop) → StopsJob files job before now stop → StopsServing words files before now stop
  stops_serving stop (helps.at_files stops same) = services.at_files job asked stops same
  stops_serving stop (helps.behind_files model policy opened memory same) = services.behind_files job model policy asked opened memory same
  stops_serving stop (helps.in_stream model policy opened told stops) = services.in_stream job model policy asked opened told stops

-- a stop that was told is the end
pub stopped_serving : (words : List (List ℕ)) (files : Option Files) (before mid now : Moment) (status : Status) (stop : Stop) → status ≡ status_of stop → StopsServing words files before mid stop → IsTold mid.err now.err mid.err_faults now.err_faults (line_of stop) → AskedErr mid now → EndsServing words files before now status
stopped_serving words files before mid now statuses.Done stop is cause told rest = absurd (is_never_done stop (sym is))
stopped_serving words files before mid now other stop is cause told rest = record { stop = stop; mid = mid; status_is = is; cause = cause; told = told; rest = rest }
