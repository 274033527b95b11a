-- What is given has one end: what is read comes to one state at each part, and the states to one end.
use Rattle.std.proofs.Common.{◌≡◌, ℕ, ◌<◌, ◌≤◌, Bool, true, false, List, inl, inr, length, refl, sym, ap, subst, ◌∙◌, arith}
use Rattle.std.specs.Option.{option_map_or}
use Rattle.std.specs.Prelude.{◌⊎◌, IsSome, Option, Some, None}
use Rattle.answer_lines.specs.declared.answer.Line.{Line}
use Rattle.command_words.specs.FileNames.{SubjectName}
use Rattle.log_ship.specs.PacketText.{ArePackets, IsPacketFault}
use Rattle.log_ship.specs.declared.packet.Packet.{Packet}
use Rattle.log_ship.specs.declared.packet_fault.PacketFault.{PacketFault}
use Rattle.outside.specs.Files.{Files}
use Rattle.model_conf.specs.Faults.{IsModelFault}
use Rattle.refusal_meaning.specs.Unread.{AreUnreadable}
use Rattle.model_conf.specs.ModelText.{ModelParts, IsModel}
use Rattle.model_conf.specs.declared.fault.ModelFault.{ModelFault}
use Rattle.perm_base.specs.declared.shapes.Shapes.{Shapes}
use Rattle.policy_csv.specs.Faults.{IsPolicyFault}
use Rattle.policy_csv.specs.Policy.{IsPolicy}
use Rattle.policy_csv.specs.declared.fault.PolicyFault.{PolicyFault}
use Rattle.policy_table.specs.Tables as table
use Rattle.run_status.specs.Parts.{limit_of}
use Rattle.run_status.specs.declared.part.Part.TheVariants as part
use Rattle.run_status.specs.declared.part.Part.TheVariants.{Model, Policy, Input}
use Rattle.run_status.specs.declared.stop.Stop.{Stop}
use Rattle.run_status.specs.declared.stop.Stop.TheVariants.{Words, NoModel, NoRelation, NoPolicy, NoScript, NoPackets, CannotRead, TooLong}
use Rattle.script_read.specs.Said.{Said}
use Rattle.script_read.specs.Script.{IsRequests, IsScript, IsScriptFault}
use Rattle.script_read.specs.declared.fault.ScriptFault.{ScriptFault}
use Rattle.session_meaning.specs.Plain.{IsPlain, all_refused}
use Rattle.casbin_run.specs.Answered.{IsCalmlyAnswered}
use Rattle.casbin_run.specs.Causes.{Cause, HasFault, HasPacketFault, StopsAt}
use Rattle.loaded_work.specs.Explained.{IsExplained}
use Rattle.loaded_work.specs.Followed.{IsFollowed}
use Rattle.casbin_run.specs.Given.{AreFiles, FileIs, Given, IsInOrder, ModelIs, ModelSuits, SaysItems, SaysPackets}
use Rattle.casbin_run.specs.Jobs.{absent_in, ask_for_workers, has_workers, job_asked, reads_input, shapes_with}
use Rattle.casbin_run.specs.Reached.{IsReached, Reached, at_words, at_model, at_options, at_policy, at_task}
use Rattle.loaded_work.specs.Roles.{IsImplied, IsLong, IsReported, IsShort}
use Rattle.casbin_run.specs.Texts.{IsOfLines}
use Rattle.loaded_work.specs.Texts.{text_of_lines}
use Rattle.casbin_run.specs.Written.{HasRoom, IsTooLong, Writes}
use Rattle.casbin_run.specs.declared.job.Job.{Job}
use Rattle.casbin_run.specs.declared.job.Task.{Task}
use Rattle.casbin_run.specs.declared.job.Task.TheVariants.{Enforce, Cached, Explain, Serve, Share, Check, Format, Implicit, Report, Ship, Follow}

-- what reading a part comes to
data State (X F : Type 0) : Type 0 where
  absent : State X F
  long : State X F
  bad : F → State X F
  good : X → State X F

abbrev IsState : {X F : Type 0} → Option (List ℕ) → ℕ → (List ℕ → X → Type 0) → (List ℕ → F → Type 0) → State X F → Type 0
IsState content limit says faulty absent = content ≡ None
IsState content limit says faulty long = (bytes : List ℕ) × (content ≡ Some bytes) × (limit < length bytes)
IsState content limit says faulty (bad f) = (bytes : List ℕ) × (content ≡ Some bytes) × (length bytes ≤ limit) × faulty bytes f
IsState content limit says faulty (good x) = (bytes : List ℕ) × (content ≡ Some bytes) × (length bytes ≤ limit) × says bytes x

-- a text says one thing or has one fault
record IsOne {X F : Type 0} (says : List ℕ → X → Type 0) (faulty : List ℕ → F → Type 0) : Type 0 where
  said : (bytes : List ℕ) (x y : X) → says bytes x → says bytes y → x ≡ y
  fault : (bytes : List ℕ) (f g : F) → faulty bytes f → faulty bytes g → f ≡ g
  either : (bytes : List ℕ) (x : X) (f : F) → says bytes x → faulty bytes f → ⊥

same_bytes : (content : Option (List ℕ)) (a b : List ℕ) → content ≡ Some a → content ≡ Some b → a ≡ b
same_bytes content a b one other = cc

clash : {A : Type 0} (content : Option (List ℕ)) (a : List ℕ) → content ≡ None → content ≡ Some a → A
clash content a none some = absurd cc

too_wide : {A : Type 0} (content : Option (List ℕ)) (limit : ℕ) (a b : List ℕ) → content ≡ Some a → content ≡ Some b → limit < length a → length b ≤ limit → A
too_wide content limit a b one other above below = absurd (omega (arith, ap length (same_bytes content a b one other)))

-- a part has one state
one_state : {X F : Type 0} (content : Option (List ℕ)) (limit : ℕ) (says : List ℕ → X → Type 0) (faulty : List ℕ → F → Type 0) → IsOne says faulty → (s t : State X F) → IsState content limit says faulty s → IsState content limit says faulty t → s ≡ t
one_state content limit says faulty one absent absent p q = refl
one_state content limit says faulty one absent long p q = clash content q.0 p q.1
one_state content limit says faulty one absent (bad g) p q = clash content q.0 p q.1
one_state content limit says faulty one absent (good y) p q = clash content q.0 p q.1
one_state content limit says faulty one long absent p q = clash content p.0 q p.1
one_state content limit says faulty one long long p q = refl
one_state content limit says faulty one long (bad g) p q = too_wide content limit p.0 q.0 p.1 q.1 p.2 q.2
one_state content limit says faulty one long (good y) p q = too_wide content limit p.0 q.0 p.1 q.1 p.2 q.2
one_state content limit says faulty one (bad f) absent p q = clash content p.0 q p.1
one_state content limit says faulty one (bad f) long p q = too_wide content limit q.0 p.0 q.1 p.1 q.2 p.2
one_state content limit says faulty one (bad f) (bad g) p q = ap bad (one.fault q.0 f g (subst (λ (b : List ℕ). faulty b f) (same_bytes content p.0 q.0 p.1 q.1) p.3) q.3)
one_state content limit says faulty one (bad f) (good y) p q = absurd (one.either p.0 y f (subst (λ (b : List ℕ). says b y) (same_bytes content q.0 p.0 q.1 p.1) q.3) p.3)
one_state content limit says faulty one (good x) absent p q = clash content p.0 q p.1
one_state content limit says faulty one (good x) long p q = too_wide content limit q.0 p.0 q.1 p.1 q.2 p.2
one_state content limit says faulty one (good x) (bad g) p q = absurd (one.either q.0 x g (subst (λ (b : List ℕ). says b x) (same_bytes content p.0 q.0 p.1 q.1) p.3) q.3)
one_state content limit says faulty one (good x) (good y) p q = ap good (one.said q.0 x y (subst (λ (b : List ℕ). says b x) (same_bytes content p.0 q.0 p.1 q.1) p.3) q.3)

abbrev ModelState : Type 0
ModelState = State ModelParts ModelFault

abbrev PolicyState : Type 0
PolicyState = State table.Policy PolicyFault

abbrev InputState : Type 0
InputState = State (List Said) ScriptFault

abbrev IsModelState : Option (List ℕ) → ModelState → Type 0
IsModelState content state = IsState content (limit_of Model) IsModel IsModelFault state

abbrev IsPolicyState : Option (List ℕ) → Shapes → PolicyState → Type 0
IsPolicyState content shapes state = IsState content (limit_of Policy) (IsPolicy shapes) (IsPolicyFault shapes) state

-- what the bytes of an input that a task reads say
abbrev SaysBytes : Task → List ℕ → List Said → Type 0
SaysBytes (Enforce json) bytes items = IsRequests json bytes items
SaysBytes (Cached json capacity) bytes items = IsRequests json bytes items
SaysBytes (Explain json most) bytes items = IsRequests json bytes items
SaysBytes (Serve json) bytes items = IsScript json bytes items
SaysBytes (Share json workers) bytes items = IsScript json bytes items
SaysBytes Check bytes items = ⊥
SaysBytes Format bytes items = ⊥
SaysBytes (Implicit subject) bytes items = ⊥
SaysBytes Report bytes items = ⊥
SaysBytes Ship bytes items = IsScript false bytes items
SaysBytes Follow bytes items = ⊥

abbrev IsInputState : Option (List ℕ) → Task → InputState → Type 0
IsInputState content task state = IsState content (limit_of Input) (SaysBytes task) (HasFault task) state

-- the end that the input gives; None is the end of the run itself
abbrev input_end : InputState → Option Stop
input_end absent = Some (CannotRead Input)
input_end long = Some (TooLong Input)
input_end (bad fault) = Some (NoScript fault)
input_end (good items) = None

abbrev InputEnds : Option (List ℕ) → Task → Option Stop → Type 0
InputEnds input task end = (state : InputState) × IsInputState input task state × (end ≡ input_end state)

-- what packets come to, and the end that they give
abbrev PacketState : Type 0
PacketState = State (List Packet) PacketFault

abbrev IsPacketState : Option (List ℕ) → PacketState → Type 0
IsPacketState content state = IsState content (limit_of Input) ArePackets IsPacketFault state

abbrev packet_end : PacketState → Option Stop
packet_end absent = Some (CannotRead Input)
packet_end long = Some (TooLong Input)
packet_end (bad fault) = Some (NoPackets fault)
packet_end (good packets) = None

abbrev PacketsEnd : Option (List ℕ) → Option Stop → Type 0
PacketsEnd input end = (state : PacketState) × IsPacketState input state × (end ≡ packet_end state)

-- the end that a report gives
abbrev ReportEnds : Shapes → table.Policy → Option Stop → Type 0
ReportEnds shapes policy end = (IsLong shapes policy × (end ≡ Some (TooLong part.Report))) ⊎ (IsShort shapes policy × (end ≡ None))

-- the end that a task gives
abbrev TaskEnds : Option (List ℕ) → Task → Shapes → table.Policy → Option Stop → Type 0
TaskEnds input (Enforce json) shapes policy end = InputEnds input (Enforce json) end
TaskEnds input (Cached json capacity) shapes policy end = InputEnds input (Cached json capacity) end
TaskEnds input (Explain json most) shapes policy end = InputEnds input (Explain json most) end
TaskEnds input (Serve json) shapes policy end = InputEnds input (Serve json) end
TaskEnds input (Share json workers) shapes policy end = InputEnds input (Share json workers) end
TaskEnds input Check shapes policy end = end ≡ None
TaskEnds input Format shapes policy end = end ≡ None
TaskEnds input (Implicit subject) shapes policy end = end ≡ None
TaskEnds input Report shapes policy end = ReportEnds shapes policy end
TaskEnds input Ship shapes policy end = InputEnds input Ship end
TaskEnds input Follow shapes policy end = PacketsEnd input end

abbrev AfterPolicy : Option (List ℕ) → Task → Shapes → Option Stop → PolicyState → Type 0
AfterPolicy input task shapes end absent = end ≡ Some (CannotRead Policy)
AfterPolicy input task shapes end long = end ≡ Some (TooLong Policy)
AfterPolicy input task shapes end (bad fault) = end ≡ Some (NoPolicy fault)
AfterPolicy input task shapes end (good policy) = TaskEnds input task shapes policy end

abbrev PolicyEnds : Files → Option (List ℕ) → Job → ModelParts → Option Stop → Type 0
PolicyEnds files input job model end = (state : PolicyState) × IsPolicyState (files job.files.policy) (shapes_with job.options model) state × AfterPolicy input job.task (shapes_with job.options model) end state

abbrev AfterOptions : Files → Option (List ℕ) → Job → ModelParts → Option Stop → Option ℕ → Type 0
AfterOptions files input job model end None = PolicyEnds files input job model end
AfterOptions files input job model end (Some relation) = end ≡ Some (NoRelation relation)

abbrev AfterModel : Files → Option (List ℕ) → Job → Option Stop → ModelState → Type 0
AfterModel files input job end absent = end ≡ Some (CannotRead Model)
AfterModel files input job end long = end ≡ Some (TooLong Model)
AfterModel files input job end (bad fault) = end ≡ Some (NoModel fault)
AfterModel files input job end (good model) = (absent : Option ℕ) × (absent_in job.options model ≡ absent) × AfterOptions files input job model end absent

abbrev AfterWords : Files → Option (List ℕ) → Option Stop → Option Job → Type 0
AfterWords files input end None = end ≡ Some Words
AfterWords files input end (Some job) = (state : ModelState) × IsModelState (files job.files.model) state × AfterModel files input job end state

-- the end that told words, files and input give
abbrev EndsIn : List (List ℕ) → Files → Option (List ℕ) → Option Stop → Type 0
EndsIn words files input end = (asked : Option Job) × (job_asked words ≡ asked) × AfterWords files input end asked

-- each text says one thing or has one fault
pub record SaysOnce : Type 0 where
  pub model : (bytes : List ℕ) (first second : ModelParts) → IsModel bytes first → IsModel bytes second → first ≡ second
  pub model_fault : (bytes : List ℕ) (first second : ModelFault) → IsModelFault bytes first → IsModelFault bytes second → first ≡ second
  pub model_either : (bytes : List ℕ) (fault : ModelFault) (model : ModelParts) → IsModelFault bytes fault → ¬ (IsModel bytes model)
  pub policy : (shapes : Shapes) (bytes : List ℕ) (first second : table.Policy) → IsPolicy shapes bytes first → IsPolicy shapes bytes second → first ≡ second
  pub policy_fault : (shapes : Shapes) (bytes : List ℕ) (first second : PolicyFault) → IsPolicyFault shapes bytes first → IsPolicyFault shapes bytes second → first ≡ second
  pub policy_either : (shapes : Shapes) (bytes : List ℕ) (fault : PolicyFault) (policy : table.Policy) → IsPolicyFault shapes bytes fault → ¬ (IsPolicy shapes bytes policy)
  pub script : (json : Bool) (bytes : List ℕ) (first second : List Said) → IsScript json bytes first → IsScript json bytes second → first ≡ second
  pub script_fault : (json : Bool) (bytes : List ℕ) (first second : ScriptFault) → IsScriptFault json bytes first → IsScriptFault json bytes second → first ≡ second
  pub script_either : (json : Bool) (bytes : List ℕ) (fault : ScriptFault) (items : List Said) → IsScriptFault json bytes fault → ¬ (IsScript json bytes items)
  pub requests : (json : Bool) (bytes : List ℕ) (first second : List Said) → IsRequests json bytes first → IsRequests json bytes second → first ≡ second
  pub packets : (bytes : List ℕ) (first second : List Packet) → ArePackets bytes first → ArePackets bytes second → first ≡ second
  pub packet_fault : (bytes : List ℕ) (first second : PacketFault) → IsPacketFault bytes first → IsPacketFault bytes second → first ≡ second
  pub packet_either : (bytes : List ℕ) (fault : PacketFault) (packets : List Packet) → IsPacketFault bytes fault → ¬ (ArePackets bytes packets)
  pub lines : (model : ModelParts) (shapes : Shapes) (opening : table.Policy) (items : List Said) (refused others : List (List (List ℕ))) (first second : List Line) → IsPlain model shapes opening items refused first → IsPlain model shapes opening items others second
      → AreUnreadable (all_refused refused) → AreUnreadable (all_refused others) → first ≡ second
  pub explained : (most : ℕ) (model : ModelParts) (shapes : Shapes) (opening : table.Policy) (items : List Said) (refused others : List (List (List ℕ))) (pieces more : List (List ℕ)) (first second : List ℕ) → IsExplained most model shapes opening items refused pieces first
      → IsExplained most model shapes opening items others more second → AreUnreadable (all_refused refused) → AreUnreadable (all_refused others) → first ≡ second
  pub implied : (model : ModelParts) (shapes : Shapes) (policy : table.Policy) (subject : SubjectName) (first second : List ℕ) → IsImplied model shapes policy subject first → IsImplied model shapes policy subject second → first ≡ second
  pub followed : (shapes : Shapes) (policy : table.Policy) (packets : List Packet) (first second : List ℕ) → IsFollowed shapes policy packets first → IsFollowed shapes policy packets second → first ≡ second
  pub reported : (shapes : Shapes) (policy : table.Policy) (first second : List ℕ) → IsReported shapes policy first → IsReported shapes policy second → first ≡ second

module _ (once : SaysOnce) where
  model_is_one : IsOne IsModel IsModelFault
  model_is_one = record { said = once.model; fault = once.model_fault; either = λ bytes x f p q. once.model_either bytes f x q p }

  policy_is_one : (shapes : Shapes) → IsOne (IsPolicy shapes) (IsPolicyFault shapes)
  policy_is_one shapes = record { said = once.policy shapes; fault = once.policy_fault shapes; either = λ bytes x f p q. once.policy_either shapes bytes f x q p }

  requests_are_one : (json : Bool) → IsOne (SaysBytes (Enforce json)) (HasFault (Enforce json))
  requests_are_one json = record { said = once.requests json; fault = λ bytes f g p q. p.1 ∙ sym q.1; either = λ bytes x f p q. q.0 p.utf8 }

  cached_are_one : (json : Bool) (capacity : ℕ) → IsOne (SaysBytes (Cached json capacity)) (HasFault (Cached json capacity))
  cached_are_one json capacity = record { said = once.requests json; fault = λ bytes f g p q. p.1 ∙ sym q.1; either = λ bytes x f p q. q.0 p.utf8 }

  explained_are_one : (json : Bool) (most : ℕ) → IsOne (SaysBytes (Explain json most)) (HasFault (Explain json most))
  explained_are_one json most = record { said = once.requests json; fault = λ bytes f g p q. p.1 ∙ sym q.1; either = λ bytes x f p q. q.0 p.utf8 }

  script_is_one : (json : Bool) → IsOne (SaysBytes (Serve json)) (HasFault (Serve json))
  script_is_one json = record { said = once.script json; fault = once.script_fault json; either = λ bytes x f p q. once.script_either json bytes f x q p }

  shared_is_one : (json : Bool) (workers : ℕ) → IsOne (SaysBytes (Share json workers)) (HasFault (Share json workers))
  shared_is_one json workers = record { said = once.script json; fault = once.script_fault json; either = λ bytes x f p q. once.script_either json bytes f x q p }

  shipped_is_one : IsOne (SaysBytes Ship) (HasFault Ship)
  shipped_is_one = record { said = once.script false; fault = once.script_fault false; either = λ bytes x f p q. once.script_either false bytes f x q p }

  packets_are_one : IsOne ArePackets IsPacketFault
  packets_are_one = record { said = once.packets; fault = once.packet_fault; either = λ bytes x f p q. once.packet_either bytes f x q p }

  packets_once : (input : Option (List ℕ)) (a b : Option Stop) → PacketsEnd input a → PacketsEnd input b → a ≡ b
  packets_once input a b (s, s-is, a-is) (t, t-is, b-is) = a-is ∙ ap packet_end (one_state input (limit_of Input) _ _ packets_are_one s t s-is t-is) ∙ sym b-is

  input_once : (input : Option (List ℕ)) (task : Task) → IsOne (SaysBytes task) (HasFault task) → (a b : Option Stop) → InputEnds input task a → InputEnds input task b → a ≡ b
  input_once input task one a b (s, s-is, a-is) (t, t-is, b-is) = a-is ∙ ap input_end (one_state input (limit_of Input) _ _ one s t s-is t-is) ∙ sym b-is

  long_or_short : {A : Type 0} (shapes : Shapes) (policy : table.Policy) → IsLong shapes policy → IsShort shapes policy → A
  long_or_short shapes policy (text, is, wide) short = absurd (omega (arith, wide, short text is))

  report_once : (shapes : Shapes) (policy : table.Policy) (a b : Option Stop) → ReportEnds shapes policy a → ReportEnds shapes policy b → a ≡ b
  report_once shapes policy a b (inl wide) (inl other) = wide.1 ∙ sym other.1
  report_once shapes policy a b (inl wide) (inr short) = long_or_short shapes policy wide.0 short.0
  report_once shapes policy a b (inr short) (inl wide) = long_or_short shapes policy wide.0 short.0
  report_once shapes policy a b (inr short) (inr other) = short.1 ∙ sym other.1

  task_once : (input : Option (List ℕ)) (task : Task) (shapes : Shapes) (policy : table.Policy) (a b : Option Stop) → TaskEnds input task shapes policy a → TaskEnds input task shapes policy b → a ≡ b
  task_once input (Enforce json) shapes policy a b p q = input_once input (Enforce json) (requests_are_one json) a b p q
  task_once input (Cached json capacity) shapes policy a b p q = input_once input (Cached json capacity) (cached_are_one json capacity) a b p q
  task_once input (Explain json most) shapes policy a b p q = input_once input (Explain json most) (explained_are_one json most) a b p q
  task_once input (Serve json) shapes policy a b p q = input_once input (Serve json) (script_is_one json) a b p q
  task_once input (Share json workers) shapes policy a b p q = input_once input (Share json workers) (shared_is_one json workers) a b p q
  task_once input Check shapes policy a b p q = p ∙ sym q
  task_once input Format shapes policy a b p q = p ∙ sym q
  task_once input (Implicit subject) shapes policy a b p q = p ∙ sym q
  task_once input Report shapes policy a b p q = report_once shapes policy a b p q
  task_once input Ship shapes policy a b p q = input_once input Ship shipped_is_one a b p q
  task_once input Follow shapes policy a b p q = packets_once input a b p q

  after_policy_once : (input : Option (List ℕ)) (task : Task) (shapes : Shapes) (a b : Option Stop) (state : PolicyState) → AfterPolicy input task shapes a state → AfterPolicy input task shapes b state → a ≡ b
  after_policy_once input task shapes a b absent p q = p ∙ sym q
  after_policy_once input task shapes a b long p q = p ∙ sym q
  after_policy_once input task shapes a b (bad fault) p q = p ∙ sym q
  after_policy_once input task shapes a b (good policy) p q = task_once input task shapes policy a b p q

  policy_once : (files : Files) (input : Option (List ℕ)) (job : Job) (model : ModelParts) (a b : Option Stop) → PolicyEnds files input job model a → PolicyEnds files input job model b → a ≡ b
  policy_once files input job model a b (s, s-is, p) (t, t-is, q) =
      let same : t ≡ s = one_state (files job.files.policy) (limit_of Policy) _ _ (policy_is_one (shapes_with job.options model)) t s t-is s-is in
      after_policy_once input job.task (shapes_with job.options model) a b s p (subst (AfterPolicy input job.task (shapes_with job.options model) b) same q)

  after_options_once : (files : Files) (input : Option (List ℕ)) (job : Job) (model : ModelParts) (a b : Option Stop) (absent : Option ℕ) → AfterOptions files input job model a absent → AfterOptions files input job model b absent → a ≡ b
  after_options_once files input job model a b None p q = policy_once files input job model a b p q
  after_options_once files input job model a b (Some relation) p q = p ∙ sym q

  after_model_once : (files : Files) (input : Option (List ℕ)) (job : Job) (a b : Option Stop) (state : ModelState) → AfterModel files input job a state → AfterModel files input job b state → a ≡ b
  after_model_once files input job a b absent p q = p ∙ sym q
  after_model_once files input job a b long p q = p ∙ sym q
  after_model_once files input job a b (bad fault) p q = p ∙ sym q
  after_model_once files input job a b (good model) (s, s-is, p) (t, t-is, q) = after_options_once files input job model a b s p (subst (AfterOptions files input job model b) (sym t-is ∙ s-is) q)

  after_words_once : (files : Files) (input : Option (List ℕ)) (a b : Option Stop) (asked : Option Job) → AfterWords files input a asked → AfterWords files input b asked → a ≡ b
  after_words_once files input a b None p q = p ∙ sym q
  after_words_once files input a b (Some job) (s, s-is, p) (t, t-is, q) =
      let same : t ≡ s = one_state (files job.files.model) (limit_of Model) _ _ model_is_one t s t-is s-is in
      after_model_once files input job a b s p (subst (AfterModel files input job b) same q)

  ends_once : (words : List (List ℕ)) (files : Files) (input : Option (List ℕ)) (a b : Option Stop) → EndsIn words files input a → EndsIn words files input b → a ≡ b
  ends_once words files input a b (s, s-is, p) (t, t-is, q) = after_words_once files input a b s p (subst (AfterWords files input b) (sym t-is ∙ s-is) q)

-- ---- causes are ends

abbrev told : List (List ℕ) → Files → List ℕ → Given
told words files input = record { words = words; files = Some files; input = Some input }

-- behind the policy
policy_behind : (words : List (List ℕ)) (files : Files) (input : List ℕ) (job : Job) (model : ModelParts) (policy : table.Policy) (end : Option Stop) → job_asked words ≡ Some job → AreFiles (Some files) job model policy → TaskEnds (Some input) job.task (shapes_with job.options model) policy end → EndsIn words files (Some input) end
policy_behind words files input job model policy end asked are ends = (Some job, asked, (good model, are.suits.is_model, (None, are.suits.none_absent, (good policy, are.is_policy, ends))))

options_behind : (words : List (List ℕ)) (files : Files) (input : List ℕ) (job : Job) (model : ModelParts) (end : Option Stop) → job_asked words ≡ Some job → ModelSuits (Some files) job model → PolicyEnds files (Some input) job model end → EndsIn words files (Some input) end
options_behind words files input job model end asked fits ends = (Some job, asked, (good model, fits.is_model, (None, fits.none_absent, ends)))

module _ (shapes : Shapes) (policy : table.Policy) where
  long_input : (task : Task) (input : List ℕ) → reads_input task ≡ true → limit_of Input < length input → TaskEnds (Some input) task shapes policy (Some (TooLong Input))
  long_input (Enforce json) input reads wide = (long, (input, refl, wide), refl)
  long_input (Cached json capacity) input reads wide = (long, (input, refl, wide), refl)
  long_input (Explain json most) input reads wide = (long, (input, refl, wide), refl)
  long_input (Serve json) input reads wide = (long, (input, refl, wide), refl)
  long_input (Share json workers) input reads wide = (long, (input, refl, wide), refl)
  long_input Check input reads wide = absurd cc
  long_input Format input reads wide = absurd cc
  long_input (Implicit subject) input reads wide = absurd cc
  long_input Report input reads wide = absurd cc
  long_input Ship input reads wide = (long, (input, refl, wide), refl)
  long_input Follow input reads wide = (long, (input, refl, wide), refl)

  bad_input : (task : Task) (input bytes : List ℕ) (fault : ScriptFault) → reads_input task ≡ true → input ≡ bytes → length bytes ≤ limit_of Input → HasFault task bytes fault → TaskEnds (Some input) task shapes policy (Some (NoScript fault))
  bad_input (Enforce json) input bytes fault reads same within is = (bad fault, (bytes, ap (λ (b : List ℕ). Some b) same, within, is), refl)
  bad_input (Cached json capacity) input bytes fault reads same within is = (bad fault, (bytes, ap (λ (b : List ℕ). Some b) same, within, is), refl)
  bad_input (Explain json most) input bytes fault reads same within is = (bad fault, (bytes, ap (λ (b : List ℕ). Some b) same, within, is), refl)
  bad_input (Serve json) input bytes fault reads same within is = (bad fault, (bytes, ap (λ (b : List ℕ). Some b) same, within, is), refl)
  bad_input (Share json workers) input bytes fault reads same within is = (bad fault, (bytes, ap (λ (b : List ℕ). Some b) same, within, is), refl)
  bad_input Check input bytes fault reads same within is = absurd is
  bad_input Format input bytes fault reads same within is = absurd is
  bad_input (Implicit subject) input bytes fault reads same within is = absurd is
  bad_input Report input bytes fault reads same within is = absurd is
  bad_input Ship input bytes fault reads same within is = (bad fault, (bytes, ap (λ (b : List ℕ). Some b) same, within, is), refl)
  bad_input Follow input bytes fault reads same within is = absurd is

  bad_packets : (task : Task) (input bytes : List ℕ) (fault : PacketFault) → input ≡ bytes → length bytes ≤ limit_of Input → HasPacketFault task bytes fault → TaskEnds (Some input) task shapes policy (Some (NoPackets fault))
  bad_packets Follow input bytes fault same within is = (bad fault, (bytes, ap (λ (b : List ℕ). Some b) same, within, is), refl)
  bad_packets _ input bytes fault same within is = absurd is

  long_report : (task : Task) (input : List ℕ) → IsTooLong task shapes policy → TaskEnds (Some input) task shapes policy (Some (TooLong part.Report))
  long_report Report input wide = inl (wide, refl)
  long_report _ input wide = absurd wide

  good_task : (task : Task) (input : List ℕ) (items : List Said) (packets : List Packet) → SaysItems task (Some input) items → SaysPackets task (Some input) packets → HasRoom task shapes policy → TaskEnds (Some input) task shapes policy None
  good_task (Enforce json) input items packets (bytes, same, within, says) carries room = (good items, (bytes, ap (λ (b : List ℕ). Some b) same, within, says), refl)
  good_task (Cached json capacity) input items packets (bytes, same, within, says) carries room = (good items, (bytes, ap (λ (b : List ℕ). Some b) same, within, says), refl)
  good_task (Explain json most) input items packets (bytes, same, within, says) carries room = (good items, (bytes, ap (λ (b : List ℕ). Some b) same, within, says), refl)
  good_task (Serve json) input items packets (bytes, same, within, says) carries room = (good items, (bytes, ap (λ (b : List ℕ). Some b) same, within, says), refl)
  good_task (Share json workers) input items packets (bytes, same, within, says) carries room = (good items, (bytes, ap (λ (b : List ℕ). Some b) same, within, says), refl)
  good_task Check input items packets says carries room = refl
  good_task Format input items packets says carries room = refl
  good_task (Implicit subject) input items packets says carries room = refl
  good_task Report input items packets says carries room = inr (room, refl)
  good_task Ship input items packets (bytes, same, within, says) carries room = (good items, (bytes, ap (λ (b : List ℕ). Some b) same, within, says), refl)
  good_task Follow input items packets says (bytes, same, within, carries) room = (good packets, (bytes, ap (λ (b : List ℕ). Some b) same, within, carries), refl)

cause_at : (words : List (List ℕ)) (files : Files) (input : List ℕ) (stop : Stop) (reached : Reached) → IsReached (told words files input) reached → StopsAt (told words files input) reached stop → EndsIn words files (Some input) (Some stop)
cause_at words files input Words at_words is none = (None, none, refl)
cause_at words files input (CannotRead Model) (at_model job) asked lacks = (Some job, asked, (absent, lacks, refl))
cause_at words files input (TooLong Model) (at_model job) asked wide = (Some job, asked, (long, wide, refl))
cause_at words files input (NoModel fault) (at_model job) asked is = (Some job, asked, (bad fault, is, refl))
cause_at words files input (NoRelation relation) (at_options job model) (asked, is) lacks = (Some job, asked, (good model, is, (Some relation, lacks, refl)))
cause_at words files input (CannotRead Policy) (at_policy job model) (asked, fits) lacks = options_behind words files input job model (Some (CannotRead Policy)) asked fits (absent, lacks, refl)
cause_at words files input (TooLong Policy) (at_policy job model) (asked, fits) wide = options_behind words files input job model (Some (TooLong Policy)) asked fits (long, wide, refl)
cause_at words files input (NoPolicy fault) (at_policy job model) (asked, fits) is = options_behind words files input job model (Some (NoPolicy fault)) asked fits (bad fault, is, refl)
cause_at words files input (TooLong Input) (at_task job model policy) (asked, are) (reads, wide) = policy_behind words files input job model policy (Some (TooLong Input)) asked are (long_input (shapes_with job.options model) policy job.task input reads wide)
cause_at words files input (NoScript fault) (at_task job model policy) (asked, are) (reads, (bytes, same, within, is)) = policy_behind words files input job model policy (Some (NoScript fault)) asked are (bad_input (shapes_with job.options model) policy job.task input bytes fault reads same within is)
cause_at words files input (NoPackets fault) (at_task job model policy) (asked, are) (reads, (bytes, same, within, is)) = policy_behind words files input job model policy (Some (NoPackets fault)) asked are (bad_packets (shapes_with job.options model) policy job.task input bytes fault same within is)
cause_at words files input (TooLong part.Report) (at_task job model policy) (asked, are) wide = policy_behind words files input job model policy (Some (TooLong part.Report)) asked are (long_report (shapes_with job.options model) policy job.task input wide)
cause_at words files input _ at_words is stops = absurd stops
cause_at words files input _ (at_model job) is stops = absurd stops
cause_at words files input _ (at_options job model) is stops = absurd stops
cause_at words files input _ (at_policy job model) is stops = absurd stops
cause_at words files input _ (at_task job model policy) is stops = absurd stops

cause_ends : (words : List (List ℕ)) (files : Files) (input : List ℕ) (stop : Stop) → Cause (told words files input) stop → EndsIn words files (Some input) (Some stop)
cause_ends words files input stop (reached, is, stops) = cause_at words files input stop reached is stops

in_order_ends : (words : List (List ℕ)) (files : Files) (input : List ℕ) → IsInOrder (told words files input) → EndsIn words files (Some input) None
in_order_ends words files input is = policy_behind words files input is.job is.model is.policy None is.asked is.are_files (good_task (shapes_with is.job.options is.model) is.policy is.job.task input is.items is.packets is.says is.carries is.room)

module _ (once : SaysOnce) (words : List (List ℕ)) (files : Files) (input : List ℕ) where
  told_one_cause : (first second : Stop) → Cause (told words files input) first → Cause (told words files input) second → first ≡ second
  told_one_cause first second p q = let same = ends_once once words files (Some input) (Some first) (Some second) (cause_ends words files input first p) (cause_ends words files input second q) in cc

  told_no_cause : (stop : Stop) → IsInOrder (told words files input) → Cause (told words files input) stop → ⊥
  told_no_cause stop is cause = let same = ends_once once words files (Some input) None (Some stop) (in_order_ends words files input is) (cause_ends words files input stop cause) in absurd cc

pub one_cause : SaysOnce → (g : Given) (first second : Stop) → IsSome g.files → IsSome g.input → Cause g first → Cause g second → first ≡ second
one_cause once g first second told-files told-input p q = by g.files g.input told-files told-input p q
  where
    by : (files : Option Files) (input : Option (List ℕ)) → IsSome files → IsSome input → Cause (record { words = g.words; files = files; input = input }) first → Cause (record { words = g.words; files = files; input = input }) second → first ≡ second
    by None input some read p q = absurd cc
    by (Some files) None some read p q = absurd cc
    by (Some files) (Some input) some read p q = told_one_cause once g.words files input first second p q

pub no_cause : SaysOnce → (g : Given) (stop : Stop) → IsSome g.files → IsSome g.input → IsInOrder g → Cause g stop → ⊥
no_cause once g stop told-files told-input is cause = by g.files g.input told-files told-input is cause
  where
    by : (files : Option Files) (input : Option (List ℕ)) → IsSome files → IsSome input → IsInOrder (record { words = g.words; files = files; input = input }) → Cause (record { words = g.words; files = files; input = input }) stop → ⊥
    by None input some read is cause = absurd cc
    by (Some files) None some read is cause = absurd cc
    by (Some files) (Some input) some read is cause = told_no_cause once g.words files input stop is cause

-- ---- one text

-- where nothing is refused but searches for patterns that cannot be read, one text is written over what is read
module _ (once : SaysOnce) (model : ModelParts) (shapes : Shapes) (policy : table.Policy) (items : List Said) where
  lines_once : (refused others : List (List (List ℕ))) (pieces more : List (List ℕ)) (text written : List ℕ) → IsOfLines model shapes policy items refused pieces text → IsOfLines model shapes policy items others more written → AreUnreadable (all_refused refused) → AreUnreadable (all_refused others) → text ≡ written
  lines_once refused others pieces more text written p q unread no_other = p.text_is ∙ ap text_of_lines (once.lines model shapes policy items refused others p.lines q.lines p.plain q.plain unread no_other) ∙ sym q.text_is

  written_once : (task : Task) (packets : List Packet) (refused others : List (List (List ℕ))) (pieces more : List (List ℕ)) (text written : List ℕ) → Writes task model shapes policy items packets refused pieces text → Writes task model shapes policy items packets others more written
      → AreUnreadable (all_refused refused) → AreUnreadable (all_refused others) → has_workers task ≡ false → text ≡ written
  written_once (Enforce json) packets refused others pieces more text written p q unread no_other alone = lines_once refused others pieces more text written p q unread no_other
  written_once (Cached json capacity) packets refused others pieces more text written p q unread no_other alone = lines_once refused others pieces more text written p q unread no_other
  written_once (Explain json most) packets refused others pieces more text written p q unread no_other alone = once.explained most model shapes policy items refused others pieces more text written p q unread no_other
  written_once (Serve json) packets refused others pieces more text written p q unread no_other alone = lines_once refused others pieces more text written p q unread no_other
  written_once (Share json workers) packets refused others pieces more text written p q unread no_other alone = absurd cc
  written_once Check packets refused others pieces more text written p q unread no_other alone = p.is ∙ sym q.is
  written_once Format packets refused others pieces more text written p q unread no_other alone = p.is ∙ sym q.is
  written_once (Implicit subject) packets refused others pieces more text written p q unread no_other alone = once.implied model shapes policy subject text written p.is q.is
  written_once Report packets refused others pieces more text written p q unread no_other alone = once.reported shapes policy text written p.is q.is
  written_once Ship packets refused others pieces more text written p q unread no_other alone = p.is ∙ sym q.is
  written_once Follow packets refused others pieces more text written p q unread no_other alone = once.followed shapes policy packets text written p.is q.is

-- the words ask for workers where their job has some
pub workers_asked : (words : List (List ℕ)) (job : Job) → job_asked words ≡ Some job → ask_for_workers words ≡ has_workers job.task
workers_asked words job asked = ap (λ (found : Option Job). option_map_or (λ (j : Job). has_workers j.task) found false) asked

-- the job of words that ask for no workers has none
pub has_none : (words : List (List ℕ)) (job : Job) → job_asked words ≡ Some job → ask_for_workers words ≡ false → has_workers job.task ≡ false
has_none words job asked alone = sym (workers_asked words job asked) ∙ alone

module _ (once : SaysOnce) (files : Files) (input : List ℕ) where
  model_same : (job : Job) (model other : ModelParts) → ModelIs (Some files) job model → ModelIs (Some files) job other → model ≡ other
  model_same job model other (bytes, held, within, is) (others, there, few, as_well) =
      once.model others model other (subst (λ (b : List ℕ). IsModel b model) (same_bytes (files job.files.model) bytes others held there) is) as_well

  policy_same : (job : Job) (shapes : Shapes) (policy other : table.Policy) → FileIs (Some files) job.files.policy Policy (λ bytes. IsPolicy shapes bytes policy) → FileIs (Some files) job.files.policy Policy (λ bytes. IsPolicy shapes bytes other) → policy ≡ other
  policy_same job shapes policy other (bytes, held, within, is) (others, there, few, as_well) =
      once.policy shapes others policy other (subst (λ (b : List ℕ). IsPolicy shapes b policy) (same_bytes (files job.files.policy) bytes others held there) is) as_well

  items_same : (task : Task) (items others : List Said) → SaysItems task (Some input) items → SaysItems task (Some input) others → items ≡ others
  items_same (Enforce json) items others (bytes, same, within, says) (more, told, few, say) = once.requests json more items others (subst (λ (b : List ℕ). IsRequests json b items) (sym same ∙ told) says) say
  items_same (Cached json capacity) items others (bytes, same, within, says) (more, told, few, say) = once.requests json more items others (subst (λ (b : List ℕ). IsRequests json b items) (sym same ∙ told) says) say
  items_same (Explain json most) items others (bytes, same, within, says) (more, told, few, say) = once.requests json more items others (subst (λ (b : List ℕ). IsRequests json b items) (sym same ∙ told) says) say
  items_same (Serve json) items others (bytes, same, within, says) (more, told, few, say) = once.script json more items others (subst (λ (b : List ℕ). IsScript json b items) (sym same ∙ told) says) say
  items_same (Share json workers) items others (bytes, same, within, says) (more, told, few, say) = once.script json more items others (subst (λ (b : List ℕ). IsScript json b items) (sym same ∙ told) says) say
  items_same Check items others says say = says ∙ sym say
  items_same Format items others says say = says ∙ sym say
  items_same (Implicit subject) items others says say = says ∙ sym say
  items_same Report items others says say = says ∙ sym say
  items_same Ship items others (bytes, same, within, says) (more, told, few, say) = once.script false more items others (subst (λ (b : List ℕ). IsScript false b items) (sym same ∙ told) says) say
  items_same Follow items others says say = says ∙ sym say

  packets_same : (task : Task) (packets others : List Packet) → SaysPackets task (Some input) packets → SaysPackets task (Some input) others → packets ≡ others
  packets_same Follow packets others (bytes, same, within, says) (more, told, few, say) = once.packets more packets others (subst (λ (b : List ℕ). ArePackets b packets) (sym same ∙ told) says) say
  packets_same _ packets others says say = says ∙ sym say

  -- what is read and written, apart from the words
  record Reads (job : Job) (model : ModelParts) (policy : table.Policy) (items : List Said) (packets : List Packet) (text : List ℕ) : Type 0 where
    are_files : AreFiles (Some files) job model policy
    says : SaysItems job.task (Some input) items
    carries : SaysPackets job.task (Some input) packets
    refused : List (List (List ℕ))
    pieces : List (List ℕ)
    writes : Writes job.task model (shapes_with job.options model) policy items packets refused pieces text
    unread : AreUnreadable (all_refused refused)

  texts_same : (job : Job) (model : ModelParts) (policy : table.Policy) (items : List Said) (packets : List Packet) (text : List ℕ) (other : ModelParts) (second : table.Policy) (said : List Said) (sent : List Packet) (written : List ℕ) → Reads job model policy items packets text → Reads job other second said sent written
      → has_workers job.task ≡ false → text ≡ written
  texts_same job model policy items packets text other second said sent written p q alone =
      let same_model : other ≡ model = model_same job other model q.are_files.suits.is_model p.are_files.suits.is_model in
      let at_model : Reads job model second said sent written = subst (λ (m : ModelParts). Reads job m second said sent written) same_model q in
      let same_policy : second ≡ policy = policy_same job (shapes_with job.options model) second policy at_model.are_files.is_policy p.are_files.is_policy in
      let at_policy : Reads job model policy said sent written = subst (λ (t : table.Policy). Reads job model t said sent written) same_policy at_model in
      let same_items : said ≡ items = items_same job.task said items at_policy.says p.says in
      let at_items : Reads job model policy items sent written = subst (λ (i : List Said). Reads job model policy i sent written) same_items at_policy in
      let same_packets : sent ≡ packets = packets_same job.task sent packets at_items.carries p.carries in
      let at_packets : Reads job model policy items packets written = subst (λ (l : List Packet). Reads job model policy items l written) same_packets at_items in
      written_once once model (shapes_with job.options model) policy items job.task packets p.refused at_packets.refused p.pieces at_packets.pieces text written p.writes at_packets.writes p.unread at_packets.unread alone

  told_one_text : (words : List (List ℕ)) (first second : List ℕ) → ask_for_workers words ≡ false → IsCalmlyAnswered (told words files input) first → IsCalmlyAnswered (told words files input) second → first ≡ second
  told_one_text words first second alone p q =
      let x = p.answered.in_order in
      let y = q.answered.in_order in
      let job : y.job ≡ x.job = same_job (sym y.asked ∙ x.asked) in
      let reads : Reads y.job y.model y.policy y.items y.packets second = record { are_files = y.are_files; says = y.says; carries = y.carries; refused = q.refused; pieces = q.answered.pieces; writes = q.answered.writes; unread = q.unread } in
      texts_same x.job x.model x.policy x.items x.packets first y.model y.policy y.items y.packets second (record { are_files = x.are_files; says = x.says; carries = x.carries; refused = p.refused; pieces = p.answered.pieces; writes = p.answered.writes; unread = p.unread })
      (subst (λ (j : Job). Reads j y.model y.policy y.items y.packets second) job reads) (has_none words x.job x.asked alone)
    where
      same_job : {job other : Job} → Some job ≡ Some other → job ≡ other
      same_job e = cc

pub one_text : SaysOnce → (g : Given) (first second : List ℕ) → IsSome g.files → IsSome g.input → ask_for_workers g.words ≡ false → IsCalmlyAnswered g first → IsCalmlyAnswered g second → first ≡ second
one_text once g first second told-files told-input alone p q = by g.files g.input told-files told-input p q
  where
    by : (files : Option Files) (input : Option (List ℕ)) → IsSome files → IsSome input → IsCalmlyAnswered (record { words = g.words; files = files; input = input }) first
        → IsCalmlyAnswered (record { words = g.words; files = files; input = input }) second → first ≡ second
    by None input some read p q = absurd cc
    by (Some files) None some read p q = absurd cc
    by (Some files) (Some input) some read p q = told_one_text once files input g.words first second alone p q
