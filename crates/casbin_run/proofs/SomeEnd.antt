-- What is given, where it is told, is in order or causes a stop.
use Rattle.std.proofs.Common.{◌≡◌, ℕ, ◌<◌, ◌≤◌, Bool, true, false, leb, List, [], length, inl, inr, refl, leb-true, leb-false}
use Rattle.std.specs.Prelude.{◌⊎◌, IsSome, IsUtf8, Option, Some, None}
use Rattle.model_conf.specs.ModelText.{ModelParts}
use Rattle.log_ship.specs.PacketText.{ArePackets, IsPacketFault}
use Rattle.log_ship.specs.declared.packet.Packet.{Packet}
use Rattle.log_ship.specs.declared.packet_fault.PacketFault.{PacketFault}
use Rattle.outside.specs.Files.{Files}
use Rattle.perm_base.specs.declared.shapes.Shapes.{Shapes}
use Rattle.policy_csv.specs.Faults.{IsPolicyFault}
use Rattle.policy_csv.specs.Policy.{IsPolicy}
use Rattle.policy_csv.specs.declared.fault.PolicyFault.{PolicyFault}
use Rattle.policy_table.specs.Tables as table
use Rattle.run_status.specs.Parts.{limit_of}
use Rattle.run_status.specs.declared.part.Part.TheVariants as part
use Rattle.run_status.specs.declared.part.Part.TheVariants.{Model, Policy, Input}
use Rattle.run_status.specs.declared.stop.Stop.{Stop}
use Rattle.run_status.specs.declared.stop.Stop.TheVariants.{Words, NoModel, NoRelation, NoPolicy, NoScript, NoPackets, CannotRead, TooLong}
use Rattle.script_read.specs.Said.{Said}
use Rattle.script_read.specs.Script.{IsRequests, IsScript, IsScriptFault}
use Rattle.script_read.specs.declared.fault.ScriptFault.{ScriptFault}
use Rattle.script_read.specs.declared.fault.ScriptFault.TheVariants.{NotUtf8}
use Rattle.casbin_run.specs.Causes.{Cause}
use Rattle.casbin_run.specs.Given.{AreFiles, Given, IsInOrder, ModelIs, ModelSuits}
use Rattle.casbin_run.specs.Jobs.{absent_in, job_asked, shapes_with}
use Rattle.casbin_run.specs.Reached.{at_words, at_model, at_options, at_policy, at_task}
use Rattle.loaded_work.specs.Roles.{IsLong, IsShort}
use Rattle.casbin_run.specs.declared.job.Job.{Job}
use Rattle.casbin_run.specs.declared.job.Task.{Task}
use Rattle.casbin_run.specs.declared.job.Task.TheVariants.{Enforce, Cached, Explain, Serve, Share, Check, Format, Implicit, Report, Ship, Follow}
use Rattle.casbin_run.proofs.ModelLemmas.{SomeModel}

-- each text says something or has a fault
pub record SaysSome : Type 0 where
  pub model : (bytes : List ℕ) → SomeModel bytes
  pub policy : (shapes : Shapes) (bytes : List ℕ) → ((policy : table.Policy) × IsPolicy shapes bytes policy) ⊎ ((f : PolicyFault) × IsPolicyFault shapes bytes f)
  pub script : (json : Bool) (bytes : List ℕ) → ((items : List Said) × IsScript json bytes items) ⊎ ((f : ScriptFault) × IsScriptFault json bytes f)
  pub requests : (json : Bool) (bytes : List ℕ) → ((items : List Said) × IsRequests json bytes items) ⊎ (¬ (IsUtf8 bytes))
  pub packets : (bytes : List ℕ) → ((packets : List Packet) × ArePackets bytes packets) ⊎ ((f : PacketFault) × IsPacketFault bytes f)
  pub report : (shapes : Shapes) (policy : table.Policy) → IsLong shapes policy ⊎ IsShort shapes policy

-- what is given is in order or causes a stop
abbrev pub Ended : Given → Type 0
Ended g = IsInOrder g ⊎ ((stop : Stop) × Cause g stop)

-- longer than a limit, or not
abbrev Sized : List ℕ → ℕ → Type 0
Sized bytes limit = (limit < length bytes) ⊎ (length bytes ≤ limit)

sized : (bytes : List ℕ) (limit : ℕ) → Sized bytes limit
sized bytes limit = by (leb (length bytes) limit) refl
  where
    by : (test : Bool) → leb (length bytes) limit ≡ test → Sized bytes limit
    by true e = inr (leb-true (length bytes) limit e)
    by false e = inl (leb-false (length bytes) limit e)

module _ (law : SaysSome) (words : List (List ℕ)) (files : Files) (input : List ℕ) where
  abbrev told : Given
  told = record { words = words; files = Some files; input = Some input }

  module _ (job : Job) (asked : job_asked words ≡ Some job) where
    module _ (model : ModelParts) where
      module _ (policy : table.Policy) (are : AreFiles (Some files) job model policy) where
        by_requests : (json : Bool) → job.task ≡ Enforce json → length input ≤ limit_of Input → ((items : List Said) × IsRequests json input items) ⊎ (¬ (IsUtf8 input)) → Ended told
        by_requests json task within (inl said) = inl (record { job = job; model = model; policy = policy; items = said.0; packets = []; asked = asked; are_files = are; says = rw task (input, refl, within, said.1); carries = rw task refl; room = rw task tt })
        by_requests json task within (inr none) = inr (NoScript NotUtf8, (at_task job model policy, (asked, are), (rw task refl, (input, refl, within, rw task (none, refl)))))

        by_cached : (json : Bool) (capacity : ℕ) → job.task ≡ Cached json capacity → length input ≤ limit_of Input → ((items : List Said) × IsRequests json input items) ⊎ (¬ (IsUtf8 input)) → Ended told
        by_cached json capacity task within (inl said) = inl (record { job = job; model = model; policy = policy; items = said.0; packets = []; asked = asked; are_files = are; says = rw task (input, refl, within, said.1); carries = rw task refl; room = rw task tt })
        by_cached json capacity task within (inr none) = inr (NoScript NotUtf8, (at_task job model policy, (asked, are), (rw task refl, (input, refl, within, rw task (none, refl)))))

        by_explained : (json : Bool) (most : ℕ) → job.task ≡ Explain json most → length input ≤ limit_of Input → ((items : List Said) × IsRequests json input items) ⊎ (¬ (IsUtf8 input)) → Ended told
        by_explained json most task within (inl said) = inl (record { job = job; model = model; policy = policy; items = said.0; packets = []; asked = asked; are_files = are; says = rw task (input, refl, within, said.1); carries = rw task refl; room = rw task tt })
        by_explained json most task within (inr none) = inr (NoScript NotUtf8, (at_task job model policy, (asked, are), (rw task refl, (input, refl, within, rw task (none, refl)))))

        by_script : (json : Bool) → job.task ≡ Serve json → length input ≤ limit_of Input → ((items : List Said) × IsScript json input items) ⊎ ((f : ScriptFault) × IsScriptFault json input f) → Ended told
        by_script json task within (inl said) = inl (record { job = job; model = model; policy = policy; items = said.0; packets = []; asked = asked; are_files = are; says = rw task (input, refl, within, said.1); carries = rw task refl; room = rw task tt })
        by_script json task within (inr bad) = inr (NoScript bad.0, (at_task job model policy, (asked, are), (rw task refl, (input, refl, within, rw task bad.1))))

        by_shared : (json : Bool) (workers : ℕ) → job.task ≡ Share json workers → length input ≤ limit_of Input → ((items : List Said) × IsScript json input items) ⊎ ((f : ScriptFault) × IsScriptFault json input f) → Ended told
        by_shared json workers task within (inl said) = inl (record { job = job; model = model; policy = policy; items = said.0; packets = []; asked = asked; are_files = are; says = rw task (input, refl, within, said.1); carries = rw task refl; room = rw task tt })
        by_shared json workers task within (inr bad) = inr (NoScript bad.0, (at_task job model policy, (asked, are), (rw task refl, (input, refl, within, rw task bad.1))))

        by_shipped : job.task ≡ Ship → length input ≤ limit_of Input → ((items : List Said) × IsScript false input items) ⊎ ((f : ScriptFault) × IsScriptFault false input f) → Ended told
        by_shipped task within (inl said) = inl (record { job = job; model = model; policy = policy; items = said.0; packets = []; asked = asked; are_files = are; says = rw task (input, refl, within, said.1); carries = rw task refl; room = rw task tt })
        by_shipped task within (inr bad) = inr (NoScript bad.0, (at_task job model policy, (asked, are), (rw task refl, (input, refl, within, rw task bad.1))))

        by_packets : job.task ≡ Follow → length input ≤ limit_of Input → ((packets : List Packet) × ArePackets input packets) ⊎ ((f : PacketFault) × IsPacketFault input f) → Ended told
        by_packets task within (inl sent) = inl (record { job = job; model = model; policy = policy; items = []; packets = sent.0; asked = asked; are_files = are; says = rw task refl; carries = rw task (input, refl, within, sent.1); room = rw task tt })
        by_packets task within (inr bad) = inr (NoPackets bad.0, (at_task job model policy, (asked, are), (rw task refl, (input, refl, within, rw task bad.1))))

        by_report : job.task ≡ Report → IsLong (shapes_with job.options model) policy ⊎ IsShort (shapes_with job.options model) policy → Ended told
        by_report task (inl wide) = inr (TooLong part.Report, (at_task job model policy, (asked, are), rw task wide))
        by_report task (inr short) = inl (record { job = job; model = model; policy = policy; items = []; packets = []; asked = asked; are_files = are; says = rw task refl; carries = rw task refl; room = rw task short })

        by_input : (task : Task) → job.task ≡ task → Sized input (limit_of Input) → Ended told
        by_input (Enforce json) task (inl wide) = inr (TooLong Input, (at_task job model policy, (asked, are), (rw task refl, wide)))
        by_input (Enforce json) task (inr within) = by_requests json task within (law.requests json input)
        by_input (Cached json capacity) task (inl wide) = inr (TooLong Input, (at_task job model policy, (asked, are), (rw task refl, wide)))
        by_input (Cached json capacity) task (inr within) = by_cached json capacity task within (law.requests json input)
        by_input (Explain json most) task (inl wide) = inr (TooLong Input, (at_task job model policy, (asked, are), (rw task refl, wide)))
        by_input (Explain json most) task (inr within) = by_explained json most task within (law.requests json input)
        by_input (Serve json) task (inl wide) = inr (TooLong Input, (at_task job model policy, (asked, are), (rw task refl, wide)))
        by_input (Serve json) task (inr within) = by_script json task within (law.script json input)
        by_input (Share json workers) task (inl wide) = inr (TooLong Input, (at_task job model policy, (asked, are), (rw task refl, wide)))
        by_input (Share json workers) task (inr within) = by_shared json workers task within (law.script json input)
        by_input Check task size = inl (record { job = job; model = model; policy = policy; items = []; packets = []; asked = asked; are_files = are; says = rw task refl; carries = rw task refl; room = rw task tt })
        by_input Format task size = inl (record { job = job; model = model; policy = policy; items = []; packets = []; asked = asked; are_files = are; says = rw task refl; carries = rw task refl; room = rw task tt })
        by_input (Implicit subject) task size = inl (record { job = job; model = model; policy = policy; items = []; packets = []; asked = asked; are_files = are; says = rw task refl; carries = rw task refl; room = rw task tt })
        by_input Ship task (inl wide) = inr (TooLong Input, (at_task job model policy, (asked, are), (rw task refl, wide)))
        by_input Ship task (inr within) = by_shipped task within (law.script false input)
        by_input Follow task (inl wide) = inr (TooLong Input, (at_task job model policy, (asked, are), (rw task refl, wide)))
        by_input Follow task (inr within) = by_packets task within (law.packets input)
        by_input Report task size = by_report task (law.report (shapes_with job.options model) policy)

      module _ (fits : ModelSuits (Some files) job model) where
        by_policy : (bytes : List ℕ) → files job.files.policy ≡ Some bytes → length bytes ≤ limit_of Policy
            → ((policy : table.Policy) × IsPolicy (shapes_with job.options model) bytes policy) ⊎ ((f : PolicyFault) × IsPolicyFault (shapes_with job.options model) bytes f) → Ended told
        by_policy bytes held within (inl is) = by_input is.0 (record { suits = fits; is_policy = (bytes, held, within, is.1) }) job.task refl (sized input (limit_of Input))
        by_policy bytes held within (inr bad) = inr (NoPolicy bad.0, (at_policy job model, (asked, fits), (bytes, held, within, bad.1)))

        by_policy_size : (bytes : List ℕ) → files job.files.policy ≡ Some bytes → Sized bytes (limit_of Policy) → Ended told
        by_policy_size bytes held (inl wide) = inr (TooLong Policy, (at_policy job model, (asked, fits), (bytes, held, wide)))
        by_policy_size bytes held (inr within) = by_policy bytes held within (law.policy (shapes_with job.options model) bytes)

        by_policy_file : (content : Option (List ℕ)) → files job.files.policy ≡ content → Ended told
        by_policy_file None lacks = inr (CannotRead Policy, (at_policy job model, (asked, fits), lacks))
        by_policy_file (Some bytes) held = by_policy_size bytes held (sized bytes (limit_of Policy))

      by_options : ModelIs (Some files) job model → (absent : Option ℕ) → absent_in job.options model ≡ absent → Ended told
      by_options is (Some relation) lacks = inr (NoRelation relation, (at_options job model, (asked, is), lacks))
      by_options is None none = by_policy_file (record { is_model = is; none_absent = none }) (files job.files.policy) refl

    by_model : (bytes : List ℕ) → files job.files.model ≡ Some bytes → length bytes ≤ limit_of Model → SomeModel bytes → Ended told
    by_model bytes held within (inl is) = by_options is.0 (bytes, held, within, is.1) (absent_in job.options is.0) refl
    by_model bytes held within (inr bad) = inr (NoModel bad.0, (at_model job, asked, (bytes, held, within, bad.1)))

    by_size : (bytes : List ℕ) → files job.files.model ≡ Some bytes → Sized bytes (limit_of Model) → Ended told
    by_size bytes held (inl wide) = inr (TooLong Model, (at_model job, asked, (bytes, held, wide)))
    by_size bytes held (inr within) = by_model bytes held within (law.model bytes)

    by_file : (content : Option (List ℕ)) → files job.files.model ≡ content → Ended told
    by_file None lacks = inr (CannotRead Model, (at_model job, asked, lacks))
    by_file (Some bytes) held = by_size bytes held (sized bytes (limit_of Model))

  told_ended : (asked : Option Job) → job_asked words ≡ asked → Ended told
  told_ended None none = inr (Words, (at_words, tt, none))
  told_ended (Some job) asked = by_file job asked (files job.files.model) refl

pub some_end : SaysSome → (g : Given) → IsSome g.files → IsSome g.input → Ended g
some_end law g told-files told-input = by g.files g.input told-files told-input
  where
    by : (files : Option Files) (input : Option (List ℕ)) → IsSome files → IsSome input → Ended (record { words = g.words; files = files; input = input })
    by None input some read = absurd cc
    by (Some files) None some read = absurd cc
    by (Some files) (Some input) some read = told_ended law g.words files input (job_asked g.words) refl
