-- The status of a stop can be told from its line.
use Rattle.std.proofs.Common.{◌≡◌, ◌∙◌, ℕ, ◌==◌, List, [], ◌∷◌, refl, sym, ap}
use Rattle.std.specs.Prelude.{if◌then◌else◌}
use Rattle.log_ship.specs.declared.packet_fault.PacketFault.{PacketFault}
use Rattle.log_ship.specs.declared.packet_fault.PacketFault.TheVariants as packet
use Rattle.matcher_read.specs.declared.fault.MatcherFault.TheVariants as matcher
use Rattle.model_conf.specs.declared.fault.ModelFault.{ModelFault}
use Rattle.model_conf.specs.declared.fault.ModelFault.TheVariants as model
use Rattle.policy_csv.specs.declared.fault.PolicyFault.{PolicyFault}
use Rattle.policy_csv.specs.declared.fault.PolicyFault.TheVariants as policy
use Rattle.script_read.specs.declared.fault.ScriptFault.{ScriptFault}
use Rattle.script_read.specs.declared.fault.ScriptFault.TheVariants as script
use Rattle.run_status.specs.Messages.{line_of}
use Rattle.run_status.specs.Statuses.{status_of}
use Rattle.run_status.specs.declared.status.Status.{Status}
use Rattle.run_status.specs.declared.status.Status.TheVariants as status
use Rattle.run_status.specs.declared.stop.Stop.{Stop}
use Rattle.run_status.specs.declared.stop.Stop.TheVariants.{Words, NoModel, NoRelation, NoPolicy, NoScript, NoPackets, CannotRead, CannotWrite, TooLong, NoMemory}

-- the first byte of a line, and the eighth
abbrev first_of_line : List ℕ → ℕ
first_of_line (a ∷ rest) = a
first_of_line [] = 0

abbrev eighth : List ℕ → ℕ
eighth (a ∷ b ∷ c ∷ d ∷ e ∷ f ∷ g ∷ h ∷ rest) = h
eighth _ = 0

-- the status whose lines have these bytes: u, m, p, s, t and n begin one status each; c begins two, and one goes on by r
abbrev status_by : (first eighth : ℕ) → Status
status_by first eighth = if first == 117 then status.Words else (if first == 109 then status.Model else (if first == 112 then status.Policy else (if first == 115 then status.Script else
    (if first == 116 then status.TooLong else (if first == 110 then status.NoMemory else (if eighth == 114 then status.ReadFault else status.WriteFault))))))

abbrev status_told : List ℕ → Status
status_told line = status_by (first_of_line line) (eighth line)

model_told : (fault : ModelFault) → status_told (line_of (NoModel fault)) ≡ status_of (NoModel fault)
model_told model.TooLong = refl
model_told model.NotUtf8 = refl
model_told (model.Line line) = refl
model_told (model.UnknownSection line) = refl
model_told (model.UnknownKey line) = refl
model_told (model.RepeatedKey line) = refl
model_told (model.Missing key) = refl
model_told (model.Columns key) = refl
model_told (model.RoleShape relation) = refl
model_told model.UnknownEffect = refl
model_told (model.Matcher matcher.TooLong) = refl
model_told (model.Matcher (matcher.Unexpected at)) = refl
model_told (model.Matcher (matcher.OpenText at)) = refl
model_told (model.Matcher (matcher.NumberTooWide at)) = refl
model_told (model.Matcher (matcher.UnknownFunction at)) = refl
model_told (model.Matcher (matcher.WrongArguments at)) = refl
model_told (model.Matcher (matcher.TooDeep at)) = refl
model_told (model.Matcher matcher.TooManyNodes) = refl
model_told (model.Matcher matcher.NoMemory) = refl
model_told (model.UnknownColumn at) = refl
model_told (model.RoleUse at) = refl
model_told model.NoMemory = refl

policy_told : (fault : PolicyFault) → status_told (line_of (NoPolicy fault)) ≡ status_of (NoPolicy fault)
policy_told policy.NotUtf8 = refl
policy_told _ = refl

script_told : (fault : ScriptFault) → status_told (line_of (NoScript fault)) ≡ status_of (NoScript fault)
script_told script.NotUtf8 = refl
script_told _ = refl

packet_told : (fault : PacketFault) → status_told (line_of (NoPackets fault)) ≡ status_of (NoPackets fault)
packet_told packet.NotUtf8 = refl
packet_told (packet.Line line) = refl
packet_told packet.NoMemory = refl

line_told : (stop : Stop) → status_told (line_of stop) ≡ status_of stop
line_told Words = refl
line_told (NoModel fault) = model_told fault
line_told (NoRelation relation) = refl
line_told (NoPolicy fault) = policy_told fault
line_told (NoScript fault) = script_told fault
line_told (NoPackets fault) = packet_told fault
line_told (CannotRead part) = refl
line_told CannotWrite = refl
line_told (TooLong part) = refl
line_told NoMemory = refl

pub one_status : (first second : Stop) → line_of first ≡ line_of second → status_of first ≡ status_of second
one_status first second same = sym (line_told first) ∙ ap status_told same ∙ line_told second
