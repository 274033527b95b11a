-- The line that tells a stop on standard error. Lines, columns and places are counted from 1.
use Rattle.std.specs.Prelude.{ℕ, ◌++◌, List, [], codes, decimal, unwrap_or}
use Rattle.log_ship.specs.declared.packet_fault.PacketFault.{PacketFault}
use Rattle.log_ship.specs.declared.packet_fault.PacketFault.TheVariants as packet
use Rattle.matcher_read.specs.declared.fault.MatcherFault.{MatcherFault}
use Rattle.matcher_read.specs.declared.fault.MatcherFault.TheVariants as matcher
use Rattle.model_conf.specs.Faults.{key_text}
use Rattle.model_conf.specs.declared.fault.ModelFault.{ModelFault}
use Rattle.model_conf.specs.declared.fault.ModelFault.TheVariants as model
use Rattle.perm_base.specs.TableNames.{name_of}
use Rattle.perm_base.specs.declared.shapes.TableId.TheVariants.{G}
use Rattle.policy_csv.specs.declared.fault.PolicyFault.{PolicyFault}
use Rattle.policy_csv.specs.declared.fault.PolicyFault.TheVariants as policy
use Rattle.script_read.specs.declared.fault.LineCause.{LineCause}
use Rattle.script_read.specs.declared.fault.LineCause.TheVariants as cause
use Rattle.script_read.specs.declared.fault.ScriptFault.{ScriptFault}
use Rattle.script_read.specs.declared.fault.ScriptFault.TheVariants as script
use Rattle.run_status.specs.Parts.{limit_of, part_name}
use Rattle.run_status.specs.declared.part.Part.{Part}
use Rattle.run_status.specs.declared.part.Part.TheVariants as parts
use Rattle.run_status.specs.declared.stop.Stop.{Stop}
use Rattle.run_status.specs.declared.stop.Stop.TheVariants.{Words, NoModel, NoRelation, NoPolicy, NoScript, NoPackets, CannotRead, CannotWrite, TooLong, NoMemory}

-- what is wrong at a place, as `script: line 5: open batch`
abbrev pub at_place : (head : List ℕ) (place : ℕ) (what : List ℕ) → List ℕ
at_place head place what = head ++ decimal place ++ codes ": " ++ what

abbrev pub in_model : (line : ℕ) (what : List ℕ) → List ℕ
in_model line what = at_place (codes "model: line ") line what

abbrev pub in_matcher : (place : ℕ) (what : List ℕ) → List ℕ
in_matcher place what = at_place (codes "model: matcher at ") place what

abbrev pub in_policy : (line : ℕ) (what : List ℕ) → List ℕ
in_policy line what = at_place (codes "policy: line ") line what

abbrev pub in_script : (line : ℕ) (what : List ℕ) → List ℕ
in_script line what = at_place (codes "script: line ") line what

-- the name of a role relation: 1 is `g`, 2 to 8 are `g2` to `g8`
abbrev pub relation_name : ℕ → List ℕ
relation_name relation = unwrap_or (name_of (G relation)) []

-- what is longer than its limit
abbrev pub limit_message : Part → List ℕ
limit_message part = codes "too long: " ++ part_name part ++ (codes ", limit " ++ decimal (limit_of part))

-- why a text is no matcher
abbrev pub matcher_message : MatcherFault → List ℕ
matcher_message matcher.TooLong = codes "model: matcher too long"
matcher_message (matcher.Unexpected at) = in_matcher at (codes "unexpected")
matcher_message (matcher.OpenText at) = in_matcher at (codes "open text")
matcher_message (matcher.NumberTooWide at) = in_matcher at (codes "number too wide")
matcher_message (matcher.UnknownFunction at) = in_matcher at (codes "unknown function")
matcher_message (matcher.WrongArguments at) = in_matcher at (codes "wrong arguments")
matcher_message (matcher.TooDeep at) = in_matcher at (codes "too deep")
matcher_message matcher.TooManyNodes = codes "model: matcher too large"
matcher_message matcher.NoMemory = codes "no memory"

-- why a text is no model
abbrev pub model_message : ModelFault → List ℕ
model_message model.TooLong = limit_message parts.Model
model_message model.NotUtf8 = codes "model: not UTF-8"
model_message (model.Line line) = in_model line (codes "not a line of a model")
model_message (model.UnknownSection line) = in_model line (codes "unknown section")
model_message (model.UnknownKey line) = in_model line (codes "unknown key")
model_message (model.RepeatedKey line) = in_model line (codes "repeated key")
model_message (model.Missing key) = codes "model: missing " ++ key_text key
model_message (model.Columns key) = codes "model: columns of " ++ key_text key
model_message (model.RoleShape relation) = codes "model: shape of " ++ relation_name relation
model_message model.UnknownEffect = codes "model: unknown effect"
model_message (model.Matcher fault) = matcher_message fault
model_message (model.UnknownColumn at) = in_matcher at (codes "unknown column")
model_message (model.RoleUse at) = in_matcher at (codes "role use")
model_message model.NoMemory = codes "no memory"

-- a quote that is out of place in a line of a policy
abbrev pub quote_message : (line column : ℕ) → List ℕ
quote_message line column = codes "policy: line " ++ decimal line ++ (codes ", column " ++ decimal column) ++ codes ": quote"

-- why a text is no policy
abbrev pub policy_message : PolicyFault → List ℕ
policy_message policy.NotUtf8 = codes "policy: not UTF-8"
policy_message (policy.Quote line column) = quote_message line column
policy_message (policy.UnknownTable line) = in_policy line (codes "unknown table")
policy_message (policy.Columns line) = in_policy line (codes "columns")
policy_message (policy.FieldTooLong line) = in_policy line (codes "field too long")
policy_message (policy.Full line what) = in_policy line (codes "full")
policy_message policy.NoMemory = codes "no memory"

-- why a line is no item of a script
abbrev pub line_cause : LineCause → List ℕ
line_cause cause.Word = codes "word"
line_cause cause.Quote = codes "quote"
line_cause cause.Fields = codes "fields"
line_cause cause.Table = codes "table"
line_cause cause.Number = codes "number"
line_cause cause.Mixed = codes "mixed"
line_cause cause.Unpaired = codes "unpaired"

-- why a text is no script
abbrev pub script_message : ScriptFault → List ℕ
script_message script.NotUtf8 = codes "script: not UTF-8"
script_message (script.Line line why) = in_script line (line_cause why)
script_message (script.OpenBatch line) = in_script line (codes "open batch")
script_message script.NoMemory = codes "no memory"

-- why a text is no packets
abbrev pub packet_message : PacketFault → List ℕ
packet_message packet.NotUtf8 = codes "script: not UTF-8"
packet_message (packet.Line line) = in_script line (codes "packet")
packet_message packet.NoMemory = codes "no memory"

-- what is told of a stop
abbrev pub message_of : Stop → List ℕ
message_of Words = codes "usage: casbin_cli COMMAND [OPTION]... [WORD]..."
message_of (NoModel fault) = model_message fault
message_of (NoRelation relation) = codes "model: option names " ++ relation_name relation
message_of (NoPolicy fault) = policy_message fault
message_of (NoScript fault) = script_message fault
message_of (NoPackets fault) = packet_message fault
message_of (CannotRead unread) = codes "cannot read: " ++ part_name unread
message_of CannotWrite = codes "cannot write"
message_of (TooLong long) = limit_message long
message_of NoMemory = codes "no memory"

-- the line on standard error
abbrev pub line_of : Stop → List ℕ
line_of stop = message_of stop ++ codes "\n"
