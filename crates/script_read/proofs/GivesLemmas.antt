-- What readers give back, a step at a time.
use Rattle.std.proofs.Common.{◌≡◌, ◌≢◌, ℕ, List, [], ◌∷◌, Result, Ok, Err, refl, ap}
use Rattle.policy_table.specs.Tables.{Fields}
use Rattle.script_read.specs.Blocks.{at_line}
use Rattle.script_read.specs.Helps.Given.{Fails, fields_read}
use Rattle.script_read.specs.Items.{alone}
use Rattle.script_read.specs.Results.{followed, mapped}
use Rattle.script_read.specs.declared.fault.LineCause.{LineCause}
use Rattle.script_read.specs.declared.fault.LineCause.TheVariants as cause
use Rattle.script_read.specs.declared.fault.ScriptFault.{ScriptFault}
use Rattle.script_read.specs.declared.fault.ScriptFault.TheVariants.{NotUtf8, Line, OpenBatch, NoMemory}

-- the fault is the one that reading has
pub fails : {Y : Type 0} (fault : ScriptFault) (read : Result Y ScriptFault) → read ≡ Err fault → Fails fault read
fails NotUtf8 read e = e
fails (Line line why) read e = e
fails (OpenBatch line) read e = e
fails NoMemory read e = tt

-- the first step fails, and so the whole does
pub step_fails : {Y W : Type 0} (fault : ScriptFault) (read : Result Y ScriptFault) (next : Y → Result W ScriptFault) → Fails fault read → Fails fault (followed read next)
step_fails NotUtf8 read next e = ap (λ (r : Result _ ScriptFault). followed r next) e
step_fails (Line line why) read next e = ap (λ (r : Result _ ScriptFault). followed r next) e
step_fails (OpenBatch line) read next e = ap (λ (r : Result _ ScriptFault). followed r next) e
step_fails NoMemory read next e = tt

-- ---- within one line

no_other : {X : Type 0} (number : ℕ) (said : Result X LineCause) (fault : ScriptFault) → ((line : ℕ) (why : LineCause) → fault ≢ Line line why) → at_line number said ≡ Err fault → ⊥
no_other number (Ok x) fault none e = absurd cc
no_other number (Err why) fault none e = none number why cc

-- ---- no arguments

abbrev none_of : (X : Type 0) → Result Fields LineCause → Result X LineCause
none_of X said = followed said (λ _. Err cause.Fields)

-- where none stand
pub alone_none : {X : Type 0} (number : ℕ) (it : X) (arguments : List ℕ) → at_line number (alone fields_read (tt {0}) arguments) ≡ Ok (tt {0}) → at_line number (alone fields_read it arguments) ≡ Ok it
alone_none number it [] e = refl
alone_none {X = X} number it (byte ∷ bytes) e = by (fields_read (byte ∷ bytes)) e
  where
    by : (said : Result Fields LineCause) → at_line number (none_of (Unit {0}) said) ≡ Ok (tt {0}) → at_line number (none_of X said) ≡ Ok it
    by (Ok found) e = absurd cc
    by (Err why) e = absurd cc

-- where some do, it is all the same what belongs there
pub alone_fails : {X Y : Type 0} (number : ℕ) (it : X) (other : Y) (fault : ScriptFault) (arguments : List ℕ) → Fails fault (at_line number (alone fields_read it arguments)) → Fails fault (at_line number (alone fields_read other arguments))
alone_fails number it other NotUtf8 arguments e = absurd (no_other number (alone fields_read it arguments) NotUtf8 (λ line why f. absurd cc) e)
alone_fails number it other (OpenBatch line) arguments e = absurd (no_other number (alone fields_read it arguments) (OpenBatch line) (λ at why f. absurd cc) e)
alone_fails number it other NoMemory arguments e = tt
alone_fails number it other (Line line why) [] e = absurd cc
alone_fails {X = X} {Y = Y} number it other (Line line why) (byte ∷ bytes) e = by (fields_read (byte ∷ bytes)) e
  where
    by : (said : Result Fields LineCause) → at_line number (none_of X said) ≡ Err (Line line why) → at_line number (none_of Y said) ≡ Err (Line line why)
    by (Ok found) e = cc
    by (Err because) e = cc

-- what is made of it fails alike
pub mapped_fails : {Y W : Type 0} (f : Y → W) (fault : ScriptFault) (read : Result Y ScriptFault) → Fails fault read → Fails fault (mapped f read)
mapped_fails f NotUtf8 read e = ap (mapped f) e
mapped_fails f (Line line why) read e = ap (mapped f) e
mapped_fails f (OpenBatch line) read e = ap (mapped f) e
mapped_fails f NoMemory read e = tt
