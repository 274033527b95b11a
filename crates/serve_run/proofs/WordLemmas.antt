-- Words that are read as those of a session.
use Rattle.std.proofs.Common.{◌≡◌, ℕ, suc, ◌+◌, ◌<◌, ◌≤◌, ◌||◌, Bool, true, false, not, List, [], ◌∷◌, ◌++◌, length, take, drop, drop-cons, refl, sym, ap, subst, ◌∙◌, arith}
use Rattle.std.specs.Prelude.{Option, Some, None, IfSome, String, bytes_eq, codes, get_or, if◌then◌else◌, option_map, string_bytes}
use Rattle.std.specs.Global.{Vec}
use Rattle.std.specs.Option.{option_and_then}
use Rattle.std.specs.declared.alloc.Global.{Global}
use Rattle.std.proofs.lemmas.Bool.{cond-false, cond-true}
use Rattle.std.proofs.lemmas.List.{drop_all, map_push, take_all, take_more}
use Rattle.std.proofs.lemmas.Option.{option_and_then_some}
use Rattle.command_words.proofs.CallerLemmas.{HasRanges, command_of-ranges}
use Rattle.command_words.specs.Commands.{command_of}
use Rattle.command_words.specs.Items.{is_dashes, texts}
use Rattle.command_words.specs.declared.command.Command.{Command}
use Rattle.command_words.specs.declared.command.Command.TheVariants as command
use Rattle.run_files.specs.Files.{limit_in}
use Rattle.serve_run.specs.Helps.WordTexts.{all_texts}
use Rattle.serve_run.specs.Words.{begins_follow, behind_follow, has_workers, is_to_follow, is_to_serve, is_workers, job_asked, job_of, session_of}
use Rattle.serve_run.specs.declared.words.Job.{Job}

-- a word that was pushed
pub texts_pushed : (made now : List (String Global)) (copy : String Global) (text : List ℕ) → now ≡ made ++ copy ∷ [] → string_bytes copy ≡ text → texts now ≡ texts made ++ text ∷ []
texts_pushed made now copy text pushed same =
    ap texts pushed ∙ map_push (λ (w : String Global). string_bytes w) made copy ∙ ap (λ (b : List ℕ). texts made ++ b ∷ []) same

-- a word more
pub texts_more : (first : List ℕ) (made now : List (List ℕ)) (others : List (String Global)) (n : ℕ) (word : String Global) (text : List ℕ) → n < length others → word ≡ get_or others n word → text ≡ string_bytes word → made ≡ first ∷ texts (take n others) → now ≡ made ++ text ∷ [] → now ≡ first ∷ texts (take (n + 1) others)
texts_more first made now others n word text within is same before pushed =
    pushed ∙ ap (λ (b : List ℕ). made ++ b ∷ []) same ∙ ap (λ (t : List (List ℕ)). t ++ string_bytes word ∷ []) before
    ∙ sym (ap (λ (l : List (String Global)). first ∷ texts l) (take_more others n word within ∙ ap (λ (w : String Global). take n others ++ w ∷ []) (sym is)) ∙ ap (λ (t : List (List ℕ)). first ∷ t) (map_push (λ (w : String Global). string_bytes w) (take n others) word))

pub texts_all : (first : List ℕ) (made : List (List ℕ)) (others : List (String Global)) (n : ℕ) → length others ≤ n → made ≡ first ∷ texts (take n others) → made ≡ first ∷ texts others
texts_all first made others n past before = before ∙ ap (λ (l : List (String Global)). first ∷ texts l) (take_all n others past)

-- ---- the first word

pub serve_none : (words : List (String Global)) → length words ≡ 0 → false ≡ is_to_serve (texts words)
serve_none [] none = refl
serve_none (word ∷ words) none = absurd (omega (arith, none))

pub serve_some : (words others : List (String Global)) (name : String Global) → words ≡ name ∷ others → bytes_eq (string_bytes name) (codes "serve") ≡ is_to_serve (texts words)
serve_some words others name is = ap (λ (w : List (String Global)). is_to_serve (texts w)) (sym is)

-- ---- the words of a session

pub session_none : (words : List (String Global)) → length words ≡ 0 → None ≡ session_of (texts words)
session_none [] none = refl
session_none (word ∷ words) none = absurd (omega (arith, none))

-- by the tests of the first word and of the others
pub session_by : (words behind others : List (String Global)) (name : String Global) (serve workers : Bool) → words ≡ name ∷ behind → texts others ≡ behind_follow (texts behind) → bytes_eq (string_bytes name) (codes "serve") ≡ serve → has_workers (texts others) ≡ workers
    → (if not serve then None else if workers then None else Some (codes "session" ∷ texts others)) ≡ session_of (texts words)
session_by words behind others name serve workers is rest serves tells =
    ap (λ (test : Bool). if not test then None else if workers then None else Some (codes "session" ∷ texts others)) (sym serves)
    ∙ ap (λ (test : Bool). if not (bytes_eq (string_bytes name) (codes "serve")) then None else if test then None else Some (codes "session" ∷ texts others)) (sym tells)
    ∙ ap (λ (l : List (List ℕ)). if not (bytes_eq (string_bytes name) (codes "serve")) then None else if has_workers l then None else Some (codes "session" ∷ l)) rest
    ∙ ap (λ (w : List (String Global)). session_of (texts w)) (sym is)

-- where it is no `serve`, whatever stands behind
pub session_no : (words behind : List (String Global)) (name : String Global) → words ≡ name ∷ behind → bytes_eq (string_bytes name) (codes "serve") ≡ false → None ≡ session_of (texts words)
session_no words behind name is other =
    ap (λ (test : Bool). if not test then None else if has_workers (behind_follow (texts behind)) then None else Some (codes "session" ∷ behind_follow (texts behind))) (sym other) ∙ ap (λ (w : List (String Global)). session_of (texts w)) (sym is)

-- ---- `--follow`

pub follow_none : (words : List (String Global)) → length words ≡ 0 → (false ≡ is_to_follow (texts words)) × (false ≡ begins_follow (texts words)) × (texts words ≡ behind_follow (texts words))
follow_none [] none = (refl, refl, refl)
follow_none (word ∷ words) none = absurd (omega (arith, none))

pub follow_some : (words others : List (String Global)) (name : String Global) → words ≡ name ∷ others → begins_follow (texts others) ≡ is_to_follow (texts words)
follow_some words others name is = ap (λ (w : List (String Global)). is_to_follow (texts w)) (sym is)

pub begins_some : (words others : List (String Global)) (word : String Global) → words ≡ word ∷ others → bytes_eq (string_bytes word) (codes "--follow") ≡ begins_follow (texts words)
begins_some words others word is = ap (λ (w : List (String Global)). begins_follow (texts w)) (sym is)

pub behind_some : (words others : List (String Global)) (word : String Global) (test : Bool) → words ≡ word ∷ others → bytes_eq (string_bytes word) (codes "--follow") ≡ test → (if test then texts others else string_bytes word ∷ texts others) ≡ behind_follow (texts words)
behind_some words others word test is tells =
    ap (λ (b : Bool). if b then texts others else string_bytes word ∷ texts others) (sym tells) ∙ ap (λ (w : List (String Global)). behind_follow (texts w)) (sym is)

-- ---- workers, from a word on

module _ (words : List (String Global)) (n : ℕ) (word : String Global) (whole : Bool) (so : whole ≡ has_workers (texts (drop n words))) (within : n < length words) (is : word ≡ get_or words n word) where
  workers_at : whole ≡ (if is_dashes (string_bytes word) then false else is_workers (string_bytes word) || has_workers (texts (drop (n + 1) words)))
  workers_at =
      let next : suc n ≡ n + 1 = omega arith in
      so ∙ ap (λ (l : List (String Global)). has_workers (texts l)) (drop-cons words n word within ∙ ap (λ (w : String Global). w ∷ drop (suc n) words) (sym is) ∙ ap (λ (k : ℕ). word ∷ drop k words) next)

  pub workers_end : is_dashes (string_bytes word) ≡ true → false ≡ whole
  workers_end dashes = sym (workers_at ∙ cond-true (is_dashes (string_bytes word)) false (is_workers (string_bytes word) || has_workers (texts (drop (n + 1) words))) dashes)

  module _ (other : is_dashes (string_bytes word) ≡ false) where
    workers_here : whole ≡ (is_workers (string_bytes word) || has_workers (texts (drop (n + 1) words)))
    workers_here = workers_at ∙ cond-false (is_dashes (string_bytes word)) false (is_workers (string_bytes word) || has_workers (texts (drop (n + 1) words))) other

    pub workers_found : is_workers (string_bytes word) ≡ true → true ≡ whole
    workers_found found = sym (workers_here ∙ ap (λ (test : Bool). test || has_workers (texts (drop (n + 1) words))) found)

    pub workers_on : is_workers (string_bytes word) ≡ false → whole ≡ has_workers (texts (drop (n + 1) words))
    workers_on none = workers_here ∙ ap (λ (test : Bool). test || has_workers (texts (drop (n + 1) words))) none

pub workers_none : (words : List (String Global)) (n : ℕ) (whole : Bool) → whole ≡ has_workers (texts (drop n words)) → length words ≤ n → false ≡ whole
workers_none words n whole so past = sym (so ∙ ap (λ (l : List (String Global)). has_workers (texts l)) (drop_all n words past))

-- ---- what is asked for

-- what was read of words, where they are a command and where they are none
pub job_read : (follow : Bool) (words : List (List ℕ)) (found : Option Command) (asked : Command) (result : Option Job) → found ≡ command_of words → found ≡ Some asked → result ≡ job_of follow asked → result ≡ option_and_then (job_of follow) (command_of words)
job_read follow words found asked result is some made = made ∙ ap (option_and_then (job_of follow)) (sym some ∙ is)

pub no_job_read : (follow : Bool) (words : List (List ℕ)) (found : Option Command) → found ≡ command_of words → found ≡ None → None ≡ option_and_then (job_of follow) (command_of words)
no_job_read follow words found is none = ap (option_and_then (job_of follow)) (sym none ∙ is)

-- the limit of a job
abbrev JobHas : Option Job → Type 0
JobHas job = IfSome job (λ job. (0 < limit_in job.options) × (limit_in job.options ≤ 250))

job_has : (follow : Bool) (asked : Command) → HasRanges asked → JobHas (job_of follow asked)
job_has follow (command.Session files options json workers) has = (has.0, has.1)
job_has follow (command.Enforce files options json cache) has = tt
job_has follow (command.Explain files options json most) has = tt
job_has follow (command.Check files) has = tt
job_has follow (command.Format files) has = tt
job_has follow (command.Implicit files subject options) has = tt
job_has follow (command.Report files options) has = tt
job_has follow (command.Ship files options) has = tt
job_has follow (command.Follow files options) has = tt
job_has follow (command.Lint files options) has = tt
job_has follow (command.Demo count workers) has = tt

pub job_limits : (follow : Bool) (words : List (List ℕ)) (result : Option Job) → result ≡ option_and_then (job_of follow) (command_of words) → JobHas result
job_limits follow words None asked = tt
job_limits follow words (Some job) asked = option_and_then_some (job_of follow) (command_of words) job (sym asked) (λ found told made. subst JobHas made (job_has follow found (command_of-ranges words found told)))

-- by the words of the session, which were made
module _ (words : List (List ℕ)) (made : Option (Vec (String Global))) (is : option_map all_texts made ≡ session_of words) (follow : Bool) (follow-is : follow ≡ is_to_follow words) where
  abbrev job_in : Bool → List (List ℕ) → Option Job
  job_in f session = option_and_then (job_of f) (command_of session)

  pub asked_none : made ≡ None → job_asked words ≡ None
  asked_none none = ap (option_and_then (job_in (is_to_follow words))) (sym is ∙ ap (option_map all_texts) none)

  module _ (session : Vec (String Global)) (some : made ≡ Some session) (items : List (String Global)) (same : items ≡ session.items) where
    pub asked_by : (job : Option Job) → job ≡ option_and_then (job_of follow) (command_of (texts items)) → job_asked words ≡ job
    asked_by job told =
        ap (option_and_then (job_in (is_to_follow words))) (sym is ∙ ap (option_map all_texts) some)
        ∙ ap (λ (f : Bool). job_in f (texts session.items)) (sym follow-is) ∙ ap (λ (words : List (String Global)). job_in follow (texts words)) (sym same) ∙ sym told
