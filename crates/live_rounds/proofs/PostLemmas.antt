-- Posts: how they are manned, and what is kept of what was answered at them.
use Rattle.std.proofs.Common.{◌≡◌, ◌⊎◌, ◌&&◌, inl, inr, ⊎_elim, ℕ, zero, suc, ◌+◌, ◌<◌, ◌≤◌, leb, Bool, true, false, List, [], ◌∷◌, ◌++◌, append_assoc, append-nil, length, length-append, map, refl, sym, ap, subst, ◌∙◌, arith}
use Rattle.std.specs.Prelude.{All, IsTrue, if◌then◌else◌, not, slice_index_or}
use Rattle.std.specs.List.{AllByRecursion, AllZip}
use Rattle.std.proofs.lemmas.Bool.{leb-false, leb-true}
use Rattle.std.proofs.lemmas.List.{map-append}
use Rattle.std.proofs.lemmas.List.Elements.{All-from_recursion}
use Rattle.answer_lines.specs.Printed.{PrintedAnswer}
use Rattle.live_pair.specs.Seats.{SeatSeen, version_of}
use Rattle.live_rounds.proofs.SharesLemmas.{map_long}
use Rattle.live_rounds.specs.Helps.Posts.{AreAll, AreKept, kept_at}
use Rattle.live_rounds.specs.Served.{IsPartKept, IsPartServed}
use Rattle.live_rounds.specs.Stretches.{items_of}
use Rattle.live_rounds.specs.declared.stretch.Stretch.{Stretch}
use Rattle.model_conf.specs.ModelText.{ModelParts}
use Rattle.perm_base.specs.declared.shapes.Shapes.{Shapes}
use Rattle.policy_table.specs.Tables.{Policy}
use Rattle.regex_gate.proofs.CallerLemmas.{used_none}
use Rattle.regex_gate.specs.Refusals.{IsUsed, Refusals}
use Rattle.script_read.specs.Said.{Said}

-- ---- room for all to come back

pub all_fit : {X Y : Type 0} (f : X → Y) (posts : List X) (rest whole : List Y) (long capacity : ℕ) → whole ≡ map f posts ++ rest → long ≡ length whole → long ≤ capacity → length posts + length rest ≤ capacity
all_fit {Y = Y} f posts rest whole long capacity is long-is within = omega (arith, ap (λ (l : List Y). length l) is, length-append (map f posts) rest, map_long f posts, long-is, within)

pub first_fits : {X Y : Type 0} (f : X → Y) (posts : List X) (first : Y) (rest whole : List Y) (long capacity : ℕ) → whole ≡ first ∷ (map f posts ++ rest) → long ≡ length whole → long ≤ capacity → 1 + length posts + length rest ≤ capacity
first_fits {Y = Y} f posts first rest whole long capacity is long-is within = omega (arith, ap (λ (l : List Y). length l) is, length-append (map f posts) rest, map_long f posts, long-is, within)

-- the first one apart, and the others behind it
pub first_apart : {Y : Type 0} (whole new rest back : List Y) (first : Y) → whole ≡ first ∷ rest → new ≡ first ∷ [] → rest ≡ back → whole ≡ new ++ back
first_apart {Y = Y} whole new rest back first is new-is rest-is = is ∙ ap (λ (l : List Y). first ∷ l) rest-is ∙ ap (λ (l : List Y). l ++ back) (sym new-is)

-- some are left where not all are taken
pub left_over : {X Y : Type 0} (f : X → Y) (posts : List X) (left whole : List Y) (n most : ℕ) → whole ≡ map f posts ++ left → length posts ≡ n → n < most → most ≤ length whole → 0 < length left
left_over {Y = Y} f posts left whole n most is long within enough = omega (arith, ap (λ (l : List Y). length l) is, length-append (map f posts) left, map_long f posts, long, within, enough)

-- ---- posts that are manned one after the other

module _ {S F X : Type 0} (seat : X → S) (finder : X → F) (seats : List S) (finders : List F) where
  -- so many posts are manned, and these seats and finders are left
  pub record IsManned (n : ℕ) (left_seats : List S) (left_finders : List F) (posts : List X) : Type 0 where
    pub seats_are : seats ≡ map seat posts ++ left_seats
    pub finders_are : finders ≡ map finder posts ++ left_finders
    pub long : length posts ≡ n

  pub manned_none : (posts : List X) → posts ≡ [] → IsManned 0 seats finders posts
  manned_none posts none = subst (IsManned 0 seats finders) (sym none) (record { seats_are = refl; finders_are = refl; long = refl })

  pub manned_more : (n : ℕ) (left_seats more_seats : List S) (left_finders more_finders : List F) (posts more : List X) (post : X) → IsManned n left_seats left_finders posts → left_seats ≡ seat post ∷ more_seats → left_finders ≡ finder post ∷ more_finders → more ≡ posts ++ post ∷ [] → IsManned (n + 1) more_seats more_finders more
  manned_more n left_seats more_seats left_finders more_finders posts more post so took_seat took_finder more-is = subst (IsManned (n + 1) more_seats more_finders) (sym more-is) (record {
    seats_are = so.seats_are ∙ ap (λ (l : List S). map seat posts ++ l) took_seat ∙ sym (append_assoc (map seat posts) (seat post ∷ []) more_seats) ∙ ap (λ (l : List S). l ++ more_seats) (sym (map-append seat posts (post ∷ [])));
    finders_are = so.finders_are ∙ ap (λ (l : List F). map finder posts ++ l) took_finder ∙ sym (append_assoc (map finder posts) (finder post ∷ []) more_finders) ∙ ap (λ (l : List F). l ++ more_finders) (sym (map-append finder posts (post ∷ [])));
    long = omega (arith, so.long, length-append posts (post ∷ []));
  })

-- ---- what is kept

kept_by : {X : Type 0} (test : Bool) (low high : ℕ) (replies : List X) → leb low high ≡ test → ((low ≤ high) × ((if test then replies else []) ≡ replies)) ⊎ ((high < low) × ((if test then replies else []) ≡ []))
kept_by true low high replies is = inl (leb-true low high is, refl)
kept_by false low high replies is = inr (leb-false low high is, refl)

-- where the seat's version is not above that one, and where it is
pub kept_whole : (seat : SeatSeen) (reached version : ℕ) (replies : List PrintedAnswer) → reached ≡ version_of seat.front → reached ≤ version → replies ≡ kept_at version seat replies
kept_whole seat reached version replies is within = by (kept_by (leb (version_of seat.front) version) (version_of seat.front) version replies refl)
  where
    by : ((version_of seat.front ≤ version) × (kept_at version seat replies ≡ replies)) ⊎ ((version < version_of seat.front) × (kept_at version seat replies ≡ [])) → replies ≡ kept_at version seat replies
    by (inl fits) = sym fits.1
    by (inr beyond) = absurd (omega (arith, is, within, beyond.0))

pub kept_none : (seat : SeatSeen) (reached version : ℕ) (replies none : List PrintedAnswer) → reached ≡ version_of seat.front → version < reached → none ≡ [] → none ≡ kept_at version seat replies
kept_none seat reached version replies none is beyond none-is = by (kept_by (leb (version_of seat.front) version) (version_of seat.front) version replies refl)
  where
    by : ((version_of seat.front ≤ version) × (kept_at version seat replies ≡ replies)) ⊎ ((version < version_of seat.front) × (kept_at version seat replies ≡ [])) → none ≡ kept_at version seat replies
    by (inl fits) = absurd (omega (arith, is, beyond, fits.0))
    by (inr above) = none-is ∙ sym above.1

-- the finders at posts were used
module _ {X : Type 0} (refusals : X → Refusals) where
  abbrev pub AreUsedAt : List X → List X → Type 0
  AreUsedAt olds news = (i : ℕ) (d : X) → i < length olds → IsUsed (refusals (slice_index_or olds i d)) (refusals (slice_index_or news i d))

  pub used_at : (olds news : List X) (idle : List Refusals) → length news ≡ length olds → AreUsedAt olds news → AllZip IsUsed (map refusals olds ++ idle) (map refusals news ++ idle)
  used_at [] [] idle long used = all_same idle
    where
      all_same : (list : List Refusals) → AllZip IsUsed list list
      all_same [] = tt
      all_same (r ∷ list) = (used_none r, all_same list)
  used_at (old ∷ olds) (new ∷ news) idle long used = (used zero old (omega arith), used_at olds news idle (omega (arith, long)) (λ i d within. used (suc i) d (omega (arith, within))))
  used_at [] (new ∷ news) idle long used = absurd (omega (arith, long))
  used_at (old ∷ olds) [] idle long used = absurd (omega (arith, long))

module _ {X : Type 0} (seat : X → SeatSeen) (refusals : X → Refusals) (replies : X → List PrintedAnswer) (ran_out : X → Bool) where
  -- what is kept of the replies at posts
  abbrev pub all_kept : ℕ → List X → List (List PrintedAnswer)
  all_kept version posts = map (λ (post : X). kept_at version (seat post) (replies post)) posts

  module _ (model : ModelParts) (shapes : Shapes) (opening : Policy) (version : ℕ) where
    -- the posts of which no memory ran out were served, each for the part that stands at its place
    abbrev pub AreServedAt : List Stretch → List X → List X → Type 0
    AreServedAt parts olds news = (i : ℕ) (d : X) → i < length olds → ran_out (slice_index_or news i d) ≡ false → (e : Stretch)
        → IsPartServed model shapes opening (items_of (slice_index_or parts i e)) (refusals (slice_index_or olds i d)) (refusals (slice_index_or news i d)) (seat (slice_index_or olds i d)) (seat (slice_index_or news i d)) (replies (slice_index_or news i d))

    one_kept : (part : List Said) (old new : X) → IsPartServed model shapes opening part (refusals old) (refusals new) (seat old) (seat new) (replies new) → IsPartKept model shapes opening version part (refusals old) (refusals new) (seat old) (seat new) (kept_at version (seat new) (replies new))
    one_kept part old new served = record {
      replies = replies new;
      served = served;
      kept_is = kept_by (leb (version_of (seat new).front) version) (version_of (seat new).front) version (replies new) refl;
    }

    pub kept_posts : (parts : List Stretch) (olds news : List X) (left : List SeatSeen) (idle : List Refusals) → length news ≡ length olds → length olds ≤ length parts → AreAll parts olds left → AllByRecursion (λ (post : X). ran_out post ≡ false) news → AreServedAt parts olds news
        → AreKept model shapes opening version (map items_of parts) (map seat olds ++ left) (map seat news ++ left) (map refusals olds ++ idle) (map refusals news ++ idle) (all_kept version news)
    kept_posts [] [] [] left idle long few all whole served = (refl, refl)
    kept_posts (part ∷ parts) [] [] left idle long few all whole served =
        ⊎_elim (λ more. absurd (omega (arith, more)))
        (λ none. subst (λ (l : List SeatSeen). AreKept model shapes opening version (map items_of (part ∷ parts)) l l idle idle []) (sym none) (refl, refl)) all
    kept_posts (part ∷ parts) (old ∷ olds) (new ∷ news) left idle long few all whole served = (
      one_kept (items_of part) old new (served zero old (omega arith) whole.0 part),
      kept_posts parts olds news left idle (omega (arith, long)) (omega (arith, few)) (⊎_elim (λ more. inl (omega (arith, more))) (λ none. inr none) all) whole.1 (λ i d within. served (suc i) d (omega (arith, within))),
    )
    kept_posts [] (old ∷ olds) news left idle long few all whole served = absurd (omega (arith, few))
    kept_posts parts [] (new ∷ news) left idle long few all whole served = absurd (omega (arith, long))
    kept_posts (part ∷ parts) (old ∷ olds) [] left idle long few all whole served = absurd (omega (arith, long))

-- ---- posts that are taken apart, one after the other

-- one more value behind those of the posts so far
pub pushed_map : {X Y : Type 0} (f : X → Y) (old mid new : List Y) (done : List X) (x : X) (y : Y) → mid ≡ old ++ map f done → new ≡ mid ++ y ∷ [] → y ≡ f x → new ≡ old ++ map f (done ++ x ∷ [])
pushed_map f old mid new done x y mid-is new-is is =
    new-is ∙ (λ j. mid-is j ++ is j ∷ []) ∙ append_assoc old (map f done) (f x ∷ []) ∙ ap (λ (l : List _). old ++ l) (sym (map-append f done (x ∷ [])))

-- all of them are apart
pub all_done : {X : Type 0} (posts done left : List X) → posts ≡ done ++ left → left ≡ [] → done ≡ posts
all_done posts done left parts none = sym (parts ∙ ap (λ (l : List _). done ++ l) none ∙ append-nil done)

pub map_done : {X Y : Type 0} (f : X → Y) (old new : List Y) (posts done left : List X) → new ≡ old ++ map f done → posts ≡ done ++ left → left ≡ [] → new ≡ old ++ map f posts
map_done f old new posts done left new-is parts none = new-is ∙ ap (λ (l : List _). old ++ map f l) (all_done posts done left parts none)

-- no worker so far ran out of memory, nor the next one, nor any of them
module _ {X : Type 0} (ran_out : X → Bool) where
  pub whole_more : (posts : List X) (post : X) (whole next : Bool) → (IsTrue whole → AllByRecursion (λ (p : X). ran_out p ≡ false) posts) → next ≡ (whole && not (ran_out post)) → IsTrue next → AllByRecursion (λ (p : X). ran_out p ≡ false) (posts ++ post ∷ [])
  whole_more posts post whole next so is given = by whole (ran_out post) refl refl (sym is ∙ given)
    where
      both : (list : List X) → AllByRecursion (λ (p : X). ran_out p ≡ false) list → ran_out post ≡ false → AllByRecursion (λ (p : X). ran_out p ≡ false) (list ++ post ∷ [])
      both [] all last = (last, tt)
      both (p ∷ list) all last = (all.0, both list all.1 last)

      by : (a b : Bool) → whole ≡ a → ran_out post ≡ b → (a && not b) ≡ true → AllByRecursion (λ (p : X). ran_out p ≡ false) (posts ++ post ∷ [])
      by true false whole-is out-is both-are = both posts (so whole-is) out-is
      by true true whole-is out-is both-are = absurd cc
      by false b whole-is out-is both-are = absurd cc

  pub whole_done : (posts done left : List X) (whole : Bool) → (IsTrue whole → AllByRecursion (λ (p : X). ran_out p ≡ false) done) → posts ≡ done ++ left → left ≡ [] → IsTrue whole → All (λ (p : X). ran_out p ≡ false) posts
  whole_done posts done left whole so parts none given =
      All-from_recursion (λ (p : X). ran_out p ≡ false) posts (subst (AllByRecursion (λ (p : X). ran_out p ≡ false)) (all_done posts done left parts none) (so given))
