-- The posts of a round: where they stand, and what is kept of what was answered at them.
use Rattle.std.specs.Prelude.{◌≡◌, ◌⊎◌, ◌<◌, ℕ, false, List, [], ◌∷◌, if◌then◌else◌, length, nat_le, slice_index_or}
use Rattle.answer_lines.specs.Printed.{PrintedAnswer}
use Rattle.live_pair.specs.Seats.{SeatSeen, version_of}
use Rattle.live_rounds.specs.Served.{IsPartKept, IsPartServed}
use Rattle.model_conf.specs.ModelText.{ModelParts}
use Rattle.perm_base.specs.declared.shapes.Shapes.{Shapes}
use Rattle.policy_table.specs.Tables.{Policy}
use Rattle.live_rounds.specs.declared.posts.Post.{Post}
use Rattle.regex_gate.specs.Refusals.{IsUsed, Refusals}
use Rattle.live_rounds.specs.Stretches.{items_of}
use Rattle.live_rounds.specs.declared.stretch.Stretch.{Stretch}
use Rattle.script_read.specs.Said.{Said}

-- there are as many as there are parts, or no more seats
abbrev pub AreAll : {X Y Z : Type 0} → List X → List Y → List Z → Type 0
AreAll parts posts left = (length posts ≡ length parts) ⊎ (left ≡ [])

-- what is kept of replies: all where the seat's version is not above that one, and else none
abbrev pub kept_at : (version : ℕ) → SeatSeen → List PrintedAnswer → List PrintedAnswer
kept_at version seat replies = if nat_le (version_of seat.front) version then replies else []

module _ {J P : Type 0} (refusals : P → Refusals) (model : ModelParts) (shapes : Shapes) (opening : Policy) where
  -- the post with this number behind the work at it: its worker used its finder, and answered the requests of its part unless its memory ran out
  pub record IsServedPost (parts : List Stretch) (number : ℕ) (old new : Post J P) : Type 0 where
    pub served : new.ran_out ≡ false → (d : Stretch) → IsPartServed model shapes opening (items_of (slice_index_or parts number d)) (refusals old.finder) (refusals new.finder) old.seat new.seat new.replies
    pub used : IsUsed (refusals old.finder) (refusals new.finder)

  -- so are all of them
  pub record AreServedPosts (parts : List Stretch) (olds news : List (Post J P)) : Type 0 where
    pub count : length news ≡ length olds
    pub each : (i : ℕ) (d : Post J P) → i < length olds → IsServedPost parts i (slice_index_or olds i d) (slice_index_or news i d)

module _ (model : ModelParts) (shapes : Shapes) (opening : Policy) (version : ℕ) where
  -- each worker answered the requests of its part at its seat and by its finder, and so is kept of its replies; a part that has no seat
  -- is left, and so are seats and finders that have no part
  abbrev pub AreKept : List (List Said) → (olds news : List SeatSeen) → (befores nows : List Refusals) → List (List PrintedAnswer) → Type 0
  AreKept [] olds news befores nows [] = (news ≡ olds) × (nows ≡ befores)
  AreKept (part ∷ parts) [] news befores nows [] = (news ≡ []) × (nows ≡ befores)
  AreKept (part ∷ parts) (old ∷ olds) (new ∷ news) (before ∷ befores) (now ∷ nows) (kept ∷ others) = IsPartKept model shapes opening version part before now old new kept × AreKept parts olds news befores nows others
  AreKept _ _ _ _ _ _ = ⊥
