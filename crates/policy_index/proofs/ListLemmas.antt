-- Slots by a hash, as a map keeps them: what is read, written, taken out and let go.
use Rattle.std.proofs.Common.{◌≡◌, ℕ, ◌+◌, ◌≤◌, Bool, true, false, ◌==◌, cond, if◌then◌else◌, List, [], ◌∷◌, length, Option, Some, None, refl, sym, ap, subst, ◌∙◌, arith, true≢false}
use Rattle.std.specs.Prelude.{IsSome, nat_eq}
use Rattle.std.specs.Map.{lookup, set_value}
use Rattle.std.specs.Option.{option_map_or}
use Rattle.std.proofs.lemmas.Bool.{eqb-true}
use Rattle.std.proofs.lemmas.Cmp.{nat_eq_equiv}
use Rattle.std.proofs.lemmas.Map.{lookup-set_value}
use Rattle.indexmap.specs.IndexMap.{insert_entry}
use Rattle.policy_index.specs.Helps.Kept.{one_if}
use Rattle.policy_index.specs.Lists.{Listed, Lists, room_at, slots_at}

-- the lists after a hash has got another one
pub record Wrote (old new : Lists) (hash : ℕ) (after : Listed) : Type 0 where
  pub each : (other : ℕ) → lookup (nat_eq other) new ≡ cond (nat_eq hash other) (Some after) (lookup (nat_eq other) old)

-- a hash that is there gets another list
pub wrote_there : (old new : Lists) (hash : ℕ) (before after : Listed) → lookup (nat_eq hash) old ≡ Some before → new ≡ set_value (nat_eq hash) old after → Wrote old new hash after
wrote_there old new hash before after there is = record {
  each = λ other. ap (lookup (nat_eq other)) is
      ∙ lookup-set_value nat_eq_equiv (nat_eq hash) (λ x y same. nat_eq_equiv.congr hash x y same) other after old (subst IsSome (sym there) refl);
}

-- what is found where a hash that is not there gets a list
lookup_inserted : (hash : ℕ) (after : Listed) (es : Lists) → lookup (nat_eq hash) es ≡ None → (other : ℕ) → lookup (nat_eq other) (insert_entry nat_eq es hash after) ≡ cond (nat_eq hash other) (Some after) (lookup (nat_eq other) es)
lookup_inserted hash after [] none other = ap (λ (b : Bool). cond b (Some after) None) (nat_eq_equiv.symm other hash)
lookup_inserted hash after (e ∷ es) none other = by (nat_eq hash e.0) refl none (λ none. lookup_inserted hash after es none other)
  where
    by : (b : Bool) → nat_eq hash e.0 ≡ b → cond b (Some e.1) (lookup (nat_eq hash) es) ≡ None
        → (lookup (nat_eq hash) es ≡ None → lookup (nat_eq other) (insert_entry nat_eq es hash after) ≡ cond (nat_eq hash other) (Some after) (lookup (nat_eq other) es))
        → lookup (nat_eq other) (if b then (e.0, after) ∷ es else e ∷ insert_entry nat_eq es hash after) ≡ cond (nat_eq hash other) (Some after) (cond (nat_eq other e.0) (Some e.1) (lookup (nat_eq other) es))
    by true is none rest = absurd cc
    by false is none rest = by_other (nat_eq other e.0) refl (nat_eq hash other) refl (rest none)
      where
        by_other : (c : Bool) → nat_eq other e.0 ≡ c → (d : Bool) → nat_eq hash other ≡ d → lookup (nat_eq other) (insert_entry nat_eq es hash after) ≡ cond d (Some after) (lookup (nat_eq other) es)
            → cond c (Some e.1) (lookup (nat_eq other) (insert_entry nat_eq es hash after)) ≡ cond d (Some after) (cond c (Some e.1) (lookup (nat_eq other) es))
        by_other true here true there so = absurd (true≢false (sym here ∙ sym (nat_eq_equiv.congr hash other e.0 there) ∙ is))
        by_other true here false there so = refl
        by_other false here true there so = so
        by_other false here false there so = so

-- a hash that is not there gets a list
pub wrote_new : (old new : Lists) (hash : ℕ) (after : Listed) → lookup (nat_eq hash) old ≡ None → new ≡ insert_entry nat_eq old hash after → Wrote old new hash after
wrote_new old new hash after none is = record { each = λ other. ap (lookup (nat_eq other)) is ∙ lookup_inserted hash after old none other }

-- the same, of lists that a value shows
pub there_now : (inside now : Lists) (hash : ℕ) (listed : Option Listed) → inside ≡ now → lookup (nat_eq hash) inside ≡ listed → lookup (nat_eq hash) now ≡ listed
there_now inside now hash listed shown is = ap (lookup (nat_eq hash)) (sym shown) ∙ is

pub wrote_now : (inside now new : Lists) (hash : ℕ) (before after : Listed) → inside ≡ now → lookup (nat_eq hash) inside ≡ Some before → new ≡ set_value (nat_eq hash) inside after → Wrote now new hash after
wrote_now inside now new hash before after shown there is = subst (λ (l : Lists). Wrote l new hash after) shown (wrote_there inside new hash before after there is)

pub new_now : (inside now new : Lists) (hash : ℕ) (after : Listed) → inside ≡ now → lookup (nat_eq hash) inside ≡ None → new ≡ insert_entry nat_eq inside hash after → Wrote now new hash after
new_now inside now new hash after shown none is = subst (λ (l : Lists). Wrote l new hash after) shown (wrote_new inside new hash after none is)

pub forgot_now : (inside now new : Lists) (hash other : ℕ) → inside ≡ now → lookup (nat_eq other) new ≡ cond (nat_eq hash other) None (lookup (nat_eq other) inside) → lookup (nat_eq other) new ≡ cond (nat_eq hash other) None (lookup (nat_eq other) now)
forgot_now inside now new hash other shown is = is ∙ ap (λ (l : Lists). cond (nat_eq hash other) None (lookup (nat_eq other) l)) shown

-- what the slots of a hash were, and what they are
pub wrote_slots : (old new : Lists) (hash : ℕ) (after : Listed) → Wrote old new hash after → (other : ℕ) → slots_at new other ≡ cond (nat_eq hash other) after.slots (slots_at old other)
wrote_slots old new hash after wrote other = by (nat_eq hash other) (wrote.each other)
  where
    by : (b : Bool) → lookup (nat_eq other) new ≡ cond b (Some after) (lookup (nat_eq other) old) → slots_at new other ≡ cond b after.slots (slots_at old other)
    by true is = ap (λ (o : Option Listed). option_map_or (λ (l : Listed). l.slots) o []) is
    by false is = ap (λ (o : Option Listed). option_map_or (λ (l : Listed). l.slots) o []) is

pub wrote_room : (old new : Lists) (hash : ℕ) (after : Listed) → Wrote old new hash after → (other : ℕ) → room_at new other ≡ cond (nat_eq hash other) after.room (room_at old other)
wrote_room old new hash after wrote other = by (nat_eq hash other) (wrote.each other)
  where
    by : (b : Bool) → lookup (nat_eq other) new ≡ cond b (Some after) (lookup (nat_eq other) old) → room_at new other ≡ cond b after.room (room_at old other)
    by true is = ap (λ (o : Option Listed). option_map_or (λ (l : Listed). l.room) o 0) is
    by false is = ap (λ (o : Option Listed). option_map_or (λ (l : Listed). l.room) o 0) is

-- what is found
pub found_slots : (lists : Lists) (hash : ℕ) (listed : Listed) → lookup (nat_eq hash) lists ≡ Some listed → slots_at lists hash ≡ listed.slots
found_slots lists hash listed is = ap (λ (o : Option Listed). option_map_or (λ (l : Listed). l.slots) o []) is

pub found_room : (lists : Lists) (hash : ℕ) (listed : Listed) → lookup (nat_eq hash) lists ≡ Some listed → room_at lists hash ≡ listed.room
found_room lists hash listed is = ap (λ (o : Option Listed). option_map_or (λ (l : Listed). l.room) o 0) is

pub no_slots : (lists : Lists) (hash : ℕ) → lookup (nat_eq hash) lists ≡ None → slots_at lists hash ≡ []
no_slots lists hash is = ap (λ (o : Option Listed). option_map_or (λ (l : Listed). l.slots) o []) is

pub no_room : (lists : Lists) (hash : ℕ) → lookup (nat_eq hash) lists ≡ None → room_at lists hash ≡ 0
no_room lists hash is = ap (λ (o : Option Listed). option_map_or (λ (l : Listed). l.room) o 0) is

-- a hash whose own slots stay: all stay, and no room is lost
pub slots_same : (old new : Lists) (hash : ℕ) (after : Listed) (other : ℕ) → Wrote old new hash after → after.slots ≡ slots_at old hash → slots_at new other ≡ slots_at old other
slots_same old new hash after other wrote is = by (nat_eq hash other) refl (wrote_slots old new hash after wrote other)
  where
    by : (b : Bool) → nat_eq hash other ≡ b → slots_at new other ≡ cond b after.slots (slots_at old other) → slots_at new other ≡ slots_at old other
    by true same there = there ∙ subst (λ (h : ℕ). after.slots ≡ slots_at old h) (eqb-true hash other same) is
    by false same there = there

pub room_more : (old new : Lists) (hash : ℕ) (after : Listed) (other : ℕ) → Wrote old new hash after → room_at old hash ≤ after.room → room_at old other ≤ room_at new other
room_more old new hash after other wrote is = by (nat_eq hash other) refl (wrote_room old new hash after wrote other)
  where
    by : (b : Bool) → nat_eq hash other ≡ b → room_at new other ≡ cond b after.room (room_at old other) → room_at old other ≤ room_at new other
    by true same there = omega (arith, there, subst (λ (h : ℕ). room_at old h ≤ after.room) (eqb-true hash other same) is)
    by false same there = omega (arith, there)

pub room_here : (old new : Lists) (hash : ℕ) (after : Listed) → Wrote old new hash after → room_at new hash ≡ after.room
room_here old new hash after wrote = wrote_room old new hash after wrote hash ∙ ap (λ (b : Bool). cond b after.room (room_at old hash)) (nat_eq_equiv.refl hash)

pub put_room : (old new : Lists) (hash : ℕ) (before after : Listed) (other : ℕ) → lookup (nat_eq hash) old ≡ Some before → Wrote old new hash after → before.room ≤ after.room + 1 → room_at old other ≤ room_at new other + one_if (hash == other)
put_room old new hash before after other there wrote is = by (nat_eq hash other) refl (wrote_room old new hash after wrote other)
  where
    by : (b : Bool) → nat_eq hash other ≡ b → room_at new other ≡ cond b after.room (room_at old other) → room_at old other ≤ room_at new other + one_if b
    by true same written =
        let mine : room_at old other ≡ before.room = subst (λ (h : ℕ). room_at old h ≡ before.room) (eqb-true hash other same) (found_room old hash before there) in
        omega (arith, written, mine, is)
    by false same written = omega (arith, written)

-- the slots of a hash as they are made of those before
pub changed_by : (f : List ℕ → List ℕ) (old new : Lists) (hash : ℕ) (before after : Listed) (other : ℕ) → lookup (nat_eq hash) old ≡ Some before → Wrote old new hash after → after.slots ≡ f before.slots
    → slots_at new other ≡ (if hash == other then f (slots_at old other) else slots_at old other)
changed_by f old new hash before after other there wrote is = by (nat_eq hash other) refl (wrote_slots old new hash after wrote other)
  where
    by : (b : Bool) → nat_eq hash other ≡ b → slots_at new other ≡ cond b after.slots (slots_at old other) → slots_at new other ≡ (if b then f (slots_at old other) else slots_at old other)
    by true same written =
        let mine : slots_at old other ≡ before.slots = subst (λ (h : ℕ). slots_at old h ≡ before.slots) (eqb-true hash other same) (found_slots old hash before there) in
        written ∙ is ∙ ap f (sym mine)
    by false same written = written

pub room_same : (old new : Lists) (hash : ℕ) (before after : Listed) (other : ℕ) → lookup (nat_eq hash) old ≡ Some before → Wrote old new hash after → after.room ≡ before.room → room_at new other ≡ room_at old other
room_same old new hash before after other there wrote is = by (nat_eq hash other) refl (wrote_room old new hash after wrote other)
  where
    by : (b : Bool) → nat_eq hash other ≡ b → room_at new other ≡ cond b after.room (room_at old other) → room_at new other ≡ room_at old other
    by true same written =
        let mine : room_at old other ≡ before.room = subst (λ (h : ℕ). room_at old h ≡ before.room) (eqb-true hash other same) (found_room old hash before there) in
        written ∙ is ∙ sym mine
    by false same written = written

pub take_room : (old new : Lists) (hash : ℕ) (before after : Listed) (other : ℕ) → lookup (nat_eq hash) old ≡ Some before → Wrote old new hash after → before.room + 1 ≤ after.room → room_at old other + one_if (hash == other) ≤ room_at new other
take_room old new hash before after other there wrote is = by (nat_eq hash other) refl (wrote_room old new hash after wrote other)
  where
    by : (b : Bool) → nat_eq hash other ≡ b → room_at new other ≡ cond b after.room (room_at old other) → room_at old other + one_if b ≤ room_at new other
    by true same written =
        let mine : room_at old other ≡ before.room = subst (λ (h : ℕ). room_at old h ≡ before.room) (eqb-true hash other same) (found_room old hash before there) in
        omega (arith, written, mine, is)
    by false same written = omega (arith, written)

-- ---- a hash without slots is let go

-- what is found where one is taken out
pub forgot_slots : (old new : Lists) (hash : ℕ) (before : Listed) (other : ℕ) → lookup (nat_eq hash) old ≡ Some before → (length before.slots == 0) ≡ true
    → lookup (nat_eq other) new ≡ cond (nat_eq hash other) None (lookup (nat_eq other) old) → slots_at new other ≡ slots_at old other
forgot_slots old new hash before other there empty is = by (nat_eq hash other) refl is
  where
    none : (l : List ℕ) → (length l == 0) ≡ true → l ≡ []
    none [] e = refl
    none (x ∷ xs) e = absurd (omega (arith, eqb-true (length (x ∷ xs)) 0 e))

    by : (b : Bool) → nat_eq hash other ≡ b → lookup (nat_eq other) new ≡ cond b None (lookup (nat_eq other) old) → slots_at new other ≡ slots_at old other
    by true same found =
        let mine : slots_at old other ≡ before.slots = subst (λ (h : ℕ). slots_at old h ≡ before.slots) (eqb-true hash other same) (found_slots old hash before there) in
        ap (λ (o : Option Listed). option_map_or (λ (l : Listed). l.slots) o []) found ∙ sym (mine ∙ none before.slots empty)
    by false same found = ap (λ (o : Option Listed). option_map_or (λ (l : Listed). l.slots) o []) found

pub forgot_room : (old new : Lists) (hash other : ℕ) → (hash == other) ≡ false → lookup (nat_eq other) new ≡ cond (nat_eq hash other) None (lookup (nat_eq other) old) → room_at new other ≡ room_at old other
forgot_room old new hash other differs is =
    ap (λ (o : Option Listed). option_map_or (λ (l : Listed). l.room) o 0) (is ∙ ap (λ (b : Bool). cond b None (lookup (nat_eq other) old)) differs)
