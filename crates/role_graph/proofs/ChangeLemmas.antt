-- The groups of a graph while the users of an edit are given their roles.
use Rattle.std.proofs.Common.{◌≡◌, ◌≤◌, ◌+◌, ℕ, Bool, true, false, cond, List, [], ◌∷◌, ◌++◌, length, refl, sym, ap, ◌∙◌, arith, length-append}
use Rattle.std.specs.Prelude.{All, not}
use Rattle.std.specs.List.{count_by}
use Rattle.std.specs.Str.{bytes_eq}
use Rattle.std.proofs.lemmas.Bool.{false≢true}
use Rattle.std.proofs.lemmas.List.Elements.{All-weaker}
use Rattle.perm_base.specs.Patterns.{is_pattern}
use Rattle.perm_base.specs.declared.shapes.Fit.{Fit}
use Rattle.policy_table.specs.Tables.{Fields}
use Rattle.role_graph.specs.Groups.{Group, after, rows_of, times}
use Rattle.role_graph.specs.Helps.Edits.{overlay, standing}
use Rattle.role_graph.specs.Helps.Kept.{AreApart, AreKept, AreLinks, HasRoom, Kept, Parts, linked_of, roles_in, roles_under}
use Rattle.role_graph.proofs.CountLemmas.{as_long, rows_both, some_rows, times_after, times_linked_all}
use Rattle.role_graph.proofs.PutLemmas.{same_text}

-- the users of `left` are still to be given their roles
pub record IsChanging (start : Parts) (all left : List Group) (now : Parts) : Type 0 where
  pub names : now.names ≡ start.names
  pub roles : (user : List ℕ) → overlay left (roles_in now user) user ≡ overlay all (roles_in start user) user
  pub room : HasRoom (length left) now
  pub texts : All (λ (group : Group). is_pattern now.names group.user ≡ false) now.plain.groups
  pub patterns : All (λ (group : Group). is_pattern now.names group.user ≡ true) now.patterned.groups
  pub kept_texts : AreKept now.plain.groups
  pub kept_patterns : AreKept now.patterned.groups

pub changing_none : (start : Parts) (all : List Group) → AreLinks start.names start.plain.groups start.patterned.groups → HasRoom (length all) start → IsChanging start all all start
changing_none start all sound room = record {
  names = refl;
  roles = λ user. refl;
  room = room;
  texts = sound.texts;
  patterns = sound.patterns;
  kept_texts = sound.kept_texts;
  kept_patterns = sound.kept_patterns;
}

-- the last group stands behind the others
overlay_last : (user : List ℕ) (left : List Group) (last : Group) (base now : List (List ℕ)) → now ≡ cond (bytes_eq user last.user) last.roles base → overlay left now user ≡ overlay (left ++ last ∷ []) base user
overlay_last user [] last base now is = is
overlay_last user (group ∷ left) last base now is = ap (λ (rest : List (List ℕ)). cond (bytes_eq user group.user) group.roles rest) (overlay_last user left last base now is)

-- what a put in one part says of all users
pub record Puts (old new : Parts) (last : Group) : Type 0 where
  pub names : new.names ≡ old.names
  pub roles : (user : List ℕ) → roles_in new user ≡ cond (bytes_eq user last.user) last.roles (roles_in old user)

pub put_text : (names : Fit) (old new : Kept) (patterned : Kept) (last : Group) → is_pattern names last.user ≡ false → ((name : List ℕ) → roles_under name new.groups ≡ cond (bytes_eq name last.user) last.roles (roles_under name old.groups)) → (user : List ℕ) → roles_in (record { plain = new; patterned = patterned; names = names }) user ≡ cond (bytes_eq user last.user) last.roles (roles_in (record { plain = old; patterned = patterned; names = names }) user)
put_text names old new patterned last is put user = by (is_pattern names user) refl (bytes_eq user last.user) refl
  where
    by : (test : Bool) → is_pattern names user ≡ test → (here : Bool) → bytes_eq user last.user ≡ here → cond test (roles_under user patterned.groups) (roles_under user new.groups) ≡ cond here last.roles (cond test (roles_under user patterned.groups) (roles_under user old.groups))
    by false other here same = put user ∙ ap (λ (t : Bool). cond t last.roles (roles_under user old.groups)) same
    by true pattern false same = refl
    by true pattern true same = absurd (false≢true (sym is ∙ ap (is_pattern names) (sym (same_text user last.user same)) ∙ pattern))

pub put_pattern : (names : Fit) (plain : Kept) (old new : Kept) (last : Group) → is_pattern names last.user ≡ true → ((name : List ℕ) → roles_under name new.groups ≡ cond (bytes_eq name last.user) last.roles (roles_under name old.groups)) → (user : List ℕ) → roles_in (record { plain = plain; patterned = new; names = names }) user ≡ cond (bytes_eq user last.user) last.roles (roles_in (record { plain = plain; patterned = old; names = names }) user)
put_pattern names plain old new last is put user = by (is_pattern names user) refl (bytes_eq user last.user) refl
  where
    by : (test : Bool) → is_pattern names user ≡ test → (here : Bool) → bytes_eq user last.user ≡ here → cond test (roles_under user new.groups) (roles_under user plain.groups) ≡ cond here last.roles (cond test (roles_under user old.groups) (roles_under user plain.groups))
    by true pattern here same = put user ∙ ap (λ (t : Bool). cond t last.roles (roles_under user old.groups)) same
    by false other false same = refl
    by false other true same = absurd (false≢true (sym other ∙ ap (is_pattern names) (same_text user last.user same) ∙ is))

pub changing_text : (start : Parts) (all before left : List Group) (names : Fit) (plain new patterned : Kept) (last : Group) → before ≡ left ++ last ∷ [] → is_pattern names last.user ≡ false → ((name : List ℕ) → roles_under name new.groups ≡ cond (bytes_eq name last.user) last.roles (roles_under name plain.groups)) → ((test : List ℕ → Bool) → test last.user ≡ true → All (λ (group : Group). test group.user ≡ true) plain.groups → All (λ (group : Group). test group.user ≡ true) new.groups) → AreKept new.groups → plain.spare ≤ new.spare + 1 → IsChanging start all before (record { plain = plain; patterned = patterned; names = names }) → IsChanging start all left (record { plain = new; patterned = patterned; names = names })
changing_text start all before left names plain new patterned last parts is put users kept spare changing = record {
  names = changing.names;
  roles = λ user. overlay_last user left last (roles_in (record { plain = plain; patterned = patterned; names = names }) user) (roles_in (record { plain = new; patterned = patterned; names = names }) user) (put_text names plain new patterned last is put user)
      ∙ ap (λ (groups : List Group). overlay groups (roles_in (record { plain = plain; patterned = patterned; names = names }) user) user) (sym parts) ∙ changing.roles user;
  room = record {
    plain = omega (arith, ap length parts, length-append left (last ∷ []), changing.room.plain, spare);
    patterned = omega (arith, ap length parts, length-append left (last ∷ []), changing.room.patterned);
  };
  texts = back new.groups (users not_pattern (ap not is) (forth plain.groups changing.texts));
  patterns = changing.patterns;
  kept_texts = kept;
  kept_patterns = changing.kept_patterns;
}
  where
    not_pattern : List ℕ → Bool
    not_pattern user = not (is_pattern names user)

    flip : (test : Bool) → test ≡ false → not test ≡ true
    flip test no_pattern = ap not no_pattern

    unflip : (test : Bool) → not test ≡ true → test ≡ false
    unflip true wrong = absurd (false≢true wrong)
    unflip false right = refl

    forth : (groups : List Group) → All (λ (group : Group). is_pattern names group.user ≡ false) groups → All (λ (group : Group). not_pattern group.user ≡ true) groups
    forth groups every = All-weaker (λ (group : Group). is_pattern names group.user ≡ false) (λ (group : Group). not_pattern group.user ≡ true) (λ group no_pattern. flip (is_pattern names group.user) no_pattern) groups every

    back : (groups : List Group) → All (λ (group : Group). not_pattern group.user ≡ true) groups → All (λ (group : Group). is_pattern names group.user ≡ false) groups
    back groups every = All-weaker (λ (group : Group). not_pattern group.user ≡ true) (λ (group : Group). is_pattern names group.user ≡ false) (λ group right. unflip (is_pattern names group.user) right) groups every

pub changing_pattern : (start : Parts) (all before left : List Group) (names : Fit) (plain patterned new : Kept) (last : Group) → before ≡ left ++ last ∷ [] → is_pattern names last.user ≡ true → ((name : List ℕ) → roles_under name new.groups ≡ cond (bytes_eq name last.user) last.roles (roles_under name patterned.groups)) → ((test : List ℕ → Bool) → test last.user ≡ true → All (λ (group : Group). test group.user ≡ true) patterned.groups → All (λ (group : Group). test group.user ≡ true) new.groups) → AreKept new.groups → patterned.spare ≤ new.spare + 1 → IsChanging start all before (record { plain = plain; patterned = patterned; names = names }) → IsChanging start all left (record { plain = plain; patterned = new; names = names })
changing_pattern start all before left names plain patterned new last parts is put users kept spare changing = record {
  names = changing.names;
  roles = λ user. overlay_last user left last (roles_in (record { plain = plain; patterned = patterned; names = names }) user) (roles_in (record { plain = plain; patterned = new; names = names }) user) (put_pattern names plain patterned new last is put user)
      ∙ ap (λ (groups : List Group). overlay groups (roles_in (record { plain = plain; patterned = patterned; names = names }) user) user) (sym parts) ∙ changing.roles user;
  room = record {
    plain = omega (arith, ap length parts, length-append left (last ∷ []), changing.room.plain);
    patterned = omega (arith, ap length parts, length-append left (last ∷ []), changing.room.patterned, spare);
  };
  texts = changing.texts;
  patterns = users (is_pattern names) is changing.patterns;
  kept_texts = changing.kept_texts;
  kept_patterns = kept;
}

standing_equal : (start : Parts) (all : List Group) (now : Parts) → IsChanging start all [] now → (one : Fields) → standing now [] one ≡ standing start all one
standing_equal start all now changing [] = refl
standing_equal start all now changing (a ∷ []) = refl
standing_equal start all now changing (a ∷ b ∷ []) = ap (count_by (bytes_eq b)) (changing.roles a)
standing_equal start all now changing (a ∷ b ∷ c ∷ more) = refl

-- the rows at the end
pub changed_rows : (start : Parts) (all : List Group) (now : Parts) → AreLinks start.names start.plain.groups start.patterned.groups → AreApart all → IsChanging start all [] now → (one : Fields) → times one (rows_of (linked_of now).groups) ≡ times one (after all (rows_of (linked_of start).groups))
changed_rows start all now sound apart changing one =
    times_linked_all now changing.texts changing.patterns changing.kept_texts changing.kept_patterns one ∙ standing_equal start all now changing one ∙ sym (times_after start all sound apart one)

-- there are no more groups than rows
pub changed_links : (start : Parts) (all : List Group) (now : Parts) → AreLinks start.names start.plain.groups start.patterned.groups → AreApart all → length (after all (rows_of (linked_of start).groups)) ≤ 200000 → IsChanging start all [] now → AreLinks now.names now.plain.groups now.patterned.groups
changed_links start all now sound apart few changing = record {
  texts = changing.texts;
  patterns = changing.patterns;
  few = limited;
  kept_texts = changing.kept_texts;
  kept_patterns = changing.kept_patterns;
}
  where
    long : length (rows_of (now.plain.groups ++ now.patterned.groups)) ≡ length (after all (rows_of (linked_of start).groups))
    long = as_long (rows_of (now.plain.groups ++ now.patterned.groups)) (after all (rows_of (linked_of start).groups)) (changed_rows start all now sound apart changing)

    limited : length now.plain.groups + length now.patterned.groups ≤ 200000
    limited =
        let texts : length now.plain.groups ≤ length (rows_of now.plain.groups) = some_rows now.plain.groups changing.kept_texts.some in
        let patterns : length now.patterned.groups ≤ length (rows_of now.patterned.groups) = some_rows now.patterned.groups changing.kept_patterns.some in
        let both : length (rows_of (now.plain.groups ++ now.patterned.groups)) ≡ length (rows_of now.plain.groups ++ rows_of now.patterned.groups) = ap length (rows_both now.plain.groups now.patterned.groups) in
        omega (arith, texts, patterns, both, long, few, length-append (rows_of now.plain.groups) (rows_of now.patterned.groups))
