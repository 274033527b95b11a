-- Items that are printed in turn, and where a text that gets too long stops.
use Rattle.std.proofs.Common.{◌≡◌, ℕ, ◌≤◌, List, [], ◌∷◌, ◌++◌, length, map, refl, sym, ap, subst, ◌∙◌, append_assoc, length-append, arith}
use Rattle.std.specs.Prelude.{flat_map, IfErr, OnOk, Result, Ok, Err}
use Rattle.std.proofs.lemmas.List.{append-nil}
use Rattle.std.proofs.lemmas.List.Elements.{All-cons, All-head, All-tail, All-nil}
use Rattle.rbac_query.specs.Helps.Entries.{Adds, AreWith, StopsAt}
use Rattle.rbac_query.specs.Helps.Stops.{IsStop}
use Rattle.rbac_query.specs.declared.stop.ReportStop.{ReportStop}
use Rattle.rbac_query.specs.declared.stop.ReportStop.TheVariants.{NoTable, TooLong, NoMemory}

-- what is too long is too long with more behind it
pub longer : (most : ℕ) (short long : List ℕ) (stop : ReportStop) → length short ≤ length long → IsStop most short stop → IsStop most long stop
longer most short long NoTable less is = is
longer most short long TooLong less is = omega arith
longer most short long NoMemory less is = is

pub in_front : (short more : List ℕ) → length short ≤ length (short ++ more)
in_front short more = omega (arith, length-append short more)

module _ {X Y : Type 0} (key : X → Y) (Is : X → Type 0) (print : X → List ℕ) where
  -- items in two parts, by their keys
  record Parts (front back : List Y) (items : List X) : Type 0 where
    before : List X
    behind : List X
    are : items ≡ before ++ behind
    first : AreWith key Is front before
    second : AreWith key Is back behind

  parts : (front back : List Y) (items : List X) → AreWith key Is (front ++ back) items → Parts front back items
  parts [] back items all = record { before = []; behind = items; are = refl; first = record { keys_are = refl; each = All-nil Is }; second = all }
  parts (y ∷ front) back [] all = absurd (let e = all.keys_are in cc)
  parts (y ∷ front) back (x ∷ items) all =
      let e = all.keys_are in
      let head : key x ≡ y = cc in
      let tail : map key items ≡ front ++ back = cc in
      let rest = parts front back items (record { keys_are = tail; each = All-tail Is x items all.each }) in
      let keys = rest.first.keys_are in
      record {
        before = x ∷ rest.before;
        behind = rest.behind;
        are = ap (λ (l : List X). x ∷ l) rest.are;
        first = record { keys_are = (λ j. head j ∷ keys j); each = All-cons Is x rest.before (All-head Is x items all.each) rest.first.each };
        second = rest.second;
      }

  -- a key with its item
  record One (y : Y) (items : List X) : Type 0 where
    item : X
    are : items ≡ item ∷ []
    key_is : key item ≡ y
    is : Is item

  one : (y : Y) (items : List X) → AreWith key Is (y ∷ []) items → One y items
  one y [] all = absurd (let e = all.keys_are in cc)
  one y (x ∷ []) all = record { item = x; are = refl; key_is = (let e = all.keys_are in cc); is = All-head Is x [] all.each }
  one y (x ∷ z ∷ items) all = absurd (let e = all.keys_are in cc)

  flat_both : (xs ys : List X) → flat_map print (xs ++ ys) ≡ flat_map print xs ++ flat_map print ys
  flat_both [] ys = refl
  flat_both (x ∷ xs) ys = ap (λ (l : List ℕ). print x ++ l) (flat_both xs ys) ∙ sym (append_assoc (print x) (flat_map print xs) (flat_map print ys))

  pub adds_none : (start : List ℕ) → Adds key Is print start [] start
  adds_none start [] all = sym (append-nil start)
  adds_none start (x ∷ items) all = absurd (let e = all.keys_are in cc)

  module _ (start : List ℕ) (keys : List Y) (y : Y) (text : List ℕ) (so_far : Adds key Is print start keys text) where
    -- the last item, and what is printed up to it
    record Last (items : List X) : Type 0 where
      item : X
      key_is : key item ≡ y
      is : Is item
      upto : text ++ print item ≡ start ++ flat_map print items

    last_of : (items : List X) → AreWith key Is (keys ++ y ∷ []) items → Last items
    last_of items all =
        let split = parts keys (y ∷ []) items all in
        let last = one y split.behind split.second in
        let items_are : items ≡ split.before ++ last.item ∷ [] = split.are ∙ ap (λ (l : List X). split.before ++ l) last.are in
        let printed : flat_map print items ≡ flat_map print split.before ++ print last.item =
        ap (flat_map print) items_are ∙ flat_both split.before (last.item ∷ []) ∙ ap (λ (l : List ℕ). flat_map print split.before ++ l) (append-nil (print last.item)) in
        record {
          item = last.item;
          key_is = last.key_is;
          is = last.is;
          upto = ap (λ (l : List ℕ). l ++ print last.item) (so_far split.before split.first) ∙ append_assoc start (flat_map print split.before) (print last.item) ∙ ap (λ (l : List ℕ). start ++ l) (sym printed);
        }

    -- one item more
    pub adds_one : (new : List ℕ) → ((x : X) → key x ≡ y → Is x → new ≡ text ++ print x) → Adds key Is print start (keys ++ y ∷ []) new
    adds_one new next items all = let last = last_of items all in next last.item last.key_is last.is ∙ last.upto

    -- an item at which it stops
    pub stops_one : (most : ℕ) (stop : ReportStop) (others : List Y) → ((x : X) → key x ≡ y → Is x → IsStop most (text ++ print x) stop) → StopsAt key Is print most start (keys ++ y ∷ others) stop
    stops_one most stop others next items all =
        let split = parts (keys ++ y ∷ []) others items (record { keys_are = all.keys_are ∙ sym (append_assoc keys (y ∷ []) others); each = all.each }) in
        let last = last_of split.before split.first in
        let printed : flat_map print items ≡ flat_map print split.before ++ flat_map print split.behind = ap (flat_map print) split.are ∙ flat_both split.before split.behind in
        let whole : start ++ flat_map print items ≡ (start ++ flat_map print split.before) ++ flat_map print split.behind =
        ap (λ (l : List ℕ). start ++ l) printed ∙ sym (append_assoc start (flat_map print split.before) (flat_map print split.behind)) in
        subst (λ (l : List ℕ). IsStop most l stop) (sym whole)
        (longer most (start ++ flat_map print split.before) ((start ++ flat_map print split.before) ++ flat_map print split.behind) stop (in_front (start ++ flat_map print split.before) (flat_map print split.behind))
        (subst (λ (l : List ℕ). IsStop most l stop) last.upto (next last.item last.key_is last.is)))

module _ {X Y : Type 0} (key : X → Y) (Is : X → Type 0) where
  -- items that are known by their keys are one list
  pub items_one : ((x z : X) → key x ≡ key z → Is x → Is z → x ≡ z) → (keys : List Y) (items others : List X) → AreWith key Is keys items → AreWith key Is keys others → items ≡ others
  items_one known keys [] [] one two = refl
  items_one known keys [] (z ∷ others) one two = absurd (let e : [] ≡ key z ∷ map key others = one.keys_are ∙ sym two.keys_are in cc)
  items_one known keys (x ∷ items) [] one two = absurd (let e : key x ∷ map key items ≡ [] = one.keys_are ∙ sym two.keys_are in cc)
  items_one known keys (x ∷ items) (z ∷ others) one two =
      let e : key x ∷ map key items ≡ key z ∷ map key others = one.keys_are ∙ sym two.keys_are in
      let head : key x ≡ key z = cc in
      let tail : map key items ≡ map key others = cc in
      let same = known x z head (All-head Is x items one.each) (All-head Is z others two.each) in
      let rest = items_one known (map key others) items others (record { keys_are = tail; each = All-tail Is x items one.each }) (record { keys_are = refl; each = All-tail Is z others two.each }) in
      (λ j. same j ∷ rest j)

  -- a list of keys with an item each
  pub items_there : ((y : Y) → (x : X) × (key x ≡ y) × Is x) → (keys : List Y) → (items : List X) × AreWith key Is keys items
  items_there each [] = ([], record { keys_are = refl; each = All-nil Is })
  items_there each (y ∷ keys) =
      let here = each y in
      let rest = items_there each keys in
      let head = here.1 in
      let tail = rest.1.keys_are in
      (here.0 ∷ rest.0, record { keys_are = (λ j. head j ∷ tail j); each = All-cons Is here.0 rest.0 here.2 rest.1.each })

pub on_ok : {T E : Type 0} (r : Result T E) (P Q : Type 0) → (P → Q) → OnOk r P → OnOk r Q
on_ok (Ok value) P Q to p = to p
on_ok (Err fault) P Q to p = p

pub if_err : {T E : Type 0} (r : Result T E) (P Q : E → Type 0) → ((fault : E) → P fault → Q fault) → IfErr r P → IfErr r Q
if_err (Ok value) P Q to p = p
if_err (Err fault) P Q to p = to fault p
