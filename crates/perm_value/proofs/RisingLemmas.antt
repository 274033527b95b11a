-- The names of each object in a value rise, by induction on the value.
use Rattle.std.proofs.Common.{List, [], ◌∷◌, map, String, Global, string_bytes, sym, subst}
use Rattle.perm_value.specs.Datum.{Datum, items_of, HasRisingNames, ItemsHaveRisingNames, MembersHaveRisingNames}
use Rattle.perm_value.specs.Seen.{datum, datum_step, datum_of_view, items, members}
use Rattle.perm_value.specs.declared.value.Value.{Value}
use Rattle.perm_value.specs.declared.value.View.{View}
use Rattle.perm_value.specs.declared.value.View.TheVariants as view
use Rattle.perm_value.specs.declared.value.Value.TheOpen.{Value-F}
use Rattle.perm_value.specs.declared.value.Value.TheFolds.{map-Value, fold-roll-Value, ind-Value}
use Rattle.perm_value.proofs.MemberLemmas.{Named, members_rise, inner_put}

abbrev Rising : Type 0
Rising = (v : Value) × HasRisingNames (datum v)

items_rise : (vs : List Rising) → ItemsHaveRisingNames (items_of (map datum (map (λ e. e.0) vs)))
items_rise [] = tt
items_rise (v ∷ vs) = (v.1, items_rise vs)

inner_rise : (ms : List (String Global × Rising)) → MembersHaveRisingNames (members (map (λ (e : String Global × Rising). (e.0, e.1.0)) ms))
inner_rise [] = tt
inner_rise (m ∷ ms) = inner_put _ _ _ m.1.1 (inner_rise ms)

one_level : (y : Value-F Rising) → HasRisingNames (datum_step (map-Value Value Datum datum (map-Value Rising Value (λ e. e.0) y)))
one_level (Value-F.Text t) = tt
one_level (Value-F.Whole n) = tt
one_level (Value-F.Truth b) = tt
one_level (Value-F.List v) = items_rise v.items
one_level (Value-F.Object m) = (members_rise (map (λ e. (e.0, datum e.1)) (map (λ (e : String Global × Rising). (e.0, e.1.0)) m.entries)), inner_rise m.entries)
one_level Value-F.Nothing = tt

pub names_rise : (v : Value) → HasRisingNames (datum v)
names_rise = ind-Value (λ v. HasRisingNames (datum v)) (λ x y is.
    subst HasRisingNames (sym (fold-roll-Value Datum datum_step x)) (subst (λ z. HasRisingNames (datum_step (map-Value Value Datum datum z))) is (one_level y)))

all_rise : (vs : List Value) → ItemsHaveRisingNames (items vs)
all_rise [] = tt
all_rise (v ∷ vs) = (names_rise v, all_rise vs)

each_rises : (es : List Named) → MembersHaveRisingNames (members es)
each_rises [] = tt
each_rises (e ∷ es) = inner_put (string_bytes e.0) (datum e.1) (members es) (names_rise e.1) (each_rises es)

pub view_names_rise : (v : View) → HasRisingNames (datum_of_view v)
view_names_rise (view.Text t) = tt
view_names_rise (view.Whole n) = tt
view_names_rise (view.Truth b) = tt
view_names_rise (view.List v) = all_rise v.now
view_names_rise (view.Object m) = (members_rise (map (λ e. (e.0, datum e.1)) m.now.entries), each_rises m.now.entries)
view_names_rise view.Nothing = tt
