-- What a hasher was fed, item by item and member by member.
use Rattle.std.proofs.Common.{◌≡◌, ℕ, ◌+◌, ◌<◌, List, ◌∷◌, ◌++◌, length, drop, get_or, fold, string_bytes, refl, sym, ap, ◌∙◌}
use Rattle.std.specs.Hash as fed
use Rattle.std.specs.Hash.{fed_then}
use Rattle.std.proofs.lemmas.List.{drop_more}
use Rattle.perm_value.specs.Hashed.{datum_fed, items_fed, members_fed}
use Rattle.perm_value.specs.Seen.{datum, items}
use Rattle.perm_value.specs.declared.value.Value.{Value}
use Rattle.perm_value.proofs.MemberLemmas.{Named, listed}

-- what is to be fed from a state on comes to one end, also behind one item more
pub item_fed : {S : Type 0} (write : S → List ℕ → S) (state next end : S) (vs : List Value) (i : ℕ) (v : Value) → i < length vs → v ≡ get_or vs i v
    → fold write state (items_fed (items (drop i vs))) ≡ end → next ≡ fold write state (datum_fed (datum v)) → fold write next (items_fed (items (drop (i + 1) vs))) ≡ end
item_fed write state next end vs i v within here before step =
    let rest = drop (i + 1) vs in
    let shown : drop i vs ≡ v ∷ rest = drop_more vs i v within ∙ ap (λ w. w ∷ rest) (sym here) in
    fed_then write state next (fold write next (items_fed (items rest))) (datum_fed (datum v)) (items_fed (items rest)) step refl
    ∙ ap (λ l. fold write state (items_fed (items l))) (sym shown) ∙ before

-- also behind one member more
pub member_fed : {S : Type 0} (write : S → List ℕ → S) (state named next end : S) (left : List Named) (e : Named) (rest : List Named) → left ≡ e ∷ rest
    → fold write state (members_fed (listed left)) ≡ end → named ≡ fold write state (fed.str (string_bytes e.0)) → next ≡ fold write named (datum_fed (datum e.1))
    → fold write next (members_fed (listed rest)) ≡ end
member_fed write state named next end left e rest shown before name step =
    let back = members_fed (listed rest) in
    let inner = fed_then write named next (fold write next back) (datum_fed (datum e.1)) back step refl in
    fed_then write state named (fold write next back) (fed.str (string_bytes e.0)) (datum_fed (datum e.1) ++ back) name inner
    ∙ ap (λ l. fold write state (members_fed (listed l))) (sym shown) ∙ before
