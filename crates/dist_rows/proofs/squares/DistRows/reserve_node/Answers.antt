use Rattle.std.proofs.Common.{◌≡◌, ℕ, ◌+◌, ◌≤◌, List, ◌++◌, length, max, take, drop, sym, ap, subst, ◌∙◌, arith, refl}
use Rattle.dist_rows.proofs.SeenLemmas.{seen_size, written_back}
use Rattle.dist_rows.proofs.SquareLemmas.{kept_added, kept_room}
use Rattle.dist_rows.specs.Helps.Rows.{AreRows, IsKept, RowSeen}
use Rattle.dist_rows.proofs.squares.DistRows.reserve_node.Goals as goal

pub invariant_of-self-in_err-reserve_all : goal.invariant_of-self-in_err-reserve_all
invariant_of-self-in_err-reserve_all c =
    let rows : c.deref_mut.result.now ≡ c.self.inside.rows.items = c.deref_mut.ensures.value ∙ c.reserve.ensures.items in
    let back = written_back c.reserve.new.self.len c.reserve_all.new.rows c.reserve.new.self.items (c.reserve_all.auto.rows ∙ c.deref_mut.ensures.len) in
    subst (λ (l : List RowSeen). IsKept l c.self.inside.free.items c.reserve.new.self.cap) (sym back)
    (kept_room c.self.inside.rows.items c.self.inside.free.items c.reserve_all.new.rows c.self.inside.free.items _ _ c.self.invariant (c.reserve_all.auto.rows ∙ ap length rows) refl
    (λ size most are. c.reserve_all.ensures.more size most (subst (AreRows size most) (sym rows) are)) (λ size most are. are) c.reserve.ensures.capacity)

pub invariant_of-self-in_err-reserve_all-2 : goal.invariant_of-self-in_err-reserve_all-2
invariant_of-self-in_err-reserve_all-2 c =
    let rows : c.deref_mut.result.now ≡ c.self.inside.rows.items = c.deref_mut.ensures.value ∙ c.reserve.ensures.items in
    let free : c.deref_mut-2.result.now ≡ c.self.inside.free.items = c.deref_mut-2.ensures.value in
    let back = written_back c.reserve.new.self.len c.reserve_all.new.rows c.reserve.new.self.items (c.reserve_all.auto.rows ∙ c.deref_mut.ensures.len) in
    let last = written_back c.self.inside.free.len c.reserve_all-2.new.rows c.self.inside.free.items (c.reserve_all-2.auto.rows ∙ c.deref_mut-2.ensures.len) in
    subst (λ (l : List RowSeen). IsKept (take c.reserve.new.self.len (c.reserve_all.new.rows ++ drop (length c.reserve_all.new.rows) c.reserve.new.self.items)) l c.reserve.new.self.cap) (sym last)
    (subst (λ (l : List RowSeen). IsKept l c.reserve_all-2.new.rows c.reserve.new.self.cap) (sym back)
    (kept_room c.self.inside.rows.items c.self.inside.free.items c.reserve_all.new.rows c.reserve_all-2.new.rows _ _ c.self.invariant (c.reserve_all.auto.rows ∙ ap length rows) (c.reserve_all-2.auto.rows ∙ ap length free)
    (λ size most are. c.reserve_all.ensures.more size most (subst (AreRows size most) (sym rows) are)) (λ size most are. c.reserve_all-2.ensures.more size most (subst (AreRows size most) (sym free) are)) c.reserve.ensures.capacity))

pub add_free-requires : goal.add_free-requires
add_free-requires c =
    let free : c.deref_mut-2.result.now ≡ c.self.inside.free.items = c.deref_mut-2.ensures.value in
    let last = written_back c.self.inside.free.len c.reserve_all-2.new.rows c.self.inside.free.items (c.reserve_all-2.auto.rows ∙ c.deref_mut-2.ensures.len) in
    subst (AreRows 0 (c.len.result + c.max.result)) (sym last) (c.in_ok-reserve_all-2.ensures.room 0 _ (subst (AreRows 0 _) (sym free) c.self.invariant.free))

pub invariant_of-self-2 : goal.invariant_of-self-2
invariant_of-self-2 c =
    let rows : c.deref_mut.result.now ≡ c.self.inside.rows.items = c.deref_mut.ensures.value ∙ c.reserve.ensures.items in
    let free : c.deref_mut-2.result.now ≡ c.self.inside.free.items = c.deref_mut-2.ensures.value in
    let back = written_back c.reserve.new.self.len c.reserve_all.new.rows c.reserve.new.self.items (c.reserve_all.auto.rows ∙ c.deref_mut.ensures.len) in
    let last = written_back c.self.inside.free.len c.reserve_all-2.new.rows c.self.inside.free.items (c.reserve_all-2.auto.rows ∙ c.deref_mut-2.ensures.len) in
    let size : c.len.result ≡ length c.self.inside.rows.items = c.len.ensures ∙ sym c.reserve.ensures.len ∙ sym c.deref_mut.ensures.len ∙ ap length rows in
    let most : c.max.result ≡ max c.args.count (length c.self.inside.free.items) = c.max.ensures ∙ ap (max c.args.count) (c.len-2.ensures ∙ sym c.deref_mut-2.ensures.len ∙ ap length free) in
    let unused = ap length last ∙ c.reserve_all-2.auto.rows ∙ ap length free in
    let few : length c.add_free.new.free.items ≤ max c.args.count (length c.self.inside.free.items) = subst (λ (n : ℕ). length c.add_free.new.free.items ≤ max c.args.count n) unused c.add_free.ensures.few in
    let fits : length c.self.inside.rows.items + c.args.count ≤ c.reserve.new.self.cap = omega (arith, size, c.len.ensures, c.reserve.ensures.len, c.in_ok-reserve.ensures.ok) in
    subst (λ (l : List RowSeen). IsKept l c.add_free.new.free.items c.reserve.new.self.cap) (sym back)
    (kept_added c.self.inside.rows.items c.self.inside.free.items c.reserve_all.new.rows c.add_free.new.free.items _ _ c.args.count (c.len.result + c.max.result) c.self.invariant (c.reserve_all.auto.rows ∙ ap length rows)
    (c.in_ok-reserve_all.ensures.room (length c.self.inside.rows.items) _ (subst (AreRows (length c.self.inside.rows.items) _) (sym rows) c.self.invariant.rows))
    c.add_free.ensures.rows (omega (arith, size, most)) few c.reserve.ensures.capacity fits (omega (arith, seen_size c.self.inside.rows.items (length c.self.inside.free.items) c.args.self.now c.self.view_is, c.requires)))
