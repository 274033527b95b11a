-- Lists of which the first items are those of another.
use Rattle.std.proofs.Common.{◌≡◌, ℕ, zero, suc, ◌+◌, ◌<◌, ◌≤◌, List, [], ◌∷◌, ◌++◌, append_assoc, append-nil, length, length-append, length-drop, map, get_or, set, take, take_all, drop, refl, sym, ap, ◌∙◌, arith}
use Rattle.std.proofs.lemmas.List.{drop-drop, drop_all, drop_at, length-map, length-take-le, take_at}
use Rattle.std.proofs.lemmas.Simd.{put_chunk_is}
use Rattle.std.proofs.Math.Seq.{drop-cons, set_split, take-add}
use Rattle.dist_rows.specs.Helps.Rows.{fronted}
use lib.Lanes.{put_chunk}

pub mapped_at : {A B : Type 0} (f : A → B) (list : List A) (at : ℕ) (d : A) → at < length list → get_or (map f list) at (f d) ≡ f (get_or list at d)
mapped_at f [] at d within = absurd (omega arith)
mapped_at f (x ∷ list) zero d within = refl
mapped_at f (x ∷ list) (suc at) d within = mapped_at f list at d (omega arith)

module _ {A : Type 0} where
  take_front : (at : ℕ) (front rest : List A) → at ≤ length front → take at (fronted at front rest) ≡ take at front
  take_front at front rest within = take_at (take at front) (drop at rest) at (length-take-le at front within)

  pub drop_front : (at : ℕ) (front rest : List A) → at ≤ length front → drop at (fronted at front rest) ≡ drop at rest
  drop_front at front rest within = drop_at (take at front) (drop at rest) at (length-take-le at front within)

  pub length_front : (at : ℕ) (front rest : List A) → at ≤ length front → at ≤ length rest → length (fronted at front rest) ≡ length rest
  length_front at front rest within few = omega (arith, length-append (take at front) (drop at rest), length-take-le at front within, length-drop at rest)

  -- more items behind the first
  front_more : (k at : ℕ) (front rest now after items : List A) → length front ≡ length rest → at + k ≤ length rest → now ≡ fronted at front rest → items ≡ take k (drop at front) → after ≡ take at now ++ (items ++ drop k (drop at now))
      → after ≡ fronted (at + k) front rest
  front_more k at front rest now after items same within is here made =
      let few : at ≤ length front = omega (arith, same, within) in
      let first : take at now ≡ take at front = ap (take at) is ∙ take_front at front rest few in
      let last : drop k (drop at now) ≡ drop (at + k) rest = ap (λ (l : List A). drop k (drop at l)) is ∙ ap (drop k) (drop_front at front rest few) ∙ drop-drop k at rest in
      made ∙ ap (λ (l : List A). l ++ (items ++ drop k (drop at now))) first ∙ ap (λ (l : List A). take at front ++ (l ++ drop k (drop at now))) here
      ∙ ap (λ (l : List A). take at front ++ (take k (drop at front) ++ l)) last ∙ sym (append_assoc (take at front) (take k (drop at front)) (drop (at + k) rest))
      ∙ ap (λ (l : List A). l ++ drop (at + k) rest) (sym (take-add at k front))

  pub front_put : (k at : ℕ) (front rest now after items : List A) → length front ≡ length rest → at + k ≤ length rest → length items ≡ k → now ≡ fronted at front rest → items ≡ take k (drop at front) → after ≡ put_chunk at now items
      → after ≡ fronted (at + k) front rest
  front_put k at front rest now after items same within size is here made =
      let long : length now ≡ length rest = ap (λ (l : List A). length l) is ∙ length_front at front rest (omega (arith, same, within)) (omega (arith, within)) in
      let put : put_chunk at now items ≡ take at now ++ (items ++ drop k (drop at now)) = put_chunk_is at now items (omega (arith, size, long, within)) ∙ ap (λ (n : ℕ). take at now ++ (items ++ drop n (drop at now))) size in
      front_more k at front rest now after items same within is here (made ∙ put)

  -- one item more
  pub front_set : (at : ℕ) (front rest now after : List A) (item d : A) → length front ≡ length rest → at < length rest → now ≡ fronted at front rest → item ≡ get_or front at d → after ≡ set now at item
      → after ≡ fronted (at + 1) front rest
  front_set at front rest now after item d same within is here made =
      let long : length now ≡ length rest = ap (λ (l : List A). length l) is ∙ length_front at front rest (omega (arith, same, within)) (omega (arith, within)) in
      let one : item ∷ [] ≡ take 1 (drop at front) = ap (λ (x : A). x ∷ []) here ∙ sym (ap (take 1) (drop-cons front at d (omega (arith, same, within)))) in
      let next : suc at ≡ at + 1 = omega arith in
      let rest_of : drop (suc at) now ≡ drop 1 (drop at now) = ap (λ (n : ℕ). drop n now) next ∙ sym (drop-drop 1 at now) in
      front_more 1 at front rest now after (item ∷ []) same (omega (arith, within)) is one (made ∙ set_split now at item (omega (arith, long, within)) ∙ ap (λ (l : List A). take at now ++ item ∷ l) rest_of)

  pub front_all : (at : ℕ) (front rest : List A) → length front ≡ length rest → length rest ≤ at → fronted at front rest ≡ front
  front_all at front rest same within =
      ap (λ (l : List A). l ++ drop at rest) (take_all at front (omega (arith, same, within))) ∙ ap (λ (l : List A). front ++ l) (drop_all at rest within) ∙ append-nil front

  -- ---- each item changed in turn

  behind_at : (list : List A) (at : ℕ) (d : A) → get_or list at d ≡ get_or (drop at list) 0 d
  behind_at [] zero d = refl
  behind_at [] (suc at) d = refl
  behind_at (x ∷ list) zero d = refl
  behind_at (x ∷ list) (suc at) d = behind_at list at d

  -- the item behind the first ones
  pub item_front : (at : ℕ) (front rest now : List A) (d : A) → length front ≡ length rest → at < length rest → now ≡ fronted at front rest → get_or now at d ≡ get_or rest at d
  item_front at front rest now d same within is =
      ap (λ (l : List A). get_or l at d) is ∙ behind_at (fronted at front rest) at d ∙ ap (λ (l : List A). get_or l 0 d) (drop_front at front rest (omega (arith, same, within))) ∙ sym (behind_at rest at d)

  pub front_mapped : (f : A → A) (at : ℕ) (rest now after : List A) (new d : A) → at < length rest → now ≡ fronted at (map f rest) rest → new ≡ f (get_or now at d) → after ≡ set now at new
      → after ≡ fronted (at + 1) (map f rest) rest
  front_mapped f at rest now after new d within is changed made =
      let same : length (map f rest) ≡ length rest = length-map rest f in
      let old : get_or now at d ≡ get_or rest at d = item_front at (map f rest) rest now d same within is in
      front_set at (map f rest) rest now after new (f d) same within is (changed ∙ ap f old ∙ sym (mapped_at f rest at d within)) made
