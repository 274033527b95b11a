-- Chains of links, and what one link more makes of them.
use Rattle.std.proofs.Common.{◌≡◌, ◌⊎◌, inl, inr, ◌<◌, ◌≤◌, ◌+◌, ℕ, zero, suc, refl, sym, subst, ◌∙◌, arith}
use Rattle.dist_rows.specs.Squares.{sum_of}
use Rattle.role_meaning.specs.Distances.{farthest}
use Rattle.role_meaning.specs.Least.{IsLeast}
use Rattle.role_graph.specs.Helps.Squares.{Chain, Through}
use Rattle.role_graph.proofs.Leasts.{cases_sum, least_below}

pub chain_itself : (Link : ℕ → ℕ → Type 0) (links a b : ℕ) → a ≡ b → Chain Link links a b
unfolding Chain
chain_itself Link zero a b same = same
chain_itself Link (suc links) a b same = inl same

pub chain_none : (Link : ℕ → ℕ → Type 0) (a b : ℕ) → Chain Link 0 a b → a ≡ b
unfolding Chain
chain_none Link a b same = same

pub chain_link : (Link : ℕ → ℕ → Type 0) (links a next b : ℕ) → Link a next → Chain Link links next b → Chain Link (suc links) a b
unfolding Chain
chain_link Link links a next b link chain = inr (next, link, chain)

pub chain_more : (Link : ℕ → ℕ → Type 0) (fewer links a b : ℕ) → fewer ≤ links → Chain Link fewer a b → Chain Link links a b
unfolding Chain
chain_more Link zero links a b less same = chain_itself Link links a b same
chain_more Link (suc fewer) zero a b less chain = absurd (omega arith)
chain_more Link (suc fewer) (suc links) a b less (inl same) = inl same
chain_more Link (suc fewer) (suc links) a b less (inr (next, link, chain)) = inr (next, link, chain_more Link fewer links next b (omega arith) chain)

pub chain_weaker : (Link Other : ℕ → ℕ → Type 0) (links a b : ℕ) → ((a b : ℕ) → Link a b → Other a b) → Chain Link links a b → Chain Other links a b
unfolding Chain
chain_weaker Link Other zero a b weaker same = same
chain_weaker Link Other (suc links) a b weaker (inl same) = inl same
chain_weaker Link Other (suc links) a b weaker (inr (next, link, chain)) = inr (next, weaker a next link, chain_weaker Link Other links next b weaker chain)

pub chain_joined : (Link : ℕ → ℕ → Type 0) (before behind a b c : ℕ) → Chain Link before a b → Chain Link behind b c → Chain Link (before + behind) a c
unfolding Chain
chain_joined Link zero behind a b c same chain =
    subst (λ (k : ℕ). Chain Link k a c) (let e : behind ≡ zero + behind = omega arith in e) (subst (λ (n : ℕ). Chain Link behind n c) (sym same) chain)
chain_joined Link (suc before) behind a b c (inl same) chain = chain_more Link behind (suc before + behind) a c (omega arith) (subst (λ (n : ℕ). Chain Link behind n c) (sym same) chain)
chain_joined Link (suc before) behind a b c (inr (next, link, first)) chain =
    subst (λ (k : ℕ). Chain Link k a c) (let e : suc (before + behind) ≡ suc before + behind = omega arith in e) (chain_link Link (before + behind) a next c link (chain_joined Link before behind next b c first chain))

-- ---- one link more

-- the link from `from` to `to` beside the others
abbrev pub WithLink : (ℕ → ℕ → Type 0) → ℕ → ℕ → ℕ → ℕ → Type 0
WithLink Link from to a b = Link a b ⊎ ((a ≡ from) × (b ≡ to))

through_more : (Link : ℕ → ℕ → Type 0) (from to links a next b : ℕ) → Link a next → Through Link from to links next b → Through Link from to (suc links) a b
through_more Link from to links a next b link through = record {
  before = suc through.before;
  behind = through.behind;
  few = omega (arith, through.few);
  first = chain_link Link through.before a next from link through.first;
  last = through.last;
}

-- a chain with one link more is one without it, or goes by it once
pub link_more : (Link : ℕ → ℕ → Type 0) (from to links a b : ℕ) → Chain (WithLink Link from to) links a b → Chain Link links a b ⊎ Through Link from to links a b
unfolding Chain
link_more Link from to zero a b same = inl same
link_more Link from to (suc links) a b (inl same) = inl (inl same)
link_more Link from to (suc links) a b (inr (next, link, chain)) = by link (link_more Link from to links next b chain)
  where
    by : WithLink Link from to a next → Chain Link links next b ⊎ Through Link from to links next b → Chain Link (suc links) a b ⊎ Through Link from to (suc links) a b
    by (inl old) (inl without) = inl (chain_link Link links a next b old without)
    by (inl old) (inr through) = inr (through_more Link from to links a next b old through)
    by (inr (here, there)) (inl without) = inr (record {
      before = 0;
      behind = links;
      few = omega arith;
      first = chain_itself Link 0 a from here;
      last = subst (λ (n : ℕ). Chain Link links n b) there without;
    })
    by (inr (here, there)) (inr through) = inr (record {
      before = 0;
      behind = through.behind;
      few = omega (arith, through.few);
      first = chain_itself Link 0 a from here;
      last = through.last;
    })

-- and the other way round
pub more_links : (Link : ℕ → ℕ → Type 0) (from to links a b : ℕ) → Chain Link links a b ⊎ Through Link from to links a b → Chain (WithLink Link from to) links a b
more_links Link from to links a b (inl chain) = chain_weaker Link (WithLink Link from to) links a b (λ c d link. inl link) chain
more_links Link from to links a b (inr through) =
    let With : ℕ → ℕ → Type 0 = WithLink Link from to in
    let first : Chain With through.before a from = chain_weaker Link With through.before a from (λ c d link. inl link) through.first in
    let last : Chain With through.behind to b = chain_weaker Link With through.behind to b (λ c d link. inl link) through.last in
    chain_more With (through.before + suc through.behind) links a b (omega (arith, through.few))
    (chain_joined With through.before (suc through.behind) a from b first (chain_link With through.behind from to b (inr (refl, refl)) last))

-- the least number of links of a chain by the link is the sum of those on both sides, and one
pub least_through : (Link : ℕ → ℕ → Type 0) (from to a b before behind : ℕ) → IsLeast farthest (λ links. Chain Link links a from) before → IsLeast farthest (λ links. Chain Link links to b) behind → IsLeast farthest (λ links. Through Link from to links a b) (sum_of (1 + before) behind)
least_through Link from to a b before behind first second = by (cases_sum (1 + before) behind)
  where
    by : ((1 + before + behind ≤ 254) × (sum_of (1 + before) behind ≡ 1 + before + behind)) ⊎ ((254 < 1 + before + behind) × (sum_of (1 + before) behind ≡ 255)) → IsLeast farthest (λ links. Through Link from to links a b) (sum_of (1 + before) behind)
    by (inl (low, is)) = subst (IsLeast farthest (λ links. Through Link from to links a b)) (sym is) (record {
      within = omega arith;
      holds = λ _. record { before = before; behind = behind; few = omega arith; first = first.holds (omega arith); last = second.holds (omega arith) };
      least = λ lower less through. let one = least_below farthest (λ links. Chain Link links a from) before through.before first through.first in let two = least_below farthest (λ links. Chain Link links to b) behind through.behind second through.last in absurd (omega (arith, one, two, through.few));
    })
    by (inr (high, is)) = subst (IsLeast farthest (λ links. Through Link from to links a b)) (sym is) (record {
      within = omega arith;
      holds = λ low. absurd (omega arith);
      least = λ lower less through. let one = least_below farthest (λ links. Chain Link links a from) before through.before first through.first in let two = least_below farthest (λ links. Chain Link links to b) behind through.behind second through.last in absurd (omega (arith, one, two, through.few));
    })

-- ---- links from nodes to themselves

-- where all links that are more lead nowhere, there are no other chains
pub chain_loops : (Link Other : ℕ → ℕ → Type 0) (links a b : ℕ) → ((a b : ℕ) → Link a b → Other a b ⊎ (a ≡ b)) → Chain Link links a b → Chain Other links a b
unfolding Chain
chain_loops Link Other zero a b only same = same
chain_loops Link Other (suc links) a b only (inl same) = inl same
chain_loops Link Other (suc links) a b only (inr (next, link, chain)) = by (only a next link) (chain_loops Link Other links next b only chain)
  where
    by : Other a next ⊎ (a ≡ next) → Chain Other links next b → Chain Other (suc links) a b
    by (inl other) rest = chain_link Other links a next b other rest
    by (inr same) rest = chain_more Other links (suc links) a b (omega arith) (subst (λ (n : ℕ). Chain Other links n b) (sym same) rest)

-- where all links lead nowhere, so do chains
pub chain_alone : (Link : ℕ → ℕ → Type 0) (links a b : ℕ) → ((a b : ℕ) → Link a b → a ≡ b) → Chain Link links a b → a ≡ b
unfolding Chain
chain_alone Link zero a b alone same = same
chain_alone Link (suc links) a b alone (inl same) = same
chain_alone Link (suc links) a b alone (inr (next, link, chain)) = alone a next link ∙ chain_alone Link links next b alone chain

-- a chain leads nowhere, or to the end of a link
pub chain_ends : (Link : ℕ → ℕ → Type 0) (P : ℕ → Type 0) (links a b : ℕ) → ((a b : ℕ) → Link a b → P b) → Chain Link links a b → (a ≡ b) ⊎ P b
unfolding Chain
chain_ends Link P zero a b ends same = inl same
chain_ends Link P (suc links) a b ends (inl same) = inl same
chain_ends Link P (suc links) a b ends (inr (next, link, chain)) = by (chain_ends Link P links next b ends chain)
  where
    by : (next ≡ b) ⊎ P b → (a ≡ b) ⊎ P b
    by (inl same) = inr (subst P same (ends a next link))
    by (inr last) = inr last

-- and from the same node, or the start of one
pub chain_starts : (Link : ℕ → ℕ → Type 0) (P : ℕ → Type 0) (links a b : ℕ) → ((a b : ℕ) → Link a b → P a) → Chain Link links a b → (a ≡ b) ⊎ P a
unfolding Chain
chain_starts Link P zero a b starts same = inl same
chain_starts Link P (suc links) a b starts (inl same) = inl same
chain_starts Link P (suc links) a b starts (inr (next, link, chain)) = inr (starts a next link)
