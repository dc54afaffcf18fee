use Rattle.std.proofs.Common.{◌≡◌, ℕ, nat_eq, sym, subst}
use Rattle.std.specs.HashMap.{get}
use Rattle.std.specs.Prelude.{MatchOption, Option}
use Rattle.ospf_graph.specs.Advertisements.{IsAddressOn}
use Rattle.ospf_graph.specs.Pairs.{pair_code}
use Rattle.ospf_graph.proofs.EdgeLists.AddressLemmas.{match_found, match_none, match_only}
use Rattle.ospf_graph.proofs.edges.index.GraphIndex.address_on.Goals as goal

pub returns-clause-found : goal.returns-clause-found
returns-clause-found c =
    let P : ℕ → Type 0 = λ a. IsAddressOn c.args.self.now c.args.id c.args.router a in
    let Q : ℕ → Type 0 = λ a. (b : ℕ) → IsAddressOn c.args.self.now c.args.id c.args.router b → b ≡ a in
    let N : Type 0 = (a : ℕ) → IsAddressOn c.args.self.now c.args.id c.args.router a → ⊥ in
    let here : MatchOption (get nat_eq c.self.inside.addresses (pair_code c.args.router.0 c.args.id)) N (λ a. P a × Q a) =
    rw (← c.self.view_is) (c.self.invariant.addresses_are c.args.router c.args.id c.ranges.id.fits) in
    match_found N P Q c.address_at.result (subst (λ (o : Option ℕ). MatchOption o N (λ a. P a × Q a)) (sym c.address_at.ensures) here)

pub returns-clause-only : goal.returns-clause-only
returns-clause-only c =
    let P : ℕ → Type 0 = λ a. IsAddressOn c.args.self.now c.args.id c.args.router a in
    let Q : ℕ → Type 0 = λ a. (b : ℕ) → IsAddressOn c.args.self.now c.args.id c.args.router b → b ≡ a in
    let N : Type 0 = (a : ℕ) → IsAddressOn c.args.self.now c.args.id c.args.router a → ⊥ in
    let here : MatchOption (get nat_eq c.self.inside.addresses (pair_code c.args.router.0 c.args.id)) N (λ a. P a × Q a) =
    rw (← c.self.view_is) (c.self.invariant.addresses_are c.args.router c.args.id c.ranges.id.fits) in
    match_only N P Q c.address_at.result (subst (λ (o : Option ℕ). MatchOption o N (λ a. P a × Q a)) (sym c.address_at.ensures) here)

pub returns-clause-none : goal.returns-clause-none
returns-clause-none c =
    let P : ℕ → Type 0 = λ a. IsAddressOn c.args.self.now c.args.id c.args.router a in
    let Q : ℕ → Type 0 = λ a. (b : ℕ) → IsAddressOn c.args.self.now c.args.id c.args.router b → b ≡ a in
    let N : Type 0 = (a : ℕ) → IsAddressOn c.args.self.now c.args.id c.args.router a → ⊥ in
    let here : MatchOption (get nat_eq c.self.inside.addresses (pair_code c.args.router.0 c.args.id)) N (λ a. P a × Q a) =
    rw (← c.self.view_is) (c.self.invariant.addresses_are c.args.router c.args.id c.ranges.id.fits) in
    match_none N P Q c.address_at.result (subst (λ (o : Option ℕ). MatchOption o N (λ a. P a × Q a)) (sym c.address_at.ensures) here)
