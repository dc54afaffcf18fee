use Rattle.std.proofs.Common.{refl, ℕ, List, ◌≡◌, ◌<◌, ap, sym, ◌∙◌, subst, arith}
use Rattle.ospf_base.specs.declared.ids.LsaKey.{LsaKey}
use Rattle.ospf_lsa.specs.Header.{header_of, HeaderFits}
use Rattle.ospf_lsa.specs.declared.header.LsaHeader.{LsaHeader}
use Rattle.ospf_lsa.specs.Lsa.{IsLsa, key_of}
use Rattle.ospf_lsa.specs.Listing.{IsListing, IsPlace, HasKey}
use Rattle.std.specs.List.{insert}
use Rattle.ospf_lsa.proofs.PutLemmas.{from_ok}
use Rattle.ospf_lsa.proofs.ListingLemmas.{IsListing-place, no_key_at}
use Rattle.ospf_lsa.proofs.listing.Listing.add.Goals as goal
use Rattle.ospf_lsa.proofs.listing.Listing.add.Goals.{In-Some}

place : (c : In-Some) → IsPlace c.self.inside.lsas.items (key_of c.args.lsa) c.in-Some.at
place c =
    let key : c.key-key.result ≡ key_of c.args.lsa = c.key-key.ensures ∙ ap key_of c.view.ensures.same in
    subst (λ (k : LsaKey). IsPlace c.self.inside.lsas.items k c.in-Some.at) key (rw c.deref-2.ensures.value at c.in-Some.ensures.place)

none : (c : In-Some) → HasKey c.args.self.now (key_of c.args.lsa) → ⊥
none c has = no_key_at c.self.inside.lsas.items (key_of c.args.lsa) c.in-Some.at (place c) (subst (λ (ls : List (List ℕ)). HasKey ls (key_of c.args.lsa)) (sym c.self.view_is) has)

pub returns-then-ticks-eq-MAX_AGE-clause-twice : goal.returns-then-ticks-eq-MAX_AGE-clause-twice
returns-then-ticks-eq-MAX_AGE-clause-twice c = ((λ e. absurd (cc)), (λ has. absurd (none (goal.at.returns-then-ticks-eq-MAX_AGE-clause-twice c).In-Some has)))

pub returns-then-ticks-eq-MAX_AGE-clause-max_age : goal.returns-then-ticks-eq-MAX_AGE-clause-max_age
returns-then-ticks-eq-MAX_AGE-clause-max_age c =
    let age : c.header.result.age ≡ (header_of c.args.lsa).age = ap (λ (h : LsaHeader). h.age) (c.header.ensures.value ∙ ap header_of c.view-2.ensures.same) in
    ((λ e. (sym age ∙ sym c.ticks.ensures.value ∙ c.if-ticks-eq-MAX_AGE.true, none (goal.at.returns-then-ticks-eq-MAX_AGE-clause-max_age c).In-Some)), (λ h. refl))

pub returns-then-is_err-clause-twice : goal.returns-then-is_err-clause-twice
returns-then-is_err-clause-twice c = ((λ e. absurd (cc)), (λ has. absurd (none (goal.at.returns-then-is_err-clause-twice c).In-Some has)))

pub returns-clause-twice : goal.returns-clause-twice
returns-clause-twice c = ((λ e. absurd (cc)), (λ has. absurd (none (goal.at.returns-clause-twice c).In-Some has)))

pub invariant_of-self-2 : goal.invariant_of-self-2
invariant_of-self-2 c =
    let there = place (goal.at.invariant_of-self-2 c).In-Some in
    let age : c.header.result.age ≡ (header_of c.args.lsa).age = ap (λ (h : LsaHeader). h.age) (c.header.ensures.value ∙ ap header_of c.view-2.ensures.same) in
    let is : IsLsa c.args.lsa = subst (λ (b : List ℕ). IsLsa b) c.lsa.view_is c.lsa.invariant in
    let fits : HeaderFits (header_of c.args.lsa) = rw c.view-2.ensures.same at c.header.ensures.fits in
    let below : c.ticks.result < 3600 = omega (arith, c.ticks.ensures.at_most, c.if-ticks-eq-MAX_AGE.false) in
    let young : (header_of c.args.lsa).age < 3600 = rw (← age, ← c.ticks.ensures.value) below in
    let grown = IsListing-place c.self.inside.lsas.items c.args.lsa c.in-Some.at c.self.invariant.listing (is, fits, young) there in
    record {
      listing = subst (λ (ls : List (List ℕ)). IsListing ls) (sym (from_ok c.insert_at.result (c.insert_at.new.lsas.items ≡ insert c.self.inside.lsas.items c.in-Some.at c.args.lsa) c.if-is_err.ensures.negation c.insert_at.ensures.ok)) grown;
      keys_are = c.insert_at.ensures.keys;
    }
