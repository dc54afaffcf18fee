use Rattle.std.specs.Map.{values_of}
use Rattle.std.proofs.Common.{◌≡◌, ◌<◌, arith, ℕ, List, refl, ap, sym, subst, ◌∙◌}
use Rattle.ospf_lsa.specs.Header.{header_of}
use Rattle.ospf_lsa.specs.declared.header.LsaHeader.{LsaHeader}
use Rattle.ospf_lsa.specs.Listing.{HasKey, IsInserted}
use Rattle.ospf_lsa.specs.Lsa.{key_of}
use Rattle.ospf_table.proofs.EntryLemmas.{none_found, put_in, keyed_in}
use Rattle.ospf_table.proofs.entries.LineEntries.add.Goals as goal

pub invariant_of-self-2 : goal.invariant_of-self-2
invariant_of-self-2 c =
    let es = c.self.inside.lsas.entries in
    let key : c.key-key.result ≡ key_of c.args.lsa = c.key-key.ensures ∙ ap key_of c.view.ensures.same in
    let age : c.header.result.age ≡ (header_of c.args.lsa).age = ap (λ (h : LsaHeader). h.age) (c.header.ensures.value ∙ ap header_of c.view-2.ensures.same) in
    let below : c.ticks.result < 3600 = omega (arith, c.ticks.ensures.at_most, c.if-ticks-eq-MAX_AGE.false) in
    let less : (header_of c.args.lsa).age < 3600 = rw (← age, ← c.ticks.ensures.value) below in
    let more = keyed_in c.args.lsa es c.self.invariant.keyed (record { key = refl; young = less }) in
    record {
      keyed = rw (c.in-Ok.ensures.ok, key) more;
      ordered = c.put.ensures.ordered;
    }

pub returns-clause-ok : goal.returns-clause-ok
returns-clause-ok c =
    let es = c.self.inside.lsas.entries in
    let key : c.key-key.result ≡ key_of c.args.lsa = c.key-key.ensures ∙ ap key_of c.view.ensures.same in
    let none : HasKey c.args.self.now (key_of c.args.lsa) → ⊥ = λ has. absurd (let yet = c.has.ensures.1 (rw key has) in cc) in
    subst (λ (ls : List (List ℕ)). IsInserted c.args.lsa ls (values_of c.put.new.lsas.entries)) c.self.view_is
    (rw (c.in-Ok.ensures.ok, key) (put_in c.args.lsa es (none_found (key_of c.args.lsa) es c.self.invariant.keyed (subst (λ (ls : List (List ℕ)). HasKey ls (key_of c.args.lsa) → ⊥) (sym c.self.view_is) none))))

pub returns-clause-twice : goal.returns-clause-twice
returns-clause-twice c =
    let key : c.key-key.result ≡ key_of c.args.lsa = c.key-key.ensures ∙ ap key_of c.view.ensures.same in
    ((λ e. absurd (cc)), (λ has. absurd (let yet = c.has.ensures.1 (rw key has) in cc)))
