use Rattle.std.proofs.Common.{◌≡◌, ◌≤◌, ◌<◌, ◌++◌, ◌∷◌, [], ℕ, List, ap, subst, sym, ◌∙◌, arith}
use Rattle.std.specs.List.{AllByRecursion}
use Rattle.ospf_base.specs.Keys.{Precedes}
use Rattle.ospf_base.specs.declared.ids.LsaKey.{LsaKey}
use Rattle.ospf_lsa.specs.Header.{header_of}
use Rattle.ospf_lsa.specs.Lsa.{key_of}
use Rattle.ospf_lsa.specs.declared.header.LsaHeader.{LsaHeader}
use Rattle.ospf_lsdb.specs.Database.{key_in}
use Rattle.ospf_lsdb.proofs.EntryLemmas.{header_at, key_of-with_age}
use Rattle.ospf_lsdb.proofs.ReachedLemmas.{nothing_more, listed_of-yes}
use Rattle.ospf_lsdb.proofs.entry.add_fresh.Goals as goal

pub returns-then-is_expired : goal.returns-then-is_expired
returns-then-is_expired c =
    let old : 3600 ≤ c.args.entry.now.age = omega (arith, c.ticks-is_expired.ensures.value, c.age.ensures, c.if-is_expired.true) in
    record { ok = nothing_more c.args.listing.now c.args.entry.now old }

pub append-requires : goal.append-requires
append-requires c =
    let young : c.args.entry.now.age < 3600 = omega (arith, c.ticks-is_expired.ensures.value, c.ticks-is_expired.ensures.at_most, c.age.ensures, c.if-is_expired.false) in
    let key : key_of c.in-Ok.lsa ≡ key_in c.args.entry.now.contents = ap key_of c.in-Ok.ensures.ok ∙ key_of-with_age c.args.entry.now.age c.args.entry.now.contents in
    let small : c.args.entry.now.age ≤ 3600 = omega (arith, young) in
    let age : (header_of c.in-Ok.lsa).age ≡ c.args.entry.now.age =
    ap (λ (l : List ℕ). (header_of l).age) c.in-Ok.ensures.ok ∙ ap (λ (h : LsaHeader). h.age) (header_at (0 ∷ 0 ∷ c.args.entry.now.contents) c.args.entry.now.age small) in
    record {
      last = subst (λ (k : LsaKey). AllByRecursion (λ l. Precedes (key_of l) k) c.args.listing.now) (sym key) c.requires.last;
      young = omega (arith, age, young);
    }

pub returns : goal.returns
returns c =
    let young : c.args.entry.now.age < 3600 = omega (arith, c.ticks-is_expired.ensures.value, c.ticks-is_expired.ensures.at_most, c.age.ensures, c.if-is_expired.false) in
    record {
      ok = c.in_ok-append.ensures.ok ∙ ap (λ (l : List ℕ). c.args.listing.now ++ l ∷ []) c.in-Ok.ensures.ok
          ∙ ap (λ (t : List (List ℕ)). c.args.listing.now ++ t) (sym (listed_of-yes c.args.entry.now young));
    }
