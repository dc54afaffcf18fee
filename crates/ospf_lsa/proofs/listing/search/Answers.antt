use Rattle.std.proofs.Common.{◌≡◌, ◌-◌, ◌<◌, ◌≤◌, length, get_or, subst, sym, arith}
use Rattle.ospf_base.specs.Keys.{Precedes}
use Rattle.ospf_base.specs.declared.ids.LsaKey.{LsaKey}
use Rattle.ospf_lsa.specs.Lsa.{key_of}
use Rattle.ospf_lsa.specs.Listing.{IsCount}
use Rattle.ospf_lsa.proofs.KeyLemmas.{key_at}
use Rattle.ospf_lsa.proofs.ListingLemmas.{IsPlace-count, same_key}
use Rattle.ospf_lsa.proofs.listing.search.Goals as goal

pub returns-then-at-eq0-clause-place : goal.returns-then-at-eq0-clause-place
returns-then-at-eq0-clause-place c =
    let none : c.count_through-at.result ≡ 0 = c.if-at-eq0.true in
    IsPlace-count c.args.lsas.now c.args.key.now 0 c.requires.rising (subst (λ n. IsCount c.args.lsas.now c.args.key.now n) none c.count_through-at.ensures) (λ pos d. absurd (omega arith))

pub returns-then-precedes-clause-place : goal.returns-then-precedes-clause-place
returns-then-precedes-clause-place c =
    let n = c.count_through-at.result in
    let within : n ≤ length c.args.lsas.now = c.count_through-at.ensures.within in
    IsPlace-count c.args.lsas.now c.args.key.now n c.requires.rising c.count_through-at.ensures
    (λ pos d. subst (λ (k : LsaKey). Precedes k c.args.key.now)
    (key_at c.args.keys.now c.args.lsas.now c.requires.keys (n - 1) _ d (omega arith)) (c.precedes.ensures.0 c.if-precedes.true))

pub returns-clause-found : goal.returns-clause-found
returns-clause-found c =
    let n = c.count_through-at.result in
    let pos : 0 < n = omega arith in
    let within : n ≤ length c.args.lsas.now = c.count_through-at.ensures.within in (
      omega arith,
      λ d.
          let not : Precedes (key_of (get_or c.args.lsas.now (n - 1) d)) c.args.key.now → ⊥ =
          λ lt. let yes = c.precedes.ensures.1 (subst (λ (k : LsaKey). Precedes k c.args.key.now) (sym (key_at c.args.keys.now c.args.lsas.now c.requires.keys (n - 1) _ d (omega arith))) lt) in cc in
          same_key (key_of (get_or c.args.lsas.now (n - 1) d)) c.args.key.now not (c.count_through-at.ensures.before (n - 1) d (omega arith)),
    )
