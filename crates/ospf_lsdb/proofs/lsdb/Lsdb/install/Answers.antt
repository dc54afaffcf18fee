use Rattle.std.proofs.Common.{◌≡◌, ◌==◌, ℕ, true, false, ap, arith, length, sym, ◌∙◌}
use Rattle.ospf_lsa.specs.Header.{header_of}
use Rattle.ospf_lsa.specs.Lsa.{key_of}
use Rattle.ospf_lsa.specs.declared.header.LsaHeader.{LsaHeader}
use Rattle.ospf_lsdb.specs.Database.{entry_from, key_in}
use Rattle.ospf_lsdb.proofs.EntryLemmas.{age-entry_from, key-entry_from}
use Rattle.ospf_lsdb.proofs.IndexLemmas.{few, index_installs}
use Rattle.ospf_lsdb.proofs.lsdb.Lsdb.install.Goals as goal
use Rattle.ospf_lsdb.proofs.lsdb.Lsdb.install.Goals.{After-is_database}

key_from : (c : After-is_database) → c.key-key.result ≡ key_in (entry_from c.args.lsa c.args.tick c.args.by_flooding).contents
key_from c = c.key-key.ensures ∙ ap key_of c.view.ensures.same ∙ key-entry_from c.args.lsa c.args.tick c.args.by_flooding

age_is : (c : After-is_database) → c.ticks-is_expired.result ≡ (entry_from c.args.lsa c.args.tick c.args.by_flooding).age
age_is c =
    c.ticks-is_expired.ensures.value ∙ ap (λ (h : LsaHeader). h.age) (c.header.ensures.value ∙ ap header_of c.view-2.ensures.same)
    ∙ sym (age-entry_from c.args.lsa c.args.tick c.args.by_flooding)

old : (n m : ℕ) → n ≡ m → n ≡ 3600 → true ≡ (m == 3600)
old n m same is = grind arith

young : (n m : ℕ) → n ≡ m → (n ≡ 3600 → ⊥) → false ≡ (m == 3600)
young n m same other = grind arith

pub put-requires : goal.put-requires
put-requires c =
    let same = ap length (c.make_room.ensures.keys ∙ c.self.invariant.keys) in
    let most = few c.self.inside.dated in
    omega (arith, same, most, c.in_ok-make_room.ensures.ok, c.len.ensures.count)

pub invariant_of-self-then-is_expired : goal.invariant_of-self-then-is_expired
invariant_of-self-then-is_expired c =
    let d = (goal.at.invariant_of-self-then-is_expired c).After-is_database in
    index_installs c.key-key.result (entry_from c.args.lsa c.args.tick c.args.by_flooding) true c.self.inside.dated c.install.new.self c.make_room.new.self c.put.new.self c.len.ensures.database c.is_database.ensures c.in_ok-install.ensures.ok
    (key_from d) (c.make_room.ensures.keys ∙ c.self.invariant.keys) (old c.ticks-is_expired.result _ (age_is d) c.if-is_expired.true) c.put.ensures.rising c.put.ensures.keys
    (omega (arith, c.in_ok-make_room.ensures.ok, c.len.ensures.count, c.put.ensures.room))

pub invariant_of-self-else-is_expired : goal.invariant_of-self-else-is_expired
invariant_of-self-else-is_expired c =
    let d = (goal.at.invariant_of-self-else-is_expired c).After-is_database in
    index_installs c.key-key.result (entry_from c.args.lsa c.args.tick c.args.by_flooding) false c.self.inside.dated c.install.new.self c.make_room.new.self c.remove.new.self c.len.ensures.database c.is_database.ensures c.in_ok-install.ensures.ok
    (key_from d) (c.make_room.ensures.keys ∙ c.self.invariant.keys) (young c.ticks-is_expired.result _ (age_is d) c.if-is_expired.false) c.remove.ensures.rising c.remove.ensures.keys
    (omega (arith, c.in_ok-make_room.ensures.ok, c.len.ensures.count, c.remove.ensures.room))
