-- The instances that wait when an exchange begins: one a key, as the entries of a database.
use Rattle.std.proofs.Common.{◌≡◌, ◌∙◌, ℕ, Bool, true, false, cond, not, List, [], ◌∷◌, ap, filter, map}
use Rattle.std.specs.List.{AllByRecursion}
use Rattle.ospf_base.specs.Keys.{Precedes, same_key}
use Rattle.ospf_base.proofs.SameKeys.{same_key-apart}
use Rattle.ospf_base.specs.declared.ids.LsaKey.{LsaKey}
use Rattle.ospf_lsdb.specs.Database.{Entry, Held, entries, instance_at, is_fresh, key_at, key_in}
use Rattle.ospf_lsdb.proofs.Words.{AreKeysRising}
use Rattle.ospf_lsdb.proofs.EntryLemmas.{key_of-with_age}
use Rattle.ospf_neighbour.specs.OneAKey.{IsAloneOfKeys}
use Rattle.ospf_neighbour.specs.declared.neighbour.Listed.{Listed}
use Rattle.ospf_exchange.proofs.Words.{expired_of, listed_at}

abbrev AllApart : LsaKey → List Listed → Type 0
AllApart key ls = AllByRecursion (λ (l : Listed). same_key key l.instance.key ≡ false) ls

key_is : (e : Entry) → (instance_at e).key ≡ key_in e.contents
key_is e = key_of-with_age e.age e.contents

apart_one : (h o : Held) → Precedes (key_at h) (key_at o) → same_key (instance_at h.entry).key (instance_at o.entry).key ≡ false
apart_one h o lt =
    ap (λ (k : LsaKey). same_key k (instance_at o.entry).key) (key_is h.entry)
    ∙ ap (λ (k : LsaKey). same_key (key_at h) k) (key_is o.entry)
    ∙ same_key-apart (key_at h) (key_at o) lt

apart_if : (b : Bool) (key : LsaKey) (e : Entry) (kept : List Entry) (tick : ℕ) → same_key key (instance_at e).key ≡ false → AllApart key (map (listed_at tick) kept)
    → AllApart key (map (listed_at tick) (cond b (e ∷ kept) kept))
apart_if true key e kept tick one all = (one, all)
apart_if false key e kept tick one all = all

apart_all : (tick : ℕ) (h : Held) (hs : List Held) → AllByRecursion (λ (o : Held). Precedes (key_at h) (key_at o)) hs → AllApart (instance_at h.entry).key (expired_of tick (entries hs))
apart_all tick h [] before = tt
apart_all tick h (o ∷ hs) before =
    apart_if (not (is_fresh o.entry)) (instance_at h.entry).key o.entry (filter (λ e. not (is_fresh e)) (entries hs)) tick (apart_one h o before.0) (apart_all tick h hs before.1)

alone_if : (b : Bool) (e : Entry) (kept : List Entry) (tick : ℕ) → AllApart (instance_at e).key (map (listed_at tick) kept) → IsAloneOfKeys (map (listed_at tick) kept)
    → IsAloneOfKeys (map (listed_at tick) (cond b (e ∷ kept) kept))
alone_if true e kept tick apart alone = (apart, alone)
alone_if false e kept tick apart alone = alone

-- of each key a database has one entry
pub alone_expired : (tick : ℕ) (db : List Held) → AreKeysRising db → IsAloneOfKeys (expired_of tick (entries db))
alone_expired tick [] rises = tt
alone_expired tick (h ∷ hs) rises =
    alone_if (not (is_fresh h.entry)) h.entry (filter (λ e. not (is_fresh e)) (entries hs)) tick (apart_all tick h hs rises.0) (alone_expired tick hs rises.1)
