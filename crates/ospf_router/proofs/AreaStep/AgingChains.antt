-- A tick's ages and expiries, from the contract of the crate below.
use Rattle.std.proofs.Common.{◌≡◌, ◌==◌, ◌&&◌, ℕ, suc, Bool, true, false, cond, List, [], ◌∷◌, filter, Option, None, Some, refl, sym, ap, subst, ◌∙◌, arith}
use Rattle.std.specs.Prelude.{if◌then◌else◌}
use Rattle.std.specs.List.{Contains}
use Rattle.std.proofs.lemmas.Bool.{eqb-true, and_parts, cond-true}
use Rattle.ospf_base.specs.declared.ids.LsaKey.{LsaKey}
use Rattle.ospf_lsa.specs.Header.{header_of}
use Rattle.ospf_lsa.specs.Lsa.{key_of}
use Rattle.ospf_lsdb.specs.Database as lsdb
use Rattle.ospf_lsdb.specs.Database.{Entry, IsDatabase, lsa_of, key_at, key_in, reached_at, entries}
use Rattle.ospf_base.proofs.SameKeys.{same_key-eq, same_key-refl}
use Rattle.ospf_exchange.proofs.LawLemmas.{of_copy}
use Rattle.ospf_area.specs.Updates.Aging.{TickAges, Flushes, turn_out, copy_flooded}
use Rattle.ospf_area.proofs.Updates.Words.{copy_flooded_by, copy_flood_out_by, copies_out, copies_sent, copy_out, copy_sent, noted, copy_flood_out, flooded_area}
use Rattle.ospf_area.specs.Flooding.{flooded_links, flooding_updates, goes_anywhere}
use Rattle.ospf_area.specs.Sending.{context_of}
use Rattle.ospf_area.specs.Outputs.{no_outputs, sends, AreReadAsSent, OutputsValue}
use Rattle.ospf_area.specs.State.{AreaValue, database_entry, kept_number}
use Rattle.ospf_router.specs.AreaStep.Parts.{ExpiryPart, at_max_age}
use Rattle.ospf_router.specs.AreaStep.Step.{AndRequests, ExpiryStep, Times, Part, IsPart}
use Rattle.ospf_router.specs.AreaStep.Neighbours.{Quiet}
use Rattle.ospf_router.proofs.AreaStep.StateFacts.{expires-entries, Contains-map, Contains-map_cases, Contains-filter_cases, entry_of-key, key_of-lsa_of}
use Rattle.ospf_router.proofs.AreaStep.Accountable.{AreRead-left, AreRead-right}
use Rattle.ospf_router.proofs.AreaStep.TurnAccounts.{turned-quiet}
use Rattle.ospf_base.specs.Constants.{max_age}
use Rattle.ospf_base.specs.Keys.{same_key}
use Rattle.ospf_area.proofs.Updates.CopyLemmas.{copies_become}

set_age : Entry → ℕ → Entry
set_age e age = record { age = age; contents = e.contents; tick = e.tick; by_flooding = e.by_flooding }

-- a copy that is at MaxAge
at_its_age : (copy : Entry) → copy.age ≡ max_age → at_max_age copy ≡ copy
unfolding set_age
at_its_age copy age = ap (set_age copy) (sym age)

-- the copy of the key is at MaxAge
IsExpiring : AreaValue → LsaKey → Type 0
IsExpiring s key = (copy : Entry) × (database_entry s key ≡ Some copy) × (copy.age ≡ max_age)

noted-part : (key : LsaKey) (copy : Entry) (s : AreaValue) (b : Bool) → database_entry s key ≡ Some copy → copy.age ≡ max_age → ExpiryPart key copy s (sends (flooding_updates (context_of s) (lsa_of copy) None s.links)) (noted key b (flooded_area (lsa_of copy) None s))
noted-part key copy s b at age = go b
  where
    entries_same : (k : LsaKey) → database_entry s k ≡ (if same_key key k then Some (at_max_age copy) else database_entry s k)
    entries_same k = by (same_key key k) refl
      where
        by : (c : Bool) → same_key key k ≡ c → database_entry s k ≡ cond c (Some (at_max_age copy)) (database_entry s k)
        by true same = ap (database_entry s) (sym (same_key-eq key k same)) ∙ (at ∙ ap Some (sym (at_its_age copy age)))
        by false other = refl

    links_same : flooded_links (key_of (lsa_of copy)) (header_of (lsa_of copy)) None s.tick s.links ≡ flooded_links key (header_of (lsa_of (at_max_age copy))) None s.tick s.links
    links_same =
        ap (λ k. flooded_links k (header_of (lsa_of copy)) None s.tick s.links) (key_of-lsa_of copy ∙ entry_of-key s key copy at)
        ∙ ap (λ e. flooded_links key (header_of (lsa_of e)) None s.tick s.links) (sym (at_its_age copy age))

    out_same : sends (flooding_updates (context_of s) (lsa_of copy) None s.links) ≡ sends (flooding_updates (context_of s) (lsa_of (at_max_age copy)) None s.links)
    out_same = ap (λ e. sends (flooding_updates (context_of s) (lsa_of e) None s.links)) (sym (at_its_age copy age))

    go : (b : Bool) → ExpiryPart key copy s (sends (flooding_updates (context_of s) (lsa_of copy) None s.links)) (noted key b (flooded_area (lsa_of copy) None s))
    go true = record { at = at; database = entries_same; links = links_same; same_router = refl; same_direct = refl; numbering = λ k. refl; outputs = out_same }
    go false = record { at = at; database = entries_same; links = links_same; same_router = refl; same_direct = refl; numbering = λ k. refl; outputs = out_same }

flood-part : (key : LsaKey) (copy : Entry) (s : AreaValue) → database_entry s key ≡ Some copy → copy.age ≡ max_age → ExpiryPart key copy s (sends (copy_flood_out key s)) (copy_flooded key s)
flood-part key copy s at age =
    subst (λ o. ExpiryPart key copy s (sends (copy_flood_out_by o s)) (copy_flooded_by o key s)) (sym at)
    (noted-part key copy s (goes_anywhere (key_of (lsa_of copy)) (header_of (lsa_of copy)) None s.links) at age)

pub same_database : (key : LsaKey) (s : AreaValue) → (copy_sent key s).database ≡ s.database
same_database key s = by (database_entry s key)
  where
    in_noted : (e : Entry) (b : Bool) → (noted key b (flooded_area (lsa_of e) None s)).database ≡ s.database
    in_noted e true = refl
    in_noted e false = refl

    by : (o : Option Entry) → (copy_flooded_by o key s).database ≡ s.database
    by None = refl
    by (Some e) = in_noted e (goes_anywhere (key_of (lsa_of e)) (header_of (lsa_of e)) None s.links)

expiry_step : (key : LsaKey) (s : AreaValue) → IsExpiring s key → AreReadAsSent (copy_out key s) → ExpiryStep s (sends (copy_out key s)) (copy_sent key s)
unfolding IsExpiring
expiry_step key s (copy, at, age) read = record {
  key = key;
  copy = copy;
  expires = record {
    mid = copy_flooded key s;
    first_out = sends (copy_flood_out key s);
    next_out = sends (turn_out (copy_flooded key s));
    first = flood-part key copy s at age;
    next = turned-quiet (copy_flooded key s) (AreRead-right (sends (copy_flood_out key s)) (sends (turn_out (copy_flooded key s))) read);
    both = refl;
  };
}

still_expiring : (key k : LsaKey) (s : AreaValue) → IsExpiring s k → IsExpiring (copy_sent key s) k
unfolding IsExpiring
still_expiring key k s (copy, at, age) = (copy, ap (λ db. lsdb.entry_of db k) (same_database key s) ∙ at, age)

copies_put : (keys : List LsaKey) (s : AreaValue) → ((key : LsaKey) → Contains keys key → IsExpiring s key) → AreReadAsSent (copies_out keys s) → (n : ℕ) × Times n ExpiryStep s (sends (copies_out keys s)) (copies_sent keys s)
copies_put [] s each read = (0, record { state = refl; outputs = refl })
copies_put (key ∷ keys) s each read =
    let (n, rest) = copies_put keys (copy_sent key s) (λ k c. let (i, within, is) = c in still_expiring key k s (each k (suc i, omega arith, is))) (AreRead-right (sends (copy_out key s)) (sends (copies_out keys (copy_sent key s))) read) in (
      suc n,
      record {
        mid = copy_sent key s;
        first_out = sends (copy_out key s);
        next_out = sends (copies_out keys (copy_sent key s));
        first = expiry_step key s (each key (0, omega arith, refl)) (AreRead-left (sends (copy_out key s)) (sends (copies_out keys (copy_sent key s))) read);
        next = rest;
        both = refl;
      },
    )

-- the keys that a tick tells of are of copies at MaxAge
reached_expire : (s : AreaValue) → IsDatabase s.database → (key : LsaKey) → Contains (reached_at max_age s.database) key → IsExpiring s key
unfolding reached_at IsExpiring
reached_expire s is key c =
    let (h, inside, of) = Contains-map_cases key_at (filter (λ h. h.reached && (h.entry.age == max_age)) s.database) key c in
    let (here, told) = Contains-filter_cases (λ h. h.reached && (h.entry.age == max_age)) s.database h inside in
    let (e, at, same) = of_copy (λ e. e) s.database is.rising h.entry (Contains-map (λ e. e) (entries s.database) h.entry (Contains-map (λ h. h.entry) s.database h here)) in
    let key_is : key_in e.contents ≡ key = ap (λ e. key_in e.contents) same ∙ of in
    (e, ap (λ k. database_entry s k) (sym key_is) ∙ at, ap (λ e. e.age) same ∙ eqb-true h.entry.age max_age (and_parts h.reached (h.entry.age == max_age) told).1)

-- the first point of a tick (14)
pub TickAges-is_part : (before after : AreaValue) (out out' : OutputsValue) (t : TickAges before out out' after) → IsDatabase t.mid.database → AreReadAsSent (copies_out (reached_at max_age t.mid.database) t.mid) → IsPart Part.Ages before (sends (copies_out (reached_at max_age t.mid.database) t.mid)) after
TickAges-is_part before after out out' t is read =
    let keys = reached_at max_age t.mid.database in
    let (n, times) = copies_put keys t.mid (λ key c. reached_expire t.mid is key c) read in (
      n,
      record {
        mid = t.mid;
        first_out = no_outputs;
        next_out = sends (copies_out keys t.mid);
        first = record { database = t.database; rest = t.rest; outputs = refl };
        next = subst (λ s. Times n ExpiryStep t.mid (sends (copies_out keys t.mid)) s) (sym (copies_become keys t.mid after out out' t.sends).state) times;
        both = refl;
      },
    )

-- ---- a flush (14.1)

pub Flushes-is_part : (key : LsaKey) (copy : Entry) (before after : AreaValue) (out out' : OutputsValue) → IsDatabase before.database → database_entry before key ≡ Some copy → (x : Flushes key before out out' after) → AreReadAsSent (copy_out key x.mid) → AndRequests (ExpiryPart key copy) before (sends (copy_out key x.mid)) after
Flushes-is_part key copy before after out out' is at x read = record {
  mid = copy_flooded key x.mid;
  first_out = sends (copy_flood_out key x.mid);
  next_out = sends (turn_out (copy_flooded key x.mid));
  first = expires;
  next = subst (λ t. Quiet (copy_flooded key x.mid) (sends (turn_out (copy_flooded key x.mid))) t) (sym x.sends.state)
      (turned-quiet (copy_flooded key x.mid) (AreRead-right (sends (copy_flood_out key x.mid)) (sends (turn_out (copy_flooded key x.mid))) read));
  both = refl;
}
  where
    entries_mid : (k : LsaKey) → database_entry x.mid k ≡ (if same_key key k then Some (at_max_age copy) else database_entry before k)
    entries_mid k = expires-entries key copy before.database x.mid.database is at x.database k

    at_mid : database_entry x.mid key ≡ Some (at_max_age copy)
    at_mid = entries_mid key ∙ cond-true (same_key key key) _ _ (same_key-refl key)

    part : ExpiryPart key (at_max_age copy) x.mid (sends (copy_flood_out key x.mid)) (copy_flooded key x.mid)
    part = flood-part key (at_max_age copy) x.mid at_mid refl

    entries_by : (k : LsaKey) (b : Bool) → database_entry x.mid k ≡ cond b (Some (at_max_age copy)) (database_entry before k) → cond b (Some (at_max_age copy)) (database_entry x.mid k) ≡ cond b (Some (at_max_age copy)) (database_entry before k)
    entries_by k true e = refl
    entries_by k false e = e

    expires : ExpiryPart key copy before (sends (copy_flood_out key x.mid)) (copy_flooded key x.mid)
    expires = record {
      at = at;
      database = λ k. part.database k ∙ entries_by k (same_key key k) (entries_mid k);
      links = part.links ∙ ap (λ m. flooded_links key (header_of (lsa_of (at_max_age copy))) None m.tick m.links) x.rest;
      same_router = part.same_router ∙ ap (λ m. m.router) x.rest;
      same_direct = part.same_direct ∙ ap (λ m. m.direct) x.rest;
      numbering = λ k. part.numbering k ∙ ap (λ m. kept_number m k) x.rest;
      outputs = part.outputs ∙ ap (λ m. sends (flooding_updates (context_of m) (lsa_of (at_max_age copy)) None m.links)) x.rest;
    }
