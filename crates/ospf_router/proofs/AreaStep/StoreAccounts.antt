-- An LSA takes its old copy's place, and is flooded.
use Rattle.std.proofs.Common.{◌≡◌, inl, inr, ◌==◌, ◌≤◌, ℕ, zero, suc, Bool, true, false, cond, List, [], ◌∷◌, length, map, Option, None, Some, refl, sym, ap, subst, ◌∙◌, arith}
use Rattle.std.specs.Prelude.{◌≤ℤ◌, is_some}
use Rattle.std.specs.List.{Contains}
use Rattle.std.proofs.lemmas.Bool.{false≢true, eqb-true, cond-true}
use Rattle.ospf_base.specs.Sums.{contents}
use Rattle.ospf_base.specs.declared.ids.Instance.{Instance}
use Rattle.ospf_base.specs.declared.ids.LsaKey.{LsaKey}
use Rattle.ospf_lsa.proofs.Aging.{IsLsa-with_age}
use Rattle.ospf_lsa.specs.Header.{header_of}
use Rattle.ospf_lsa.specs.Lsa.{IsLsa, key_of, instance_of, with_age}
use Rattle.ospf_lsa.specs.Recency.{recency}
use Rattle.ospf_lsa.specs.declared.fault.LsaFault.TheVariants as fault
use Rattle.ospf_lsa.specs.declared.header.LsaHeader.{LsaHeader}
use Rattle.ospf_lsa.specs.declared.recency.Recency.TheVariants.{Newer}
use Rattle.ospf_lsdb.specs.Database.{Entry, entry_from, lsa_of, key_in, Installs, instance_at}
use Rattle.ospf_base.specs.Keys.{same_key}
use Rattle.ospf_base.proofs.SameKeys.{same_key-refl}
use Rattle.ospf_lsdb.proofs.MapLaws.{installs}
use Rattle.ospf_packet.specs.Meaning.{Meaning}
use Rattle.ospf_neighbour.specs.Lists.{key_unlisted}
use Rattle.ospf_neighbour.specs.Neighbour.{NeighbourValue}
use Rattle.ospf_area.specs.Flooding.{on_link, came_from, flooded_links, released}
use Rattle.ospf_area.specs.Updates.Meets.{Stores}
use Rattle.ospf_area.proofs.Updates.Words.{store_updates}
use Rattle.ospf_area.specs.Sending.{context_of}
use Rattle.ospf_area.specs.Outputs.{OutputsValue, AreReadAsSent}
use Rattle.ospf_area.specs.Places.{map_from}
use Rattle.ospf_area.specs.State.{AreaValue, LinkValue, database_entry, copy_of, kept_number}
use Rattle.ospf_area.proofs.Words.{copy_in, flooded_link, released_link, flooded_neighbour}
use Rattle.ospf_area.specs.declared.flooding.PacketSource.{PacketSource}
use Rattle.ospf_router.specs.AreaStep.Headers.{IsOfInstance, Lists}
use Rattle.ospf_router.specs.AreaStep.Packets.{Received, lsas_of, headers_in_body}
use Rattle.ospf_router.specs.AreaStep.Words.{HoldsInstance, Brings}
use Rattle.ospf_router.specs.AreaStep.Accounts.{HasContents, IsAcknowledged, TakesItsPlace, Sends, Numbers}
use Rattle.ospf_router.proofs.AreaStep.Accountable.{IsAccountable, sent_packet}
use Rattle.ospf_router.proofs.AreaStep.FloodingAccounts as flooding
use Rattle.ospf_router.proofs.AreaStep.FloodingAccounts.{FloodsTo, IsFlooded, IsAccounted, Replaces}
use Rattle.ospf_router.proofs.AreaStep.StateFacts.{Contains-nil, same_contents, header_is_of, header_names, same_router, copy_of-has}
use Rattle.ospf_router.proofs.AreaStep.NumberFacts.{counts-kept, counts-known}
use Rattle.ospf_router.proofs.AreaStep.OfferFacts.{released_floods_to}
use Rattle.ospf_router.proofs.AreaStep.SentFacts.{IsUpdateOf, flooding-packets}

pub map_from-map : {X : Type 0} (f : ℕ → X → X) (r : X → X) (k : ℕ) (xs : List X) → map_from f k (map r xs) ≡ map_from (λ l x. f l (r x)) k xs
map_from-map f r k [] = refl
map_from-map f r k (x ∷ xs) = ap (λ ys. f k (r x) ∷ ys) (map_from-map f r (suc k) xs)

pub map-map : {X : Type 0} (f r : X → X) (xs : List X) → map f (map r xs) ≡ map (λ x. f (r x)) xs
map-map f r [] = refl
map-map f r (x ∷ xs) = ap (λ ys. f (r x) ∷ ys) (map-map f r xs)

one_of : {X : Type 0} (x y : X) → Contains (x ∷ []) y → y ≡ x
one_of x y (zero, within, is) = sym is
one_of x y (suc k, within, is) = absurd (omega arith)

-- what the packets of the Updates say
sent_one : (out : OutputsValue) (s : AreaValue) (lsa : List ℕ) (p : Meaning) → IsUpdateOf (context_of s) lsa p → (one : List ℕ) → Contains (lsas_of p.body) one → contents one ≡ contents lsa
sent_one out s lsa p u one c = ap contents (one_of u.one one (subst (λ m. Contains (lsas_of m.body) one) u.packet c)) ∙ u.same

names_one : (s : AreaValue) (lsa : List ℕ) (p : Meaning) (i : Instance) → IsUpdateOf (context_of s) lsa p → Lists (headers_in_body p.body) i → i ≡ instance_of lsa
names_one s lsa p i u (h, c, is) =
    let it = one_of (header_of u.one) h (subst (λ m. Contains (headers_in_body m.body) h) u.packet c) in
    sym (header_names u.one i (subst (λ h. IsOfInstance h i) it is)) ∙ same_contents u.one lsa u.same

-- the entry that an LSA is stored as
long : (lsa : List ℕ) → IsLsa lsa → 2 ≤ length lsa
long lsa is = omega (arith, (is fault.Short).0)

stored_is : (lsa : List ℕ) (tick : ℕ) (b : Bool) → lsa_of (entry_from lsa tick b) ≡ with_age (header_of lsa).age lsa
unfolding entry_from
stored_is lsa tick b = refl

stored_contents : (lsa : List ℕ) (tick : ℕ) (b : Bool) → (entry_from lsa tick b).contents ≡ contents lsa
unfolding entry_from
stored_contents lsa tick b = refl

stored_instance : (lsa : List ℕ) (tick : ℕ) (b : Bool) → instance_at (entry_from lsa tick b) ≡ instance_of lsa
stored_instance lsa tick b = ap instance_of (stored_is lsa tick b) ∙ same_contents (with_age (header_of lsa).age lsa) lsa refl

stored_key : (lsa : List ℕ) (tick : ℕ) (b : Bool) → key_in (entry_from lsa tick b).contents ≡ key_of lsa
unfolding key_in
stored_key lsa tick b = ap (λ c. key_of (0 ∷ 0 ∷ c)) (stored_contents lsa tick b) ∙ ap (λ i. i.key) (same_contents (0 ∷ 0 ∷ contents lsa) lsa refl)

-- the LSA is stored in its key's place, its old copy is off all lists, and it is flooded
pub record StoresBy (lsa : List ℕ) (from : Option PacketSource) (by_flooding : Bool) (before after : AreaValue) : Type 0 where
  pub database : Installs (entry_from lsa before.tick by_flooding) before.database after.database
  pub links : after.links ≡ flooded_links (key_of lsa) (header_of lsa) from before.tick (released (key_of lsa) before.links)
  pub same_router : after.router ≡ before.router
  pub same_direct : after.direct ≡ before.direct

pub Stores-by : (lsa : List ℕ) (from : Option PacketSource) (before after : AreaValue) → Stores lsa from before after → StoresBy lsa from (is_some from) before after
Stores-by lsa from before after stores = record {
  database = stores.database;
  links = ap (λ s. s.links) stores.rest;
  same_router = ap (λ s. s.router) stores.rest;
  same_direct = ap (λ s. s.direct) stores.rest;
}

module _ (heard : Option Received) (lsa : List ℕ) (from : Option PacketSource) (by_flooding : Bool) (before : AreaValue) (out : OutputsValue) (after : AreaValue) (stores : StoresBy lsa from by_flooding before after) (is_lsa : IsLsa lsa) (newer : (copy : List ℕ) → copy_of before (key_of lsa) ≡ Some copy → recency (header_of lsa) (header_of copy) ≡ Newer) (stored : (copy : List ℕ) → copy_of before (key_of lsa) ≡ Some copy → TakesItsPlace heard out copy lsa) (brings : Brings out (instance_of lsa)) (brings_only : (i : Instance) → Brings out i → i ≡ instance_of lsa) (has : HasContents heard before out (contents lsa)) (told : (f : PacketSource) → from ≡ Some f → IsAcknowledged heard f.link f.router (instance_of lsa)) (sent : out.sent ≡ store_updates lsa from before) (read : AreReadAsSent out.sent) (numbers : Numbers heard before out after) (counted : (key_of lsa).router ≡ before.router → (instance_of lsa).number ≤ℤ kept_number after (key_of lsa)) (none_ended : out.ended ≡ []) where
  key : LsaKey
  key = key_of lsa

  e : Entry
  e = entry_from lsa before.tick by_flooding

  change : ℕ → LinkValue → LinkValue
  change l link = flooded_link (key_of lsa) (header_of lsa) from before.tick l (released_link (key_of lsa) link)

  past : ℕ → NeighbourValue → NeighbourValue
  past l n = flooded_neighbour (key_of lsa) (header_of lsa) (on_link from l) before.tick (key_unlisted (key_of lsa) n)

  came : ℕ → NeighbourValue → Bool
  came l n = came_from (on_link from l) n

  no_acks : ℕ → List LsaHeader
  no_acks l = []

  came_same : (here : Option PacketSource) (n : NeighbourValue) → came_from here (key_unlisted (key_of lsa) n) ≡ came_from here n
  came_same None n = refl
  came_same (Some f) n = refl

  past_floods : (l : ℕ) (n : NeighbourValue) → FloodsTo (instance_of lsa) (HoldsInstance before (instance_of lsa)) (came l n) n (past l n)
  unfolding past came
  past_floods l n =
      subst (λ b. FloodsTo (instance_of lsa) (HoldsInstance before (instance_of lsa)) b n (past l n)) (came_same (on_link from l) n)
      (released_floods_to (key_of lsa) (header_of lsa) (came_from (on_link from l) (key_unlisted (key_of lsa) n)) before.tick n (header_is_of lsa is_lsa) (HoldsInstance before (instance_of lsa)))

  is_flooded : IsFlooded e came no_acks change past before after
  unfolding e change past came no_acks
  is_flooded = record {
    database = λ k. installs (entry_from lsa before.tick by_flooding) before.database after.database stores.database k;
    links = stores.links ∙ map_from-map (flooded_link (key_of lsa) (header_of lsa) from before.tick) (released_link (key_of lsa)) 0 before.links;
    each = λ l link. map-map (flooded_neighbour (key_of lsa) (header_of lsa) (on_link from l) before.tick) (key_unlisted (key_of lsa)) link.neighbours;
    waiting = λ l link h c. inl c;
    floods = λ l n. subst (λ i. FloodsTo i (HoldsInstance before i) (came l n) n (past l n)) (sym (stored_instance lsa before.tick by_flooding)) (past_floods l n);
    same_router = stores.same_router;
    direct = λ h c. subst (λ hs. Contains hs h) stores.same_direct c;
  }

  from_told : (l : ℕ) (n : NeighbourValue) (o : Option PacketSource) → from ≡ o → came_from (on_link o l) n ≡ true → IsAcknowledged heard l n.router (instance_of lsa)
  from_told l n None is c = absurd (false≢true c)
  from_told l n (Some f) is c = go (f.link == l) refl c
    where
      go : (b : Bool) → (f.link == l) ≡ b → came_from (cond b (Some f) None) n ≡ true → IsAcknowledged heard l n.router (instance_of lsa)
      go false here c = absurd (false≢true c)
      go true here c =
          subst (λ k. IsAcknowledged heard k n.router (instance_of lsa)) (eqb-true f.link l here)
          (subst (λ q. IsAcknowledged heard f.link q (instance_of lsa)) (same_router f.router n.router (eqb-true f.router.0 n.router.0 c)) (told f is))

  an_update : (p : Meaning) → Sends out p → IsUpdateOf (context_of before) lsa p
  an_update p s = subst (λ m. IsUpdateOf (context_of before) lsa m) (sent_packet out p read s) (flooding-packets (context_of before) lsa from (released (key_of lsa) before.links) s.datagram (subst (λ ds. Contains ds s.datagram) sent s.sent))

  is_accounted : IsAccounted heard before out after e came no_acks past
  unfolding e came no_acks
  is_accounted = record {
    is_lsa = subst (λ l. IsLsa l) (sym (stored_is lsa before.tick by_flooding)) (IsLsa-with_age (header_of lsa).age lsa is_lsa);
    replaces = λ copy is. Replaces.ByNewer lsa (sym (stored_instance lsa before.tick by_flooding))
        (newer copy (ap (copy_of before) (sym (stored_key lsa before.tick by_flooding)) ∙ is))
        (stored copy (ap (copy_of before) (sym (stored_key lsa before.tick by_flooding)) ∙ is));
    known = inr (subst (λ i. Brings out i) (sym (stored_instance lsa before.tick by_flooding)) brings);
    holds = inr (subst (λ i. Brings out i) (sym (stored_instance lsa before.tick by_flooding)) brings);
    has = subst (λ c. HasContents heard before out c) (sym (stored_contents lsa before.tick by_flooding)) has;
    brings_only = λ i b. brings_only i b ∙ sym (stored_instance lsa before.tick by_flooding);
    told = λ l n c. subst (λ i. IsAcknowledged heard l n.router i) (sym (stored_instance lsa before.tick by_flooding)) (from_told l n from refl c);
    acknowledged = λ l h i c. absurd (Contains-nil h c);
    bears = λ p s. ap (λ m. m.router) (an_update p s).packet;
    sends = λ p one s c. sent_one out before lsa p (an_update p s) one c ∙ sym (stored_contents lsa before.tick by_flooding);
    names = λ p i s lists. names_one before lsa p i (an_update p s) lists ∙ sym (stored_instance lsa before.tick by_flooding);
    numbers = numbers;
    counted = subst (λ i. i.key.router ≡ before.router → i.number ≤ℤ kept_number after i.key) (sym (stored_instance lsa before.tick by_flooding)) counted;
    none_ended = none_ended;
  }

  pub Stores-accountable : IsAccountable heard before out after
  Stores-accountable = record {
    accounts = flooding.Floods-accounts heard before out after e came no_acks change past is_flooded is_accounted;
    sound = flooding.Floods-sound heard before out after e came no_acks change past is_flooded is_accounted;
    none_enters = flooding.Floods-none_enters heard before out after e came no_acks change past is_flooded is_accounted;
    none_ended = none_ended;
  }

-- the kept numbers do not fall
pub Stores-kept : (lsa : List ℕ) (from : Option PacketSource) (before after : AreaValue) (k : LsaKey) → Stores lsa from before after → kept_number before k ≤ℤ kept_number after k
Stores-kept lsa from before after k stores = subst (λ s. kept_number before k ≤ℤ kept_number s k) (sym stores.rest) (counts-kept (key_of lsa) (header_of lsa).number before k)

pub Stores-known : (lsa : List ℕ) (from : Option PacketSource) (before after : AreaValue) → Stores lsa from before after → (key_of lsa).router ≡ before.router → (instance_of lsa).number ≤ℤ kept_number after (key_of lsa)
Stores-known lsa from before after stores own = subst (λ s. (instance_of lsa).number ≤ℤ kept_number s (key_of lsa)) (sym stores.rest) (counts-known (key_of lsa) (header_of lsa).number before own)

-- the LSA is held
pub Stores-holds : (lsa : List ℕ) (from : Option PacketSource) (by_flooding : Bool) (before after : AreaValue) → StoresBy lsa from by_flooding before after → HoldsInstance after (instance_of lsa)
Stores-holds lsa from by_flooding before after stores = (lsa_of e, copy_of-has after (key_of lsa) (lsa_of e) (ap copy_in here), stored_instance lsa before.tick by_flooding)
  where
    e : Entry
    e = entry_from lsa before.tick by_flooding

    here : database_entry after (key_of lsa) ≡ Some e
    here = installs e before.database after.database stores.database (key_of lsa) ∙ cond-true _ _ _ (subst (λ k. same_key k (key_of lsa) ≡ true) (sym (stored_key lsa before.tick by_flooding)) (same_key-refl (key_of lsa)))
