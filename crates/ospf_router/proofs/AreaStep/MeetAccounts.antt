-- What each LSA of an Update, and each header of an Acknowledgment, accounts for.
use Rattle.std.proofs.Common.{◌≡◌, ◌⊎◌, inl, inr, ◌==◌, ◌&&◌, ◌++◌, ℕ, zero, suc, Bool, true, false, cond, not, List, [], ◌∷◌, map, Option, None, Some, refl, sym, ap, subst, ◌∙◌, arith}
use Rattle.std.specs.Prelude.{⊤}
use Rattle.std.specs.List.{Contains, slice_get}
use Rattle.std.proofs.lemmas.Option.{none-some, same_Some}
use Rattle.std.proofs.lemmas.List.Elements.{Contains-append_cases}
use Rattle.ospf_base.specs.Sums.{contents}
use Rattle.ospf_base.specs.declared.ids.Instance.{Instance}
use Rattle.ospf_base.specs.declared.ids.LsaKey.{LsaKey}
use Rattle.ospf_lsa.specs.Header.{header_of, key_of_header}
use Rattle.ospf_lsa.specs.Lsa.{IsLsa, key_of, instance_of}
use Rattle.ospf_lsa.specs.Recency.{recency}
use Rattle.ospf_lsa.specs.declared.header.LsaHeader.{LsaHeader}
use Rattle.ospf_lsa.specs.declared.recency.Recency.{Recency}
use Rattle.ospf_lsa.specs.declared.recency.Recency.TheVariants.{Newer, Older, Same}
use Rattle.ospf_lsdb.specs.Database as lsdb
use Rattle.ospf_lsdb.specs.Database.{Entry, lsa_of, instance_at, header_at}
use Rattle.ospf_exchange.proofs.Words as exchange
use Rattle.ospf_flood.specs.Rules.{is_sent_back, lsa_rule}
use Rattle.ospf_flood.specs.declared.acknowledgement.Acknowledgement.{Acknowledgement}
use Rattle.ospf_flood.specs.declared.acknowledgement.Acknowledgement.TheVariants as answer
use Rattle.ospf_flood.specs.declared.rule.LsaRule.{LsaRule}
use Rattle.ospf_flood.specs.declared.rule.LsaRule.TheVariants as rule
use Rattle.ospf_packet.specs.Meaning.{BodyMeaning, hello, description, request, update, acknowledgment, Meaning}
use Rattle.ospf_neighbour.specs.Neighbour.{NeighbourValue}
use Rattle.ospf_area.specs.Acting.{Becomes}
use Rattle.ospf_area.specs.Updates.Meets.{MeetsRule, MeetsLsa, Admits, duplicated, header_met, reply_to, reply_out, heard_by, first_dd_on, restarted, replied, named_by}
use Rattle.ospf_area.proofs.Updates.Words.{reply_of, lsa_out, taken_off, first_dd, first_description, lsa_out_on}
use Rattle.ospf_area.specs.Sending.{context_of, and_sends, packet_from, sent_lsa}
use Rattle.ospf_area.specs.Numbers.{is_self_originated}
use Rattle.ospf_area.specs.Outputs.{OutputsValue, SentValue, no_outputs, AreReadAsSent}
use Rattle.ospf_area.specs.Places.{map_from}
use Rattle.ospf_area.specs.Flooding.{flooded_back, released}
use Rattle.ospf_flood.proofs.Words.{came_just_now, case_of_newer, case_of_same, rule_over}
use Rattle.ospf_flood.specs.declared.acknowledgement.AcknowledgementCase.TheVariants.{Expired}
use Rattle.ospf_area.specs.Standing.{acknowledging, answer_at}
use Rattle.ospf_lsdb.specs.Moments.{among}
use Rattle.ospf_area.specs.State.{AreaValue, LinkValue, database_entry, copy_of, numbering_of, some_link_loading, neighbour_at, state_in}
use Rattle.ospf_area.proofs.Words.{copy_in, kept_in, changed_on, delayed_on, is_requested_of, and_takes, is_awaited_of}
use Rattle.ospf_area.specs.declared.changes.AdjacencyChange.{AdjacencyChange}
use Rattle.ospf_area.specs.declared.changes.AdjacencyChange.TheVariants as change
use Rattle.ospf_area.specs.declared.flooding.PacketSource.{PacketSource}
use Rattle.ospf_router.specs.AreaStep.Links.{AreKnown, IsKnownPacket}
use Rattle.ospf_router.specs.AreaStep.Headers.{IsOfInstance}
use Rattle.ospf_router.specs.AreaStep.Packets.{Received, lsas_of, acknowledging_headers_of}
use Rattle.ospf_router.specs.AreaStep.Parts.{LsaPart}
use Rattle.ospf_router.specs.AreaStep.Words.{CanName, HoldsInstance, HasCopy, Brings, IsSoundState}
use Rattle.ospf_router.specs.AreaStep.Accounts.{HasContents, IsAcknowledged, TakesItsPlace, Sends, Numbers}
use Rattle.ospf_router.proofs.AreaStep.Accountable.{IsAccountable, Unchanged-accountable, both-accountable, then_nothing, sent_packet}
use Rattle.ospf_router.proofs.AreaStep.StateFacts.{Contains-nil, Contains-map, same_contents, header_is_of, header_names, recency-same, copy_of-has, entry_of-key, key_of-lsa_of}
use Rattle.ospf_area.proofs.Updates.PassLemmas.{Passes, passed}
use Rattle.ospf_router.proofs.AreaStep.QuietAccounts.{brings_none, OnlySendsKnown, IsNamed, Numbers-none_issued, none_ended}
use Rattle.ospf_router.proofs.AreaStep.SentFacts.{datagrams-packet}
use Rattle.ospf_router.proofs.AreaStep.ShrinkAccounts.{ShrinksTo, ShrinkBy, Shrinks-accountable, same-shrinks, map_from-id, map-id, change_of, change-each, change-waiting, change-shrinks, delay-each, delay-waiting, IsTold}
use Rattle.ospf_router.proofs.AreaStep.StoreAccounts.{Stores-by, Stores-accountable, Stores-kept, Stores-known, Stores-holds}
use Rattle.ospf_base.specs.Constants.{max_age}
use Rattle.ospf_neighbour.specs.Machine.{is_exchanging}

one_of : {X : Type 0} (x y : X) → Contains (x ∷ []) y → y ≡ x
one_of x y (zero, within, is) = sym is
one_of x y (suc k, within, is) = absurd (omega arith)

-- ---- what a rule says of the copy

abbrev Says : AreaValue → List ℕ → LsaRule → Type 0
Says s lsa rule.AcknowledgesExpired = database_entry s (key_of lsa) ≡ None
Says s lsa rule.TooSoon = ⊤
Says s lsa rule.Installs = (copy : Entry) → database_entry s (key_of lsa) ≡ Some copy → recency (header_of lsa) (header_at copy) ≡ Newer
Says s lsa rule.BadRequest = ⊤
Says s lsa rule.Duplicate = (copy : Entry) × (database_entry s (key_of lsa) ≡ Some copy) × (recency (header_of lsa) (header_at copy) ≡ Same)
Says s lsa rule.Stale = ⊤

rule_says : (s : AreaValue) (lsa : List ℕ) (loading requested : Bool) (tick : ℕ) → Says s lsa (lsa_rule (header_of lsa) (database_entry s (key_of lsa)) loading requested tick)
rule_says s lsa loading requested tick = by (database_entry s (key_of lsa)) refl
  where
    new : (b : Bool) → database_entry s (key_of lsa) ≡ None → Says s lsa (cond b rule.AcknowledgesExpired rule.Installs)
    new true none = none
    new false none = λ copy has. absurd (none-some copy (sym none ∙ has))

    newer : (b : Bool) → ((c : Entry) → database_entry s (key_of lsa) ≡ Some c → recency (header_of lsa) (header_at c) ≡ Newer) → Says s lsa (cond b rule.TooSoon rule.Installs)
    newer true says = tt
    newer false says = says

    same : (b : Bool) → (c : Entry) × (database_entry s (key_of lsa) ≡ Some c) × (recency (header_of lsa) (header_at c) ≡ Same) → Says s lsa (cond b rule.BadRequest rule.Duplicate)
    same true says = tt
    same false says = says

    older : (b : Bool) → Says s lsa (cond b rule.BadRequest rule.Stale)
    older true = tt
    older false = tt

    over : (copy : Entry) → database_entry s (key_of lsa) ≡ Some copy → (r : Recency) → recency (header_of lsa) (header_at copy) ≡ r → Says s lsa (rule_over r copy requested tick)
    over copy has Newer is = newer (came_just_now copy tick) (λ c has'. subst (λ c. recency (header_of lsa) (header_at c) ≡ Newer) (same_Some copy c (sym has ∙ has')) is)
    over copy has Same is = same requested (copy, has, is)
    over copy has Older is = older requested

    by : (o : Option Entry) → database_entry s (key_of lsa) ≡ o → Says s lsa (lsa_rule (header_of lsa) o loading requested tick)
    by None has = new (((header_of lsa).age == max_age) && not loading) has
    by (Some copy) has = over copy has (recency (header_of lsa) (header_at copy)) refl

-- ---- acknowledgements

pub sends_nothing : (s : AreaValue) → OnlySendsKnown s no_outputs
sends_nothing s = record {
  unheld = λ i b. absurd (brings_none no_outputs i refl refl b);
  issued = refl;
  ended = refl;
  bears = λ p d. absurd (Contains-nil d.datagram d.sent);
  updates = λ p lsa d. absurd (Contains-nil d.datagram d.sent);
  named = λ p i d. absurd (Contains-nil d.datagram d.sent);
}

-- a state that differs in its links, direct acknowledgements and what no law reads
shrink_by : (heard : Option Received) (out : OutputsValue) (s after : AreaValue) (f : ℕ → LinkValue → LinkValue) (g : ℕ → NeighbourValue → NeighbourValue) → after.links ≡ map_from f 0 s.links → after.router ≡ s.router → after.database ≡ s.database → after.numbering ≡ s.numbering → after.floor ≡ s.floor → ((h : LsaHeader) → Contains after.direct h → Contains s.direct h ⊎ IsNamed s out h) → ((l : ℕ) (link : LinkValue) → (f l link).neighbours ≡ map (g l) link.neighbours) → ((l : ℕ) (link : LinkValue) (h : LsaHeader) → Contains (f l link).delayed h → Contains link.delayed h ⊎ IsNamed s out h) → ((l : ℕ) (n : NeighbourValue) → ShrinksTo heard l n (g l n)) → ShrinkBy heard s out f g after
shrink_by heard out s after f g links router database numbering floor direct each waiting shrinks = record {
  links = links;
  same_router = router;
  database = λ key. ap (λ db. lsdb.entry_of db key) database;
  numbering = λ key. ap (λ ns. kept_in after.floor (numbering_of ns key)) numbering ∙ ap (λ fl. kept_in fl (numbering_of s.numbering key)) floor;
  direct = direct;
  each = each;
  waiting = waiting;
  shrinks = shrinks;
}

-- the header is acknowledged, and a key may be noted to be answered
ack-accountable : (heard : Option Received) (out : OutputsValue) (a : Acknowledgement) (f : PacketSource) (h : LsaHeader) (key : LsaKey) (noted : Bool) (s : AreaValue) → OnlySendsKnown s out → IsNamed s out h → IsAccountable heard s out (cond noted (record (acknowledging a f h s) { heard = (acknowledging a f h s).heard ++ key ∷ [] }) (acknowledging a f h s))
ack-accountable heard out a f h key noted s sends known = by a noted
  where
    still : ℕ → LinkValue → LinkValue
    still l link = link

    alone : ℕ → NeighbourValue → NeighbourValue
    alone l n = n

    now : (x : LsaHeader) → Contains (s.direct ++ h ∷ []) x → Contains s.direct x ⊎ IsNamed s out x
    now x c = elim (Contains-append_cases s.direct (h ∷ []) x c) [ inl there ↦ inl there | inr new ↦ inr (subst (λ x. IsNamed s out x) (sym (one_of h x new)) known) ]

    later : (l : ℕ) (link : LinkValue) (x : LsaHeader) → Contains (delayed_on f.link h l link).delayed x → Contains link.delayed x ⊎ IsNamed s out x
    later l link x c = elim (delay-waiting f.link h l link x c) [ inl there ↦ inl there | inr new ↦ inr (subst (λ x. IsNamed s out x) (sym new) known) ]

    quiet : (after : AreaValue) (fl : ℕ → LinkValue → LinkValue) → ShrinkBy heard s out fl alone after → IsAccountable heard s out after
    quiet after fl sh = Shrinks-accountable heard s out after fl alone sh sends

    by : (a : Acknowledgement) (noted : Bool) → IsAccountable heard s out (cond noted (record (acknowledging a f h s) { heard = (acknowledging a f h s).heard ++ key ∷ [] }) (acknowledging a f h s))
    by answer.None true = quiet _ still (shrink_by heard out s (record s { heard = s.heard ++ key ∷ [] }) still alone (map_from-id 0 s.links) refl refl refl refl (λ x c. inl c) (λ l link. map-id link.neighbours) (λ l link x c. inl c) (λ l n. same-shrinks heard l n))
    by answer.None false = quiet _ still (shrink_by heard out s s still alone (map_from-id 0 s.links) refl refl refl refl (λ x c. inl c) (λ l link. map-id link.neighbours) (λ l link x c. inl c) (λ l n. same-shrinks heard l n))
    by answer.Direct true = quiet _ still (shrink_by heard out s (record s { direct = s.direct ++ h ∷ []; heard = s.heard ++ key ∷ [] }) still alone (map_from-id 0 s.links) refl refl refl refl now (λ l link. map-id link.neighbours) (λ l link x c. inl c) (λ l n. same-shrinks heard l n))
    by answer.Direct false = quiet _ still (shrink_by heard out s (record s { direct = s.direct ++ h ∷ [] }) still alone (map_from-id 0 s.links) refl refl refl refl now (λ l link. map-id link.neighbours) (λ l link x c. inl c) (λ l n. same-shrinks heard l n))
    by answer.Delayed true = quiet _ (delayed_on f.link h) (shrink_by heard out s (record (acknowledging answer.Delayed f h s) { heard = s.heard ++ key ∷ [] }) (delayed_on f.link h) alone refl refl refl refl refl (λ x c. inl c) (delay-each f.link h) later (λ l n. same-shrinks heard l n))
    by answer.Delayed false = quiet _ (delayed_on f.link h) (shrink_by heard out s (acknowledging answer.Delayed f h s) (delayed_on f.link h) alone refl refl refl refl refl (λ x c. inl c) (delay-each f.link h) later (λ l n. same-shrinks heard l n))

-- ---- changes of the sender

abbrev changed_area : PacketSource → AdjacencyChange → AreaValue → AreaValue
changed_area f c s = record s { links = map_from (changed_on f c s.tick) 0 s.links }

change_by : (heard : Option Received) (out : OutputsValue) (f : PacketSource) (c : AdjacencyChange) (s after : AreaValue) → after.links ≡ map_from (changed_on f c s.tick) 0 s.links → after.router ≡ s.router → after.database ≡ s.database → after.numbering ≡ s.numbering → after.floor ≡ s.floor → after.direct ≡ s.direct → ((n : NeighbourValue) → n.router ≡ f.router → IsTold heard f.link n c) → ShrinkBy heard s out (changed_on f c s.tick) (change_of f c s.tick) after
change_by heard out f c s after links router database numbering floor direct told =
    shrink_by heard out s after (changed_on f c s.tick) (change_of f c s.tick) links router database numbering floor
    (λ h x. inl (subst (λ hs. Contains hs h) direct x))
    (λ l link. change-each f c s.tick l link)
    (λ l link h x. inl (subst (λ hs. Contains hs h) (change-waiting f c s.tick l link) x))
    (λ l n. change-shrinks heard f c s.tick l n (told n))

-- ---- what is sent

pub sends_known : (s : AreaValue) (ds : List SentValue) → AreReadAsSent (and_sends no_outputs ds).sent → AreKnown s ds → OnlySendsKnown s (and_sends no_outputs ds)
sends_known s ds read known = record {
  unheld = λ i b. absurd (brings_none (and_sends no_outputs ds) i refl refl b);
  issued = refl;
  ended = refl;
  bears = λ p x. (packet p x).router;
  updates = λ p lsa x c. (packet p x).lsas lsa c;
  named = λ p i x lists. (packet p x).names i lists;
}
  where
    packet : (p : Meaning) → Sends (and_sends no_outputs ds) p → IsKnownPacket s p
    packet p x = subst (λ m. IsKnownPacket s m) (sent_packet (and_sends no_outputs ds) p read x) (known x.datagram x.sent)

-- ---- the copy

has_entry : (s : AreaValue) (key : LsaKey) (copy : Entry) → database_entry s key ≡ Some copy → HasCopy s (lsa_of copy)
has_entry s key copy at = copy_of-has s key (lsa_of copy) (ap copy_in at)

entry_instance : (s : AreaValue) (key : LsaKey) (copy : Entry) → database_entry s key ≡ Some copy → (instance_at copy).key ≡ key
entry_instance s key copy at = key_of-lsa_of copy ∙ entry_of-key s key copy at

copy_is_of : (s : AreaValue) (key : LsaKey) (copy : Entry) → IsSoundState s → database_entry s key ≡ Some copy → IsOfInstance (header_at copy) (instance_at copy)
copy_is_of s key copy sound at = header_is_of (lsa_of copy) (sound.lsas (lsa_of copy) (has_entry s key copy at))

holds_copy : (s : AreaValue) (key : LsaKey) (copy : Entry) → database_entry s key ≡ Some copy → HoldsInstance s (instance_at copy)
holds_copy s key copy at = (lsa_of copy, has_entry s key copy at, refl)

-- an LSA heard names its instance
names-lsa : (heard : Option Received) (r : Received) (lsa : List ℕ) → heard ≡ Some r → Contains (lsas_of r.packet.body) lsa → IsLsa lsa → IsAcknowledged heard r.link r.packet.router (instance_of lsa)
names-lsa heard r lsa h c is = record { received = r; is_heard = h; link = refl; from = refl; named = (header_of lsa, by r.packet.body c, header_is_of lsa is) }
  where
    by : (b : BodyMeaning) → Contains (lsas_of b) lsa → Contains (acknowledging_headers_of b) (header_of lsa)
    by (hello fields neighbours) c = absurd (Contains-nil lsa c)
    by (description fields headers) c = absurd (Contains-nil lsa c)
    by (request entries) c = absurd (Contains-nil lsa c)
    by (update lsas) c = Contains-map header_of lsas lsa c
    by (acknowledgment headers) c = absurd (Contains-nil lsa c)

as_outputs : (heard : Option Received) (s t : AreaValue) (a b : OutputsValue) → a ≡ b → IsAccountable heard s b t → IsAccountable heard s a t
as_outputs heard s t a b same x = subst (λ o. IsAccountable heard s o t) (sym same) x

as_state : (heard : Option Received) (s t u : AreaValue) (a : OutputsValue) → t ≡ u → IsAccountable heard s a u → IsAccountable heard s a t
as_state heard s t u a same x = subst (λ v. IsAccountable heard s a v) (sym same) x

-- ---- the rules of an Update

module _ (heard : Option Received) (p : Meaning) (f : PacketSource) (lsa : List ℕ) (before : AreaValue) (out : OutputsValue) (after : AreaValue) (is_lsa : IsLsa lsa) (sound : IsSoundState before) (hears : heard ≡ Some (record { link = f.link; packet = p })) (from : p.router ≡ f.router) (in_p : Contains (lsas_of p.body) lsa) (read : AreReadAsSent out.sent) where
  received : Received
  received = record { link = f.link; packet = p }

  told : IsAcknowledged heard f.link f.router (instance_of lsa)
  unfolding received
  told = subst (λ q. IsAcknowledged heard f.link q (instance_of lsa)) from (names-lsa heard received lsa hears in_p is_lsa)

  told_by : (n : NeighbourValue) → n.router ≡ f.router → IsAcknowledged heard f.link n.router (instance_of lsa)
  told_by n same = subst (λ q. IsAcknowledged heard f.link q (instance_of lsa)) (sym same) told

  named : (s : AreaValue) (o : OutputsValue) → CanName s (instance_of lsa) ⊎ Brings o (instance_of lsa) → IsNamed s o (header_of lsa)
  named s o known i is = subst (λ i. CanName s i ⊎ Brings o i) (header_names lsa i is) known

  nothing : Becomes before no_outputs out after → IsAccountable heard before out after
  nothing u = Unchanged-accountable heard before out after (record { state = u.state; outputs = u.outputs })

  -- it is stored, and flooded
  admitted : ((copy : Entry) → database_entry before (key_of lsa) ≡ Some copy → recency (header_of lsa) (header_at copy) ≡ Newer) → Admits f lsa before no_outputs out after → IsAccountable heard before out after
  admitted newer a =
      as_state heard before after _ out a.state
      (subst (λ o. IsAccountable heard before o (heard_by (key_of lsa) (acknowledging how f (header_of lsa) a.mid))) (then_nothing out) (both-accountable heard before a.mid _ out no_outputs stored acknowledged))
    where
      how : Acknowledgement
      how = answer_at (case_of_newer (flooded_back (key_of lsa) (header_of lsa) (Some f) (released (key_of lsa) before.links))) f a.mid.links

      newer_copy : (copy : List ℕ) → copy_of before (key_of lsa) ≡ Some copy → recency (header_of lsa) (header_of copy) ≡ Newer
      newer_copy copy is = go (database_entry before (key_of lsa)) refl is
        where
          go : (o : Option Entry) → database_entry before (key_of lsa) ≡ o → copy_in o ≡ Some copy → recency (header_of lsa) (header_of copy) ≡ Newer
          go None at is = absurd (none-some copy is)
          go (Some e) at is = subst (λ l. recency (header_of lsa) (header_of l) ≡ Newer) (same_Some (lsa_of e) copy is) (newer e at)

      taken : Contains out.taken (instance_of lsa)
      taken = subst (λ o. Contains o.taken (instance_of lsa)) (sym a.outputs) (0, omega arith, refl)

      only : (i : Instance) → Brings out i → i ≡ instance_of lsa
      only i (Brings.Takes c) = one_of (instance_of lsa) i (subst (λ o. Contains o.taken i) a.outputs c)
      only i (Brings.Issues one c e) = absurd (Contains-nil one (subst (λ o. Contains o.issued one) a.outputs c))

      ends_none : out.ended ≡ []
      ends_none = ap (λ o. o.ended) a.outputs

      numbers : Numbers heard before out a.mid
      numbers = Numbers-none_issued heard before out a.mid (ap (λ o. o.issued) a.outputs)
          (λ key goes_on. Stores-kept lsa (Some f) before a.mid key a.stores)
          (λ key ends. absurd (none_ended out key ends_none ends))
          (λ key ends. absurd (none_ended out key ends_none ends))

      stored : IsAccountable heard before out a.mid
      stored = Stores-accountable heard lsa (Some f) true before out a.mid (Stores-by lsa (Some f) before a.mid a.stores) is_lsa newer_copy (λ copy is. TakesItsPlace.Installed (record { link = f.link; packet = p }) hears in_p taken) (Brings.Takes taken) only
          (HasContents.Heard (record { link = f.link; packet = p }) lsa hears in_p refl)
          (λ g same. subst (λ g. IsAcknowledged heard g.link g.router (instance_of lsa)) (same_Some f g same) told)
          (ap (λ o. o.sent) a.outputs) read numbers (Stores-known lsa (Some f) before a.mid a.stores) ends_none

      acknowledged : IsAccountable heard a.mid no_outputs (heard_by (key_of lsa) (acknowledging how f (header_of lsa) a.mid))
      acknowledged = ack-accountable heard no_outputs how f (header_of lsa) (key_of lsa) (is_self_originated (acknowledging how f (header_of lsa) a.mid).router (acknowledging how f (header_of lsa) a.mid).links (key_of lsa)) a.mid (sends_nothing a.mid)
          (named a.mid no_outputs (inl (CanName.InDatabase (Stores-holds lsa (Some f) true before a.mid (Stores-by lsa (Some f) before a.mid a.stores)))))

  -- it is at MaxAge, and not known
  answered : database_entry before (key_of lsa) ≡ None → Becomes (acknowledging (answer_at Expired f before.links) f (header_of lsa) before) (and_takes no_outputs (instance_of lsa)) out after → IsAccountable heard before out after
  answered none a =
      as_state heard before after _ out a.state
      (ack-accountable heard out (answer_at Expired f before.links) f (header_of lsa) (key_of lsa) false before sends (named before out (inr brings)))
    where
      brings : Brings out (instance_of lsa)
      brings = Brings.Takes (subst (λ o. Contains o.taken (instance_of lsa)) (sym a.outputs) (0, omega arith, refl))

      not_held : (i : Instance) → Brings out i → HoldsInstance before i → ⊥
      not_held i (Brings.Takes c) (copy, has, is) =
          let this : i ≡ instance_of lsa = one_of (instance_of lsa) i (subst (λ o. Contains o.taken i) a.outputs c) in
          none-some copy (sym (ap copy_in none) ∙ (ap (copy_of before) (sym (ap (λ i. i.key) (is ∙ this))) ∙ has))
      not_held i (Brings.Issues one c e) holds = Contains-nil one (subst (λ o. Contains o.issued one) a.outputs c)

      sends : OnlySendsKnown before out
      sends = record {
        unheld = not_held;
        issued = ap (λ o. o.issued) a.outputs;
        ended = ap (λ o. o.ended) a.outputs;
        bears = λ p d. absurd (Contains-nil d.datagram (subst (λ o. Contains o.sent d.datagram) a.outputs d.sent));
        updates = λ p lsa d. absurd (Contains-nil d.datagram (subst (λ o. Contains o.sent d.datagram) a.outputs d.sent));
        named = λ p i d. absurd (Contains-nil d.datagram (subst (λ o. Contains o.sent d.datagram) a.outputs d.sent));
      }

  -- BadLSReq
  restarting : Becomes (restarted f before) (and_sends no_outputs (first_dd f before)) out after → IsAccountable heard before out after
  restarting r =
      as_outputs heard before after out (and_sends no_outputs (first_dd f before)) r.outputs
      (as_state heard before after (restarted f before) _ r.state
      (Shrinks-accountable heard before (and_sends no_outputs (first_dd f before)) (restarted f before) (changed_on f (change.Restarts before.next_dd) before.tick) (change_of f (change.Restarts before.next_dd) before.tick)
      (change_by heard (and_sends no_outputs (first_dd f before)) f (change.Restarts before.next_dd) before (restarted f before) refl refl refl refl refl refl (λ n same. tt))
      (sends_known before (first_dd f before) (subst (λ o. AreReadAsSent o.sent) r.outputs read) first)))
    where
      by : (o : Option LinkValue) (d : SentValue) → Contains (first_dd_on (context_of before) f before.next_dd o) d → IsKnownPacket before d.packet
      by None d c = absurd (Contains-nil d c)
      by (Some link) d c = subst (λ m. IsKnownPacket before m) (sym (datagrams-packet _ (packet_from (context_of before) (description (first_description link.settings.mtu before.next_dd) [])) d c)) (record {
        router = refl;
        lsas = λ lsa c. absurd (Contains-nil lsa c);
        names = λ i lists. absurd (Contains-nil lists.0 lists.1);
      })

      first : (d : SentValue) → Contains (first_dd f before) d → IsKnownPacket before d.packet
      first d c = by (slice_get before.links f.link) d c

  -- the same instance as the copy
  duplicate : (copy : Entry) → database_entry before (key_of lsa) ≡ Some copy → recency (header_of lsa) (header_at copy) ≡ Same → Becomes (duplicated f lsa before) no_outputs out after → IsAccountable heard before out after
  duplicate copy at same d =
      as_outputs heard before after out no_outputs d.outputs
      (as_state heard before after _ no_outputs d.state
      (both-accountable heard before mid _ no_outputs no_outputs left acknowledged))
    where
      mid : AreaValue
      mid = changed_area f (change.Acknowledges (instance_of lsa)) before

      one : instance_of lsa ≡ instance_at copy
      one = recency-same (header_of lsa) (header_at copy) (instance_of lsa) (instance_at copy) (header_is_of lsa is_lsa) (copy_is_of before (key_of lsa) copy sound at) (sym (entry_instance before (key_of lsa) copy at)) same

      holds : HoldsInstance mid (instance_of lsa)
      holds = subst (λ i. HoldsInstance mid i) (sym one) (holds_copy mid (key_of lsa) copy at)

      left : IsAccountable heard before no_outputs mid
      left = Shrinks-accountable heard before no_outputs mid (changed_on f (change.Acknowledges (instance_of lsa)) before.tick) (change_of f (change.Acknowledges (instance_of lsa)) before.tick)
          (change_by heard no_outputs f (change.Acknowledges (instance_of lsa)) before mid refl refl refl refl refl refl told_by)
          (sends_nothing before)

      how : Acknowledgement
      how = answer_at (case_of_same (is_awaited_of (instance_of lsa) (neighbour_at before.links f.link f.router))) f before.links

      acknowledged : IsAccountable heard mid no_outputs (acknowledging how f (header_of lsa) mid)
      acknowledged = ack-accountable heard no_outputs how f (header_of lsa) (key_of lsa) false mid (sends_nothing mid) (named mid no_outputs (inl (CanName.InDatabase holds)))

  -- older than the copy
  stale : Becomes (replied (reply_to before (key_of lsa)) f (key_of lsa) before) (and_sends no_outputs (reply_out (reply_to before (key_of lsa)) f before)) out after → IsAccountable heard before out after
  stale r = go (reply_to before (key_of lsa)) is_copy (subst (λ o. AreReadAsSent o.sent) r.outputs read) r.state r.outputs
    where
      by : (o : Option Entry) (sent : Bool) → database_entry before (key_of lsa) ≡ o → (l : List ℕ) → reply_of o sent ≡ Some l → HasCopy before l
      by None sent at l is = absurd (none-some l is)
      by (Some copy) sent at l is = if_sent (is_sent_back copy sent) is
        where
          if_sent : (b : Bool) → cond b (Some (lsa_of copy)) None ≡ Some l → HasCopy before l
          if_sent true is = subst (λ l. HasCopy before l) (same_Some (lsa_of copy) l is) (has_entry before (key_of lsa) copy at)
          if_sent false is = absurd (none-some l is)

      is_copy : (l : List ℕ) → reply_to before (key_of lsa) ≡ Some l → HasCopy before l
      is_copy l is = by (database_entry before (key_of lsa)) (among before.sent (key_of lsa)) refl l is

      link_sends : (l : List ℕ) (o : Option LinkValue) (d : SentValue) → HasCopy before l → Contains (lsa_out_on (context_of before) f l o) d → IsKnownPacket before d.packet
      link_sends l None d has c = absurd (Contains-nil d c)
      link_sends l (Some link) d has c = subst (λ m. IsKnownPacket before m) (sym (datagrams-packet _ (packet_from (context_of before) (update (sent_lsa link.settings.transmit_delay l ∷ []))) d c)) (record {
        router = refl;
        lsas = λ one c. record { lsa = l; copy = has; same = ap contents (sym (one_of (sent_lsa link.settings.transmit_delay l) one c)) };
        names = λ i lists. CanName.InDatabase (
          l,
          has,
          same_contents l (sent_lsa link.settings.transmit_delay l) refl ∙ header_names (sent_lsa link.settings.transmit_delay l) i (subst (λ h. IsOfInstance h i) (one_of (header_of (sent_lsa link.settings.transmit_delay l)) lists.0 lists.1) lists.2),
        );
      })

      go : (o : Option (List ℕ)) → ((l : List ℕ) → o ≡ Some l → HasCopy before l) → AreReadAsSent (and_sends no_outputs (reply_out o f before)).sent → after ≡ replied o f (key_of lsa) before → out ≡ and_sends no_outputs (reply_out o f before) → IsAccountable heard before out after
      go None has reads state outputs = Unchanged-accountable heard before out after (record { state = state; outputs = outputs })
      go (Some l) has reads state outputs =
          as_outputs heard before after out (and_sends no_outputs (lsa_out f l before)) outputs
          (as_state heard before after (replied (Some l) f (key_of lsa) before) _ state
          (Shrinks-accountable heard before (and_sends no_outputs (lsa_out f l before)) (replied (Some l) f (key_of lsa) before) (changed_on f (change.IsSent (instance_of l)) before.tick) (change_of f (change.IsSent (instance_of l)) before.tick)
          (change_by heard (and_sends no_outputs (lsa_out f l before)) f (change.IsSent (instance_of l)) before (replied (Some l) f (key_of lsa) before) refl refl refl refl refl refl (λ n same. tt))
          (sends_known before (lsa_out f l before) reads (λ d c. link_sends l (slice_get before.links f.link) d (has l refl) c))))

  by_rule : (r : LsaRule) → Says before lsa r → MeetsRule (Some r) f lsa before no_outputs out after → IsAccountable heard before out after
  by_rule rule.AcknowledgesExpired says m = answered says m
  by_rule rule.TooSoon says m = nothing m
  by_rule rule.Installs says m = admitted says m
  by_rule rule.BadRequest says m = restarting m
  by_rule rule.Duplicate (copy, at, same) m = duplicate copy at same m
  by_rule rule.Stale says m = stale m

  pub MeetsLsa-accountable : MeetsLsa f lsa before no_outputs out after → IsAccountable heard before out after
  MeetsLsa-accountable m = go (is_exchanging (state_in (neighbour_at before.links f.link f.router))) m
    where
      rule_here : LsaRule
      rule_here = lsa_rule (header_of lsa) (database_entry before (key_of lsa)) (some_link_loading before.links) (is_requested_of (key_of lsa) (neighbour_at before.links f.link f.router)) before.tick

      go : (b : Bool) → MeetsRule (cond b (Some rule_here) None) f lsa before no_outputs out after → IsAccountable heard before out after
      go false m = nothing m
      go true m = by_rule rule_here (rule_says before lsa (some_link_loading before.links) (is_requested_of (key_of lsa) (neighbour_at before.links f.link f.router)) before.tick) m

-- ---- a header of an Acknowledgment

module _ (heard : Option Received) (p : Meaning) (f : PacketSource) (h : LsaHeader) (before : AreaValue) (out : OutputsValue) (after : AreaValue) (sound : IsSoundState before) (hears : heard ≡ Some (record { link = f.link; packet = p })) (from : p.router ≡ f.router) (in_p : Contains (acknowledging_headers_of p.body) h) where
  -- where it is the same as the copy, it names the copy's instance
  names_copy : (o : Option LsaKey) → key_of_header h ≡ o → (copy : Entry) → exchange.copy_in_database before.database o ≡ Some copy → recency h (header_at copy) ≡ Same → IsOfInstance h (instance_at copy)
  names_copy None key copy at same = absurd (none-some copy at)
  names_copy (Some k) key copy at same =
      let its : IsOfInstance h (record { key = k; number = h.number; sum = h.sum }) = record { key = key; number = refl; sum = refl } in
      subst (λ i. IsOfInstance h i) (recency-same h (header_at copy) (record { key = k; number = h.number; sum = h.sum }) (instance_at copy) its (copy_is_of before k copy sound at) (sym (entry_instance before k copy at)) same) its

  told_of : (i : Instance) → IsOfInstance h i → (n : NeighbourValue) → n.router ≡ f.router → IsAcknowledged heard f.link n.router i
  told_of i is n same = record { received = record { link = f.link; packet = p }; is_heard = hears; link = refl; from = from ∙ sym same; named = (h, in_p, is) }

  taken_off_by : (o : Option Instance) → ((i : Instance) → o ≡ Some i → IsOfInstance h i) → after ≡ taken_off f o before → out ≡ no_outputs → IsAccountable heard before out after
  taken_off_by None is state outputs = Unchanged-accountable heard before out after (record { state = state; outputs = outputs })
  taken_off_by (Some i) is state outputs =
      as_outputs heard before after out no_outputs outputs
      (as_state heard before after (changed_area f (change.Acknowledges i) before) no_outputs state
      (Shrinks-accountable heard before no_outputs (changed_area f (change.Acknowledges i) before) (changed_on f (change.Acknowledges i) before.tick) (change_of f (change.Acknowledges i) before.tick)
      (change_by heard no_outputs f (change.Acknowledges i) before (changed_area f (change.Acknowledges i) before) refl refl refl refl refl refl (told_of i (is i refl)))
      (sends_nothing before)))

  is_named : (o : Option Entry) → exchange.copy_in_database before.database (key_of_header h) ≡ o → (i : Instance) → named_by h o ≡ Some i → IsOfInstance h i
  is_named None at i is = absurd (none-some i is)
  is_named (Some copy) at i is = by (recency h (header_at copy)) refl is
    where
      by : (r : Recency) → recency h (header_at copy) ≡ r → elim r [ Same ↦ Some (instance_at copy) | _ ↦ None ] ≡ Some i → IsOfInstance h i
      by Same same is = subst (λ i. IsOfInstance h i) (same_Some (instance_at copy) i is) (names_copy (key_of_header h) refl copy at same)
      by Newer same is = absurd (none-some i is)
      by Older same is = absurd (none-some i is)

  pub HeaderPart-accountable : Becomes (header_met f h before) no_outputs out after → IsAccountable heard before out after
  HeaderPart-accountable m = taken_off_by (named_by h (exchange.copy_in_database before.database (key_of_header h))) (is_named (exchange.copy_in_database before.database (key_of_header h)) refl) m.state m.outputs

-- what is passed over: a new acknowledgement is of no instance
passed-accountable : (heard : Option Received) (s t : AreaValue) → Passes s t → IsAccountable heard s no_outputs t
passed-accountable heard s t p = subst (λ x. IsAccountable heard s no_outputs x) (sym p.state) (Shrinks-accountable heard s no_outputs after still alone shrinks (sends_nothing s))
  where
    after : AreaValue
    after = record s { direct = p.direct }

    still : ℕ → LinkValue → LinkValue
    still l link = link

    alone : ℕ → NeighbourValue → NeighbourValue
    alone l n = n

    now : (x : LsaHeader) → Contains p.direct x → Contains s.direct x ⊎ IsNamed s no_outputs x
    now x c = elim (p.nameless x c) [ inl there ↦ inl there | inr none ↦ inr (λ i is. absurd (none-some i.key (sym none ∙ is.key))) ]

    shrinks : ShrinkBy heard s no_outputs still alone after
    shrinks = shrink_by heard no_outputs s after still alone (map_from-id 0 s.links) refl refl refl refl now (λ l link. map-id link.neighbours) (λ l link x c. inl c) (λ l n. same-shrinks heard l n)

-- one LSA of an Update, or what is passed over
pub LsaPart-accountable : (heard : Option Received) (p : Meaning) (f : PacketSource) (lsa : List ℕ) (before : AreaValue) (out : OutputsValue) (after : AreaValue) → IsSoundState before → heard ≡ Some (record { link = f.link; packet = p }) → p.router ≡ f.router → Contains (lsas_of p.body) lsa → AreReadAsSent out.sent → LsaPart f lsa before out after → IsAccountable heard before out after
LsaPart-accountable heard p f lsa before out after sound hears from in_p read (LsaPart.Meets is m) = MeetsLsa-accountable heard p f lsa before out after is sound hears from in_p read m
LsaPart-accountable heard p f lsa before out after sound hears from in_p read (LsaPart.PassedOver not_one passes outputs) =
    subst (λ o. IsAccountable heard before o after) (sym outputs) (passed-accountable heard before after (passed before.passes_over f lsa before after passes))
