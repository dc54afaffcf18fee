-- Each call keeps what a router keeps for its own LSAs.
use Rattle.std.proofs.Common.{◌≡◌, ◌≢◌, ◌≤◌, ◌≤ℤ◌, ◌==◌, ◌++◌, ℕ, ℤ, suc, Bool, true, false, List, [], ◌∷◌, length, map, Option, None, Some, option_map, is_some, refl, sym, ap, subst, ◌∙◌, if◌then◌else◌, arith}
use Rattle.std.specs.List.{AllByRecursion}
use Rattle.std.proofs.lemmas.Int.{ints}
use Rattle.std.proofs.lemmas.List.{length-map}
use Rattle.std.proofs.lemmas.Option.{none-some}
use Rattle.ospf_base.proofs.SameKeys.{same_key-eq}
use Rattle.ospf_base.specs.Constants.{max_age}
use Rattle.ospf_base.specs.Keys.{same_key}
use Rattle.ospf_base.specs.Masks.{IsMask}
use Rattle.ospf_base.specs.Sums as sums
use Rattle.ospf_base.specs.declared.ids.LsaKey.{LsaKey}
use Rattle.ospf_base.specs.declared.ids.Instance.{Instance}
use Rattle.ospf_base.specs.declared.ids.RouterId.{RouterId}
use Rattle.ospf_base.specs.declared.stub_network.StubNetwork.{StubNetwork}
use Rattle.ospf_flood.specs.declared.acknowledgement.Acknowledgement.{Acknowledgement}
use Rattle.ospf_flood.specs.declared.acknowledgement.Acknowledgement.TheVariants as answer
use Rattle.ospf_flood.specs.declared.rule.LsaRule.{LsaRule}
use Rattle.ospf_flood.specs.declared.rule.LsaRule.TheVariants.{AcknowledgesExpired, TooSoon, Installs, BadRequest, Duplicate, Stale}
use Rattle.ospf_neighbour.specs.declared.iface.machine.Iface.{Iface}
use Rattle.ospf_exchange.proofs.Words.{copy_in_database}
use Rattle.ospf_lsa.specs.Header.{header_of, key_of_header}
use Rattle.ospf_lsa.specs.Lsa.{key_of, instance_of}
use Rattle.ospf_lsa.specs.declared.header.LsaHeader.{LsaHeader}
use Rattle.ospf_lsdb.proofs.EntryLemmas.{key-entry_from}
use Rattle.ospf_lsdb.specs.Database.{Ages, Entry, Held, Puts, entry_from, expired, held_of, key_in, older, reached_at}
use Rattle.ospf_lsdb.specs.Database as lsdb
use Rattle.ospf_neighbour.specs.Lists.{key_unlisted}
use Rattle.ospf_neighbour.specs.Neighbours.{max_neighbours}
use Rattle.ospf_area.proofs.PlaceLemmas.{length-map_from}
use Rattle.ospf_area.specs.Asking.{turned_to_next, turned_link}
use Rattle.ospf_area.specs.Changes.{changed_at, delayed_at}
use Rattle.ospf_area.specs.Flooding.{flooded_links, on_link, goes_anywhere, released}
use Rattle.ospf_area.specs.Numbers.{counts, is_self_originated, marked}
use Rattle.ospf_area.specs.Outputs.{OutputsValue}
use Rattle.ospf_area.specs.Places.{map_from}
use Rattle.ospf_area.specs.Sending.{context_of}
use Rattle.ospf_area.specs.Standing.{acknowledging}
use Rattle.ospf_area.specs.State.{AreaValue, LinkValue, database_entry, numbering_of}
use Rattle.ospf_area.proofs.Words.{kept_in, changed_link, changed_on, delayed_on, flooded_link, released_link, changed_if, flooded_neighbour, greatest_after}
use Rattle.ospf_area.specs.declared.changes.AdjacencyChange.{AdjacencyChange}
use Rattle.ospf_area.specs.declared.flooding.PacketSource.{PacketSource}
use Rattle.ospf_area.specs.declared.sending.RouterContext.{RouterContext}
use Rattle.ospf_area.specs.declared.state.Numbering.{Numbering}
use Rattle.ospf_area.specs.Updates.Aging.{Flushes, TickAges, copy_flooded, turned_area}
use Rattle.ospf_area.specs.Acting.{Becomes}
use Rattle.ospf_area.specs.Updates.Meets.{MeetsLsa, MeetsRule, Stores, restarted, header_met, heard_by, named_by, replied, reply_to, rule_met}
use Rattle.ospf_area.proofs.Updates.Words.{taken_off, copy_flooded_by, TakesSlices, copies_sent, copy_sent, undelayed_link, noted, flooded_area, MeetsAndTurns}
use Rattle.ospf_area.specs.Updates.Updates.{TakesSlice, TakesUpdate}
use Rattle.ospf_area.specs.Updates.Updates.TakesSlice.{Met, PassedOver}
use Rattle.ospf_area.proofs.Updates.PassLemmas.{passed}
use Rattle.ospf_originate.specs.Laws.{LinksStaySetUp, PartsStaySound}
use Rattle.ospf_originate.specs.Sound.{AreApart, AreSetUp, IsSetUp, IsSound, max_stubs, max_links}
use Rattle.ospf_originate.proofs.SoundLemmas.{Numbers, contents-entry_from, counted_numbers, counts_in, fewer, greatest_in, known, number_of-contents, numbers_of, sound_of, stored_numbers}
use Rattle.ospf_area.proofs.ShortLemmas.{expired_contents, older_contents}
use Rattle.ospf_area.proofs.Updates.CopyLemmas.{copies_become}

-- ---- links

-- a link with another state of its neighbours
record IsLike (a b : LinkValue) : Type 0 where
  iface : b.iface ≡ a.iface
  many : length b.neighbours ≡ length a.neighbours

like_up : (a b : LinkValue) → IsLike a b → IsSetUp a → IsSetUp b
like_up a b like up = record {
  mask = subst (λ (i : Iface). IsMask i.settings.mask) (sym like.iface) up.mask;
  few = subst (λ (n : ℕ). n ≤ max_neighbours) (sym like.many) up.few;
  two_ends = λ is. subst (λ (n : ℕ). n ≤ 1) (sym like.many) (up.two_ends (sym (ap (λ (i : Iface). i.settings.kind) like.iface) ∙ is));
}

like_itself : (a : LinkValue) → IsLike a a
like_itself a = record { iface = refl; many = refl }

module _ (f : ℕ → LinkValue → LinkValue) (like : (l : ℕ) (x : LinkValue) → IsLike x (f l x)) where
  each_up : (k : ℕ) (xs : List LinkValue) → AllByRecursion IsSetUp xs → AllByRecursion IsSetUp (map_from f k xs)
  each_up k [] up = tt
  each_up k (x ∷ xs) up = (like_up x (f k x) (like k x) up.0, each_up (suc k) xs up.1)

  all_other : (a k : ℕ) (xs : List LinkValue) → AllByRecursion (λ o. o.iface.settings.address.0 ≢ a) xs → AllByRecursion (λ o. o.iface.settings.address.0 ≢ a) (map_from f k xs)
  all_other a k [] other = tt
  all_other a k (x ∷ xs) other = ((λ is. other.0 (sym (ap (λ (i : Iface). i.settings.address.0) (like k x).iface) ∙ is)), all_other a (suc k) xs other.1)

  all_apart : (k : ℕ) (xs : List LinkValue) → AreApart xs → AreApart (map_from f k xs)
  all_apart k [] apart = tt
  all_apart k (x ∷ xs) apart = (
    subst (λ (a : ℕ). AllByRecursion (λ o. o.iface.settings.address.0 ≢ a) (map_from f (suc k) xs)) (sym (ap (λ (i : Iface). i.settings.address.0) (like k x).iface))
        (all_other x.iface.settings.address.0 (suc k) xs apart.0),
    all_apart (suc k) xs apart.1,
  )

  set_up_from : (xs : List LinkValue) → AreSetUp xs → AreSetUp (map_from f 0 xs)
  set_up_from xs up = record {
    few = subst (λ (n : ℕ). n ≤ max_links) (sym (length-map_from f 0 xs)) up.few;
    each = each_up 0 xs up.each;
    apart = all_apart 0 xs up.apart;
  }

map-map_from : (g : LinkValue → LinkValue) (k : ℕ) (xs : List LinkValue) → map_from (λ l x. g x) k xs ≡ map g xs
map-map_from g k [] = refl
map-map_from g k (x ∷ xs) = ap (λ (ls : List LinkValue). g x ∷ ls) (map-map_from g (suc k) xs)

set_up_map : (g : LinkValue → LinkValue) → ((x : LinkValue) → IsLike x (g x)) → (xs : List LinkValue) → AreSetUp xs → AreSetUp (map g xs)
set_up_map g like xs up = subst (λ (ls : List LinkValue). AreSetUp ls) (map-map_from g 0 xs) (set_up_from (λ l x. g x) (λ l x. like x) xs up)

released_up : (key : LsaKey) (xs : List LinkValue) → AreSetUp xs → AreSetUp (released key xs)
released_up key xs up = set_up_map (released_link key) (λ x. record { iface = refl; many = length-map x.neighbours (key_unlisted key) }) xs up

flooded_up : (key : LsaKey) (h : LsaHeader) (from : Option PacketSource) (tick : ℕ) (xs : List LinkValue) → AreSetUp xs → AreSetUp (flooded_links key h from tick xs)
flooded_up key h from tick xs up =
    set_up_from (flooded_link key h from tick) (λ l x. record { iface = refl; many = length-map x.neighbours (flooded_neighbour key h (on_link from l) tick) }) xs up

turned_up : (own : RouterContext) (xs : List LinkValue) → AreSetUp xs → AreSetUp (map (turned_link own) xs)
turned_up own xs up = set_up_map (turned_link own) (λ x. record { iface = refl; many = length-map x.neighbours (turned_to_next x.settings.mtu own.tick) }) xs up

changed_up : (f : PacketSource) (change : AdjacencyChange) (tick : ℕ) (xs : List LinkValue) → AreSetUp xs → AreSetUp (changed_at f change tick xs)
changed_up f change tick xs up = set_up_from (changed_on f change tick) (λ l x. by_test x (l == f.link)) xs up
  where
    by_test : (x : LinkValue) (b : Bool) → IsLike x (if b then changed_link f.router change tick x else x)
    by_test x true = record { iface = refl; many = length-map x.neighbours (changed_if f.router change tick) }
    by_test x false = like_itself x

delayed_up : (number : ℕ) (h : LsaHeader) (xs : List LinkValue) → AreSetUp xs → AreSetUp (delayed_at number h xs)
delayed_up number h xs up = set_up_from (delayed_on number h) (λ l x. by_test x (l == number)) xs up
  where
    by_test : (x : LinkValue) (b : Bool) → IsLike x (if b then record x { delayed = x.delayed ++ h ∷ [] } else x)
    by_test x true = record { iface = refl; many = refl }
    by_test x false = like_itself x

-- ---- what nothing of it hangs on

rest : (s : AreaValue) (links : List LinkValue) (direct : List LsaHeader) (tick next_dd : ℕ) (sent heard : List LsaKey) → AreSetUp links → IsSound s
    → IsSound (record s { links = links; direct = direct; tick = tick; next_dd = next_dd; sent = sent; heard = heard })
rest s links direct tick next_dd sent heard up sound = record { links = up; stubs = sound.stubs; numbered = sound.numbered; counted = sound.counted; max_seq = sound.max_seq }

relinked : (s : AreaValue) (links : List LinkValue) → AreSetUp links → IsSound s → IsSound (record s { links = links })
relinked s links up sound = rest s links s.direct s.tick s.next_dd s.sent s.heard up sound

along : (s s' : AreaValue) → s' ≡ s → IsSound s → IsSound s'
along s s' is sound = subst (λ (x : AreaValue). IsSound x) (sym is) sound

pub turned_sound : (s : AreaValue) → IsSound s → IsSound (turned_area s)
turned_sound s sound = relinked s (map (turned_link (context_of s)) s.links) (turned_up (context_of s) s.links sound.links) sound

pub answered_sound : (s : AreaValue) → IsSound s → IsSound (record s { heard = [] })
answered_sound s sound = rest s s.links s.direct s.tick s.next_dd s.sent [] sound.links sound

changed_sound : (f : PacketSource) (change : AdjacencyChange) (s : AreaValue) → IsSound s → IsSound (record s { links = changed_at f change s.tick s.links })
changed_sound f change s sound = relinked s (changed_at f change s.tick s.links) (changed_up f change s.tick s.links sound.links) sound

acknowledging_sound : (a : Acknowledgement) (f : PacketSource) (h : LsaHeader) (s : AreaValue) → IsSound s → IsSound (acknowledging a f h s)
acknowledging_sound answer.None f h s sound = sound
acknowledging_sound answer.Delayed f h s sound = relinked s (delayed_at f.link h s.links) (delayed_up f.link h s.links sound.links) sound
acknowledging_sound answer.Direct f h s sound = rest s s.links (s.direct ++ h ∷ []) s.tick s.next_dd s.sent s.heard sound.links sound

heard_sound : (key : LsaKey) (s : AreaValue) → IsSound s → IsSound (heard_by key s)
heard_sound key s sound = by_test (is_self_originated s.router s.links key)
  where
    by_test : (b : Bool) → IsSound (if b then record s { heard = s.heard ++ key ∷ [] } else s)
    by_test true = rest s s.links s.direct s.tick s.next_dd s.sent (s.heard ++ key ∷ []) sound.links sound
    by_test false = sound

-- ---- an LSA is stored

put_known : (at : LsaKey) (h : Held) (db db' : List Held) → Puts at (Some h) db db' → (key : LsaKey) → known db' key ≡ (if same_key at key then Some h.entry.contents else known db key)
unfolding known
put_known at h db db' puts key = ap (option_map (λ (h : Held). h.entry.contents)) (puts key) ∙ by_test (same_key at key)
  where
    by_test : (b : Bool) → option_map (λ (h : Held). h.entry.contents) (if b then Some h else held_of db key) ≡ (if b then Some h.entry.contents else option_map (λ (h : Held). h.entry.contents) (held_of db key))
    by_test true = refl
    by_test false = refl

stored_known : (lsa : List ℕ) (tick : ℕ) (by_flooding : Bool) (db db' : List Held) → lsdb.Installs (entry_from lsa tick by_flooding) db db' → (key : LsaKey)
    → known db' key ≡ (if same_key (key_of lsa) key then Some (sums.contents lsa) else known db key)
stored_known lsa tick by_flooding db db' installs key =
    put_known (key_in (entry_from lsa tick by_flooding).contents) (record { entry = entry_from lsa tick by_flooding; reached = false }) db db' installs key
    ∙ ap (λ (k : LsaKey). if same_key k key then Some (entry_from lsa tick by_flooding).contents else known db key) (sym (key-entry_from lsa tick by_flooding))
    ∙ ap (λ (c : List ℕ). if same_key (key_of lsa) key then Some c else known db key) (contents-entry_from lsa tick by_flooding)

pub store_sound : (lsa : List ℕ) (from : Option PacketSource) (s s' : AreaValue) → Stores lsa from s s' → IsSound s → IsSound s'
store_sound lsa from s s' stores sound =
    let key = key_of lsa in
    let h = header_of lsa in
    let links = flooded_links key h from s.tick (released key s.links) in
    let now : AreaValue = record s {
      database = s'.database;
      links = links;
      sent = marked key (goes_anywhere key h from (released key s.links)) s.sent;
      numbering = counts key h.number s;
      max_seq = greatest_after key h.number s;
    } in
    let numbers : Numbers s.router s'.database (counts_in s.router key h.number s.floor s.numbering) s.floor (greatest_in s.router key h.number s.max_seq) =
    subst (λ (n : ℤ). Numbers s.router s'.database (counts_in s.router key n s.floor s.numbering) s.floor (greatest_in s.router key n s.max_seq)) (sym (number_of-contents lsa))
    (stored_numbers s.router s.database s'.database s.numbering s.floor s.max_seq key (sums.contents lsa) (stored_known lsa s.tick (is_some from) s.database s'.database stores.database) (numbers_of s sound)) in
    along now s' stores.rest (sound_of now (flooded_up key h from s.tick (released key s.links) (released_up key s.links sound.links)) sound.stubs numbers)

-- ---- the rules of an Update

replied_sound : (reply : Option (List ℕ)) (f : PacketSource) (key : LsaKey) (s : AreaValue) → IsSound s → IsSound (replied reply f key s)
replied_sound None f key s sound = sound
replied_sound (Some lsa) f key s sound =
    let links = changed_at f (AdjacencyChange.IsSent (instance_of lsa)) s.tick s.links in
    rest s links s.direct s.tick s.next_dd (marked key true s.sent) s.heard (changed_up f (AdjacencyChange.IsSent (instance_of lsa)) s.tick s.links sound.links) sound

restart_sound : (f : PacketSource) (s : AreaValue) (o o' : OutputsValue) (s' : AreaValue) → Becomes (restarted f s) o o' s' → IsSound s → IsSound s'
restart_sound f s o o' s' is sound =
    along _ s' is.state (rest s (changed_at f (AdjacencyChange.Restarts s.next_dd) s.tick s.links) s.direct s.tick _ s.sent s.heard (changed_up f (AdjacencyChange.Restarts s.next_dd) s.tick s.links sound.links) sound)

rule_sound : (r : Option LsaRule) (f : PacketSource) (lsa : List ℕ) (s : AreaValue) (o o' : OutputsValue) (s' : AreaValue) → MeetsRule r f lsa s o o' s' → IsSound s → IsSound s'
rule_sound None f lsa s o o' s' is sound = along s s' is.state sound
rule_sound (Some AcknowledgesExpired) f lsa s o o' s' is sound = along _ s' is.state (acknowledging_sound _ f (header_of lsa) s sound)
rule_sound (Some TooSoon) f lsa s o o' s' is sound = along s s' is.state sound
rule_sound (Some Installs) f lsa s o o' s' is sound =
    along _ s' is.state (heard_sound (key_of lsa) _ (acknowledging_sound _ f (header_of lsa) is.mid (store_sound lsa (Some f) s is.mid is.stores sound)))
rule_sound (Some BadRequest) f lsa s o o' s' is sound = restart_sound f s _ o' s' is sound
rule_sound (Some Duplicate) f lsa s o o' s' is sound =
    along _ s' is.state (acknowledging_sound _ f (header_of lsa) _ (changed_sound f (AdjacencyChange.Acknowledges (instance_of lsa)) s sound))
rule_sound (Some Stale) f lsa s o o' s' is sound = along _ s' is.state (replied_sound (reply_to s (key_of lsa)) f (key_of lsa) s sound)

met_sound : (f : PacketSource) (lsa : List ℕ) (s : AreaValue) (o o' : OutputsValue) (s' : AreaValue) → MeetsAndTurns f lsa s o o' s' → IsSound s → IsSound s'
met_sound f lsa s o o' s' is sound = along (turned_area is.mid) s' is.state (turned_sound is.mid (rule_sound _ f lsa s o is.so_far is.mid is.meets sound))

slice_sound : (f : PacketSource) (bytes : List ℕ) (s : AreaValue) (o o' : OutputsValue) (s' : AreaValue) → TakesSlice f bytes s o o' s' → IsSound s → IsSound s'
slice_sound f bytes s o o' s' (Met is mid so_far meets state outputs) sound = met_sound f bytes s o o' s' (record { mid = mid; so_far = so_far; meets = meets; state = state; outputs = outputs }) sound
slice_sound f bytes s o o' s' (PassedOver is_not passes outputs) sound =
    let p = passed s.passes_over f bytes s s' passes in
    along (record s { direct = p.direct }) s' p.state (rest s s.links p.direct s.tick s.next_dd s.sent s.heard sound.links sound)

slices_sound : (f : PacketSource) (slices : List (List ℕ)) (s : AreaValue) (o o' : OutputsValue) (s' : AreaValue) → TakesSlices f slices s o o' s' → IsSound s → IsSound s'
slices_sound f [] s o o' s' unchanged sound = along s s' unchanged.state sound
slices_sound f (bytes ∷ slices) s o o' s' (mid, so_far, first, others) sound = slices_sound f slices mid so_far o' s' others (slice_sound f bytes s o so_far mid first sound)

pub update_sound : (f : PacketSource) (slices : List (List ℕ)) (s : AreaValue) (o o' : OutputsValue) (s' : AreaValue) → TakesUpdate f slices s o o' s' → IsSound s → IsSound s'
update_sound f slices s o o' s' is sound =
    let mid_sound = slices_sound f slices s o is.so_far is.mid is.takes sound in
    along (record is.mid { direct = [] }) s' is.state (rest is.mid is.mid.links [] is.mid.tick is.mid.next_dd is.mid.sent is.mid.heard mid_sound.links mid_sound)

pub header_sound : (f : PacketSource) (h : LsaHeader) (s : AreaValue) → IsSound s → IsSound (header_met f h s)
header_sound f h s sound = by_named (named_by h (copy_in_database s.database (key_of_header h)))
  where
    by_named : (i : Option Instance) → IsSound (taken_off f i s)
    by_named None = sound
    by_named (Some i) = changed_sound f (AdjacencyChange.Acknowledges i) s sound

-- ---- copies at MaxAge

same_contents : (f : Held → Held) → ((h : Held) → (f h).entry.contents ≡ h.entry.contents) → (o : Option Held) → option_map (λ (h : Held). h.entry.contents) (option_map f o) ≡ option_map (λ (h : Held). h.entry.contents) o
same_contents f same None = refl
same_contents f same (Some h) = ap (λ (c : List ℕ). Some c) (same h)

aged_known : (db db' : List Held) → Ages db db' → (key : LsaKey) → known db' key ≡ known db key
unfolding known
aged_known db db' ages key = ap (option_map (λ (h : Held). h.entry.contents)) (ages key) ∙ same_contents older older_contents (held_of db key)

expired_known : (at : LsaKey) (db db' : List Held) → Puts at (option_map expired (held_of db at)) db db' → (key : LsaKey) → known db' key ≡ known db key
unfolding known
expired_known at db db' puts key = ap (option_map (λ (h : Held). h.entry.contents)) (puts key) ∙ by_test (same_key at key) refl
  where
    by_test : (b : Bool) → same_key at key ≡ b → option_map (λ (h : Held). h.entry.contents) (if b then option_map expired (held_of db at) else held_of db key) ≡ option_map (λ (h : Held). h.entry.contents) (held_of db key)
    by_test true one = same_contents expired expired_contents (held_of db at) ∙ ap (λ (k : LsaKey). option_map (λ (h : Held). h.entry.contents) (held_of db k)) (same_key-eq at key one)
    by_test false two = refl

-- the database has what it had, at other ages
same_sound : (s s' : AreaValue) → s'.links ≡ s.links → s'.stubs ≡ s.stubs → s'.router ≡ s.router → s'.numbering ≡ s.numbering → s'.floor ≡ s.floor → s'.max_seq ≡ s.max_seq
    → ((key : LsaKey) → known s'.database key ≡ known s.database key) → IsSound s → IsSound s'
same_sound s s' links stubs router numbering floor max_seq same sound =
    sound_of s' (subst (λ (ls : List LinkValue). AreSetUp ls) (sym links) sound.links) (subst (λ (hs : List StubNetwork). length hs ≤ max_stubs) (sym stubs) sound.stubs)
    (subst (λ (r : RouterId). Numbers r s'.database s'.numbering s'.floor s'.max_seq) (sym router)
    (subst (λ (ns : List Numbering). Numbers s.router s'.database ns s'.floor s'.max_seq) (sym numbering)
    (subst (λ (f : ℤ). Numbers s.router s'.database s.numbering f s'.max_seq) (sym floor)
    (subst (λ (g : ℤ). Numbers s.router s'.database s.numbering s.floor g) (sym max_seq)
    (fewer s.router s.database s'.database s.numbering s.floor s.max_seq (λ key c is. sym (same key) ∙ is) (numbers_of s sound))))))

noted_sound : (key : LsaKey) (went : Bool) (s : AreaValue) → IsSound s → IsSound (noted key went s)
noted_sound key true s sound = rest s s.links s.direct s.tick s.next_dd (marked key true s.sent) s.heard sound.links sound
noted_sound key false s sound = sound

copy_sound : (o : Option Entry) (key : LsaKey) (s : AreaValue) → IsSound s → IsSound (copy_flooded_by o key s)
copy_sound None key s sound = sound
copy_sound (Some e) key s sound =
    let lsa = lsdb.lsa_of e in
    noted_sound key (goes_anywhere (key_of lsa) (header_of lsa) None s.links) (flooded_area lsa None s)
    (relinked s (flooded_links (key_of lsa) (header_of lsa) None s.tick s.links) (flooded_up (key_of lsa) (header_of lsa) None s.tick s.links sound.links) sound)

sent_sound : (key : LsaKey) (s : AreaValue) → IsSound s → IsSound (copy_sent key s)
sent_sound key s sound = turned_sound (copy_flooded key s) (copy_sound (database_entry s key) key s sound)

all_sent_sound : (keys : List LsaKey) (s : AreaValue) → IsSound s → IsSound (copies_sent keys s)
all_sent_sound [] s sound = sound
all_sent_sound (key ∷ keys) s sound = all_sent_sound keys (copy_sent key s) (sent_sound key s sound)

pub flush_sound : (key : LsaKey) (s : AreaValue) (o o' : OutputsValue) (s' : AreaValue) → Flushes key s o o' s' → IsSound s → IsSound s'
flush_sound key s o o' s' is sound =
    let mid = is.mid in
    let mid_sound = same_sound s mid (ap (λ (x : AreaValue). x.links) is.rest) (ap (λ (x : AreaValue). x.stubs) is.rest) (ap (λ (x : AreaValue). x.router) is.rest) (ap (λ (x : AreaValue). x.numbering) is.rest) (ap (λ (x : AreaValue). x.floor) is.rest)
    (ap (λ (x : AreaValue). x.max_seq) is.rest) (expired_known key s.database mid.database is.database) sound in
    along (copy_sent key mid) s' is.sends.state (sent_sound key mid mid_sound)

pub age_sound : (s : AreaValue) (o o' : OutputsValue) (s' : AreaValue) → TickAges s o o' s' → IsSound s → IsSound s'
age_sound s o o' s' is sound =
    let mid = is.mid in
    let rise = is.rest in
    let mid_sound = same_sound s mid (ap (λ (x : AreaValue). x.links) rise) (ap (λ (x : AreaValue). x.stubs) rise) (ap (λ (x : AreaValue). x.router) rise) (ap (λ (x : AreaValue). x.numbering) rise) (ap (λ (x : AreaValue). x.floor) rise)
    (ap (λ (x : AreaValue). x.max_seq) rise) (aged_known s.database mid.database is.database) sound in
    let keys = reached_at max_age mid.database in
    along (copies_sent keys mid) s' (copies_become keys mid s' o o' is.sends).state (all_sent_sound keys mid mid_sound)

-- ---- a router that starts

known_nothing : (key : LsaKey) → known [] key ≡ None
unfolding known
known_nothing key = refl

le_itself : (z : ℤ) → z ≤ℤ z
le_itself z = omega (arith, ints)

pub begun_sound : (s : AreaValue) → AreSetUp s.links → length s.stubs ≤ max_stubs → s.database ≡ [] → s.numbering ≡ [] → s.max_seq ≡ s.floor → IsSound s
begun_sound s up few none unnumbered top = sound_of s up few (record {
  numbered = λ key c at own. absurd (none-some c (sym (ap (λ (db : List Held). known db key) none ∙ known_nothing key) ∙ at));
  counted = λ key c at own. absurd (none-some c (sym (ap (λ (db : List Held). known db key) none ∙ known_nothing key) ∙ at));
  max_seq = λ key. subst (λ (ns : List Numbering). kept_in s.floor (numbering_of ns key) ≤ℤ s.max_seq) (sym unnumbered) (subst (λ (n : ℤ). s.floor ≤ℤ n) (sym top) (le_itself s.floor));
})

-- other links, that are set up, at another tick
pub relinked_sound : (s : AreaValue) (links : List LinkValue) (tick : ℕ) → AreSetUp links → IsSound s → IsSound (record s { links = links; tick = tick })
relinked_sound s links tick up sound = rest s links s.direct tick s.next_dd s.sent s.heard up sound

-- one LSA of an Update
pub lsa_sound : (f : PacketSource) (lsa : List ℕ) (s : AreaValue) (o o' : OutputsValue) (s' : AreaValue) → MeetsLsa f lsa s o o' s' → IsSound s → IsSound s'
lsa_sound f lsa s o o' s' is sound = rule_sound (rule_met s f lsa) f lsa s o o' s' is sound

-- ---- the parts of these calls

pub links_sound : (s : AreaValue) (links : List LinkValue) → AreSetUp links → IsSound s → IsSound (record s { links = links })
links_sound s links up sound = relinked s links up sound

pub links_stay : LinksStaySetUp
links_stay = record {
  released = released_up;
  flooded = flooded_up;
  turned = turned_up;
  changed = changed_up;
  delayed = delayed_up;
  undelayed = set_up_map undelayed_link (λ x. record { iface = refl; many = refl });
}

pub count_sound : (key : LsaKey) (number : ℤ) (s : AreaValue) → IsSound s → IsSound (record s { numbering = counts key number s; max_seq = greatest_after key number s })
count_sound key number s sound =
    sound_of (record s { numbering = counts key number s; max_seq = greatest_after key number s }) sound.links sound.stubs
    (counted_numbers s.router s.database s.numbering s.floor s.max_seq key number (numbers_of s sound))

pub parts_stay : PartsStaySound
parts_stay = record {
  links = links_stay;
  relinked = links_sound;
  counted = count_sound;
  acknowledging = acknowledging_sound;
  stored = store_sound;
  met = lsa_sound;
  begun_again = restart_sound;
  turned = turned_sound;
  copied = λ key s o o' s' is sound. along (copy_sent key s) s' is.state (sent_sound key s sound);
  flooded = λ lsa from s sound. relinked s (flooded_links (key_of lsa) (header_of lsa) from s.tick s.links) (flooded_up (key_of lsa) (header_of lsa) from s.tick s.links sound.links) sound;
  answered = λ s sound. rest s s.links [] s.tick s.next_dd s.sent s.heard sound.links sound;
  marked = λ s sent sound. rest s s.links s.direct s.tick s.next_dd sent s.heard sound.links sound;
}
