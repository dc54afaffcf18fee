-- Database Descriptions, Requests and repeats are parts.
use Rattle.std.proofs.Common.{◌≡◌, ◌⊎◌, inl, inr, ◌==◌, ◌&&◌, ◌<◌, ℕ, zero, suc, Bool, true, false, cond, List, [], ◌∷◌, map, Option, None, Some, slice_get, refl, sym, ap, subst, if◌then◌else◌, ◌∙◌, arith}
use Rattle.std.specs.List.{AllByRecursion, Contains, flat_map}
use Rattle.std.proofs.lemmas.Bool.{cases_Bool, cond-true, cond-false, eqb-true}
use Rattle.std.proofs.lemmas.Option.{none-some, same_Some}
use Rattle.ospf_area.specs.Acting.{OnEachLink}
use Rattle.ospf_area.specs.Places.{flat_from}
use Rattle.ospf_base.specs.Sums.{contents}
use Rattle.ospf_base.specs.declared.ids.Instance.{Instance}
use Rattle.ospf_base.specs.declared.ids.LsaKey.{LsaKey}
use Rattle.ospf_base.specs.declared.ids.RouterId.{RouterId}
use Rattle.ospf_lsa.specs.Header.{header_of}
use Rattle.ospf_lsa.specs.declared.header.LsaHeader.{LsaHeader}
use Rattle.ospf_lsdb.specs.Database.{IsDatabase, lsa_of}
use Rattle.ospf_neighbour.specs.Neighbour.{NeighbourValue}
use Rattle.ospf_neighbour.specs.Neighbours.{AreNeighboursRising, neighbour_of}
use Rattle.ospf_packet.specs.Meaning.{BodyMeaning, hello, description, request, update, acknowledgment, Meaning}
use Rattle.ospf_packet.specs.declared.body.Description.{Description}
use Rattle.ospf_packet.specs.declared.entry.RequestEntry.{RequestEntry}
use Rattle.ospf_adjacency.specs.Descriptions.{description_turn}
use Rattle.ospf_area.specs.Turns.{Turn}
use Rattle.ospf_adjacency.specs.Laws.{NeverEnters, SaysOnly}
use Rattle.ospf_area.specs.Packets.{PendingPacket}
use Rattle.ospf_adjacency.proofs.LawLemmas.{description_goes}
use Rattle.ospf_adjacency.proofs.SameLemmas.{description_keeps_router}
use Rattle.ospf_adjacency.proofs.SayLemmas.{description_says_only}
use Rattle.ospf_adjacency.specs.Heard.{Neighbourhood, put, turn_of}
use Rattle.ospf_adjacency.proofs.GoLemmas.{puts_one}
use Rattle.ospf_adjacency.specs.Answers.{answer_turn}
use Rattle.ospf_adjacency.specs.ResendLaws.{HasCopiesOnly, IsCopy, IsQuiet}
use Rattle.ospf_adjacency.proofs.QuietLemmas.{answers_are_quiet, repeats_are_quiet}
use Rattle.ospf_area.specs.Outputs.{AreReadAsSent, OutputsValue, SentValue, sends}
use Rattle.ospf_area.specs.Sending.{context_of}
use Rattle.ospf_area.specs.State.{AreaValue, LinkValue, neighbour}
use Rattle.ospf_area.proofs.Words.{copy_in, neighbours_in}
use Rattle.ospf_area.specs.declared.flooding.PacketSource.{PacketSource}
use Rattle.ospf_router.specs.AreaStep.Accounts.{WasHeld}
use Rattle.ospf_router.specs.AreaStep.Headers.{IsOfInstance}
use Rattle.ospf_router.specs.AreaStep.Links.{AreKnown, ChangesLinks, EntersNot, OnOneLink}
use Rattle.ospf_router.specs.AreaStep.Neighbours.{NeighbourGoes, NeighbourGoesOn, NeighboursGo, Quiet, told_by}
use Rattle.ospf_router.specs.AreaStep.Packets.{dd_headers_of}
use Rattle.ospf_router.specs.AreaStep.Puts.{PutsOut}
use Rattle.ospf_router.specs.AreaStep.Words.{CanName}
use Rattle.ospf_router.proofs.AreaStep.LinkParts.{goes_same, link_same, one_goes, one_quiet, quiet_same}
use Rattle.ospf_router.proofs.AreaStep.StateFacts.{Contains-map_cases, Contains-nil, header_names, same_contents, copy_of-has, neighbour-router, same_router}
use Rattle.ospf_adjacency.specs.LinkSteps.Parts.{description_part, neighbourhood_of, request_part, with_neighbourhood}
use Rattle.ospf_adjacency.proofs.LinkSteps.Words.{description_by, neighbour_repeated, repeats_to, request_by}
use Rattle.ospf_area.specs.Outboxes.{local_by, posted_all}
use Rattle.ospf_adjacency.specs.LinkSteps.Repeats.{link_repeated, repeats_for, link_repeats_out}
use Rattle.ospf_adjacency.specs.LinkSteps.Works.{WorksOn}
use Rattle.ospf_router.specs.AreaStep.Invariants.{AreRising, NoneWaitsBelow}
use Rattle.ospf_router.proofs.AreaStep.Known.{goes_on, SaysKnown, both_known, links_known, none_known, posted_known, says_known, says_nothing}
use Rattle.ospf_router.proofs.AreaStep.Works.{all_links_put, marks_quiet, same_go, work_puts}

same_id : (a : ℕ) → a == a ≡ true
same_id a = grind arith

-- ---- the one that has its turn, and the others

-- by cases on whether it is the one
at_one : (P : RouterId → Option NeighbourValue → Type 0) (m : NeighbourValue) (r : RouterId) (ns : List NeighbourValue) → m.router ≡ r → P r (Some m) → ((q : RouterId) → P q (neighbour_of ns q)) → (q : RouterId) → P q (neighbour_of (put m ns) q)
at_one P m r ns is here others q = subst (λ o. P q o) (sym (puts_one m ns q)) (go (cases_Bool (m.router.0 == q.0)))
  where
    go : ((m.router.0 == q.0) ≡ true) ⊎ ((m.router.0 == q.0) ≡ false) → P q (if m.router.0 == q.0 then Some m else neighbour_of ns q)
    go (inl same) =
        let one : r ≡ q = sym is ∙ same_router m.router q (eqb-true m.router.0 q.0 same) in
        subst (λ o. P q o) (sym (cond-true _ _ _ same)) (subst (λ q. P q (Some m)) one here)
    go (inr other) = subst (λ o. P q o) (sym (cond-false _ _ _ other)) (others q)

one_goes_on : (s : AreaValue) (told : RouterId → List LsaHeader) (n m : NeighbourValue) (r : RouterId) (ns : List NeighbourValue) → neighbour_of ns r ≡ Some n → m.router ≡ r → NeighbourGoesOn s (told r) n m → (q : RouterId) → NeighbourGoes s (told q) (neighbour_of ns q) (neighbour_of (put m ns) q)
one_goes_on s told n m r ns found is goes =
    at_one (λ q o. NeighbourGoes s (told q) (neighbour_of ns q) o) m r ns is
    (subst (λ o. NeighbourGoes s (told r) o (Some m)) (sym found) goes) (λ q. goes_same s (told q) (neighbour_of ns q))

one_enters_not : (n m : NeighbourValue) (r : RouterId) (ns : List NeighbourValue) → neighbour_of ns r ≡ Some n → m.router ≡ r → EntersNot (Some n) (Some m) → (q : RouterId) → EntersNot (neighbour_of ns q) (neighbour_of (put m ns) q)
one_enters_not n m r ns found is enters =
    at_one (λ q o. EntersNot (neighbour_of ns q) o) m r ns is (subst (λ o. EntersNot o (Some m)) (sym found) enters) (λ q up. up)

-- the neighbour that was found is the area's
of_area : (s : AreaValue) (l : ℕ) (link : LinkValue) (r : RouterId) (n : NeighbourValue) → slice_get s.links l ≡ Some link → neighbour_of link.neighbours r ≡ Some n → neighbour s l r ≡ Some n
of_area s l link r n at found = ap (λ o. neighbour_of (neighbours_in o) r) at ∙ found

-- ---- a Database Description

module _ (f : PacketSource) (p : Meaning) (d : Description) (s t : AreaValue) (is : IsDatabase s.database) (below : NoneWaitsBelow s f.link f.router) (sender : p.router ≡ f.router) where
  after : LinkValue → Option NeighbourValue → Neighbourhood
  after link o = description_by o link.iface (local_by (context_of s) link.settings) f.router d (dd_headers_of p.body) s.database (neighbourhood_of link s.next_dd)

  described : (link : LinkValue) (o : Option NeighbourValue) → neighbour_of link.neighbours f.router ≡ o → OnOneLink f.link link (with_neighbourhood (after link o) link) (posted_all (context_of s) f.link link.iface (after link o).sent) s (sends (posted_all (context_of s) f.link link.iface (after link o).sent)) t → NeighboursGo (Some (record { link = f.link; packet = p })) s (sends (posted_all (context_of s) f.link link.iface (after link o).sent)) t
  unfolding after
  described link None found one = one_goes (Some (record { link = f.link; packet = p })) f.link link link [] s _ t one (link_same s (told_by (Some (record { link = f.link; packet = p })) f.link) link) (none_known s)
  described link (Some n) found one =
      let local = local_by (context_of s) link.settings in
      let turn = turn_of n (neighbourhood_of link s.next_dd) in
      let u = description_turn link.iface local f.router d (dd_headers_of p.body) s.database turn in
      let at : neighbour s f.link f.router ≡ Some n = of_area s f.link link f.router n one.at found in
      let same : u.neighbour.router ≡ f.router = (description_keeps_router link.iface local f.router d (dd_headers_of p.body) s.database turn).router ∙ neighbour-router s f.link f.router n at in
      let told : told_by (Some (record { link = f.link; packet = p })) f.link f.router ≡ dd_headers_of p.body = cond-true _ _ _ (ap (λ b. b && (p.router.0 == f.router.0)) (same_id f.link) ∙ (ap (λ (r : RouterId). r.0 == f.router.0) sender ∙ same_id f.router.0)) in
      let goes = goes_on s (dd_headers_of p.body) n u.neighbour is (description_goes link.iface local f.router d (dd_headers_of p.body) s.database turn (below n at)) in
      one_goes (Some (record { link = f.link; packet = p })) f.link link (with_neighbourhood (after link (Some n)) link) (posted_all (context_of s) f.link link.iface u.sent) s _ t one
      (record {
        goes = one_goes_on s (told_by (Some (record { link = f.link; packet = p })) f.link) n u.neighbour f.router link.neighbours found same (subst (λ hs. NeighbourGoesOn s hs n u.neighbour) (sym told) goes);
        waiting = λ h c. c;
      })
      (posted_known s f.link link.iface u.sent (λ q inside. says q (description_says_only link.iface local f.router d (dd_headers_of p.body) s.database turn q inside) at))
    where
      says : (q : PendingPacket) → Contains [] q ⊎ SaysOnly s.database n q.body → neighbour s f.link f.router ≡ Some n → SaysKnown s q.body
      says q (inl none) at = absurd (Contains-nil q none)
      says q (inr only) at = says_known s f.link f.router n at is q.body only

pub description_puts : (f : PacketSource) (p : Meaning) (d : Description) (s t : AreaValue) (out out' : OutputsValue) → IsDatabase s.database → NoneWaitsBelow s f.link f.router → p.router ≡ f.router → AreReadAsSent out'.sent → WorksOn (description_part (context_of s) f d (dd_headers_of p.body) s.database s.next_dd) f.link s out out' t → PutsOut (λ o. NeighboursGo (Some (record { link = f.link; packet = p })) s o t) out out'
unfolding after
description_puts f p d s t out out' is below sender read works =
    work_puts (λ o. NeighboursGo (Some (record { link = f.link; packet = p })) s o t) (description_part (context_of s) f d (dd_headers_of p.body) s.database s.next_dd) f.link s.sent s t out out' works read (λ same. same_go (Some (record { link = f.link; packet = p })) s t same)
    (λ link one. described f p d s t is below sender link (neighbour_of link.neighbours f.router) refl one)

-- of these headers, which the packet tells
pub description_told : (f : PacketSource) (p : Meaning) (d : Description) (headers : List LsaHeader) (s t : AreaValue) (out out' : OutputsValue) → IsDatabase s.database → NoneWaitsBelow s f.link f.router → p.router ≡ f.router → headers ≡ dd_headers_of p.body → AreReadAsSent out'.sent → WorksOn (description_part (context_of s) f d headers s.database s.next_dd) f.link s out out' t → PutsOut (λ o. NeighboursGo (Some (record { link = f.link; packet = p })) s o t) out out'
description_told f p d headers s t out out' is below sender told read works =
    description_puts f p d s t out out' is below sender read (subst (λ hs. WorksOn (description_part (context_of s) f d hs s.database s.next_dd) f.link s out out' t) told works)

-- ---- what goes out to one neighbour

-- a copy that goes out was held
copy_held : (s : AreaValue) (delay : ℕ) (lsa : List ℕ) → IsCopy s.database delay lsa → WasHeld s (contents lsa)
copy_held s delay lsa (key, e, at, is) = record { lsa = lsa_of e; copy = copy_of-has s key (lsa_of e) (ap copy_in at); same = sym (ap contents is) }

copies_known : (s : AreaValue) (l : ℕ) (q : RouterId) (n : NeighbourValue) (delay : ℕ) → neighbour s l q ≡ Some n → IsDatabase s.database → (b : BodyMeaning) → HasCopiesOnly s.database delay n b → SaysKnown s b
copies_known s l q n delay at is (hello fields heard) has = says_nothing s (hello fields heard) refl refl
copies_known s l q n delay at is (request entries) has = says_nothing s (request entries) refl refl
copies_known s l q n delay at is (acknowledgment headers) has = absurd has
copies_known s l q n delay at is (description fields headers) has = says_known s l q n at is (description fields headers) has
copies_known s l q n delay at is (update lsas) has = record {
  lsas = λ lsa c. copy_held s delay lsa (has lsa c);
  names = λ i lists. let (h, c, of) = lists in named i h of (Contains-map_cases header_of lsas h c);
}
  where
    named : (i : Instance) (h : LsaHeader) → IsOfInstance h i → (lsa : List ℕ) × Contains lsas lsa × (header_of lsa ≡ h) → CanName s i
    named i h of (lsa, inside, header) =
        let was = copy_held s delay lsa (has lsa inside) in
        CanName.InDatabase (was.lsa, was.copy, same_contents was.lsa lsa was.same ∙ header_names lsa i (subst (λ h. IsOfInstance h i) (sym header) of))

-- what a quiet turn sends is known
turn_known : (s : AreaValue) (l : ℕ) (q : RouterId) (n : NeighbourValue) (delay next : ℕ) (u : Turn) → neighbour s l q ≡ Some n → IsDatabase s.database → IsQuiet s.database delay (record { neighbour = n; next = next; sent = [] }) u → (p : PendingPacket) → Contains u.sent p → SaysKnown s p.body
turn_known s l q n delay next u at is quiet p c = go (quiet.sends p c)
  where
    go : Contains [] p ⊎ HasCopiesOnly s.database delay n p.body → SaysKnown s p.body
    go (inl none) = absurd (Contains-nil p none)
    go (inr has) = copies_known s l q n delay at is p.body has

-- ---- a Request

module _ (f : PacketSource) (entries : List RequestEntry) (s t : AreaValue) (is : IsDatabase s.database) where
  answered : LinkValue → Option NeighbourValue → Neighbourhood
  answered link o = request_by o link.iface (local_by (context_of s) link.settings) link.settings.transmit_delay s.database entries (neighbourhood_of link s.next_dd)

  answers : (link : LinkValue) (o : Option NeighbourValue) → neighbour_of link.neighbours f.router ≡ o → OnOneLink f.link link (with_neighbourhood (answered link o) link) (posted_all (context_of s) f.link link.iface (answered link o).sent) s (sends (posted_all (context_of s) f.link link.iface (answered link o).sent)) t → Quiet s (sends (posted_all (context_of s) f.link link.iface (answered link o).sent)) t
  unfolding answered
  answers link None found one = one_quiet f.link link link [] s _ t one (quiet_same s link) (none_known s)
  answers link (Some n) found one =
      let local = local_by (context_of s) link.settings in
      let delay = link.settings.transmit_delay in
      let turn = turn_of n (neighbourhood_of link s.next_dd) in
      let u = answer_turn link.iface local delay s.database entries turn in
      let at : neighbour s f.link f.router ≡ Some n = of_area s f.link link f.router n one.at found in
      let quiet = answers_are_quiet link.iface local delay s.database entries turn in
      let same : u.neighbour.router ≡ f.router = quiet.same.router ∙ neighbour-router s f.link f.router n at in
      one_quiet f.link link (with_neighbourhood (answered link (Some n)) link) (posted_all (context_of s) f.link link.iface u.sent) s _ t one
      (record {
        link = record {
          goes = one_goes_on s (λ q. []) n u.neighbour f.router link.neighbours found same (goes_on s [] n u.neighbour is (quiet.goes []));
          waiting = λ h c. c;
        };
        enters = one_enters_not n u.neighbour f.router link.neighbours found same quiet.enters;
      })
      (posted_known s f.link link.iface u.sent (turn_known s f.link f.router n delay s.next_dd u at is quiet))

pub request_puts : (f : PacketSource) (entries : List RequestEntry) (keys : List LsaKey) (s t : AreaValue) (out out' : OutputsValue) → IsDatabase s.database → AreReadAsSent out'.sent → WorksOn (request_part (context_of s) f s.database entries s.next_dd) f.link (record s { sent = keys }) out out' t → PutsOut (λ o. Quiet s o t) out out'
unfolding answered
request_puts f entries keys s t out out' is read works =
    work_puts (λ o. Quiet s o t) (request_part (context_of s) f s.database entries s.next_dd) f.link keys s t out out' works read (λ same. marks_quiet s t keys same)
    (λ link one. answers f entries s t is link (neighbour_of link.neighbours f.router) refl one)

-- ---- repeats

above : (r : ℕ) (ns : List NeighbourValue) → AllByRecursion (λ n. r < n.router.0) ns → (k : ℕ) (n : NeighbourValue) → slice_get ns k ≡ Some n → r < n.router.0
above r [] all k n at = absurd (none-some n at)
above r (m ∷ ms) all zero n at = subst (λ (x : NeighbourValue). r < x.router.0) (same_Some m n at) all.0
above r (m ∷ ms) all (suc k) n at = above r ms all.1 k n at

-- one that stands there is the one found
stands : (ns : List NeighbourValue) → AreNeighboursRising ns → (k : ℕ) (n : NeighbourValue) → slice_get ns k ≡ Some n → neighbour_of ns n.router ≡ Some n
stands [] rises k n at = absurd (none-some n at)
stands (m ∷ ms) rises zero n at =
    let is : m ≡ n = same_Some m n at in
    let one : m.router.0 == n.router.0 ≡ true = grind (arith, ap (λ (x : NeighbourValue). x.router.0) is) in
    (rw one at)
stands (m ∷ ms) rises (suc k) n at =
    let lt : m.router.0 < n.router.0 = above m.router.0 ms rises.0 k n at in
    let apart : m.router.0 == n.router.0 ≡ false = grind (arith, lt) in
    (rw apart (stands ms rises.1 k n at))

-- one neighbour more
record NeighboursQuiet (s : AreaValue) (ns ms : List NeighbourValue) : Type 0 where
  goes : (q : RouterId) → NeighbourGoes s [] (neighbour_of ns q) (neighbour_of ms q)
  enters : (q : RouterId) → EntersNot (neighbour_of ns q) (neighbour_of ms q)

quiet_more : (s : AreaValue) (n m : NeighbourValue) (ns ms : List NeighbourValue) → m.router ≡ n.router → NeighbourGoesOn s [] n m → NeverEnters n m → NeighboursQuiet s ns ms → NeighboursQuiet s (n ∷ ns) (m ∷ ms)
quiet_more s n m ns ms same goes enters rest = record {
  goes = λ q. subst (λ r. NeighbourGoes s [] (at n.router q (Some n) ns) (at r q (Some m) ms)) (sym same) (goes_by (n.router.0 == q.0) q);
  enters = λ q. subst (λ r. EntersNot (at n.router q (Some n) ns) (at r q (Some m) ms)) (sym same) (enters_by (n.router.0 == q.0) q);
}
  where
    at : RouterId → RouterId → Option NeighbourValue → List NeighbourValue → Option NeighbourValue
    at r q o xs = if r.0 == q.0 then o else neighbour_of xs q

    goes_by : (b : Bool) (q : RouterId) → NeighbourGoes s [] (cond b (Some n) (neighbour_of ns q)) (cond b (Some m) (neighbour_of ms q))
    goes_by true q = goes
    goes_by false q = rest.goes q

    enters_by : (b : Bool) (q : RouterId) → EntersNot (cond b (Some n) (neighbour_of ns q)) (cond b (Some m) (neighbour_of ms q))
    enters_by true q = enters
    enters_by false q = rest.enters q

record RepeatsQuiet (s : AreaValue) (ns ms : List NeighbourValue) (ds : List SentValue) : Type 0 where
  quiet : NeighboursQuiet s ns ms
  known : AreKnown s ds

module _ (s : AreaValue) (is : IsDatabase s.database) (l k : ℕ) (link : LinkValue) where
  repeats_quiet : (ns : List NeighbourValue) → ((j : ℕ) (n : NeighbourValue) → slice_get ns j ≡ Some n → neighbour s l n.router ≡ Some n) → RepeatsQuiet s ns (map (neighbour_repeated (context_of s) link.iface link.settings s.database) ns) (flat_map (repeats_to (context_of s) k link.iface link.settings s.database) ns)
  repeats_quiet [] there = record { quiet = record { goes = λ q. tt; enters = λ q up. up }; known = none_known s }
  repeats_quiet (n ∷ ns) there =
      let delay = link.settings.transmit_delay in
      let u = repeats_for (context_of s) link.iface link.settings s.database n in
      let one = repeats_are_quiet link.iface (local_by (context_of s) link.settings) link.settings.retransmit delay s.database (record { neighbour = n; next = 0; sent = [] }) in
      let rest = repeats_quiet ns (λ j m at. there (suc j) m at) in
      let known : AreKnown s (posted_all (context_of s) k link.iface u.sent) = posted_known s k link.iface u.sent (turn_known s l n.router n delay 0 u (there 0 n refl) is one) in
      record {
        quiet = quiet_more s n u.neighbour ns (map (neighbour_repeated (context_of s) link.iface link.settings s.database) ns) one.same.router (goes_on s [] n u.neighbour is (one.goes [])) one.enters rest.quiet;
        known = both_known s (posted_all (context_of s) k link.iface u.sent) (flat_map (repeats_to (context_of s) k link.iface link.settings s.database) ns) known rest.known;
      }

link_repeats : (s : AreaValue) → IsDatabase s.database → AreRising s.links → (l k : ℕ) (link : LinkValue) → slice_get s.links l ≡ Some link → RepeatsQuiet s link.neighbours (link_repeated (context_of s) s.database link).neighbours (link_repeats_out (context_of s) s.database k link)
link_repeats s is rising l k link at = repeats_quiet s is l k link link.neighbours (λ j n there. of_area s l link n.router n at (stands link.neighbours (rising l link at) j n there))

pub repeats_put : (s t : AreaValue) (keys : List LsaKey) (out out' : OutputsValue) → IsDatabase s.database → AreRising s.links → AreReadAsSent out'.sent → OnEachLink (link_repeated (context_of s) s.database) (link_repeats_out (context_of s) s.database) (record s { sent = keys }) out out' t → PutsOut (λ o. Quiet s o t) out out'
repeats_put s t keys out out' is rising read repeats =
    all_links_put (link_repeated (context_of s) s.database) (flat_from (link_repeats_out (context_of s) s.database) 0 s.links) s t out out' (ap (λ (a : AreaValue). a.links) repeats.state) (subst (λ a. ChangesLinks s a) (sym repeats.state) refl) repeats.outputs read
    (λ l link at. let quiet = (link_repeats s is rising l l link at).quiet in record { link = record { goes = quiet.goes; waiting = λ h c. c }; enters = quiet.enters })
    (links_known s (link_repeats_out (context_of s) s.database) (λ k link is_in. (link_repeats s is rising is_in.0 k link is_in.1).known))
