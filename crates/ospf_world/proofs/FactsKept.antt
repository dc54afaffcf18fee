use Rattle.std.proofs.Common.{length-append, ◌≡◌, ◌≢◌, ◌⊎◌, ◌+◌, ◌<◌, ◌≤◌, ◌++◌, ℕ, true, false, List, length, get_or, map, Option, Some, sym, ap, subst, inl, inr, arith, ◌∙◌, Bool}
use Rattle.std.specs.Prelude.{◌<ℤ◌, ◌≤ℤ◌}
use Rattle.std.specs.List.{Contains, slice_get}
use Rattle.std.proofs.lemmas.Option.{same_Some, slice_get_within, get_or_from_slice_get}
use Rattle.std.proofs.lemmas.Bool.{cases_eq, cases_Bool, cond-true, cond-false}
use Rattle.std.proofs.lemmas.Int.{ints}
use Rattle.std.proofs.lemmas.List.Elements.{Contains-append_cases, Contains-append_left, Contains-append_right}
use Rattle.ospf_base.specs.Sums.{contents}
use Rattle.ospf_base.specs.declared.ids.Instance.{Instance}
use Rattle.ospf_base.specs.declared.ids.LsaKey.{LsaKey}
use Rattle.ospf_base.specs.declared.ids.RouterId.{RouterId}
use Rattle.ospf_lsa.specs.Lsa.{key_of, instance_of}
use Rattle.ospf_lsa.specs.declared.header.LsaHeader.{LsaHeader}
use Rattle.ospf_packet.specs.Meaning.{BodyMeaning, hello, description, request, update, acknowledgment, Meaning}
use Rattle.ospf_packet.specs.PacketOf.{packet_of}
use Rattle.ospf_area.specs.Outputs.{OutputsValue, SentValue}
use Rattle.ospf_area.specs.State.{AreaValue, kept_number}
use Rattle.ospf_router.specs.AreaStep.Headers.{Lists}
use Rattle.ospf_router.specs.AreaStep.Packets.{Received, lsas_of, headers_in_body, dd_headers_of, acknowledging_headers_of}
use Rattle.ospf_router.specs.AreaStep.Words.{CanName, HasCopy, Asks, Brings}
use Rattle.ospf_lsdb.specs.Moments.{among}
use Rattle.ospf_area.specs.Updates.Removal.{lowest_number}
use Rattle.ospf_router.specs.AreaStep.Accounts.{Accounts, HasContents, Hears, IsAcknowledged, IsDescribed, Sends}
use Rattle.ospf_router.specs.AreaStep.Step.{Event, heard_in}
use Rattle.ospf_router.proofs.AreaStep.StateFacts.{same_router, Contains-nil, slice_get-append_right, Contains-map_cases, Contains-map, slice_get-append_cases, slice_get-append_left, slice_get-map_cases, Contains-from_slice_get, slice_get-from_Contains}
use Rattle.ospf_world.specs.World.{World, Issued, Datagram, Holding, Running, router_at, StepsRouter, RouterBecomes, HasItsTable}
use Rattle.ospf_world.specs.Logs.{run_of}
use Rattle.ospf_world.specs.Sound.{WasIssued, IssuedAt, number_in}
use Rattle.ospf_world.proofs.Facts.{Facts, IsAfter, IsKnownTo}

-- which router it is that runs as y after r became o
pub data IsThat (before : World) (r : RouterId) (o : Option Running) (q : RouterId) (y : Running) : Type 0 where
  TheOne : q ≡ r → o ≡ Some y → IsThat before r o q y
  Another : q ≢ r → router_at before q ≡ Some y → IsThat before r o q y

pub which_router : (before after : World) (r : RouterId) (o : Option Running) (q : RouterId) (y : Running) → RouterBecomes before after r o → router_at after q ≡ Some y → IsThat before r o q y
which_router before after r o q y b at = go (cases_eq q.0 r.0)
  where
    that : q ≡ r → IsThat before r o q y
    that e = IsThat.TheOne e (sym b.becomes ∙ ap (router_at after) (sym e) ∙ at)

    another : (q ≡ r → ⊥) → IsThat before r o q y
    another n = IsThat.Another n (sym (b.others q n) ∙ at)

    go : (q.0 ≡ r.0) ⊎ (q.0 ≡ r.0 → ⊥) → IsThat before r o q y
    go (inl e) = that (same_router q r e)
    go (inr n) = another (λ e. n (ap (λ q. q.0) e))

-- what was issued was issued before the log grew
pub WasIssued-more : (issued more : List Issued) (content : List ℕ) → WasIssued issued content → WasIssued (issued ++ more) content
WasIssued-more issued more content was = record { place = was.place; entry = was.entry; at = slice_get-append_left issued more was.place was.entry was.at; is = was.is }

-- the headers by which a packet describes and acknowledges are among those by which it names instances
dd_named : (b : BodyMeaning) (h : LsaHeader) → Contains (dd_headers_of b) h → Contains (headers_in_body b) h
dd_named (hello fields neighbours) h c = c
dd_named (description fields headers) h c = c
dd_named (request entries) h c = c
dd_named (update lsas) h c = absurd (Contains-nil h c)
dd_named (acknowledgment headers) h c = absurd (Contains-nil h c)

acknowledged_named : (b : BodyMeaning) (h : LsaHeader) → Contains (acknowledging_headers_of b) h → Contains (headers_in_body b) h
acknowledged_named (hello fields neighbours) h c = c
acknowledged_named (description fields headers) h c = absurd (Contains-nil h c)
acknowledged_named (request entries) h c = c
acknowledged_named (update lsas) h c = c
acknowledged_named (acknowledgment headers) h c = c

-- a packet that is heard was sent
abbrev pub WasSent : World → Option Received → Type 0
WasSent w heard = (r : Received) → heard ≡ Some r → (g : Datagram) × Contains w.datagrams g × (packet_of g.sent.bytes ≡ Some r.packet)

module _ (w w' : World) (r : RouterId) (event : Event) (x x' : Running) (out : OutputsValue) (facts : Facts w) (step : StepsRouter w w' r event x x' out) (was_sent : WasSent w (heard_in event)) where
  laws : Accounts (heard_in event) x.state out x'.state
  laws = step.accounts

  pub was_issued : (content : List ℕ) → WasIssued w.issued content → WasIssued w'.issued content
  was_issued content was =
      subst (λ issued. WasIssued issued content) (sym step.logs.issued) (WasIssued-more w.issued _ content was)

  pub has_issued : (content : List ℕ) → HasContents (heard_in event) x.state out content → WasIssued w'.issued content
  has_issued content (HasContents.Held lsa c e) = was_issued content (subst (λ k. WasIssued w.issued k) e (facts.database r x lsa step.was c))
  has_issued content (HasContents.Heard received lsa h c e) =
      let (g, sent, reads) = was_sent received h in
      was_issued content (subst (λ k. WasIssued w.issued k) e (facts.updates g received.packet lsa sent reads c))
  has_issued content (HasContents.Issued lsa c e) =
      let (k, at) = slice_get-from_Contains _ _ (Contains-map (λ lsa. record { lsa = lsa; run = run_of x.first x.later (key_of lsa) }) out.issued lsa c) in
      record {
        place = length w.issued + k;
        entry = record { lsa = lsa; run = run_of x.first x.later (key_of lsa) };
        at = subst (λ issued. IssuedAt issued (length w.issued + k) (record { lsa = lsa; run = run_of x.first x.later (key_of lsa) })) (sym step.logs.issued) (slice_get-append_right w.issued _ k _ at);
        is = e;
      }

  pub was_held : (h : Holding) → Contains w.held h → Contains w'.held h
  was_held h c = subst (λ held. Contains held h) (sym step.logs.held) (Contains-append_left w.held _ h c)

  pub brings_held : (i : Instance) → Brings out i → Contains w'.held (record { router = r; instance = i })
  brings_held i (Brings.Takes c) =
      subst (λ held. Contains held (record { router = r; instance = i })) (sym step.logs.held)
      (Contains-append_right w.held _ _ (Contains-append_left _ _ _ (Contains-map (λ i. record { router = r; instance = i }) out.taken i c)))
  brings_held i (Brings.Issues lsa c e) =
      subst (λ i. Contains w'.held (record { router = r; instance = i })) e
      (subst (λ held. Contains held (record { router = r; instance = instance_of lsa })) (sym step.logs.held)
      (Contains-append_right w.held _ _ (Contains-append_right _ _ _ (Contains-map (λ lsa. record { router = r; instance = instance_of lsa }) out.issued lsa c))))

  pub names_held : (i : Instance) → CanName x.state i ⊎ Brings out i → Contains w'.held (record { router = r; instance = i })
  names_held i (inl n) = was_held _ (facts.names r x i step.was n)
  names_held i (inr b) = brings_held i b

  hears_by : (headers : BodyMeaning → List LsaHeader) → ((b : BodyMeaning) (h : LsaHeader) → Contains (headers b) h → Contains (headers_in_body b) h) → (l : ℕ) (q : RouterId) (i : Instance) → Hears headers (heard_in event) l q i → Contains w'.held (record { router = q; instance = i })
  hears_by headers among_all l q i h =
      let (g, sent, reads) = was_sent h.received h.is_heard in
      let (header, c, is) = h.named in
      was_held _ (subst (λ q. Contains w.held (record { router = q; instance = i })) h.from (facts.named g h.received.packet i sent reads (header, among_all h.received.packet.body header c, is)))

  pub described_held : (l : ℕ) (q : RouterId) (i : Instance) → IsDescribed (heard_in event) l q i → Contains w'.held (record { router = q; instance = i })
  described_held l q i h = hears_by dd_headers_of dd_named l q i h

  pub acknowledged_held : (l : ℕ) (q : RouterId) (i : Instance) → IsAcknowledged (heard_in event) l q i → Contains w'.held (record { router = q; instance = i })
  acknowledged_held l q i h = hears_by acknowledging_headers_of acknowledged_named l q i h

  pub asks_held : (l : ℕ) (q : RouterId) (i : Instance) → Asks x.state l q i ⊎ IsDescribed (heard_in event) l q i → Contains w'.held (record { router = q; instance = i })
  asks_held l q i (inl c) = was_held _ (facts.asked r x l q i step.was c)
  asks_held l q i (inr e) = described_held l q i e

  -- a datagram of the world after the step was there before, or is one of the step's
  pub datagram_cases : (g : Datagram) → Contains w'.datagrams g → Contains w.datagrams g ⊎ ((s : SentValue) × Contains out.sent s × (◌≡◌ {A = Datagram} (record { router = r; sent = s }) g))
  datagram_cases g c =
      elim (Contains-append_cases w.datagrams _ g (subst (λ gs. Contains gs g) step.logs.datagrams c))
      [ inl old ↦ inl old | inr new ↦ inr (Contains-map_cases (λ s. record { router = r; sent = s }) out.sent g new) ]

  pub sends_from : (g : Datagram) (p : Meaning) (s : SentValue) → Contains out.sent s → ◌≡◌ {A = Datagram} (record { router = r; sent = s }) g → packet_of g.sent.bytes ≡ Some p → Sends out p
  sends_from g p s c e reads = record { datagram = s; sent = c; reads = ap (λ g. packet_of g.sent.bytes) e ∙ reads }

  pub own_router : x.state.router ≡ r
  own_router = facts.router r x step.was

  -- fact by fact
  pub database_kept : (q : RouterId) (y : Running) (lsa : List ℕ) → router_at w' q ≡ Some y → HasCopy y.state lsa → WasIssued w'.issued (contents lsa)
  database_kept q y lsa at c = go (which_router w w' r (Some x') q y step.changes at)
    where
      go : IsThat w r (Some x') q y → WasIssued w'.issued (contents lsa)
      go (IsThat.TheOne e o) = has_issued (contents lsa) (laws.database lsa (subst (λ z. HasCopy z.state lsa) (sym (same_Some x' y o)) c))
      go (IsThat.Another n o) = was_issued (contents lsa) (facts.database q y lsa o c)

  pub updates_kept : (g : Datagram) (p : Meaning) (lsa : List ℕ) → Contains w'.datagrams g → packet_of g.sent.bytes ≡ Some p → Contains (lsas_of p.body) lsa → WasIssued w'.issued (contents lsa)
  updates_kept g p lsa c reads in_p =
      elim (datagram_cases g c) [
        | inl old ↦ was_issued (contents lsa) (facts.updates g p lsa old reads in_p)
        | inr new ↦ has_issued (contents lsa) (laws.updates p lsa (sends_from g p new.0 new.1 new.2 reads) in_p)
      ]

  pub router_kept : (q : RouterId) (y : Running) → router_at w' q ≡ Some y → y.state.router ≡ q
  router_kept q y at = go (which_router w w' r (Some x') q y step.changes at)
    where
      go : IsThat w r (Some x') q y → y.state.router ≡ q
      go (IsThat.TheOne e o) = ap (λ z. z.state.router) (sym (same_Some x' y o)) ∙ (laws.same_router ∙ (own_router ∙ sym e))
      go (IsThat.Another n o) = facts.router q y o

  pub names_kept : (q : RouterId) (y : Running) (i : Instance) → router_at w' q ≡ Some y → CanName y.state i → Contains w'.held (record { router = q; instance = i })
  names_kept q y i at n = go (which_router w w' r (Some x') q y step.changes at)
    where
      go : IsThat w r (Some x') q y → Contains w'.held (record { router = q; instance = i })
      go (IsThat.TheOne e o) =
          subst (λ q. Contains w'.held (record { router = q; instance = i })) (sym e)
          (names_held i (laws.names i (subst (λ z. CanName z.state i) (sym (same_Some x' y o)) n)))
      go (IsThat.Another _ o) = was_held _ (facts.names q y i o n)

  pub named_kept : (g : Datagram) (p : Meaning) (i : Instance) → Contains w'.datagrams g → packet_of g.sent.bytes ≡ Some p → Lists (headers_in_body p.body) i → Contains w'.held (record { router = p.router; instance = i })
  named_kept g p i c reads in_p =
      elim (datagram_cases g c) [
        | inl old ↦ was_held _ (facts.named g p i old reads in_p)
        | inr new ↦
            let sends : Sends out p = sends_from g p new.0 new.1 new.2 reads in
            subst (λ q. Contains w'.held (record { router = q; instance = i })) (sym (laws.bears p sends ∙ own_router))
            (names_held i (laws.named p i sends in_p))
      ]

  pub asked_kept : (q : RouterId) (y : Running) (l : ℕ) (n : RouterId) (i : Instance) → router_at w' q ≡ Some y → Asks y.state l n i → Contains w'.held (record { router = n; instance = i })
  asked_kept q y l n i at c = go (which_router w w' r (Some x') q y step.changes at)
    where
      go : IsThat w r (Some x') q y → Contains w'.held (record { router = n; instance = i })
      go (IsThat.TheOne e o) = asks_held l n i (laws.asks l n i (subst (λ z. Asks z.state l n i) (sym (same_Some x' y o)) c))
      go (IsThat.Another _ o) = was_held _ (facts.asked q y l n i o c)

  pub tables_kept : (q : RouterId) (y : Running) → router_at w' q ≡ Some y → HasItsTable y
  tables_kept q y at = go (which_router w w' r (Some x') q y step.changes at)
    where
      go : IsThat w r (Some x') q y → HasItsTable y
      go (IsThat.TheOne e o) = subst (λ z. HasItsTable z) (same_Some x' y o) step.table
      go (IsThat.Another _ o) = facts.tables q y o

  -- an entry of the log after the step was there before, or is one of the LSAs issued now, in the run of its key
  pub entry_cases : (k : ℕ) (e : Issued) → IssuedAt w'.issued k e → IssuedAt w.issued k e ⊎ ((m : ℕ) × (k ≡ length w.issued + m) × (slice_get out.issued m ≡ Some e.lsa) × (e.run ≡ run_of x.first x.later (key_of e.lsa)))
  entry_cases k e at =
      elim (slice_get-append_cases w.issued _ k e (subst (λ issued. IssuedAt issued k e) step.logs.issued at))
      [ inl old ↦ inl old | inr new ↦ inr (made new.0 new.1 (slice_get-map_cases (λ lsa. record { lsa = lsa; run = run_of x.first x.later (key_of lsa) }) out.issued new.0 e new.2)) ]
    where
      made : (m : ℕ) → k ≡ length w.issued + m → (lsa : List ℕ) × (slice_get out.issued m ≡ Some lsa) × (◌≡◌ {A = Issued} (record { lsa = lsa; run = run_of x.first x.later (key_of lsa) }) e) → (m : ℕ) × (k ≡ length w.issued + m) × (slice_get out.issued m ≡ Some e.lsa) × (e.run ≡ run_of x.first x.later (key_of e.lsa))
      made m place (lsa, there, is) =
          let same : lsa ≡ e.lsa = ap (λ e. e.lsa) is in
          (m, place, there ∙ ap Some same, sym (ap (λ e. e.run) is) ∙ ap (λ lsa. run_of x.first x.later (key_of lsa)) same)

  pub new_is_own : (m : ℕ) (lsa : List ℕ) → slice_get out.issued m ≡ Some lsa → (key_of lsa).router ≡ r
  new_is_own m lsa at = laws.numbers.own lsa (Contains-from_slice_get out.issued m lsa at) ∙ own_router

  pub new_is_above : (m : ℕ) (lsa : List ℕ) → slice_get out.issued m ≡ Some lsa → kept_number x.state (key_of lsa) <ℤ (instance_of lsa).number
  new_is_above m lsa at = laws.numbers.above lsa (Contains-from_slice_get out.issued m lsa at)

  pub after_kept : (i j : ℕ) (e f : Issued) → IssuedAt w'.issued i e → IssuedAt w'.issued j f → i < j → key_of e.lsa ≡ key_of f.lsa → IsAfter i e f
  after_kept i j e f ate atf lt same = go (entry_cases i e ate) (entry_cases j f atf)
    where
      old_new : (m : ℕ) → slice_get out.issued m ≡ Some f.lsa → f.run ≡ run_of x.first x.later (key_of f.lsa) → IsKnownTo x i e → IsAfter i e f
      old_new m at is (IsKnownTo.InRun run kept) =
          let above : kept_number x.state (key_of f.lsa) <ℤ number_in f = new_is_above m f.lsa at in
          let upto : number_in e ≤ℤ kept_number x.state (key_of f.lsa) = subst (λ key. number_in e ≤ℤ kept_number x.state key) same kept in
          IsAfter.SameRun (run ∙ (ap (run_of x.first x.later) same ∙ sym is)) (omega (arith, ints))
      old_new m at is (IsKnownTo.BeforeRun before) =
          IsAfter.LaterRun (subst (λ run. i < run.name) (ap (run_of x.first x.later) same ∙ sym is) before)

      go : IssuedAt w.issued i e ⊎ ((m : ℕ) × (i ≡ length w.issued + m) × (slice_get out.issued m ≡ Some e.lsa) × (e.run ≡ run_of x.first x.later (key_of e.lsa))) → IssuedAt w.issued j f ⊎ ((m : ℕ) × (j ≡ length w.issued + m) × (slice_get out.issued m ≡ Some f.lsa) × (f.run ≡ run_of x.first x.later (key_of f.lsa))) → IsAfter i e f
      go (inl olde) (inl oldf) = facts.after i j e f olde oldf lt same
      go (inr newe) (inl oldf) = absurd (let within : j < length w.issued = slice_get_within w.issued j f oldf in let place : i ≡ length w.issued + newe.0 = newe.1 in omega arith)
      go (inl olde) (inr newf) = old_new newf.0 newf.2 newf.3 (facts.known r x i e step.was olde (ap (λ key. key.router) same ∙ new_is_own newf.0 f.lsa newf.2))
      go (inr newe) (inr newf) =
          let in_order : newe.0 < newf.0 = (let pe : i ≡ length w.issued + newe.0 = newe.1 in let pf : j ≡ length w.issued + newf.0 = newf.1 in omega arith) in
          let inside : newf.0 < length out.issued = slice_get_within out.issued newf.0 f.lsa newf.2 in
          let is_e = get_or_from_slice_get out.issued newe.0 e.lsa e.lsa newe.2 in
          let is_f = get_or_from_slice_get out.issued newf.0 f.lsa e.lsa newf.2 in
          let rises = laws.numbers.rising newe.0 newf.0 e.lsa in_order inside in
          IsAfter.SameRun (newe.3 ∙ (ap (run_of x.first x.later) same ∙ sym newf.3))
          (subst (λ b. key_of e.lsa ≡ key_of b → number_in e <ℤ (instance_of b).number) is_f
          (subst (λ a. key_of a ≡ key_of (get_or out.issued newf.0 e.lsa) → (instance_of a).number <ℤ (instance_of (get_or out.issued newf.0 e.lsa)).number) is_e rises) same)

  pub run_begun_kept : (k : ℕ) (e : Issued) → IssuedAt w'.issued k e → e.run.name ≤ k
  run_begun_kept k e at = go (entry_cases k e at)
    where
      go : IssuedAt w.issued k e ⊎ ((m : ℕ) × (k ≡ length w.issued + m) × (slice_get out.issued m ≡ Some e.lsa) × (e.run ≡ run_of x.first x.later (key_of e.lsa))) → e.run.name ≤ k
      go (inl old) = facts.run_begun k e old
      go (inr new) =
          let begun : e.run.name ≤ length w.issued = subst (λ run. run.name ≤ length w.issued) (sym new.3) (facts.begun r x (key_of e.lsa) step.was) in
          let place : k ≡ length w.issued + new.0 = new.1 in omega arith

  pub above_base_kept : (k : ℕ) (e : Issued) → IssuedAt w'.issued k e → e.run.base <ℤ number_in e
  above_base_kept k e at = go (entry_cases k e at)
    where
      go : IssuedAt w.issued k e ⊎ ((m : ℕ) × (k ≡ length w.issued + m) × (slice_get out.issued m ≡ Some e.lsa) × (e.run ≡ run_of x.first x.later (key_of e.lsa))) → e.run.base <ℤ number_in e
      go (inl old) = facts.above_base k e old
      go (inr new) =
          let above : kept_number x.state (key_of e.lsa) <ℤ number_in e = new_is_above new.0 e.lsa new.2 in
          let base : e.run.base ≤ℤ kept_number x.state (key_of e.lsa) = subst (λ run. run.base ≤ℤ kept_number x.state (key_of e.lsa)) (sym new.3) (facts.kept_above r x (key_of e.lsa) step.was) in
          omega (arith, ints)

  length_more : length w.issued ≤ length w'.issued
  length_more = rw step.logs.issued (omega (arith, length-append {A = Issued}))

  -- the run of a key goes on, or begins now
  pub run_goes_on : (key : LsaKey) → among out.ended key ≡ false → run_of x'.first x'.later key ≡ run_of x.first x.later key
  run_goes_on key goes_on = step.runs.runs key ∙ cond-false (among out.ended key) _ _ goes_on

  pub run_begins : (key : LsaKey) → among out.ended key ≡ true → run_of x'.first x'.later key ≡ record { name = length w'.issued; base = lowest_number }
  run_begins key ends = step.runs.runs key ∙ cond-true (among out.ended key) _ _ ends

  pub known_now : (k : ℕ) (e : Issued) → IssuedAt w'.issued k e → (key_of e.lsa).router ≡ r → IsKnownTo x' k e
  known_now k e at own = by_end (cases_Bool (among out.ended (key_of e.lsa)))
    where
      old : among out.ended (key_of e.lsa) ≡ false → IsKnownTo x k e → IsKnownTo x' k e
      old goes_on (IsKnownTo.InRun run upto) =
          let more : kept_number x.state (key_of e.lsa) ≤ℤ kept_number x'.state (key_of e.lsa) = laws.numbers.kept (key_of e.lsa) goes_on in
          IsKnownTo.InRun (run ∙ sym (run_goes_on (key_of e.lsa) goes_on)) (omega (arith, ints))
      old goes_on (IsKnownTo.BeforeRun before) = IsKnownTo.BeforeRun (subst (λ run. k < run.name) (sym (run_goes_on (key_of e.lsa) goes_on)) before)

      by_place : among out.ended (key_of e.lsa) ≡ false → IssuedAt w.issued k e ⊎ ((m : ℕ) × (k ≡ length w.issued + m) × (slice_get out.issued m ≡ Some e.lsa) × (e.run ≡ run_of x.first x.later (key_of e.lsa))) → IsKnownTo x' k e
      by_place goes_on (inl there) = old goes_on (facts.known r x k e step.was there own)
      by_place goes_on (inr new) = IsKnownTo.InRun (new.3 ∙ sym (run_goes_on (key_of e.lsa) goes_on)) (laws.numbers.known e.lsa (Contains-from_slice_get out.issued new.0 e.lsa new.2) goes_on)

      by_end : (among out.ended (key_of e.lsa) ≡ true) ⊎ (among out.ended (key_of e.lsa) ≡ false) → IsKnownTo x' k e
      by_end (inl ends) = IsKnownTo.BeforeRun (subst (λ run. k < run.name) (sym (run_begins (key_of e.lsa) ends)) (slice_get_within w'.issued k e at))
      by_end (inr goes_on) = by_place goes_on (entry_cases k e at)

  pub known_kept : (q : RouterId) (y : Running) (k : ℕ) (e : Issued) → router_at w' q ≡ Some y → IssuedAt w'.issued k e → (key_of e.lsa).router ≡ q → IsKnownTo y k e
  known_kept q y k e at there own = go (which_router w w' r (Some x') q y step.changes at)
    where
      other : q ≢ r → router_at w q ≡ Some y → IssuedAt w.issued k e ⊎ ((m : ℕ) × (k ≡ length w.issued + m) × (slice_get out.issued m ≡ Some e.lsa) × (e.run ≡ run_of x.first x.later (key_of e.lsa))) → IsKnownTo y k e
      other n o (inl old) = facts.known q y k e o old own
      other n o (inr new) = absurd (n (sym own ∙ new_is_own new.0 e.lsa new.2))

      go : IsThat w r (Some x') q y → IsKnownTo y k e
      go (IsThat.TheOne e' o) = subst (λ z. IsKnownTo z k e) (same_Some x' y o) (known_now k e there (own ∙ e'))
      go (IsThat.Another n o) = other n o (entry_cases k e there)

  pub begun_kept : (q : RouterId) (y : Running) (key : LsaKey) → router_at w' q ≡ Some y → (run_of y.first y.later key).name ≤ length w'.issued
  begun_kept q y key at = go (which_router w w' r (Some x') q y step.changes at)
    where
      now : (among out.ended key ≡ true) ⊎ (among out.ended key ≡ false) → (run_of x'.first x'.later key).name ≤ length w'.issued
      now (inl ends) = subst (λ run. run.name ≤ length w'.issued) (sym (run_begins key ends)) (omega arith)
      now (inr goes_on) = subst (λ run. run.name ≤ length w'.issued) (sym (run_goes_on key goes_on)) (let b : (run_of x.first x.later key).name ≤ length w.issued = facts.begun r x key step.was in omega (arith, length_more))

      go : IsThat w r (Some x') q y → (run_of y.first y.later key).name ≤ length w'.issued
      go (IsThat.TheOne e o) = subst (λ z. (run_of z.first z.later key).name ≤ length w'.issued) (same_Some x' y o) (now (cases_Bool (among out.ended key)))
      go (IsThat.Another n o) = let b : (run_of y.first y.later key).name ≤ length w.issued = facts.begun q y key o in omega (arith, length_more)

  pub kept_above_kept : (q : RouterId) (y : Running) (key : LsaKey) → router_at w' q ≡ Some y → (run_of y.first y.later key).base ≤ℤ kept_number y.state key
  kept_above_kept q y key at = go (which_router w w' r (Some x') q y step.changes at)
    where
      now : (among out.ended key ≡ true) ⊎ (among out.ended key ≡ false) → (run_of x'.first x'.later key).base ≤ℤ kept_number x'.state key
      now (inl ends) = subst (λ run. run.base ≤ℤ kept_number x'.state key) (sym (run_begins key ends)) (let same : kept_number x'.state key ≡ lowest_number = laws.numbers.again key ends in subst (λ n. lowest_number ≤ℤ n) (sym same) (omega (arith, ints)))
      now (inr goes_on) =
          let base : (run_of x.first x.later key).base ≤ℤ kept_number x.state key = facts.kept_above r x key step.was in
          let more : kept_number x.state key ≤ℤ kept_number x'.state key = laws.numbers.kept key goes_on in
          subst (λ run. run.base ≤ℤ kept_number x'.state key) (sym (run_goes_on key goes_on)) (omega (arith, ints))

      go : IsThat w r (Some x') q y → (run_of y.first y.later key).base ≤ℤ kept_number y.state key
      go (IsThat.TheOne e o) = subst (λ z. (run_of z.first z.later key).base ≤ℤ kept_number z.state key) (same_Some x' y o) (now (cases_Bool (among out.ended key)))
      go (IsThat.Another n o) = facts.kept_above q y key o

  pub Facts-stepped : Facts w'
  Facts-stepped = record {
    database = database_kept;
    updates = updates_kept;
    after = after_kept;
    run_begun = run_begun_kept;
    above_base = above_base_kept;
    known = known_kept;
    begun = begun_kept;
    kept_above = kept_above_kept;
    router = router_kept;
    names = names_kept;
    named = named_kept;
    asked = asked_kept;
    tables = tables_kept;
  }
