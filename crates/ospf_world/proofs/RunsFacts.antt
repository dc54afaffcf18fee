use Rattle.std.proofs.Common.{◌≡◌, ◌≢◌, ◌⊎◌, ◌<◌, ◌≤◌, ◌++◌, ℕ, ℤ, false, List, [], ◌∷◌, length, Option, None, Some, refl, sym, ap, subst, inl, inr, arith, ◌∙◌, append-nil, append_assoc, Bool}
use Rattle.ospf_area.proofs.Words.{state_of}
use Rattle.std.specs.Prelude.{◌<ℤ◌, ◌≤ℤ◌}
use Rattle.std.specs.List.{Contains, slice_get}
use Rattle.std.specs.Option.{option_map}
use Rattle.std.proofs.lemmas.Option.{none-some, same_Some, slice_get_within}
use Rattle.std.proofs.lemmas.Bool.{cases_order}
use Rattle.std.proofs.lemmas.Int.{ints}
use Rattle.ospf_base.specs.Instances.{Covers}
use Rattle.ospf_base.specs.Sums.{contents}
use Rattle.ospf_base.specs.declared.ids.Instance.{Instance}
use Rattle.ospf_base.specs.declared.ids.LsaKey.{LsaKey}
use Rattle.ospf_base.specs.declared.ids.RouterId.{RouterId}
use Rattle.ospf_lsa.specs.Lsa.{key_of, instance_of}
use Rattle.ospf_packet.specs.Meaning.{Meaning}
use Rattle.ospf_packet.specs.PacketOf.{packet_of}
use Rattle.ospf_neighbour.specs.Machine.{is_exchanging}
use Rattle.ospf_area.specs.Outputs.{OutputsValue}
use Rattle.ospf_area.specs.State.{AreaValue, Awaits, kept_number}
use Rattle.ospf_router.specs.AreaStep.Words.{CanName, HasCopy, Asks}
use Rattle.ospf_router.specs.AreaStep.Accounts.{IsAcknowledged, HasWord, MayLeave, IsReplaced, WaitsOn}
use Rattle.ospf_router.specs.AreaStep.Packets.{Received}
use Rattle.ospf_router.specs.AreaStep.Step.{Event, heard_in}
use Rattle.ospf_router.proofs.AreaStep.StateFacts.{same_contents, Contains-nil, Contains-from_slice_get}
use Rattle.ospf_router.specs.AreaStep.Step.Event.{Tick, LinkUp, LinkDown}
use Rattle.ospf_world.specs.World.{Comes, World, WorldEvent, Issued, Datagram, Running, router_at, StepsRouter, RouterBecomes, SameLogs, IsRunningStarted, IsNewWorld, Happens, RunsEvents, stepped_by, HasItsTable}
use Rattle.ospf_world.specs.Logs.{run_of}
use Rattle.ospf_base.specs.declared.event.event.WorldEvent.TheVariants.{Start, Stop, Tick as TickOf, LinkUp as LinkUpOf, LinkDown as LinkDownOf, Deliver}
use Rattle.ospf_world.specs.Sound.{WasIssued, HeldAnywhere, IssuedAgain, AgreeUnlessIssuedAgain, NoCollision, BasesAreHigh, IssuedAt, number_in, HasToldOf, IsSoundFor, SoundFor, IsSoundAcknowledgement}
use Rattle.ospf_world.proofs.Facts.{Facts, IsAfter, IsKnownTo}
use Rattle.ospf_world.proofs.FactsKept.{IsThat, which_router, WasSent, Facts-stepped, WasIssued-more, acknowledged_held, described_held, was_held}

-- what a world event brings to a router was sent
pub was_sent_by : (w : World) (event : WorldEvent) (r : RouterId) (e : Event) → stepped_by w event ≡ Some (r, e) → WasSent w (heard_in e)
was_sent_by w (Start q dd floor) r e by received h = absurd (none-some (r, e) by)
was_sent_by w (Stop q) r e by received h = absurd (none-some (r, e) by)
was_sent_by w (TickOf q) r e by received h = absurd (none-some received (subst (λ e. heard_in e ≡ Some received) (sym (ap (λ z. z.1) (same_Some (q, Tick) (r, e) by))) h))
was_sent_by w (LinkUpOf q l) r e by received h = absurd (none-some received (subst (λ e. heard_in e ≡ Some received) (sym (ap (λ z. z.1) (same_Some (q, LinkUp l) (r, e) by))) h))
was_sent_by w (LinkDownOf q l) r e by received h = absurd (none-some received (subst (λ e. heard_in e ≡ Some received) (sym (ap (λ z. z.1) (same_Some (q, LinkDown l) (r, e) by))) h))
was_sent_by w (Deliver d q l) r e by received h = go (slice_get w.datagrams d) refl by
  where
    reads : (o : Option Meaning) → option_map {U = Received} (λ p. record { link = l; packet = p }) o ≡ Some received → o ≡ Some received.packet
    reads None is = absurd (none-some received is)
    reads (Some p) is = ap (λ (r : Received). Some r.packet) (same_Some (record { link = l; packet = p }) received is)

    go : (o : Option Datagram) → slice_get w.datagrams d ≡ o → option_map {U = RouterId × Event} (λ g. (q, Event.Datagram l g.sent.source g.sent.destination g.sent.bytes)) o ≡ Some (r, e) → (g : Datagram) × Contains w.datagrams g × (packet_of g.sent.bytes ≡ Some received.packet)
    go None at by = absurd (none-some (r, e) by)
    go (Some g) at by = (
      g,
      Contains-from_slice_get w.datagrams d g at,
      reads (packet_of g.sent.bytes) (subst (λ e. heard_in e ≡ Some received) (sym (ap (λ z. z.1) (same_Some (q, Event.Datagram l g.sent.source g.sent.destination g.sent.bytes) (r, e) by))) h),
    )

-- what the facts say of one running router
pub record FactsOf (w : World) (r : RouterId) (x : Running) : Type 0 where
  pub database : (lsa : List ℕ) → HasCopy x.state lsa → WasIssued w.issued (contents lsa)
  pub known : (i : ℕ) (e : Issued) → IssuedAt w.issued i e → (key_of e.lsa).router ≡ r → IsKnownTo x i e
  pub begun : (key : LsaKey) → (run_of x.first x.later key).name ≤ length w.issued
  pub kept_above : (key : LsaKey) → (run_of x.first x.later key).base ≤ℤ kept_number x.state key
  pub router : x.state.router ≡ r
  pub names : (i : Instance) → CanName x.state i → Contains w.held (record { router = r; instance = i })
  pub asked : (l : ℕ) (q : RouterId) (i : Instance) → Asks x.state l q i → Contains w.held (record { router = q; instance = i })
  pub tables : HasItsTable x

-- where no log grows and router r becomes o, the facts need only be seen of o
pub Facts-same_logs : (w w' : World) (r : RouterId) (o : Option Running) → Facts w → RouterBecomes w w' r o → SameLogs w w' → ((x : Running) → o ≡ Some x → FactsOf w r x) → Facts w'
Facts-same_logs w w' r o facts b logs of = record {
  database = λ q y lsa at c. subst (λ issued. WasIssued issued (contents lsa)) (sym logs.issued) ((each q y at).database lsa c);
  updates = λ g p lsa c reads in_p. subst (λ issued. WasIssued issued (contents lsa)) (sym logs.issued) (facts.updates g p lsa (subst (λ gs. Contains gs g) logs.datagrams c) reads in_p);
  after = λ i j e f ate atf. facts.after i j e f (subst (λ issued. IssuedAt issued i e) logs.issued ate) (subst (λ issued. IssuedAt issued j f) logs.issued atf);
  run_begun = λ i e at. facts.run_begun i e (subst (λ issued. IssuedAt issued i e) logs.issued at);
  above_base = λ i e at. facts.above_base i e (subst (λ issued. IssuedAt issued i e) logs.issued at);
  known = λ q y i e at there own. (each q y at).known i e (subst (λ issued. IssuedAt issued i e) logs.issued there) own;
  begun = λ q y key at. subst (λ issued. (run_of y.first y.later key).name ≤ length issued) (sym logs.issued) ((each q y at).begun key);
  kept_above = λ q y key at. (each q y at).kept_above key;
  router = λ q y at. (each q y at).router;
  names = λ q y i at n. subst (λ held. Contains held (record { router = q; instance = i })) (sym logs.held) ((each q y at).names i n);
  named = λ g p i c reads in_p. subst (λ held. Contains held (record { router = p.router; instance = i })) (sym logs.held) (facts.named g p i (subst (λ gs. Contains gs g) logs.datagrams c) reads in_p);
  asked = λ q y l n i at c. subst (λ held. Contains held (record { router = n; instance = i })) (sym logs.held) ((each q y at).asked l n i c);
  tables = λ q y at. (each q y at).tables;
}
  where
    old : (q : RouterId) (y : Running) → router_at w q ≡ Some y → FactsOf w q y
    old q y at = record { database = λ lsa. facts.database q y lsa at; known = λ i e. facts.known q y i e at; begun = λ key. facts.begun q y key at; kept_above = λ key. facts.kept_above q y key at; router = facts.router q y at; names = λ i. facts.names q y i at; asked = λ l n i. facts.asked q y l n i at; tables = facts.tables q y at }

    each : (q : RouterId) (y : Running) → router_at w' q ≡ Some y → FactsOf w q y
    each q y at = by (which_router w w' r o q y b at)
      where
        by : IsThat w r o q y → FactsOf w q y
        by (IsThat.TheOne e is) = subst (λ q. FactsOf w q y) (sym e) (of y is)
        by (IsThat.Another n is) = old q y is

pub run_of-started : (x : Running) (key : LsaKey) → x.later ≡ [] → run_of x.first x.later key ≡ x.first
unfolding run_of
run_of-started x key none = rw none refl

pub FactsOf-started : (w : World) (r : RouterId) (floor : ℤ) (x : Running) → IsRunningStarted w.issued r floor x → FactsOf w r x
FactsOf-started w r floor x s = record {
  database = λ lsa c. absurd (none-some lsa (sym (s.empty (key_of lsa)) ∙ c));
  known = λ i e at own. IsKnownTo.BeforeRun (subst (λ run. i < run.name) (sym (run (key_of e.lsa))) (slice_get_within w.issued i e at));
  begun = λ key. subst (λ run. run.name ≤ length w.issued) (sym (run key)) (omega arith);
  kept_above = λ key. subst (λ run. run.base ≤ℤ kept_number x.state key) (sym (run key)) (subst (λ n. floor ≤ℤ n) (sym (s.numbers_none key)) (omega (arith, ints)));
  router = s.router;
  names = λ i n. absurd (s.names_none i n);
  asked = λ l q i c. absurd (s.asks_none l q i c);
  tables = s.table;
}
  where
    run : (key : LsaKey) → run_of x.first x.later key ≡ record { name = length w.issued; base = floor }
    run key = run_of-started x key s.later ∙ s.first

-- every world event keeps the facts
pub Facts-kept : {is_dropped : Event → AreaValue → Bool} (event : WorldEvent) (w w' : World) → Facts w → Happens is_dropped event w w' → Facts w'
Facts-kept event w w' facts (result, Comes.Refused why is told same) = subst (λ w. Facts w) (sym same) facts
Facts-kept event w w' facts (result, Comes.NotDone ok told wants same) = subst (λ w. Facts w) (sym same) facts
Facts-kept event w w' facts (result, Comes.Starts ok told r dd floor x is none b s logs) = Facts-same_logs w w' r (Some x) facts b logs (λ y e. subst (λ z. FactsOf w r z) (same_Some x y e) (FactsOf-started w r floor x s))
Facts-kept event w w' facts (result, Comes.Stops ok told r is b logs) = Facts-same_logs w w' r None facts b logs (λ y e. absurd (none-some y e))
Facts-kept event w w' facts (result, Comes.MemoryStops ok told r e y by runs taken b logs) = Facts-same_logs w w' r None facts b logs (λ y e. absurd (none-some y e))
Facts-kept event w w' facts (result, Comes.Stepped ok told r e x x' out by step) = Facts-stepped w w' r e x x' out facts step (was_sent_by w event r e by)

pub Facts-run : (is_dropped : Event → AreaValue → Bool) (events : List WorldEvent) (w w' : World) → Facts w → RunsEvents is_dropped events w w' → Facts w'
Facts-run is_dropped [] w w' facts same = subst (λ w. Facts w) (sym same) facts
Facts-run is_dropped (event ∷ events) w w' facts (mid, happens, rest) = Facts-run is_dropped events mid w' (Facts-kept event w mid facts happens) rest

-- one list of events, and then another
pub Runs-append : (is_dropped : Event → AreaValue → Bool) (events later : List WorldEvent) (u v w : World) → RunsEvents is_dropped events u v → RunsEvents is_dropped later v w → RunsEvents is_dropped (events ++ later) u w
Runs-append is_dropped [] later u v w same rest = subst (λ u. RunsEvents is_dropped later u w) same rest
Runs-append is_dropped (event ∷ events) later u v w (mid, happens, first) rest = (mid, happens, Runs-append is_dropped events later mid v w first rest)

pub Facts-new : (w : World) → IsNewWorld w → Facts w
Facts-new w new = record {
  database = λ r x lsa at c. absurd (stopped r x at);
  updates = λ g p lsa c reads in_p. absurd (Contains-nil g (subst (λ gs. Contains gs g) new.no_datagrams c));
  after = λ i j e f ate atf. absurd (none i e ate);
  run_begun = λ i e at. absurd (none i e at);
  above_base = λ i e at. absurd (none i e at);
  known = λ r x i e at there own. absurd (stopped r x at);
  begun = λ r x key at. absurd (stopped r x at);
  kept_above = λ r x key at. absurd (stopped r x at);
  router = λ r x at. absurd (stopped r x at);
  names = λ r x i at n. absurd (stopped r x at);
  named = λ g p i c reads in_p. absurd (Contains-nil g (subst (λ gs. Contains gs g) new.no_datagrams c));
  asked = λ r x l q i at c. absurd (stopped r x at);
  tables = λ r x at. absurd (stopped r x at);
}
  where
    stopped : (r : RouterId) (x : Running) → router_at w r ≡ Some x → ⊥
    stopped r x at = none-some x (sym (new.none_runs r) ∙ at)

    none : (i : ℕ) (e : Issued) → IssuedAt w.issued i e → ⊥
    none i e at = none-some e (subst (λ issued. IssuedAt issued i e) new.none_issued at)

-- what is held anywhere was issued
pub held_was_issued : (w : World) (lsa : List ℕ) → Facts w → HeldAnywhere w lsa → WasIssued w.issued (contents lsa)
held_was_issued w lsa facts (HeldAnywhere.InDatabase r x at c) = facts.database r x lsa at c
held_was_issued w lsa facts (HeldAnywhere.InUpdate g p c reads in_p) = facts.updates g p lsa c reads in_p

-- the log of issued LSAs only grows
pub record LogGrows (w w' : World) : Type 0 where
  pub more : List Issued
  pub grows : w'.issued ≡ w.issued ++ more

pub LogGrows-event : {is_dropped : Event → AreaValue → Bool} (event : WorldEvent) (w w' : World) → Happens is_dropped event w w' → LogGrows w w'
LogGrows-event event w w' (result, Comes.Refused why is told same) = record { more = []; grows = ap (λ w. w.issued) same ∙ sym (append-nil w.issued) }
LogGrows-event event w w' (result, Comes.NotDone ok told wants same) = record { more = []; grows = ap (λ w. w.issued) same ∙ sym (append-nil w.issued) }
LogGrows-event event w w' (result, Comes.Starts ok told r dd floor x is none b s logs) = record { more = []; grows = logs.issued ∙ sym (append-nil w.issued) }
LogGrows-event event w w' (result, Comes.Stops ok told r is b logs) = record { more = []; grows = logs.issued ∙ sym (append-nil w.issued) }
LogGrows-event event w w' (result, Comes.MemoryStops ok told r e y by runs taken b logs) = record { more = []; grows = logs.issued ∙ sym (append-nil w.issued) }
LogGrows-event event w w' (result, Comes.Stepped ok told r e x x' out by step) = record { more = _; grows = step.logs.issued }

pub LogGrows-run : (is_dropped : Event → AreaValue → Bool) (events : List WorldEvent) (w w' : World) → RunsEvents is_dropped events w w' → LogGrows w w'
LogGrows-run is_dropped [] w w' same = record { more = []; grows = ap (λ w. w.issued) same ∙ sym (append-nil w.issued) }
LogGrows-run is_dropped (event ∷ events) w w' (mid, happens, rest) =
    let first = LogGrows-event event w mid happens in
    let later = LogGrows-run is_dropped events mid w' rest in
    record { more = first.more ++ later.more; grows = later.grows ∙ (ap (λ issued. issued ++ later.more) first.grows ∙ append_assoc w.issued first.more later.more) }

-- an entry that stands after another of its instance is of a later run, which is low
pub issued_again : (w : World) (a b : List ℕ) → Facts w → (i j : ℕ) (e f : Issued) → IssuedAt w.issued i e → IssuedAt w.issued j f → i < j → instance_of e.lsa ≡ instance_of f.lsa → contents e.lsa ≡ contents a → contents f.lsa ≡ contents b → IssuedAgain w.issued a b
issued_again w a b facts i j e f ate atf lt same ea fb = go (facts.after i j e f ate atf lt (ap (λ i. i.key) same))
  where
    go : IsAfter i e f → IssuedAgain w.issued a b
    go (IsAfter.SameRun run less) = absurd (let equal : number_in e ≡ number_in f = ap (λ i. i.number) same in omega (arith, ints))
    go (IsAfter.LaterRun before) = record {
      i = i;
      j = j;
      first = e;
      second = f;
      first_at = ate;
      second_at = atf;
      in_order = lt;
      first_is = ea;
      second_is = fb;
      other_run = λ run. (let begun : f.run.name ≤ i = subst (λ run. run.name ≤ i) run (facts.run_begun i e ate) in omega arith);
      low = record { place = i; earlier = e; was_issued = ate; before_run = before; same_key = ap (λ i. i.key) same; above_base = subst (λ n. f.run.base <ℤ n) (sym (ap (λ i. i.number) same)) (facts.above_base j f atf) };
    }

pub agree : (w : World) (a b : List ℕ) → Facts w → WasIssued w.issued (contents a) → WasIssued w.issued (contents b) → AgreeUnlessIssuedAgain w.issued a b
agree w a b facts wa wb same = go (cases_order wa.place wb.place)
  where
    one : instance_of wa.entry.lsa ≡ instance_of wb.entry.lsa
    one = same_contents wa.entry.lsa a wa.is ∙ (same ∙ sym (same_contents wb.entry.lsa b wb.is))

    go : (wa.place ≡ wb.place) ⊎ ((wa.place < wb.place) ⊎ (wb.place < wa.place)) → (contents a ≡ contents b) ⊎ (IssuedAgain w.issued a b ⊎ IssuedAgain w.issued b a)
    go (inl place) = inl (sym wa.is ∙ (ap (λ e. (contents e.lsa)) (same_Some wa.entry wb.entry (sym wa.at ∙ (ap (slice_get w.issued) place ∙ wb.at))) ∙ wb.is))
    go (inr (inl lt)) = inr (inl (issued_again w a b facts wa.place wb.place wa.entry wb.entry wa.at wb.at lt one wa.is wb.is))
    go (inr (inr gt)) = inr (inr (issued_again w b a facts wb.place wa.place wb.entry wa.entry wb.at wa.at gt (sym one) wb.is wa.is))

-- the first half of the headline, for what is held at two moments of a run
pub held_agree : (is_dropped : Event → AreaValue → Bool) (events later : List WorldEvent) (w0 w1 w2 : World) (a b : List ℕ) → IsNewWorld w0 → RunsEvents is_dropped events w0 w1 → RunsEvents is_dropped later w1 w2 → HeldAnywhere w1 a → HeldAnywhere w2 b → AgreeUnlessIssuedAgain w2.issued a b
held_agree is_dropped events later w0 w1 w2 a b new run1 run2 ha hb =
    let facts1 = Facts-run is_dropped events w0 w1 (Facts-new w0 new) run1 in
    let facts2 = Facts-run is_dropped later w1 w2 facts1 run2 in
    let grows = LogGrows-run is_dropped later w1 w2 run2 in
    agree w2 a b facts2
    (subst (λ issued. WasIssued issued (contents a)) (sym grows.grows) (WasIssued-more w1.issued grows.more (contents a) (held_was_issued w1 a facts1 ha)))
    (held_was_issued w2 b facts2 hb)

-- with floors that are high enough there is no collision
pub no_collision : (w : World) → Facts w → BasesAreHigh w.issued → NoCollision w.issued
no_collision w facts high i j e f ate atf same = go (agree w e.lsa f.lsa facts (record { place = i; entry = e; at = ate; is = refl }) (record { place = j; entry = f; at = atf; is = refl }) same)
  where
    never : (a b : List ℕ) → IssuedAgain w.issued a b → ⊥
    never a b again =
        let low = again.low in
        let upto : number_in low.earlier ≤ℤ again.second.run.base = high low.place again.j low.earlier again.second low.was_issued again.second_at low.before_run (ap (λ key. key.router) low.same_key) in
        let above : again.second.run.base <ℤ number_in low.earlier = low.above_base in
        omega (arith, ints)

    go : (contents e.lsa ≡ contents f.lsa) ⊎ (IssuedAgain w.issued e.lsa f.lsa ⊎ IssuedAgain w.issued f.lsa e.lsa) → contents e.lsa ≡ contents f.lsa
    go (inl equal) = equal
    go (inr (inl again)) = absurd (never _ _ again)
    go (inr (inr again)) = absurd (never _ _ again)

-- sound acknowledgement
pub covers_itself : (i : Instance) → Covers i i
covers_itself i = (refl, inr (refl, omega arith))

pub sound_step : (w w' : World) (r : RouterId) (e : Event) (x x' : Running) (out : OutputsValue) → Facts w → StepsRouter w w' r e x x' out → WasSent w (heard_in e) → IsSoundFor w' e x.state out x'.state
sound_step w w' r e x x' out facts step sent = record {
  left = λ l q i before. by_leave l q i (step.accounts.leaves l q i before);
  listed = λ l q i brings holds exchanging. by_word l q i (step.accounts.listed l q i brings holds exchanging);
}
  where
    told : (q : RouterId) (j i : Instance) → Contains w'.held (record { router = q; instance = j }) → Covers j i → HasToldOf w' q i
    told q j i c covers = record { held = j; told = c; covers = covers }

    acknowledged : (l : ℕ) (q : RouterId) (i : Instance) → IsAcknowledged (heard_in e) l q i → HasToldOf w' q i
    acknowledged l q i h = told q i i (acknowledged_held w w' r e x x' out facts step sent l q i h) (covers_itself i)

    by_word : (l : ℕ) (q : RouterId) (i : Instance) → Awaits x'.state l q i ⊎ HasWord (heard_in e) x.state l q i → Awaits x'.state l q i ⊎ HasToldOf w' q i
    by_word l q i (inl awaits) = inl awaits
    by_word l q i (inr (HasWord.Acknowledged h)) = inr (acknowledged l q i h)
    by_word l q i (inr (HasWord.Described j h covers)) = inr (told q j i (described_held w w' r e x x' out facts step sent l q j h) covers)
    by_word l q i (inr (HasWord.Requested j c covers)) = inr (told q j i (was_held w w' r e x x' out facts step sent _ (facts.asked r x l q j step.was c)) covers)

    by_leave : (l : ℕ) (q : RouterId) (i : Instance) → WaitsOn (heard_in e) x.state x'.state l q i ⊎ MayLeave (heard_in e) x.state out x'.state l q i → Awaits x'.state l q i ⊎ (HasToldOf w' q i ⊎ (IsReplaced (heard_in e) x.state out i ⊎ (is_exchanging (state_of x'.state l q) ≡ false)))
    by_leave l q i (inl waits) = inl waits.awaits
    by_leave l q i (inr (MayLeave.Acknowledged h)) = inr (inl (acknowledged l q i h))
    by_leave l q i (inr (MayLeave.Replaced r again)) = inr (inr (inl r))
    by_leave l q i (inr (MayLeave.Fell fell)) = inr (inr (inr fell))

-- which router an event steps
not_of : (w : World) (event : WorldEvent) (q r : RouterId) (e : Event) → stepped_by w event ≡ Some (q, e) → r ≢ q → (f : Event) → stepped_by w event ≢ Some (r, f)
not_of w event q r e by other f is = other (ap (λ z. z.0) (same_Some (r, f) (q, e) (sym is ∙ by)))

none_of : (w : World) (event : WorldEvent) (r : RouterId) → stepped_by w event ≡ None → (f : Event) → stepped_by w event ≢ Some (r, f)
none_of w event r none f is = none-some (r, f) (sym none ∙ is)

pub sound : {is_dropped : Event → AreaValue → Bool} (event : WorldEvent) (w w' : World) → Facts w → Happens is_dropped event w w' → IsSoundAcknowledgement event w w'
sound event w w' facts (result, Comes.Refused why is told same) r x x' at at' = SoundFor.NothingDone same
sound event w w' facts (result, Comes.NotDone ok told wants same) r x x' at at' = SoundFor.NothingDone same
sound event w w' facts (result, Comes.Starts ok told q dd floor y is none b s logs) r x x' at at' = go (which_router w w' q (Some y) r x' b at')
  where
    go : IsThat w q (Some y) r x' → SoundFor event w w' r x x'
    go (IsThat.TheOne e o) = absurd (none-some x (sym none ∙ (ap (router_at w) (sym e) ∙ at)))
    go (IsThat.Another n o) = SoundFor.OfAnother (none_of w event r (ap (stepped_by w) is)) (same_Some x' x (sym o ∙ at))
sound event w w' facts (result, Comes.Stops ok told q is b logs) r x x' at at' = go (which_router w w' q None r x' b at')
  where
    go : IsThat w q None r x' → SoundFor event w w' r x x'
    go (IsThat.TheOne e o) = absurd (none-some x' o)
    go (IsThat.Another n o) = SoundFor.OfAnother (none_of w event r (ap (stepped_by w) is)) (same_Some x' x (sym o ∙ at))
sound event w w' facts (result, Comes.MemoryStops ok told q e y by runs taken b logs) r x x' at at' = go (which_router w w' q None r x' b at')
  where
    go : IsThat w q None r x' → SoundFor event w w' r x x'
    go (IsThat.TheOne same o) = absurd (none-some x' o)
    go (IsThat.Another n o) = SoundFor.OfAnother (not_of w event q r e by n) (same_Some x' x (sym o ∙ at))
sound event w w' facts (result, Comes.Stepped ok told q e y y' out by step) r x x' at at' = go (which_router w w' q (Some y') r x' step.changes at')
  where
    stepped : SoundFor event w w' q y y'
    stepped = SoundFor.SteppedWith e out by step.logs (sound_step w w' q e y y' out facts step (was_sent_by w event q e by))

    go : IsThat w q (Some y') r x' → SoundFor event w w' r x x'
    go (IsThat.TheOne same o) =
        let was : y ≡ x = same_Some y x (sym step.was ∙ (ap (router_at w) (sym same) ∙ at)) in
        let is : y' ≡ x' = same_Some y' x' o in
        subst (λ x'. SoundFor event w w' r x x') is (subst (λ x. SoundFor event w w' r x y') was (subst (λ r. SoundFor event w w' r y y') (sym same) stepped))
    go (IsThat.Another n o) = SoundFor.OfAnother (not_of w event q r e by n) (same_Some x' x (sym o ∙ at))
