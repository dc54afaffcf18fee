-- What a step takes of an Update: the LSAs that are installed in their turn, or are at MaxAge and not stored (RFC 2328, section 13).
use Rattle.std.proofs.Common.{◌≡◌, inl, inr, ◌↔◌, ◌++◌, ℕ, true, List, [], ◌∷◌, Option, None, Some, map, option_map, length, refl, sym, ap, subst, ◌∙◌, append-nil, append_assoc}
use Rattle.std.specs.List.{Contains}
use Rattle.std.proofs.lemmas.List.Elements.{Contains-append_cases, Contains-append_left, Contains-append_right}
use Rattle.std.proofs.lemmas.Option.{none-some}
use Rattle.ospf_area.specs.Acting.{InTurn}
use Rattle.ospf_area.specs.Outputs.{OutputsValue, no_outputs}
use Rattle.ospf_area.specs.State.{AreaValue}
use Rattle.ospf_area.specs.Updates.Meets.{MeetsRule, rule_met}
use Rattle.ospf_area.specs.Updates.Removal.{leaving}
use Rattle.ospf_area.specs.Updates.Updates.{TakesSlice, TakesUpdate}
use Rattle.ospf_area.specs.declared.flooding.PacketSource.{PacketSource}
use Rattle.ospf_base.specs.declared.ids.Addr.{Addr}
use Rattle.ospf_base.specs.declared.ids.Instance.{Instance}
use Rattle.ospf_flood.specs.declared.rule.LsaRule.{LsaRule}
use Rattle.ospf_flood.specs.declared.rule.LsaRule.TheVariants as rule
use Rattle.ospf_lsa.specs.Lsa.{IsLsa, instance_of, key_of}
use Rattle.ospf_lsdb.specs.Database.{Held, entry_of, lsa_of}
use Rattle.ospf_originate.specs.Steps.{wants}
use Rattle.ospf_packet.specs.Meaning.{BodyMeaning, Meaning, hello, description, request, update, acknowledgment}
use Rattle.ospf_packet.specs.PacketOf.{packet_of}
use Rattle.ospf_router.proofs.AreaStep.StateFacts.{Contains-map, Contains-nil}
use Rattle.ospf_router.proofs.AreaStep.StoreAccounts.{Stores-by, Stores-holds}
use Rattle.ospf_router.proofs.StepLaws.Holds.{acknowledging_keeps, heard_keeps}
use Rattle.ospf_router.proofs.StepLaws.Issues.{first, first_or_later, later}
use Rattle.ospf_router.proofs.StepLaws.Outputs.{all_take, elects_from, removals, taken_by, tick_takes}
use Rattle.ospf_router.specs.AreaStep.Packets.{Received, lsas_of}
use Rattle.ospf_router.specs.AreaStep.Step.{Event, heard_in}
use Rattle.ospf_router.specs.AreaStep.Step.Event.{Datagram, Tick, LinkUp, LinkDown}
use Rattle.ospf_router.specs.AreaStep.Steps.{StepsArea, Takes}
use Rattle.ospf_router.specs.AreaStep.Takes.{TakesBody, TakesDatagram, TakesEvent, source_of}
use Rattle.ospf_router.specs.AreaStep.Words.{HoldsInstance}
use Rattle.ospf_router.specs.declared.step.dropped.Dropped.{Dropped}
use Rattle.ospf_router.specs.Laws.{AdmissionLaw}
use Rattle.ospf_router.specs.Stepped.{HearsLsa, InTurns, Stepped, TakenAt, TakesLsas, LsaTurn}

-- ---- one LSA in its turn

-- what a turn takes
record TakesAt (f : PacketSource) (turn : LsaTurn) (out out' : OutputsValue) : Type 0 where
  taken : List Instance
  is : out'.taken ≡ out.taken ++ taken
  each : (i : Instance) → Contains taken i → TakenAt f turn i
  all : (i : Instance) → TakenAt f turn i → Contains taken i

abbrev turn_of : List ℕ → AreaValue → AreaValue → LsaTurn
turn_of lsa s t = record { lsa = lsa; at = s; next = t }

holds_same : (s t : AreaValue) (i : Instance) → t.database ≡ s.database → HoldsInstance s i → HoldsInstance t i
holds_same s t i same holds = subst (λ (db : List Held). (lsa : List ℕ) × (option_map lsa_of (entry_of db (key_of lsa)) ≡ Some lsa) × (instance_of lsa ≡ i)) (sym same) holds

-- a turn that takes nothing
takes_none : (f : PacketSource) (turn : LsaTurn) (out out' : OutputsValue) → out'.taken ≡ out.taken → ((i : Instance) → TakenAt f turn i → ⊥) → TakesAt f turn out out'
takes_none f turn out out' same never = record {
  taken = [];
  is = same ∙ sym (append-nil out.taken);
  each = λ i c. absurd (Contains-nil i c);
  all = λ i at. absurd (never i at);
}

-- one that takes the instance of its LSA
takes_one : (f : PacketSource) (turn : LsaTurn) (out out' : OutputsValue) → out'.taken ≡ out.taken ++ instance_of turn.lsa ∷ [] → TakenAt f turn (instance_of turn.lsa) → TakesAt f turn out out'
takes_one f turn out out' is at = record {
  taken = instance_of turn.lsa ∷ [];
  is = is;
  each = λ i c. elim (first_or_later (instance_of turn.lsa) [] i c) [
    | inl same ↦ subst (λ j. TakenAt f turn j) same at
    | inr rest ↦ absurd (Contains-nil i rest)
  ];
  all = λ i taken. subst (λ j. Contains (instance_of turn.lsa ∷ []) j) (same_of i taken) (first (instance_of turn.lsa) []);
}
  where
    same_of : (i : Instance) → TakenAt f turn i → instance_of turn.lsa ≡ i
    same_of i (TakenAt.Installed meets same holds) = same
    same_of i (TakenAt.Expired meets same database) = same

-- no other rule takes it
other_rule : (f : PacketSource) (turn : LsaTurn) (r : Option LsaRule) → rule_met turn.at f turn.lsa ≡ r → (r ≡ Some rule.Installs → ⊥) → (r ≡ Some rule.AcknowledgesExpired → ⊥) → (i : Instance) → TakenAt f turn i → ⊥
other_rule f turn r at never none i (TakenAt.Installed meets same holds) = never (sym at ∙ meets.1)
other_rule f turn r at never none i (TakenAt.Expired meets same database) = none (sym at ∙ meets.1)

module _ (f : PacketSource) (lsa : List ℕ) (s t : AreaValue) (out mid_out out' : OutputsValue) (mid : AreaValue) (is_lsa : IsLsa lsa) (same : t.database ≡ mid.database) (sends : out'.taken ≡ mid_out.taken) where
  by_rule : (r : Option LsaRule) → rule_met s f lsa ≡ r → MeetsRule r f lsa s out mid_out mid → TakesAt f (turn_of lsa s t) out out'
  by_rule None at is = takes_none f (turn_of lsa s t) out out' (sends ∙ taken_by mid_out _ is.outputs) (other_rule f (turn_of lsa s t) None at (λ e. cc) (λ e. cc))
  by_rule (Some rule.AcknowledgesExpired) at is =
      takes_one f (turn_of lsa s t) out out' (sends ∙ taken_by mid_out _ is.outputs)
      (TakenAt.Expired (is_lsa, at) refl (same ∙ (ap (λ (x : AreaValue). x.database) is.state ∙ acknowledging_keeps _ f _ s)))
  by_rule (Some rule.TooSoon) at is = takes_none f (turn_of lsa s t) out out' (sends ∙ taken_by mid_out _ is.outputs) (other_rule f (turn_of lsa s t) (Some rule.TooSoon) at (λ e. cc) (λ e. cc))
  by_rule (Some rule.Installs) at is =
      let stored : HoldsInstance is.mid (instance_of lsa) = Stores-holds lsa (Some f) true s is.mid (Stores-by lsa (Some f) s is.mid is.stores) in
      let same_mid : mid.database ≡ is.mid.database = ap (λ (x : AreaValue). x.database) is.state ∙ (heard_keeps (key_of lsa) _ ∙ acknowledging_keeps _ f _ is.mid) in
      takes_one f (turn_of lsa s t) out out' (sends ∙ taken_by mid_out _ is.outputs)
      (TakenAt.Installed (is_lsa, at) refl (holds_same is.mid t (instance_of lsa) (same ∙ same_mid) stored))
  by_rule (Some rule.BadRequest) at is = takes_none f (turn_of lsa s t) out out' (sends ∙ taken_by mid_out _ is.outputs) (other_rule f (turn_of lsa s t) (Some rule.BadRequest) at (λ e. cc) (λ e. cc))
  by_rule (Some rule.Duplicate) at is = takes_none f (turn_of lsa s t) out out' (sends ∙ taken_by mid_out _ is.outputs) (other_rule f (turn_of lsa s t) (Some rule.Duplicate) at (λ e. cc) (λ e. cc))
  by_rule (Some rule.Stale) at is = takes_none f (turn_of lsa s t) out out' (sends ∙ taken_by mid_out _ is.outputs) (other_rule f (turn_of lsa s t) (Some rule.Stale) at (λ e. cc) (λ e. cc))

one_turn : (f : PacketSource) (lsa : List ℕ) (s : AreaValue) (out out' : OutputsValue) (t : AreaValue) → TakesSlice f lsa s out out' t → TakesAt f (turn_of lsa s t) out out'
one_turn f lsa s out out' t (TakesSlice.Met is_lsa mid so_far meets state outputs) =
    by_rule f lsa s t out so_far out' mid is_lsa (ap (λ (x : AreaValue). x.database) state) (taken_by out' _ outputs) (rule_met s f lsa) refl meets
one_turn f lsa s out out' t (TakesSlice.PassedOver other passes outputs) = takes_none f (turn_of lsa s t) out out' (taken_by out' out outputs) none
  where
    none : (i : Instance) → TakenAt f (turn_of lsa s t) i → ⊥
    none i (TakenAt.Installed meets same holds) = other meets.0
    none i (TakenAt.Expired meets same database) = other meets.0

-- ---- all of an Update

-- the turns, and what they take
record AreTurns (f : PacketSource) (lsas : List (List ℕ)) (s : AreaValue) (out out' : OutputsValue) : Type 0 where
  turns : List LsaTurn
  lsas_are : map (λ (turn : LsaTurn). turn.lsa) turns ≡ lsas
  follow : InTurns f s turns
  taken : List Instance
  is : out'.taken ≡ out.taken ++ taken
  each : (i : Instance) → Contains taken i → (turn : LsaTurn) × Contains turns turn × TakenAt f turn i
  all : (turn : LsaTurn) (i : Instance) → Contains turns turn → TakenAt f turn i → Contains taken i

all_turns : (f : PacketSource) (lsas : List (List ℕ)) (s : AreaValue) (out out' : OutputsValue) (t : AreaValue) → InTurn (TakesSlice f) lsas s out out' t → AreTurns f lsas s out out'
all_turns f [] s out out' t is = record {
  turns = [];
  lsas_are = refl;
  follow = tt;
  taken = [];
  is = taken_by out' out is.outputs ∙ sym (append-nil out.taken);
  each = λ i c. absurd (Contains-nil i c);
  all = λ turn i c at. absurd (Contains-nil turn c);
}
all_turns f (lsa ∷ lsas) s out out' t (mid, so_far, slice, rest) = both (turn_of lsa s mid) refl refl refl (one_turn f lsa s out so_far mid slice) (all_turns f lsas mid so_far out' t rest)
  where
    both : (turn : LsaTurn) → turn.lsa ≡ lsa → turn.at ≡ s → turn.next ≡ mid → TakesAt f turn out so_far → AreTurns f lsas mid so_far out' → AreTurns f (lsa ∷ lsas) s out out'
    both turn lsa_is at_is next_is one more = record {
      turns = turn ∷ more.turns;
      lsas_are = ap (λ l. l ∷ map (λ (turn : LsaTurn). turn.lsa) more.turns) lsa_is ∙ ap (λ ls. lsa ∷ ls) more.lsas_are;
      follow = (
        at_is,
        (out, so_far, subst (λ m. TakesSlice f turn.lsa turn.at out so_far m) (sym next_is) (subst (λ a. TakesSlice f turn.lsa a out so_far mid) (sym at_is) (subst (λ l. TakesSlice f l s out so_far mid) (sym lsa_is) slice))),
        subst (λ m. InTurns f m more.turns) (sym next_is) more.follow,
      );
      taken = one.taken ++ more.taken;
      is = more.is ∙ (ap (λ is. is ++ more.taken) one.is ∙ append_assoc out.taken one.taken more.taken);
      each = λ i c. elim (Contains-append_cases one.taken more.taken i c) [
        | inl here ↦ (turn, first turn more.turns, one.each i here)
        | inr there ↦ (let (x, inside, at) = more.each i there in (x, later turn more.turns x inside, at))
      ];
      all = λ x i c at. elim (first_or_later turn more.turns x c) [
        | inl same ↦ Contains-append_left one.taken more.taken i (one.all i (subst (λ y. TakenAt f y i) (sym same) at))
        | inr there ↦ Contains-append_right one.taken more.taken i (more.all x i there at)
      ];
    }

-- ---- an event

-- what a step takes is what its event took
step_takes : (d : Stepped) (is : Takes d.event d.before d.out d.after) → d.out.taken ≡ is.mid_out.taken
step_takes d is =
    let end = is.end in
    (removals (leaving end.issued) end.issued end.issued_out d.out d.after end.removes).1
    ∙ (all_take (wants end.elected) end.own.due end.elected end.elected_out end.issued_out end.own.mid end.own.each
    ∙ (elects_from (length is.mid.links) is.mid is.mid_out end.elected end.elected_out end.elects).1)

-- an LSA of the packet that came in
record IsHeard (e : Event) (i : Instance) : Type 0 where
  lsa : List ℕ
  received : Received
  is_heard : heard_in e ≡ Some received
  has : Contains (lsas_of received.packet.body) lsa
  of : instance_of lsa ≡ i

not_taken : (e : Event) (i : Instance) (out : OutputsValue) → out.taken ≡ [] → Contains out.taken i → IsHeard e i
not_taken e i out none c = absurd (Contains-nil i (subst (λ is. Contains is i) none c))

turn_lsa : (turns : List LsaTurn) (lsas : List (List ℕ)) (turn : LsaTurn) → map (λ (turn : LsaTurn). turn.lsa) turns ≡ lsas → Contains turns turn → Contains lsas turn.lsa
turn_lsa turns lsas turn are c = subst (λ ls. Contains ls turn.lsa) are (Contains-map (λ (turn : LsaTurn). turn.lsa) turns turn c)

taken_lsa : (f : PacketSource) (turn : LsaTurn) (i : Instance) → TakenAt f turn i → instance_of turn.lsa ≡ i
taken_lsa f turn i (TakenAt.Installed meets same holds) = same
taken_lsa f turn i (TakenAt.Expired meets same database) = same

update_turns : (f : PacketSource) (lsas : List (List ℕ)) (s : AreaValue) (out' : OutputsValue) (t : AreaValue) → TakesUpdate f lsas s no_outputs out' t → AreTurns f lsas s no_outputs out'
update_turns f lsas s out' t is =
    let turns = all_turns f lsas s no_outputs is.so_far is.mid is.takes in
    record { turns = turns.turns; lsas_are = turns.lsas_are; follow = turns.follow; taken = turns.taken; is = taken_by out' _ is.outputs ∙ turns.is; each = turns.each; all = turns.all }

datagram_hears : (link : ℕ) (source destination : Addr) (bytes : List ℕ) (s : AreaValue) (out' : OutputsValue) (t : AreaValue) (o : Option Meaning) → packet_of bytes ≡ o → TakesDatagram link source o s no_outputs out' t
    → (i : Instance) → Contains out'.taken i → IsHeard (Datagram link source destination bytes) i
datagram_hears link source destination bytes s out' t None at is i c = absurd is
datagram_hears link source destination bytes s out' t (Some m) at is i c = by m.body refl is
  where
    by : (body : BodyMeaning) → m.body ≡ body → TakesBody body (source_of link source m) s no_outputs out' t → IsHeard (Datagram link source destination bytes) i
    by (hello fields names) says is = not_taken (Datagram link source destination bytes) i out' (taken_by out' _ is.outputs) c
    by (description fields headers) says is = not_taken (Datagram link source destination bytes) i out' (taken_by out' _ is.outputs) c
    by (request entries) says is = not_taken (Datagram link source destination bytes) i out' (taken_by out' _ is.outputs) c
    by (acknowledgment headers) says is = not_taken (Datagram link source destination bytes) i out' (taken_by out' _ is.outputs) c
    by (update lsas) says is =
        let turns = update_turns (source_of link source m) lsas s out' t is in
        let (turn, inside, taken) = turns.each i (subst (λ is. Contains is i) turns.is c) in
        record {
          lsa = turn.lsa;
          received = record { link = link; packet = m };
          is_heard = ap (option_map {U = Received} (λ (p : Meaning). record { link = link; packet = p })) at;
          has = subst (λ (b : BodyMeaning). Contains (lsas_of b) turn.lsa) (sym says) (turn_lsa turns.turns lsas turn turns.lsas_are inside);
          of = taken_lsa (source_of link source m) turn i taken;
        }

event_hears : (e : Event) (s : AreaValue) (out' : OutputsValue) (t : AreaValue) → TakesEvent e s no_outputs out' t → (i : Instance) → Contains out'.taken i → IsHeard e i
event_hears (Datagram link source destination bytes) s out' t is i c = datagram_hears link source destination bytes s out' t (packet_of bytes) refl is i c
event_hears Tick s out' t is i c = not_taken Tick i out' (tick_takes s no_outputs out' t is) c
event_hears (LinkUp link) s out' t is i c = not_taken (LinkUp link) i out' (taken_by out' _ is.outputs) c
event_hears (LinkDown link) s out' t is i c = not_taken (LinkDown link) i out' (taken_by out' _ is.outputs) c

-- ---- the law

module _ (d : Stepped) (exact : StepsArea d.event d.before d.dropped d.out d.after) where
  hears : (i : Instance) → Contains d.out.taken i → (lsa : List ℕ) × HearsLsa d lsa × (instance_of lsa ≡ i)
  hears i c = by d.dropped refl
    where
      by : (o : Option Dropped) → d.dropped ≡ o → (lsa : List ℕ) × HearsLsa d lsa × (instance_of lsa ≡ i)
      by (Some cause) at =
          let silent : d.out ≡ no_outputs = exact.silent (λ none. none-some cause (sym none ∙ at)) in
          absurd (Contains-nil i (subst (λ (o : OutputsValue). Contains o.taken i) silent c))
      by None at =
          let is = exact.takes at in
          let heard = event_hears d.event d.before is.mid_out is.mid is.event i (subst (λ is. Contains is i) (step_takes d is) c) in
          (heard.lsa, record { received = heard.received; is_heard = heard.is_heard; has = heard.has }, heard.of)

  -- the Update, as the exact rules take it
  the_update : (f : PacketSource) (lsas : List (List ℕ)) (it : TakesLsas d f lsas) → TakesUpdate f lsas d.before no_outputs (exact.takes it.taken).mid_out (exact.takes it.taken).mid
  the_update f lsas it =
      let is = exact.takes it.taken in
      let (destination, bytes, event_is, reads) = it.arrives in
      let event : TakesDatagram f.link it.source (packet_of bytes) d.before no_outputs is.mid_out is.mid = subst (λ e. TakesEvent e d.before no_outputs is.mid_out is.mid) event_is is.event in
      let body : TakesBody it.packet.body (source_of f.link it.source it.packet) d.before no_outputs is.mid_out is.mid = subst (λ o. TakesDatagram f.link it.source o d.before no_outputs is.mid_out is.mid) reads event in
      let told : TakesUpdate (source_of f.link it.source it.packet) lsas d.before no_outputs is.mid_out is.mid = subst (λ b. TakesBody b (source_of f.link it.source it.packet) d.before no_outputs is.mid_out is.mid) it.says body in
      subst (λ g. TakesUpdate g lsas d.before no_outputs is.mid_out is.mid) (sym it.from) told

  in_turn : (f : PacketSource) (lsas : List (List ℕ)) → TakesLsas d f lsas
      → (turns : List LsaTurn) × (map (λ (turn : LsaTurn). turn.lsa) turns ≡ lsas) × InTurns f d.before turns × ((i : Instance) → Contains d.out.taken i ↔ ((turn : LsaTurn) × Contains turns turn × TakenAt f turn i))
  in_turn f lsas it =
      let is = exact.takes it.taken in
      let turns = update_turns f lsas d.before is.mid_out is.mid (the_update f lsas it) in
      let taken : d.out.taken ≡ turns.taken = step_takes d is ∙ turns.is in (
        turns.turns,
        turns.lsas_are,
        turns.follow,
        (λ i. (
          (λ c. turns.each i (subst (λ is. Contains is i) taken c)),
          (λ at. subst (λ is. Contains is i) (sym taken) (turns.all at.0 i at.1 at.2)),
        )),
      )

  pub admission_law : AdmissionLaw d
  admission_law = (hears, in_turn)
