-- The steps of the router: a tick, by which its LSA is issued, and its link that goes up, by which a Hello is sent.
use Rattle.std.proofs.Common.{◌≡◌, ◌||◌, ℕ, zero, suc, negsuc, Bool, true, false, List, [], ◌∷◌, None, Some, is_some, length, slice_get, if◌then◌else◌, refl, sym, ap, subst, ◌∙◌, arith, lit<, lit≤}
use Rattle.std.specs.Option.{option_map}
use Rattle.std.proofs.lemmas.Bool.{false≢true}
use Rattle.std.proofs.lemmas.Option.{none-some, same_Some}
use Rattle.ospf_area.specs.Outputs.{AreReadAsSent, no_outputs}
use Rattle.ospf_area.specs.Sending.{datagrams, context_of, packet_from}
use Rattle.ospf_area.specs.State.{AreaValue, Awaits, LinkValue}
use Rattle.ospf_area.specs.declared.state.Numbering.{Numbering}
use Rattle.ospf_base.specs.Keys.{same_key}
use Rattle.ospf_base.specs.declared.ids.Instance.{Instance}
use Rattle.ospf_base.specs.declared.ids.RouterId.{RouterId}
use Rattle.ospf_router.proofs.AreaStep.StepChains.{up_chain, ends_put, tick_puts}
use Rattle.ospf_router.specs.AreaStep.Invariants.{AreRising}
use Rattle.ospf_adjacency.specs.Links.{hello_packet}
use Rattle.ospf_router.proofs.AreaStep.Chains.{step_from_chain}
use Rattle.ospf_router.proofs.AreaStep.StepAccounts.{StepLaws-accounts, StepLaws-sound}
use Rattle.ospf_router.specs.AreaStep.Step.{Event, StepLaws, last_parts}
use Rattle.ospf_router.specs.AreaStep.Words.{IsSoundState}
use Rattle.ospf_adjacency.specs.LinkSteps.Elections.{ElectsFrom}
use Rattle.ospf_adjacency.specs.LinkSteps.Parts.{link_up}
use Rattle.ospf_lsdb.specs.Database.{Held, IsDatabase, entry_from, key_in, reached_at}
use Rattle.ospf_neighbour.specs.Neighbours.{AreNeighboursRising}
use Rattle.ospf_originate.proofs.DueLemmas.{no_candidate}
use Rattle.ospf_originate.specs.Actions.{own_action}
use Rattle.ospf_originate.specs.Sound.{AreNumbered}
use Rattle.ospf_originate.specs.Steps.{IsDue, OwnLsas, action_of, wants}
use Rattle.ospf_originate.proofs.Words.{ActsInTurn}
use Rattle.ospf_originate.specs.declared.action.DueAction.{DueAction}
use Rattle.ospf_originate.specs.declared.action.OwnAction.TheVariants.{Issue}
use Rattle.ospf_packet.proofs.RoundTrip.{read_again}
use Rattle.ospf_packet.specs.Meaning.{Meaning, MeaningFits}
use Rattle.ospf_router.specs.AreaStep.Lawful.{IsLawful}
use Rattle.ospf_router.specs.AreaStep.Drops.{is_dropped}
use Rattle.ospf_router.specs.AreaStep.Ends.{EndsStep}
use Rattle.ospf_router.specs.AreaStep.Steps.{StepsArea}
use Rattle.ospf_router.specs.AreaStep.Ticks.{TakesTick}
use Rattle.ospf_area.specs.Updates.Acks.{cut}
use Rattle.ospf_originate.specs.Wants.Made.{says}
use Rattle.ospf_originate.specs.Wants.Wanted.{links_of_link, wanted_lsas}
use Rattle.ospf_world.proofs.States.{begun, down_link, has_issued, is_lsa, is_made, issuing, issuing_out, linked, linked_out, own_key, own_lsa, stored, stored_lsa, ticked}

-- ---- a tick

takes_tick : TakesTick begun no_outputs no_outputs ticked
unfolding reached_at cut
takes_tick = record {
  aged = ticked;
  aged_out = no_outputs;
  ages = record { mid = ticked; database = λ k. refl; rest = refl; sends = record { state = refl; outputs = refl } };
  timed = ticked;
  timers = refl;
  helloed = ticked;
  helloed_out = no_outputs;
  hellos = record { state = refl; outputs = refl };
  acknowledged = ticked;
  acknowledged_out = no_outputs;
  acknowledgements = record { state = refl; outputs = refl };
  repeats = record { state = refl; outputs = refl };
}

none_elects : ElectsFrom (length ticked.links) ticked no_outputs no_outputs ticked
none_elects = (ticked, no_outputs, (refl, refl), (down_link, 1, [], (refl, refl, refl), refl, refl))

is_numbered : AreNumbered ticked
is_numbered key has own = absurd (false≢true has)

due : List DueAction
due = record { key = own_key; action = Issue (negsuc 0x7ffffffe) } ∷ []

is_due : IsDue ticked due
unfolding due action_of own_action wanted_lsas links_of_link same_key
is_due = record {
  keys = own_key ∷ [];
  rising = (tt, tt);
  whole = λ key apart. no_candidate ticked key is_numbered apart;
  is = refl;
}

acts : ActsInTurn (wants ticked) due ticked no_outputs issuing_out issuing
unfolding due wanted_lsas links_of_link same_key
acts = (
  issuing,
  issuing_out,
  record {
    mid = issuing;
    mid_out = issuing_out;
    issues = record {
      lsa = own_lsa;
      is_lsa = is_lsa;
      made = is_made;
      stored = stored;
      stores = record { database = λ k. refl; rest = refl };
      state = refl;
      outputs = refl;
    };
    turned = refl;
    outputs = refl;
  },
  record { state = refl; outputs = refl },
)

own_lsas : OwnLsas ticked no_outputs issuing_out has_issued
own_lsas = record { due = due; is_due = is_due; mid = issuing; each = acts; answered = refl }

pub issued_database : IsDatabase has_issued.database
unfolding entry_from
issued_database = record { rising = (tt, tt); ages = (lit≤ tt, tt) }

ends_tick : EndsStep ticked no_outputs issuing_out has_issued
unfolding entry_from
ends_tick = record {
  database = record { rising = tt; ages = tt };
  elected = ticked;
  elected_out = no_outputs;
  elects = none_elects;
  issued = has_issued;
  issued_out = issuing_out;
  own = own_lsas;
  issued_database = issued_database;
  removes = record { state = refl; outputs = refl };
  read = λ k d within. absurd (omega arith);
}

pub tick_step : StepsArea Event.Tick begun None issuing_out has_issued
tick_step = record {
  cause = refl;
  unchanged = λ some. absurd (some refl);
  silent = λ some. absurd (some refl);
  takes = λ none. record { ready = tt; mid = ticked; mid_out = no_outputs; event = takes_tick; end = ends_tick };
}

-- ---- a link that goes up

abbrev pub hello_said : Meaning
hello_said = packet_from (context_of has_issued) (hello_packet (link_up down_link).iface []).body

pub hello_fits : MeaningFits hello_said
hello_fits = record {
  router = lit< tt;
  area = lit< tt;
  body = (record { mask = lit< tt; hello_interval = lit< tt; options = lit< tt; priority = lit< tt; dead_interval = lit< tt; designated = lit< tt; backup = lit< tt }, tt);
  short = lit≤ tt;
}

pub hello_read : AreReadAsSent linked_out.sent
unfolding datagrams
hello_read zero d within = read_again hello_said hello_fits
hello_read (suc k) d within = absurd (omega arith)

numbering : Numbering
numbering = record { key = own_key; kept = negsuc 0x7ffffffe; issued_at = Some 1 }

now_numbered : AreNumbered linked
unfolding entry_from key_in same_key numbering
now_numbered key has own = by_test (same_key own_key key) has
  where
    by_test : (b : Bool) → is_some (option_map (λ (h : Held). h.entry) (if b then Some stored_lsa else None)) ≡ true → is_some (if b then Some numbering else None) ≡ true
    by_test true is = refl
    by_test false is = absurd (false≢true is)

twice : (b : Bool) → b || false ≡ false → b || (b || false) ≡ false
twice true is = is
twice false is = refl

none_due : IsDue linked []
unfolding action_of own_action wanted_lsas links_of_link same_key entry_from key_in says
none_due = record {
  keys = own_key ∷ [];
  rising = (tt, tt);
  whole = λ key apart. no_candidate linked key now_numbered (twice (same_key own_key key) apart);
  is = refl;
}

ends_up : EndsStep linked linked_out linked_out linked
unfolding entry_from datagrams
ends_up = record {
  database = issued_database;
  elected = linked;
  elected_out = linked_out;
  elects = (linked, linked_out, (refl, refl), (link_up down_link, 1, [], (refl, refl, refl), refl, refl));
  issued = linked;
  issued_out = linked_out;
  own = record {
    due = [];
    is_due = none_due;
    mid = linked;
    each = record { state = refl; outputs = refl };
    answered = refl;
  };
  issued_database = issued_database;
  removes = record { state = refl; outputs = refl };
  read = hello_read;
}

pub up_step : StepsArea (Event.LinkUp 0) has_issued None linked_out linked
up_step = record {
  cause = refl;
  unchanged = λ some. absurd (some refl);
  silent = λ some. absurd (some refl);
  takes = λ none. record { ready = tt; mid = linked; mid_out = linked_out; event = record { state = refl; outputs = refl }; end = ends_up };
}

-- ---- what they come to

rising_links : (s : AreaValue) (link : LinkValue) → s.links ≡ link ∷ [] → link.neighbours ≡ [] → AreRising s.links
rising_links s link is none l other at =
    by_place l (subst (λ (links : List LinkValue). slice_get links l ≡ Some other) is at)
  where
    by_place : (k : ℕ) → slice_get (link ∷ []) k ≡ Some other → AreNeighboursRising other.neighbours
    by_place zero here = subst AreNeighboursRising (sym none ∙ ap (λ (x : LinkValue). x.neighbours) (same_Some link other here)) tt
    by_place (suc k) there = absurd (none-some other there)

tick_laws : StepLaws is_dropped Event.Tick begun issuing_out has_issued
unfolding takes_tick ends_tick
tick_laws =
    let read : AreReadAsSent issuing_out.sent = λ k d within. absurd (omega arith) in
    let end = ends_tick in
    step_from_chain is_dropped Event.Tick begun issuing_out has_issued refl read
    (tick_puts last_parts begun ticked has_issued no_outputs no_outputs issuing_out takes_tick end.database
    (rising_links ticked down_link refl refl) (rising_links ticked down_link refl refl) read
    (ends_put ticked ticked has_issued has_issued no_outputs no_outputs issuing_out issuing_out end.database end.issued_database read end.elects end.own end.removes))

up_laws : StepLaws is_dropped (Event.LinkUp 0) has_issued linked_out linked
unfolding ends_up
up_laws =
    let end = ends_up in
    step_from_chain is_dropped (Event.LinkUp 0) has_issued linked_out linked refl hello_read
    (up_chain 0 last_parts has_issued linked linked no_outputs linked_out linked_out
    (ends_put linked linked linked linked linked_out linked_out linked_out linked_out end.database end.issued_database hello_read end.elects end.own end.removes)
    hello_read refl refl)

waits_none : (l : ℕ) (q : RouterId) (i : Instance) → Awaits begun l q i → ⊥
waits_none zero q i waits = waits
waits_none (suc l) q i waits = waits

begun_sound : IsSoundState begun
begun_sound = record {
  lsas = λ lsa c. absurd (none-some lsa c);
  numbers = λ lsa c own. absurd (none-some lsa c);
  lists = λ l q i waits. absurd (waits_none l q i waits);
}

pub tick_lawful : IsLawful Event.Tick begun issuing_out has_issued
tick_lawful = record { laws = tick_laws; accounts = StepLaws-accounts is_dropped Event.Tick begun issuing_out has_issued begun_sound tick_laws }

issued_sound : IsSoundState has_issued
issued_sound = StepLaws-sound is_dropped Event.Tick begun issuing_out has_issued begun_sound tick_laws

pub up_lawful : IsLawful (Event.LinkUp 0) has_issued linked_out linked
up_lawful = record { laws = up_laws; accounts = StepLaws-accounts is_dropped (Event.LinkUp 0) has_issued linked_out linked issued_sound up_laws }
