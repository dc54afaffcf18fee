-- The laws of a step can be met: a router with no link and nothing in its database, at a tick.
use Rattle.std.proofs.Common.{◌≡◌, ℕ, [], refl, false, arith}
use Rattle.std.proofs.lemmas.Option.{none-some}
use Rattle.ospf_packet.specs.Meaning.{Meaning}
use Rattle.ospf_area.specs.Outputs.{OutputsValue, no_outputs}
use Rattle.ospf_area.specs.State.{AreaValue}
use Rattle.ospf_area.specs.Acting.{Becomes}
use Rattle.ospf_router.specs.AreaStep.Accounts.{Sends}
use Rattle.ospf_router.specs.AreaStep.Neighbours.{Quiet}
use Rattle.ospf_router.specs.AreaStep.Parts.{AgesPart, RemovalPart}
use Rattle.ospf_router.specs.AreaStep.Step.{Event, Then, StepLaws}
use Rattle.ospf_area.specs.Updates.Removal.{lowest_number}
use Rattle.ospf_router.specs.AreaStep.Words.{IsSoundState}
use Rattle.ospf_router.proofs.AreaStep.StateFacts.{Contains-nil, AnswersAll}

abbrev pub at_tick : ℕ → AreaValue
at_tick t = record {
  router = record { 0 = 1 };
  area = record { 0 = 0 };
  stub_router = false;
  passes_over = false;
  links = [];
  stubs = [];
  database = [];
  direct = [];
  numbering = [];
  floor = lowest_number;
  tick = t;
  next_dd = 0;
  sent = [];
  heard = [];
  max_seq = lowest_number;
}

nothing_sent : (p : Meaning) → Sends no_outputs p → ⊥
nothing_sent p s = Contains-nil s.datagram s.sent

rests : (t : ℕ) → Quiet (at_tick t) no_outputs (at_tick t)
rests t = record {
  neighbours = record {
    goes = λ l q. tt;
    waiting = λ l h c. c;
    same_direct = refl;
    same_router = refl;
    database = λ key. refl;
    numbering = λ key. refl;
    bears = λ p s. absurd (nothing_sent p s);
    updates = λ p lsa s c. absurd (nothing_sent p s);
    named = λ p i s c. absurd (nothing_sent p s);
    taken = refl;
    issued = refl;
    ended = refl;
  };
  none_enters = λ l q up. up;
}

rises : AgesPart (at_tick 0) no_outputs (at_tick 1)
rises = record { database = λ key. refl; rest = refl; outputs = refl }

removes : RemovalPart (at_tick 1) no_outputs (at_tick 1)
removes = record {
  database = λ key. refl;
  same_links = refl;
  same_router = refl;
  same_direct = refl;
  numbering = λ key. refl;
  sent = refl;
  taken = refl;
  issued = refl;
  ended = λ key. refl;
}

nothing : (t : ℕ) → Becomes (at_tick t) no_outputs no_outputs (at_tick t)
nothing t = record { state = refl; outputs = refl }

answers : AnswersAll (at_tick 1) no_outputs (at_tick 1)
answers = record { state = refl; outputs = refl }

goes_on : (First : OutputsValue → AreaValue → Type 0) (Next : AreaValue → OutputsValue → AreaValue → Type 0) → First no_outputs (at_tick 1) → Next (at_tick 1) no_outputs (at_tick 1) → Then First Next no_outputs (at_tick 1)
goes_on First Next first next = record { mid = at_tick 1; first_out = no_outputs; next_out = no_outputs; first = first; next = next; both = refl }

pub ticks : StepLaws (λ event s. false) Event.Tick (at_tick 0) no_outputs (at_tick 1)
ticks = StepLaws.Takes refl (λ k d within. absurd (omega arith))
    (goes_on _ _ (0, goes_on _ _ rises (nothing 1)) (goes_on _ _ (rests 1) (goes_on _ _ (rests 1) (goes_on _ _ (rests 1) (goes_on _ _ (rests 1) (goes_on _ _ (rests 1) (goes_on _ _ (0, goes_on _ _ (nothing 1) answers) (goes_on _ _ removes (nothing 1)))))))))

none_held : IsSoundState (at_tick 0)
none_held = record {
  lsas = λ lsa c. absurd (none-some lsa c);
  numbers = λ lsa c own. absurd (none-some lsa c);
  lists = λ l q i w. absurd w;
}

pub some_ticks : (before : AreaValue) × (out : OutputsValue) × (after : AreaValue) × IsSoundState before × StepLaws (λ event s. false) Event.Tick before out after × (after.tick ≡ 1) × (before.tick ≡ 0)
some_ticks = (at_tick 0, no_outputs, at_tick 1, none_held, ticks, refl, refl)
