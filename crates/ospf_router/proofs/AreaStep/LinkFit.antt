-- Links that go up and down, ticks and elections keep a link fit and set up.
use Rattle.std.proofs.Common.{◌≡◌, ◌≢◌, ◌≤◌, ◌-◌, ℕ, suc, inl, inr, Bool, true, false, not, List, [], ◌∷◌, length, map, filter, nat_le, refl, sym, ap, subst, ◌∙◌, if◌then◌else◌, arith}
use Rattle.std.specs.List.{AllByRecursion}
use Rattle.ospf_base.specs.declared.ids.RouterId.{RouterId}
use Rattle.ospf_base.specs.Masks.{IsMask}
use Rattle.ospf_neighbour.specs.Interface.Machine.{is_changed, is_down, started, iface_stopped}
use Rattle.ospf_neighbour.specs.declared.iface.machine.Iface.{Iface}
use Rattle.ospf_neighbour.specs.declared.iface.settings.IfaceSettings.{IfaceSettings}
use Rattle.ospf_neighbour.specs.declared.iface.machine.IfaceState.{IfaceState}
use Rattle.ospf_neighbour.specs.declared.iface.machine.IfaceState.TheVariants as iface
use Rattle.ospf_lsdb.specs.Database.{Held}
use Rattle.ospf_neighbour.specs.Neighbour.{NeighbourValue, new_neighbour}
use Rattle.ospf_adjacency.specs.Adjacency.{number_by}
use Rattle.ospf_adjacency.specs.Elections.{AreOfLink, adjusted, elects_in}
use Rattle.ospf_area.specs.Packets.{PendingPacket}
use Rattle.ospf_area.specs.State.{LinkValue}
use Rattle.ospf_area.specs.declared.sending.RouterContext.{RouterContext}
use Rattle.ospf_adjacency.specs.HelloLaws.{ElectionsComeAbout, NeighboursStayOfLink}
use Rattle.ospf_adjacency.specs.Links.{elects_by_timers, hello_ticked, timed}
use Rattle.ospf_adjacency.proofs.Words.{adj_ok_for, inactivity_ticked, is_inactive}
use Rattle.ospf_adjacency.specs.LinkSteps.Elections.{AreReady, ElectsIf}
use Rattle.ospf_adjacency.specs.LinkSteps.Parts.{link_down, link_timed, link_up}
use Rattle.ospf_adjacency.proofs.LinkSteps.Words.{hello_sent, neighbour_repeated}
use Rattle.ospf_area.specs.Outboxes.{local_by}
use Rattle.ospf_adjacency.specs.LinkSteps.Repeats.{link_repeated}
use Rattle.ospf_adjacency.specs.ResendLaws.{RepeatsAreQuiet}
use Rattle.ospf_area.proofs.Updates.Words.{undelayed_link}
use Rattle.ospf_originate.specs.Sound.{IsSetUp}
use Rattle.ospf_router.specs.AreaStep.Fit.{IsFitLink}
use Rattle.ospf_router.proofs.AreaStep.FitLemmas.{AllFit, ids, ids_map, of_link, as_many, Stays, all_at}
use Rattle.ospf_router.proofs.AreaStep.PartFit.{or_cases}

-- a link whose interface has the same settings, and whose neighbours are as many at most
pub fewer_set_up : (a b : LinkValue) → b.iface.settings ≡ a.iface.settings → length b.neighbours ≤ length a.neighbours → IsSetUp a → IsSetUp b
fewer_set_up a b same fewer up = record {
  mask = subst (λ (i : IfaceSettings). IsMask i.mask) (sym same) up.mask;
  few = let few = up.few in omega (arith, few, fewer);
  two_ends = λ is. let one = up.two_ends (sym (ap (λ (i : IfaceSettings). i.kind) same) ∙ is) in omega (arith, one, fewer);
}

no_more : (n : ℕ) → n ≤ n
no_more n = omega (arith)

-- ---- up and down

-- an interface that is down elects nothing
down_elects : (s : IfaceState) → is_down s ≡ true → elects_in s ≡ false
down_elects iface.Down is = refl
down_elects iface.Waiting is = absurd (cc)
down_elects iface.PointToPoint is = absurd (cc)
down_elects iface.DrOther is = absurd (cc)
down_elects iface.Backup is = absurd (cc)
down_elects iface.Dr is = absurd (cc)

pub up_stays : (r : RouterId) (a : LinkValue) → IsFitLink r a → IsSetUp a → Stays r a (link_up a)
up_stays r a fit set_up = by_down (is_down a.iface.state) refl
  where
    up_if : Bool → Iface
    up_if b = if b then started a.iface else a.iface

    by_down : (b : Bool) → is_down a.iface.state ≡ b → Stays r a (record a { iface = up_if b })
    by_down true is = record {
      settings = refl;
      fit = record {
        own = fit.own;
        neighbours = record { rising = fit.neighbours.rising; others = fit.neighbours.others };
        electing = λ due. absurd (let elects = fit.electing due in let not_so = down_elects a.iface.state is in cc);
      };
      set_up = record { mask = set_up.mask; few = set_up.few; two_ends = set_up.two_ends };
    }
    by_down false is = record { settings = refl; fit = fit; set_up = set_up }

pub down_stays : (r : RouterId) (a : LinkValue) → IsFitLink r a → IsSetUp a → Stays r a (link_down a)
down_stays r a fit set_up = by_down (is_down a.iface.state) refl
  where
    by_down : (b : Bool) → is_down a.iface.state ≡ b → Stays r a (if b then a else record a { iface = (if b then a.iface else iface_stopped a.iface); neighbours = []; delayed = []; elects = false })
    by_down true is = record { settings = refl; fit = fit; set_up = set_up }
    by_down false is = record {
      settings = refl;
      fit = record { own = fit.own; neighbours = record { rising = tt; others = tt }; electing = λ due. absurd (cc) };
      set_up = record { mask = set_up.mask; few = omega (arith); two_ends = λ is. omega (arith) };
    }

-- ---- ticks

timed_many : (ns : List NeighbourValue) → length (timed ns) ≤ length ns
timed_many [] = omega (arith)
timed_many (n ∷ ns) = by_test (timed_many ns) (is_inactive n)
  where
    by_test : length (timed ns) ≤ length ns → (b : Bool) → length (map inactivity_ticked (if not b then n ∷ filter (λ m. not (is_inactive m)) ns else filter (λ m. not (is_inactive m)) ns)) ≤ suc (length ns)
    by_test rest true = omega (arith, rest)
    by_test rest false = omega (arith, rest)

-- some neighbour
nobody : Iface → NeighbourValue
nobody i = new_neighbour i.settings.router i.settings.address

module _ (stay : NeighboursStayOfLink) (come : ElectionsComeAbout) where
  pub timers_fit : (r : RouterId) (a : LinkValue) → IsFitLink r a → IsFitLink r (link_timed a)
  timers_fit r a fit = record {
    own = fit.own;
    neighbours = let of = (stay a.iface a.neighbours fit.neighbours).timers in record { rising = of.rising; others = of.others };
    electing = λ is. elim (or_cases a.elects (elects_by_timers a.iface a.neighbours) is) [ inl was ↦ fit.electing was | inr by ↦ (come a.iface (nobody a.iface) (nobody a.iface) a.neighbours).timers by ];
  }

pub timers_set_up : (a : LinkValue) → IsSetUp a → IsSetUp (link_timed a)
timers_set_up a up = fewer_set_up a (link_timed a) refl (timed_many a.neighbours) up

-- the Hello timer changes neither settings nor state
pub record IsAlike (i j : Iface) : Type 0 where
  pub settings : j.settings ≡ i.settings
  pub state : j.state ≡ i.state

pub hello_alike : (i : Iface) → IsAlike i (hello_ticked i)
hello_alike i = by_test (is_down i.state)
  where
    by_test : (b : Bool) → IsAlike i (if b then i else record i { hello_in = (if nat_le i.hello_in 1 then i.settings.hello else i.hello_in - 1) })
    by_test true = record { settings = refl; state = refl }
    by_test false = record { settings = refl; state = refl }

alike_fit : (r : RouterId) (a b : LinkValue) → IsAlike a.iface b.iface → ids b.neighbours ≡ ids a.neighbours → b.elects ≡ a.elects → IsFitLink r a → IsFitLink r b
alike_fit r a b alike same elects fit = record {
  own = ap (λ (i : IfaceSettings). i.router) alike.settings ∙ fit.own;
  neighbours =
      let of = of_link a.iface b.neighbours a.neighbours same fit.neighbours in
      record { rising = of.rising; others = subst (λ (i : IfaceSettings). AllByRecursion (λ (n : NeighbourValue). n.router.0 ≢ i.router.0) b.neighbours) (sym alike.settings) of.others };
  electing = λ due. subst (λ (s : IfaceState). elects_in s ≡ true) (sym alike.state) (fit.electing (sym elects ∙ due));
}

pub hellos_fit : (r : RouterId) (a : LinkValue) → IsFitLink r a → IsFitLink r (hello_sent a)
hellos_fit r a fit = alike_fit r a (hello_sent a) (hello_alike a.iface) refl refl fit

pub hellos_settings : (a : LinkValue) → (hello_sent a).iface.settings ≡ a.iface.settings
hellos_settings a = (hello_alike a.iface).settings

pub hellos_set_up : (a : LinkValue) → IsSetUp a → IsSetUp (hello_sent a)
hellos_set_up a up = fewer_set_up a (hello_sent a) (hellos_settings a) (no_more (length a.neighbours)) up

pub undelayed_fit : (r : RouterId) (a : LinkValue) → IsFitLink r a → IsFitLink r (undelayed_link a)
undelayed_fit r a fit = record { own = fit.own; neighbours = fit.neighbours; electing = fit.electing }

pub undelayed_set_up : (a : LinkValue) → IsSetUp a → IsSetUp (undelayed_link a)
undelayed_set_up a up = record { mask = up.mask; few = up.few; two_ends = up.two_ends }

module _ (quiet : RepeatsAreQuiet) (own : RouterContext) (db : List Held) where
  repeated_ids : (a : LinkValue) → ids (link_repeated own db a).neighbours ≡ ids a.neighbours
  repeated_ids a = ids_map (neighbour_repeated own a.iface a.settings db)
      (λ n. (quiet a.iface (local_by own a.settings) a.settings.retransmit a.settings.transmit_delay db (record { neighbour = n; next = 0; sent = [] })).same.router) a.neighbours

  pub repeats_fit : (r : RouterId) (a : LinkValue) → IsFitLink r a → IsFitLink r (link_repeated own db a)
  repeats_fit r a fit = alike_fit r a (link_repeated own db a) (record { settings = refl; state = refl }) (repeated_ids a) refl fit

  pub repeats_set_up : (a : LinkValue) → IsSetUp a → IsSetUp (link_repeated own db a)
  repeats_set_up a up = fewer_set_up a (link_repeated own db a) refl (subst (λ (n : ℕ). n ≤ length a.neighbours) (sym (as_many (link_repeated own db a).neighbours a.neighbours (repeated_ids a))) (no_more (length a.neighbours))) up

-- ---- elections

-- links that are fit are ready for their elections
pub fit_ready : (r : RouterId) (links : List LinkValue) → AllFit r links → AreReady links
fit_ready r links fit l link at = let is = all_at (IsFitLink r) links l link fit at in record { electing = is.electing; others = λ due. is.neighbours }

adjusted_many : (i : Iface) (tick next : ℕ) (ns : List NeighbourValue) → length (adjusted i tick next ns) ≡ length ns
adjusted_many i tick next [] = refl
adjusted_many i tick next (n ∷ ns) = ap suc (adjusted_many i tick (number_by (adj_ok_for i n) n next) ns)

module _ (stay : NeighboursStayOfLink) where
  -- the neighbours after AdjOK?, if it comes
  adjusts : (i j : Iface) (b : Bool) (tick next : ℕ) (ns : List NeighbourValue) → AreOfLink i ns → AreOfLink i (if b then adjusted j tick next ns else ns) × (length (if b then adjusted j tick next ns else ns) ≤ length ns)
  adjusts i j true tick next ns of = ((stay i ns of).adj_ok j tick next, subst (λ (n : ℕ). n ≤ length ns) (sym (adjusted_many j tick next ns)) (no_more (length ns)))
  adjusts i j false tick next ns of = (of, no_more (length ns))

  elected_stays : (r : RouterId) (own : RouterContext) (next : ℕ) (a b : LinkValue) (next' : ℕ) (sent : List PendingPacket) → ElectsIf true own next a b next' sent → IsFitLink r a → IsSetUp a → Stays r a b
  elected_stays r own next a b next' sent is fit up =
      let e = is.0 in
      let settings : b.iface.settings ≡ a.iface.settings = ap (λ (i : Iface). i.settings) e.interface in
      let both = adjusts a.iface b.iface (is_changed a.iface e.result) own.tick next a.neighbours fit.neighbours in
      let of : AreOfLink a.iface b.neighbours = subst (λ (ns : List NeighbourValue). AreOfLink a.iface ns) (sym e.neighbours) both.0 in
      let fewer : length b.neighbours ≤ length a.neighbours = subst (λ (ns : List NeighbourValue). length ns ≤ length a.neighbours) (sym e.neighbours) both.1 in
      record {
        settings = settings;
        fit = record {
          own = ap (λ (i : IfaceSettings). i.router) settings ∙ fit.own;
          neighbours = record { rising = of.rising; others = subst (λ (i : IfaceSettings). AllByRecursion (λ (n : NeighbourValue). n.router.0 ≢ i.router.0) b.neighbours) (sym settings) of.others };
          electing = λ due. absurd (let off = ap (λ (x : LinkValue). x.elects) is.1 in cc);
        };
        set_up = fewer_set_up a b settings fewer up;
      }

  pub elects_stays : (r : RouterId) (due : Bool) (own : RouterContext) (next : ℕ) (a b : LinkValue) (next' : ℕ) (sent : List PendingPacket) → ElectsIf due own next a b next' sent → IsFitLink r a → IsSetUp a → Stays r a b
  elects_stays r false own next a b next' sent is fit up =
      record { settings = ap (λ (x : LinkValue). x.iface.settings) is.0; fit = subst (λ (x : LinkValue). IsFitLink r x) (sym is.0) fit; set_up = subst (λ (x : LinkValue). IsSetUp x) (sym is.0) up }
  elects_stays r true own next a b next' sent is fit up = elected_stays r own next a b next' sent is fit up
