-- The parts on links keep a link fit and set up.
use Rattle.std.proofs.Common.{◌≡◌, ◌≢◌, ◌≤◌, ◌<◌, ◌||◌, ◌⊎◌, ℕ, suc, inl, inr, Bool, true, false, List, Option, None, Some, length, refl, sym, ap, subst, ◌∙◌, arith}
use Rattle.ospf_base.specs.declared.ids.RouterId.{RouterId}
use Rattle.ospf_base.specs.declared.interface.InterfaceKind.TheVariants.{PointToPoint}
use Rattle.ospf_lsa.specs.declared.header.LsaHeader.{LsaHeader}
use Rattle.ospf_lsdb.specs.Database.{Held}
use Rattle.ospf_neighbour.specs.Neighbour.{NeighbourValue}
use Rattle.ospf_neighbour.specs.Neighbours.{max_neighbours, neighbour_of}
use Rattle.ospf_packet.specs.declared.body.Description.{Description}
use Rattle.ospf_packet.specs.declared.body.Hello.{Hello}
use Rattle.ospf_packet.specs.declared.entry.RequestEntry.{RequestEntry}
use Rattle.ospf_exchange.specs.declared.rule.Local.{Local}
use Rattle.ospf_area.specs.State.{LinkValue}
use Rattle.ospf_area.specs.declared.flooding.PacketSource.{PacketSource}
use Rattle.ospf_area.specs.declared.sending.RouterContext.{RouterContext}
use Rattle.ospf_adjacency.specs.Elections.{AreOfLink, elects_in}
use Rattle.ospf_adjacency.specs.Laws.{DescriptionKeepsRouter}
use Rattle.ospf_adjacency.specs.Heard.{Neighbourhood, elects_by_hello, hello_effect, turn_of}
use Rattle.ospf_adjacency.proofs.Words.{elects_by_change, sender_of}
use Rattle.ospf_adjacency.proofs.GoLemmas.{heard_router}
use Rattle.ospf_adjacency.specs.HelloLaws.{ElectionsComeAbout, NeighboursStayOfLink}
use Rattle.ospf_adjacency.specs.LinkSteps.Parts.{description_part, hello_part, neighbourhood_of, request_part, with_neighbourhood}
use Rattle.ospf_adjacency.proofs.LinkSteps.Words.{description_by, request_by}
use Rattle.ospf_adjacency.specs.Answers.{answer_turn}
use Rattle.ospf_adjacency.specs.ResendLaws.{AnswersAreQuiet}
use Rattle.ospf_adjacency.specs.Descriptions.{description_turn}
use Rattle.ospf_originate.specs.Sound.{IsSetUp}
use Rattle.ospf_router.specs.AreaStep.Fit.{IsFitLink}
use Rattle.ospf_router.proofs.AreaStep.FitLemmas.{ids, of_link, as_many, found_router, put_many, put_same, Stays}
use Rattle.ospf_area.specs.Outboxes.{local_by}

-- ---- a link with other neighbours, whose election may be due

pub or_cases : (a b : Bool) → (a || b) ≡ true → (a ≡ true) ⊎ (b ≡ true)
or_cases true b is = inl refl
or_cases false b is = inr is

-- neighbours of the same Router IDs
pub same_stays : (r : RouterId) (a : LinkValue) (x : Neighbourhood) → ids x.neighbours ≡ ids a.neighbours → (x.elects ≡ true → elects_in a.iface.state ≡ true) → IsFitLink r a → IsSetUp a → Stays r a (with_neighbourhood x a)
same_stays r a x same electing fit up =
    let many : length x.neighbours ≡ length a.neighbours = as_many x.neighbours a.neighbours same in
    record {
      settings = refl;
      fit = record { own = fit.own; neighbours = of_link a.iface x.neighbours a.neighbours same fit.neighbours; electing = electing };
      set_up = record {
        mask = up.mask;
        few = subst (λ (n : ℕ). n ≤ max_neighbours) (sym many) up.few;
        two_ends = λ is. subst (λ (n : ℕ). n ≤ 1) (sym many) (up.two_ends is);
      };
    }

-- ---- Hellos

-- what a Hello that is not dropped finds: it is no packet of the router's own, and a new neighbour has room, on a link of two
-- ends as the only one
pub record CanGreet (q : RouterId) (a : LinkValue) : Type 0 where
  pub other : q.0 ≢ a.iface.settings.router.0
  pub room : neighbour_of a.neighbours q ≡ None → length a.neighbours < max_neighbours
  pub alone : a.iface.settings.kind ≡ PointToPoint → neighbour_of a.neighbours q ≡ None → length a.neighbours ≡ 0

module _ (stay : NeighboursStayOfLink) (come : ElectionsComeAbout) where
  pub hello_stays : (r : RouterId) (own : RouterContext) (f : PacketSource) (h : Hello) (named : Bool) (next : ℕ) (a : LinkValue) → CanGreet f.router a → IsFitLink r a → IsSetUp a → Stays r a (with_neighbourhood (hello_part own f h named next a) a)
  hello_stays r own f h named next a can fit up = by_found (neighbour_of a.neighbours f.router) refl
    where
      q : RouterId
      q = f.router

      x : Neighbourhood
      x = neighbourhood_of a next

      local : Local
      local = local_by own a.settings

      after : Neighbourhood
      after = hello_part own f h named next a

      n : NeighbourValue
      n = sender_of a.neighbours q f.address

      m : NeighbourValue
      m = (hello_effect a.iface local h named (turn_of n x)).neighbour

      m_is : m.router.0 ≡ q.0
      m_is = heard_router a.iface local q f.address h named x

      electing : after.elects ≡ true → elects_in a.iface.state ≡ true
      electing is = elim (or_cases a.elects (elects_by_hello a.iface.state n m) is) [ inl was ↦ fit.electing was | inr by ↦ (come a.iface n m a.neighbours).hello by ]

      of : AreOfLink a.iface after.neighbours
      of = (stay a.iface a.neighbours fit.neighbours).hello local q f.address h named can.other x refl

      at_most_one_more : length after.neighbours ≤ suc (length a.neighbours)
      at_most_one_more = put_many m a.neighbours

      by_found : (o : Option NeighbourValue) → neighbour_of a.neighbours q ≡ o → Stays r a (with_neighbourhood after a)
      by_found None none =
          let room = can.room none in
          record {
            settings = refl;
            fit = record { own = fit.own; neighbours = of; electing = electing };
            set_up = record {
              mask = up.mask;
              few = omega (arith, room, at_most_one_more);
              two_ends = λ is. let alone = can.alone is none in omega (arith, alone, at_most_one_more);
            };
          }
      by_found (Some found) at =
          let same : m.router.0 ≡ found.router.0 = m_is ∙ sym (found_router a.neighbours q found at) in
          same_stays r a after (put_same a.neighbours q found m fit.neighbours.rising at same) electing fit up

-- ---- Database Descriptions

module _ (keeps : DescriptionKeepsRouter) (come : ElectionsComeAbout) where
  pub description_stays : (r : RouterId) (own : RouterContext) (f : PacketSource) (d : Description) (headers : List LsaHeader) (db : List Held) (next : ℕ) (a : LinkValue) → IsFitLink r a → IsSetUp a
      → Stays r a (with_neighbourhood (description_part own f d headers db next a) a)
  description_stays r own f d headers db next a fit up = by_found (neighbour_of a.neighbours f.router) refl
    where
      x : Neighbourhood
      x = neighbourhood_of a next

      local : Local
      local = local_by own a.settings

      by_found : (o : Option NeighbourValue) → neighbour_of a.neighbours f.router ≡ o → Stays r a (with_neighbourhood (description_by o a.iface local f.router d headers db x) a)
      by_found None none = same_stays r a x refl fit.electing fit up
      by_found (Some n) at =
          let m = (description_turn a.iface local f.router d headers db (turn_of n x)).neighbour in
          let same = ap (λ (i : RouterId). i.0) (keeps a.iface local f.router d headers db (turn_of n x)).router in
          same_stays r a (description_by (Some n) a.iface local f.router d headers db x) (put_same a.neighbours f.router n m fit.neighbours.rising at same)
          (λ is. elim (or_cases a.elects (elects_by_change a.iface.state n m) is) [ inl was ↦ fit.electing was | inr by ↦ (come a.iface n m a.neighbours).change by ]) fit up

-- ---- Requests

module _ (quiet : AnswersAreQuiet) where
  pub request_stays : (r : RouterId) (own : RouterContext) (f : PacketSource) (db : List Held) (entries : List RequestEntry) (next : ℕ) (a : LinkValue) → IsFitLink r a → IsSetUp a
      → Stays r a (with_neighbourhood (request_part own f db entries next a) a)
  request_stays r own f db entries next a fit up = by_found (neighbour_of a.neighbours f.router) refl
    where
      x : Neighbourhood
      x = neighbourhood_of a next

      local : Local
      local = local_by own a.settings

      by_found : (o : Option NeighbourValue) → neighbour_of a.neighbours f.router ≡ o → Stays r a (with_neighbourhood (request_by o a.iface local a.settings.transmit_delay db entries x) a)
      by_found None none = same_stays r a x refl fit.electing fit up
      by_found (Some n) at =
          let m = (answer_turn a.iface local a.settings.transmit_delay db entries (turn_of n x)).neighbour in
          let same = ap (λ (i : RouterId). i.0) (quiet a.iface local a.settings.transmit_delay db entries (turn_of n x)).same.router in
          same_stays r a (request_by (Some n) a.iface local a.settings.transmit_delay db entries x) (put_same a.neighbours f.router n m fit.neighbours.rising at same)
          (λ is. elim (or_cases a.elects false is) [ inl was ↦ fit.electing was | inr by ↦ absurd (cc) ]) fit up
