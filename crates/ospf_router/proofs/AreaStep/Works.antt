-- What the calls of a step say of a link, or of all, and the parts of the step.
use Rattle.std.proofs.Common.{◌≡◌, ℕ, List, [], map, Option, None, Some, set, slice_get, refl, sym, ap, subst, ◌∙◌}
use Rattle.ospf_base.specs.declared.ids.LsaKey.{LsaKey}
use Rattle.ospf_adjacency.specs.Heard.{Neighbourhood}
use Rattle.ospf_area.specs.Outputs.{AreReadAsSent, OutputsValue, SentValue, no_outputs, sends}
use Rattle.ospf_area.specs.Sending.{and_sends, context_of}
use Rattle.ospf_area.specs.State.{AreaValue, LinkValue}
use Rattle.ospf_router.specs.AreaStep.Links.{AllEach, AreKnown, ChangesLinks, LinkQuiet, OnOneLink}
use Rattle.ospf_router.specs.AreaStep.Neighbours.{NeighboursGo, Quiet, told_by}
use Rattle.ospf_router.specs.AreaStep.Packets.{Received}
use Rattle.ospf_router.specs.AreaStep.Puts.{PutsOut}
use Rattle.ospf_router.proofs.AreaStep.Accountable.{AreRead-right, each_read, then_nothing}
use Rattle.ospf_router.proofs.AreaStep.Chains.{then_sends}
use Rattle.ospf_router.proofs.AreaStep.LinkParts.{each_same, link_same, map_each, part_goes, part_quiet, quiet_same}
use Rattle.ospf_router.proofs.AreaStep.StateFacts.{Contains-nil}
use Rattle.ospf_router.proofs.AreaStep.PutParts.{puts_sent}
use Rattle.ospf_adjacency.specs.LinkSteps.Parts.{link_timed, with_neighbourhood}
use Rattle.std.specs.List.{flat_map}
use Rattle.ospf_adjacency.specs.LinkSteps.Repeats.{link_repeated, marked_all}
use Rattle.ospf_area.proofs.Updates.Words.{undelayed_link}
use Rattle.ospf_router.specs.AreaStep.Ticks.{TakesTick}
use Rattle.ospf_area.specs.Outboxes.{posted_all}
use Rattle.ospf_adjacency.specs.LinkSteps.Works.{WorksOn}
use Rattle.ospf_adjacency.proofs.LinkSteps.Words.{hello_sent, keys_out, worked_by, work_sent_on}
use Rattle.ospf_router.proofs.AreaStep.Known.{none_known}

-- what is sent behind the outputs so far is read where all is
pub read_sent : (out out' : OutputsValue) (ds : List SentValue) → out' ≡ and_sends out ds → AreReadAsSent out'.sent → AreReadAsSent ds
read_sent out out' ds outputs read = AreRead-right out (sends ds) (subst (λ o. AreReadAsSent o.sent) (outputs ∙ then_sends out ds) read)

pub nothing_read : AreReadAsSent no_outputs.sent
nothing_read = each_read [] (λ d c. absurd (Contains-nil d c))

-- ---- nothing is done

pub same_quiet : (s t : AreaValue) → t ≡ s → Quiet s no_outputs t
same_quiet s t state =
    subst (λ t. Quiet s no_outputs t) (sym state)
    (part_quiet s s no_outputs [] refl refl nothing_read (λ l. each_same (LinkQuiet s) (quiet_same s) (slice_get s.links l)) (none_known s))

-- but for the marks of what was sent
pub marks_quiet : (s t : AreaValue) (keys : List LsaKey) → t ≡ record s { sent = keys } → Quiet s no_outputs t
marks_quiet s t keys state =
    subst (λ t. Quiet s no_outputs t) (sym state)
    (part_quiet s (record s { sent = keys }) no_outputs [] refl refl nothing_read (λ l. each_same (LinkQuiet s) (quiet_same s) (slice_get s.links l)) (none_known s))

pub same_go : (heard : Option Received) (s t : AreaValue) → t ≡ s → NeighboursGo heard s no_outputs t
same_go heard s t state =
    subst (λ t. NeighboursGo heard s no_outputs t) (sym state)
    (part_goes heard s s no_outputs [] refl refl nothing_read (λ l. each_same _ (link_same s (told_by heard l)) (slice_get s.links l)) (none_known s))

-- a part that puts out nothing
pub puts_nothing : (R : OutputsValue → Type 0) (out : OutputsValue) → R no_outputs → PutsOut R out out
puts_nothing R out is = record { own = no_outputs; is = is; behind = sym (then_nothing out) }

-- ---- one link, which may not be there

pub one_link : (l : ℕ) (link link' : LinkValue) (next : ℕ) (keys : List LsaKey) (ds : List SentValue) (s t : AreaValue) → slice_get s.links l ≡ Some link → t ≡ record s { links = set s.links l link'; next_dd = next; sent = keys } → AreReadAsSent ds → OnOneLink l link link' ds s (sends ds) t
one_link l link link' next keys ds s t at state read = record {
  at = at;
  links = ap (λ (a : AreaValue). a.links) state;
  rest = subst (λ a. ChangesLinks s a) (sym state) refl;
  outputs = refl;
  read = read;
}

-- what is so where the link is not there, and where it is, is so of a part on its neighbours
pub work_puts : (R : OutputsValue → Type 0) (part : LinkValue → Neighbourhood) (l : ℕ) (keys : List LsaKey) (s t : AreaValue) (out out' : OutputsValue)
    → WorksOn part l (record s { sent = keys }) out out' t → AreReadAsSent out'.sent
    → (t ≡ record s { sent = keys } → R no_outputs)
    → ((link : LinkValue) → OnOneLink l link (with_neighbourhood (part link) link) (posted_all (context_of s) l link.iface (part link).sent) s (sends (posted_all (context_of s) l link.iface (part link).sent)) t → R (sends (posted_all (context_of s) l link.iface (part link).sent)))
    → PutsOut R out out'
work_puts R part l keys s t out out' is read none some = by (slice_get s.links l) refl is.state is.outputs
  where
    by : (o : Option LinkValue) → slice_get s.links l ≡ o → t ≡ worked_by o part l (record s { sent = keys }) → out' ≡ and_sends out (work_sent_on o part (context_of s) l) → PutsOut R out out'
    by None at state outputs = puts_sent R out out' [] (none state) outputs
    by (Some link) at state outputs =
        let ds = posted_all (context_of s) l link.iface (part link).sent in
        puts_sent R out out' ds (some link (one_link l link (with_neighbourhood (part link) link) (part link).next keys ds s t at state (read_sent out out' ds outputs read))) outputs

-- ---- all links

-- each by a function, and these datagrams go out
pub all_links_put : (f : LinkValue → LinkValue) (ds : List SentValue) (s t : AreaValue) (out out' : OutputsValue) → t.links ≡ map f s.links → ChangesLinks s t → out' ≡ and_sends out ds → AreReadAsSent out'.sent → ((l : ℕ) (link : LinkValue) → slice_get s.links l ≡ Some link → LinkQuiet s link (f link)) → AreKnown s ds → PutsOut (λ o. Quiet s o t) out out'
all_links_put f ds s t out out' links rest outputs read quiet known =
    puts_sent (λ o. Quiet s o t) out out' ds
    (part_quiet s t (sends ds) ds rest refl (read_sent out out' ds outputs read) (subst (λ cs. AllEach (LinkQuiet s) s.links cs) (sym links) (map_each (LinkQuiet s) f s.links quiet)) known) outputs

-- and nothing goes out
pub silent_links_put : (f : LinkValue → LinkValue) (s t : AreaValue) (out : OutputsValue) → t.links ≡ map f s.links → ChangesLinks s t → ((l : ℕ) (link : LinkValue) → slice_get s.links l ≡ Some link → LinkQuiet s link (f link)) → PutsOut (λ o. Quiet s o t) out out
silent_links_put f s t out links rest quiet =
    puts_nothing (λ o. Quiet s o t) out
    (part_quiet s t no_outputs [] rest refl nothing_read (subst (λ cs. AllEach (LinkQuiet s) s.links cs) (sym links) (map_each (LinkQuiet s) f s.links quiet)) (none_known s))

-- ---- a tick: its parts as functions of the state that they begin in

-- the timers of all links were counted
abbrev pub timed_area : AreaValue → AreaValue
timed_area s = record s { links = map link_timed s.links }

-- then the Hellos that were due went out
abbrev pub helloed_area : AreaValue → AreaValue
helloed_area s = record s { links = map hello_sent s.links }

-- then the delayed acknowledgements
abbrev pub acknowledged_area : AreaValue → AreaValue
acknowledged_area s = record s { links = map undelayed_link s.links }

-- up to what is sent again
abbrev pub ticked_area : AreaValue → AreaValue
ticked_area s = acknowledged_area (helloed_area (timed_area s))

-- what is sent again
abbrev pub repeated : AreaValue → AreaValue
repeated s = record s { links = map (link_repeated (context_of s) s.database) s.links; sent = marked_all (flat_map (keys_out (context_of s) s.database) s.links) s.sent }

module _ (s : AreaValue) (out out' : OutputsValue) (after : AreaValue) (is : TakesTick s out out' after) where
  pub acknowledged_is : is.acknowledged ≡ ticked_area is.aged
  acknowledged_is = is.acknowledgements.state ∙ ap acknowledged_area (is.hellos.state ∙ ap helloed_area is.timers)

  pub tick_state : after ≡ repeated (ticked_area is.aged)
  tick_state = is.repeats.state ∙ ap repeated acknowledged_is
