-- An event that is taken, and the end of a step, keep a router fit.
use Rattle.std.proofs.Common.{◌≡◌, ℕ, zero, suc, List, [], ◌∷◌, Option, None, Some, length, slice_get, refl, sym, subst}
use Rattle.ospf_base.specs.declared.ids.LsaKey.{LsaKey}
use Rattle.ospf_base.specs.declared.ids.RouterId.{RouterId}
use Rattle.ospf_lsa.specs.declared.header.LsaHeader.{LsaHeader}
use Rattle.ospf_lsdb.specs.Database.{IsDatabase}
use Rattle.ospf_adjacency.specs.Heard.{Neighbourhood, names}
use Rattle.ospf_adjacency.specs.HelloLaws.{ElectionsComeAbout, NeighboursStayOfLink}
use Rattle.ospf_adjacency.specs.Laws.{DescriptionKeepsRouter}
use Rattle.ospf_adjacency.specs.ResendLaws.{AnswersAreQuiet, RepeatsAreQuiet}
use Rattle.ospf_area.specs.Outputs.{OutputsValue}
use Rattle.ospf_area.specs.Sending.{context_of}
use Rattle.ospf_area.specs.State.{AreaValue, LinkValue}
use Rattle.ospf_area.specs.declared.flooding.PacketSource.{PacketSource}
use Rattle.ospf_adjacency.specs.LinkSteps.Elections.{ElectsAt, ElectsFrom}
use Rattle.ospf_adjacency.specs.LinkSteps.Parts.{description_part, hello_part, link_down, link_timed, link_up, request_part, with_neighbourhood}
use Rattle.ospf_adjacency.specs.LinkSteps.Repeats.{link_repeated}
use Rattle.ospf_adjacency.specs.LinkSteps.Works.{link_changed}
use Rattle.ospf_adjacency.proofs.LinkSteps.Words.{hello_sent, some_changed, worked, worked_by, ElectsThere}
use Rattle.ospf_router.specs.AreaStep.Puts.{headers_met}
use Rattle.ospf_packet.specs.Meaning.{BodyMeaning, hello, description, request, update, acknowledgment}
use Rattle.ospf_area.specs.Updates.Aging.{TickAges}
use Rattle.ospf_area.specs.Updates.Meets.{header_met}
use Rattle.ospf_area.proofs.Updates.Words.{Removes, undelayed_link}
use Rattle.ospf_originate.specs.Laws.{AreaStaysSound, OwnStaySound}
use Rattle.ospf_originate.specs.Sound.{IsSetUp, IsSound}
use Rattle.ospf_originate.specs.Steps.{OwnLsas}
use Rattle.ospf_router.specs.AreaStep.Fit.{IsFitRouter, IsFitLink}
use Rattle.ospf_router.proofs.AreaStep.Works.{acknowledged_area, helloed_area, repeated, tick_state, timed_area}
use Rattle.ospf_router.specs.AreaStep.Takes.{TakesBody}
use Rattle.ospf_router.specs.AreaStep.Ticks.{TakesTick}
use Rattle.ospf_router.proofs.AreaStep.AreaFit.{age_for, headers_for, own_for, removes_for, update_for}
use Rattle.ospf_router.proofs.AreaStep.FitLemmas.{AllFit, IsFor, Stays, all_at, map_fit, set_fit}
use Rattle.ospf_router.proofs.AreaStep.LinkFit.{down_stays, elects_stays, hellos_fit, hellos_set_up, hellos_settings, repeats_fit, repeats_set_up, timers_fit, timers_set_up, undelayed_fit, undelayed_set_up, up_stays}
use Rattle.ospf_router.proofs.AreaStep.PartFit.{CanGreet, description_stays, hello_stays, request_stays}

-- ---- a router of the same Router ID

for_itself : (s : AreaValue) → IsFitRouter s → IsFor s.router s
for_itself s fit = record { own = refl; links = fit.links }

fit_for : (s s' : AreaValue) → IsFor s.router s' → IsSound s' → IsFitRouter s'
fit_for s s' is sound = record { links = subst (λ (r : RouterId). AllFit r s'.links) (sym is.own) is.links; sound = sound }

moved : (s s' : AreaValue) → s' ≡ s → IsFitRouter s → IsFitRouter s'
moved s s' is fit = subst (λ (x : AreaValue). IsFitRouter x) (sym is) fit

link_fit : (s : AreaValue) (l : ℕ) (a : LinkValue) → slice_get s.links l ≡ Some a → IsFitRouter s → IsFitLink s.router a
link_fit s l a at fit = all_at (IsFitLink s.router) s.links l a fit.links at

link_set_up : (s : AreaValue) (l : ℕ) (a : LinkValue) → slice_get s.links l ≡ Some a → IsFitRouter s → IsSetUp a
link_set_up s l a at fit = all_at IsSetUp s.links l a fit.sound.links.each at

-- ---- a part on one link

pub worked_fit : (part : LinkValue → Neighbourhood) (l : ℕ) (sent : List LsaKey) (s : AreaValue)
    → ((a : LinkValue) → slice_get s.links l ≡ Some a → Stays s.router a (with_neighbourhood (part a) a)) → IsFitRouter s → IsFitRouter (worked part l (record s { sent = sent }))
worked_fit part l sent s stays fit = by_link (slice_get s.links l) refl
  where
    by_link : (o : Option LinkValue) → slice_get s.links l ≡ o → IsFitRouter (worked_by o part l (record s { sent = sent }))
    by_link None at = record { links = fit.links; sound = record { links = fit.sound.links; stubs = fit.sound.stubs; numbered = fit.sound.numbered; counted = fit.sound.counted; max_seq = fit.sound.max_seq } }
    by_link (Some a) at = set_fit s l a (with_neighbourhood (part a) a) (part a).next sent at (stays a at) fit

pub changed_fit : (change : LinkValue → LinkValue) (l : ℕ) (s : AreaValue) → ((a : LinkValue) → IsFitLink s.router a → IsSetUp a → Stays s.router a (change a)) → IsFitRouter s → IsFitRouter (link_changed change l s)
changed_fit change l s stays fit = by_link (slice_get s.links l) refl
  where
    by_link : (o : Option LinkValue) → slice_get s.links l ≡ o → IsFitRouter (some_changed o change l s)
    by_link None at = fit
    by_link (Some a) at = set_fit s l a (change a) s.next_dd s.sent at (stays a (link_fit s l a at fit) (link_set_up s l a at fit)) fit

-- ---- packets

-- what the sender of a packet finds on its link
abbrev pub CanCome : BodyMeaning → PacketSource → LinkValue → Type 0
CanCome (hello fields heard) f a = CanGreet f.router a
CanCome (description fields headers) f a = Unit {0}
CanCome (request entries) f a = Unit {0}
CanCome (update lsas) f a = Unit {0}
CanCome (acknowledgment headers) f a = Unit {0}

module _ (stay : NeighboursStayOfLink) (come : ElectionsComeAbout) (keeps : DescriptionKeepsRouter) (answers : AnswersAreQuiet) (area : AreaStaysSound) where
  headers_sound : (f : PacketSource) (hs : List LsaHeader) (s : AreaValue) → IsSound s → IsSound (headers_met f hs s)
  headers_sound f [] s sound = sound
  headers_sound f (h ∷ hs) s sound = headers_sound f hs (header_met f h s) (area.acknowledged f h s sound)

  pub body_fit : (body : BodyMeaning) (f : PacketSource) (s : AreaValue) (out out' : OutputsValue) (s' : AreaValue)
      → ((a : LinkValue) → slice_get s.links f.link ≡ Some a → CanCome body f a) → TakesBody body f s out out' s' → IsFitRouter s → IsFitRouter s'
  body_fit (hello fields heard) f s out out' s' can is fit =
      moved _ s' is.state (worked_fit (hello_part (context_of s) f fields (names heard s.router) s.next_dd) f.link s.sent s
      (λ a at. hello_stays stay come s.router (context_of s) f fields (names heard s.router) s.next_dd a (can a at) (link_fit s f.link a at fit) (link_set_up s f.link a at fit)) fit)
  body_fit (description fields headers) f s out out' s' can is fit =
      moved _ s' is.state (worked_fit (description_part (context_of s) f fields headers s.database s.next_dd) f.link s.sent s
      (λ a at. description_stays keeps come s.router (context_of s) f fields headers s.database s.next_dd a (link_fit s f.link a at fit) (link_set_up s f.link a at fit)) fit)
  body_fit (request entries) f s out out' s' can is fit =
      moved _ s' is.state (worked_fit (request_part (context_of s) f s.database entries s.next_dd) f.link _ s
      (λ a at. request_stays answers s.router (context_of s) f s.database entries s.next_dd a (link_fit s f.link a at fit) (link_set_up s f.link a at fit)) fit)
  body_fit (update lsas) f s out out' s' can is fit =
      fit_for s s' (update_for s.router f lsas s out out' s' is (for_itself s fit)) (area.updated f lsas s out out' s' is fit.sound)
  body_fit (acknowledgment headers) f s out out' s' can is fit =
      moved (headers_met f headers s) s' is.state (fit_for s (headers_met f headers s) (headers_for s.router f headers s (for_itself s fit)) (headers_sound f headers s fit.sound))

-- ---- ticks

module _ (stay : NeighboursStayOfLink) (come : ElectionsComeAbout) (repeats : RepeatsAreQuiet) (area : AreaStaysSound) where
  pub aged_fit : (s : AreaValue) (out out' : OutputsValue) (a : AreaValue) → TickAges s out out' a → IsFitRouter s → IsFitRouter a
  aged_fit s out out' a ages fit = fit_for s a (age_for s.router s out out' a ages (for_itself s fit)) (area.aged s out out' a ages fit.sound)

  -- up to what is sent again
  pub ticked_fit : (a : AreaValue) → IsFitRouter a → IsFitRouter (acknowledged_area (helloed_area (timed_area a)))
  ticked_fit a aged =
      let t = timed_area a in
      let timed : IsFitRouter t = map_fit a link_timed a.sent (λ x. refl) (timers_fit stay come a.router) timers_set_up aged in
      let h = helloed_area t in
      let said : IsFitRouter h = map_fit t hello_sent t.sent hellos_settings (hellos_fit t.router) hellos_set_up timed in
      map_fit h undelayed_link h.sent (λ x. refl) (undelayed_fit h.router) undelayed_set_up said

  pub tick_fit : (s : AreaValue) (out out' : OutputsValue) (s' : AreaValue) → TakesTick s out out' s' → IsFitRouter s → IsFitRouter s'
  tick_fit s out out' s' is fit =
      let k = acknowledged_area (helloed_area (timed_area is.aged)) in
      let told : IsFitRouter k = ticked_fit is.aged (aged_fit s out is.aged_out is.aged is.ages fit) in
      moved (repeated k) s' (tick_state s out out' s' is) (map_fit k (link_repeated (context_of k) k.database) _ (λ x. refl) (repeats_fit repeats (context_of k) k.database k.router) (repeats_set_up repeats (context_of k) k.database) told)

-- ---- links

pub up_fit : (l : ℕ) (s : AreaValue) → IsFitRouter s → IsFitRouter (link_changed link_up l s)
up_fit l s fit = changed_fit link_up l s (up_stays s.router) fit

pub down_fit : (l : ℕ) (s : AreaValue) → IsFitRouter s → IsFitRouter (link_changed link_down l s)
down_fit l s fit = changed_fit link_down l s (down_stays s.router) fit

-- ---- the end of a step

module _ (stay : NeighboursStayOfLink) where
  elects_at_fit : (l : ℕ) (s : AreaValue) (out : OutputsValue) (s' : AreaValue) (out' : OutputsValue) → ElectsAt l s out out' s' → IsFitRouter s → IsFitRouter s'
  elects_at_fit l s out s' out' is fit = by_link (slice_get s.links l) refl is
    where
      by_link : (o : Option LinkValue) → slice_get s.links l ≡ o → ElectsThere o l s out s' out' → IsFitRouter s'
      by_link None at is = moved s s' is.0 fit
      by_link (Some a) at (b, next, sent, elects, state, outputs) =
          moved _ s' state (set_fit s l a b next s.sent at (elects_stays stay s.router a.elects (context_of s) s.next_dd a b next sent elects (link_fit s l a at fit) (link_set_up s l a at fit)) fit)

  elects_from_fit : (l : ℕ) (s : AreaValue) (out : OutputsValue) (s' : AreaValue) (out' : OutputsValue) → ElectsFrom l s out out' s' → IsFitRouter s → IsFitRouter s'
  elects_from_fit zero s out s' out' is fit = moved s s' is.0 fit
  elects_from_fit (suc l) s out s' out' (mid, mid_out, first, last) fit = elects_at_fit l mid mid_out s' out' last (elects_from_fit l s out mid mid_out first fit)

  pub elects_fit : (s : AreaValue) (out : OutputsValue) (s' : AreaValue) (out' : OutputsValue) → ElectsFrom (length s.links) s out out' s' → IsFitRouter s → IsFitRouter s'
  elects_fit s out s' out' is fit = elects_from_fit (length s.links) s out s' out' is fit

pub own_fit : (own : OwnStaySound) (s : AreaValue) (out out' : OutputsValue) (s' : AreaValue) → OwnLsas s out out' s' → IsFitRouter s → IsFitRouter s'
own_fit own s out out' s' is fit = fit_for s s' (own_for s.router s out out' s' is (for_itself s fit)) (own.ended s out out' s' is fit.sound)

pub removes_fit : (area : AreaStaysSound) (s : AreaValue) (out out' : OutputsValue) (s' : AreaValue) → IsDatabase s.database → Removes s out out' s' → IsFitRouter s → IsFitRouter s'
removes_fit area s out out' s' db is fit = fit_for s s' (removes_for s.router s out out' s' is (for_itself s fit)) (area.removed s out out' s' db is fit.sound)
