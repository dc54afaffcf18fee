-- What the parts of a step send has the settings of the router's links.
use Rattle.std.proofs.Common.{◌≡◌, ◌++◌, ℕ, ℤ, zero, suc, Bool, true, false, List, [], ◌∷◌, length, Option, None, Some, slice_get, if◌then◌else◌, refl, sym, ap, subst, ◌∙◌}
use Rattle.std.proofs.lemmas.List.Elements.{All-contains}
use Rattle.std.proofs.lemmas.Option.{none-some}
use Rattle.std.specs.List.{Contains}
use Rattle.ospf_base.specs.Constants.{max_age}
use Rattle.ospf_base.specs.declared.ids.Addr.{Addr}
use Rattle.ospf_base.specs.declared.ids.LsaKey.{LsaKey}
use Rattle.ospf_lsa.specs.Lsa.{key_of}
use Rattle.ospf_packet.specs.Meaning.{BodyMeaning, Meaning, hello, description, request, update, acknowledgment}
use Rattle.ospf_packet.specs.PacketOf.{packet_of}
use Rattle.ospf_neighbour.specs.Interface.Machine.{is_changed, is_down, started}
use Rattle.ospf_neighbour.specs.declared.iface.machine.Iface.{Iface}
use Rattle.ospf_neighbour.specs.declared.iface.settings.IfaceSettings.{IfaceSettings}
use Rattle.ospf_lsdb.specs.Database.{Entry, lsa_of, reached_at}
use Rattle.ospf_flood.specs.declared.rule.LsaRule.{LsaRule}
use Rattle.ospf_flood.specs.declared.rule.LsaRule.TheVariants.{AcknowledgesExpired, TooSoon, Installs, BadRequest, Duplicate, Stale}
use Rattle.ospf_area.specs.Flooding.{flooding_updates, released}
use Rattle.ospf_area.specs.Outputs.{OutputsValue, SentValue, no_outputs}
use Rattle.ospf_area.specs.Packets.{PendingPacket, packet_if}
use Rattle.ospf_area.specs.Outboxes.{posted_all}
use Rattle.ospf_area.specs.Sending.{context_of, sent_lsa, to_address, update_out, way_out}
use Rattle.ospf_area.specs.State.{AreaValue, LinkValue, database_entry}
use Rattle.ospf_area.specs.declared.flooding.PacketSource.{PacketSource}
use Rattle.ospf_area.specs.declared.sending.RouterContext.{RouterContext}
use Rattle.ospf_area.proofs.Words.{released_link}
use Rattle.ospf_adjacency.specs.Elections.{first_dds}
use Rattle.ospf_adjacency.specs.Heard.{Neighbourhood, names}
use Rattle.ospf_adjacency.specs.Links.{hello_packet}
use Rattle.ospf_area.specs.Updates.Acks.{delayed_out_on}
use Rattle.ospf_area.specs.Updates.Aging.{Flushes, TickAges, copy_flooded, turn_out}
use Rattle.ospf_area.specs.Updates.Meets.{MeetsRule, first_dd_on, reply_out, reply_to, rule_met}
use Rattle.ospf_area.specs.Updates.Removal.{RemovesOne, leaving}
use Rattle.ospf_area.specs.Updates.Updates.{TakesSlice, TakesUpdate}
use Rattle.ospf_area.specs.Updates.Updates.TakesSlice.{Met, PassedOver}
use Rattle.ospf_area.proofs.Updates.CopyLemmas.{copies_become}
use Rattle.ospf_area.proofs.Updates.Words.{RemovesAll, TakesSlices, copies_out, copy_flood_out_by, copy_out, copy_sent, direct_out_on}
use Rattle.ospf_adjacency.specs.LinkSteps.Elections.{ElectsAt, ElectsFrom, ElectsIf}
use Rattle.ospf_adjacency.specs.LinkSteps.Parts.{description_part, hello_out, hello_part, link_up, neighbourhood_of, request_part}
use Rattle.ospf_adjacency.specs.LinkSteps.Repeats.{link_repeats_out}
use Rattle.ospf_adjacency.specs.LinkSteps.Works.{up_out_on}
use Rattle.ospf_adjacency.proofs.LinkSteps.Words.{ElectsThere, work_sent_on}
use Rattle.ospf_originate.specs.Steps.{Acts, OwnLsas, wants}
use Rattle.ospf_originate.specs.Wanted.{WantedValue, wanted_of}
use Rattle.ospf_originate.specs.declared.action.DueAction.{DueAction}
use Rattle.ospf_originate.specs.declared.action.OwnAction.{OwnAction}
use Rattle.ospf_originate.specs.declared.action.OwnAction.TheVariants.{Leave, Flush, Issue}
use Rattle.ospf_originate.proofs.Words.{ActsInTurn, IssuesIf}
use Rattle.ospf_router.specs.AreaStep.Ends.{EndsStep}
use Rattle.ospf_router.specs.AreaStep.Step.{Event}
use Rattle.ospf_router.specs.AreaStep.Step.Event.{Datagram, Tick, LinkUp, LinkDown}
use Rattle.ospf_router.specs.AreaStep.Steps.{StepsArea, Takes}
use Rattle.ospf_router.specs.AreaStep.Takes.{TakesBody, TakesDatagram, TakesEvent, source_of}
use Rattle.ospf_router.specs.AreaStep.Ticks.{TakesTick}
use Rattle.ospf_router.specs.declared.step.dropped.Dropped.{Dropped}
use Rattle.ospf_router.proofs.AreaStep.StateFacts.{Contains-nil}
use Rattle.ospf_plan.proofs.SendLemmas.{AllOf, AllOut, acknowledged_out, both_out, description_on_of, first_of, first_out, flood_out, hello_on_of, hellos_out, if_of, links_out, none_of, none_out, one_out, posted_out, repeated_out, request_on_of, said_hello, said_update, turns_out}
use Rattle.ospf_plan.proofs.SettingsLemmas.{IsAs, age_as, acts_as, aside_as, copy_as, issue_as, mapped_fixed, rule_as, sent_as, slice_as, slices_as}
use Rattle.ospf_plan.proofs.StepSettings.{acknowledged_as, elects_all_as, event_as, helloed_as, itself, joined, timed_as}

module _ (a : AreaValue) where
  -- the outputs after a part that sends these
  more_out : (o o' : OutputsValue) (ds : List SentValue) → o'.sent ≡ o.sent ++ ds → AllOut a o.sent → AllOut a ds → AllOut a o'.sent
  more_out o o' ds is of more = subst (λ (xs : List SentValue). AllOut a xs) (sym is) (both_out a o.sent ds of more)

  same_out : (o o' : OutputsValue) → o'.sent ≡ o.sent → AllOut a o.sent → AllOut a o'.sent
  same_out o o' is of = subst (λ (xs : List SentValue). AllOut a xs) (sym is) of

  -- ---- an LSA of an Update

  replies_out : (reply : Option (List ℕ)) (f : PacketSource) (s : AreaValue) → IsAs a s → AllOut a (reply_out reply f s)
  replies_out None f s as_was = none_out a
  replies_out (Some lsa) f s as_was = by_link (slice_get s.links f.link) refl
    where
      by_link : (o : Option LinkValue) → slice_get s.links f.link ≡ o
          → AllOut a (elim o [ None ↦ [] | Some link ↦ update_out (context_of s) (way_out f.link link.iface (to_address link.iface f.address)) (sent_lsa link.settings.transmit_delay lsa ∷ []) ])
      by_link None at = none_out a
      by_link (Some x) at = one_out a (context_of s) as_was.own as_was.area s.links as_was.links f.link x x.iface (to_address x.iface f.address) (update (sent_lsa x.settings.transmit_delay lsa ∷ [])) at refl (said_update _)

  rule_out : (rule : Option LsaRule) (f : PacketSource) (lsa : List ℕ) (s : AreaValue) (o o' : OutputsValue) (s' : AreaValue) → MeetsRule rule f lsa s o o' s' → IsAs a s → AllOut a o.sent → AllOut a o'.sent
  rule_out None f lsa s o o' s' is as_was of = same_out o o' (ap (λ (x : OutputsValue). x.sent) is.outputs) of
  rule_out (Some AcknowledgesExpired) f lsa s o o' s' is as_was of = same_out o o' (ap (λ (x : OutputsValue). x.sent) is.outputs) of
  rule_out (Some TooSoon) f lsa s o o' s' is as_was of = same_out o o' (ap (λ (x : OutputsValue). x.sent) is.outputs) of
  rule_out (Some Installs) f lsa s o o' s' is as_was of =
      let links = released (key_of lsa) s.links in
      more_out o o' (flooding_updates (context_of s) lsa (Some f) links) (ap (λ (x : OutputsValue). x.sent) is.outputs) of
      (flood_out a (context_of s) as_was.own as_was.area links (mapped_fixed (released_link (key_of lsa)) (λ x. refl) s.links ∙ as_was.links) lsa (Some f))
  rule_out (Some BadRequest) f lsa s o o' s' is as_was of =
      more_out o o' (first_dd_on (context_of s) f s.next_dd (slice_get s.links f.link)) (ap (λ (x : OutputsValue). x.sent) is.outputs) of
      (first_out a (context_of s) as_was.own as_was.area s.links as_was.links f s.next_dd (slice_get s.links f.link) refl)
  rule_out (Some Duplicate) f lsa s o o' s' is as_was of = same_out o o' (ap (λ (x : OutputsValue). x.sent) is.outputs) of
  rule_out (Some Stale) f lsa s o o' s' is as_was of =
      more_out o o' (reply_out (reply_to s (key_of lsa)) f s) (ap (λ (x : OutputsValue). x.sent) is.outputs) of (replies_out (reply_to s (key_of lsa)) f s as_was)

  requests_out : (s : AreaValue) → IsAs a s → AllOut a (turn_out s)
  requests_out s as_was = turns_out a (context_of s) as_was.own as_was.area s.links as_was.links

  slice_out : (f : PacketSource) (bytes : List ℕ) (s : AreaValue) (o o' : OutputsValue) (s' : AreaValue) → TakesSlice f bytes s o o' s' → IsAs a s → AllOut a o.sent → AllOut a o'.sent
  slice_out f bytes s o o' s' (Met is mid so_far meets state outputs) as_was of =
      more_out so_far o' (turn_out mid) (ap (λ (x : OutputsValue). x.sent) outputs) (rule_out (rule_met s f bytes) f bytes s o so_far mid meets as_was of)
      (requests_out mid (rule_as a (rule_met s f bytes) f bytes s o so_far mid meets as_was))
  slice_out f bytes s o o' s' (PassedOver is_not passes outputs) as_was of = same_out o o' (ap (λ (x : OutputsValue). x.sent) outputs) of

  slices_out : (f : PacketSource) (slices : List (List ℕ)) (s : AreaValue) (o o' : OutputsValue) (s' : AreaValue) → TakesSlices f slices s o o' s' → IsAs a s → AllOut a o.sent → AllOut a o'.sent
  slices_out f [] s o o' s' unchanged as_was of = same_out o o' (ap (λ (x : OutputsValue). x.sent) unchanged.outputs) of
  slices_out f (bytes ∷ slices) s o o' s' (mid, so_far, first, others) as_was of =
      slices_out f slices mid so_far o' s' others (slice_as a f bytes s o so_far mid first as_was) (slice_out f bytes s o so_far mid first as_was of)

  direct_acks_out : (f : PacketSource) (s : AreaValue) → IsAs a s → (o : Option LinkValue) → slice_get s.links f.link ≡ o → AllOut a (direct_out_on (context_of s) f s.direct o)
  direct_acks_out f s as_was None at = none_out a
  direct_acks_out f s as_was (Some x) at = acknowledged_out a (context_of s) as_was.own as_was.area s.links as_was.links f.link x (to_address x.iface f.address) s.direct at

  updates_out : (f : PacketSource) (slices : List (List ℕ)) (s : AreaValue) (o o' : OutputsValue) (s' : AreaValue) → TakesUpdate f slices s o o' s' → IsAs a s → AllOut a o.sent → AllOut a o'.sent
  updates_out f slices s o o' s' is as_was of =
      more_out is.so_far o' (direct_out_on (context_of is.mid) f is.mid.direct (slice_get is.mid.links f.link)) (ap (λ (x : OutputsValue). x.sent) is.outputs)
      (slices_out f slices s o is.so_far is.mid is.takes as_was of)
      (direct_acks_out f is.mid (slices_as a f slices s o is.so_far is.mid is.takes as_was) (slice_get is.mid.links f.link) refl)

  -- ---- copies at MaxAge

  flooded_out : (o : Option Entry) (s : AreaValue) → IsAs a s → AllOut a (copy_flood_out_by o s)
  flooded_out None s as_was = none_out a
  flooded_out (Some e) s as_was = flood_out a (context_of s) as_was.own as_was.area s.links as_was.links (lsa_of e) None

  copy_sends : (key : LsaKey) (s : AreaValue) → IsAs a s → AllOut a (copy_out key s)
  copy_sends key s as_was =
      both_out a (copy_flood_out_by (database_entry s key) s) (turn_out (copy_flooded key s)) (flooded_out (database_entry s key) s as_was)
      (requests_out (copy_flooded key s) (copy_as a (database_entry s key) key s as_was))

  copies_send : (keys : List LsaKey) (s : AreaValue) → IsAs a s → AllOut a (copies_out keys s)
  copies_send [] s as_was = none_out a
  copies_send (key ∷ keys) s as_was = both_out a (copy_out key s) (copies_out keys (copy_sent key s)) (copy_sends key s as_was) (copies_send keys (copy_sent key s) (sent_as a key s as_was))

  flush_out : (key : LsaKey) (s : AreaValue) (o o' : OutputsValue) (s' : AreaValue) → Flushes key s o o' s' → IsAs a s → AllOut a o.sent → AllOut a o'.sent
  flush_out key s o o' s' is as_was of =
      more_out o o' (copy_out key is.mid) (ap (λ (x : OutputsValue). x.sent) is.sends.outputs) of
      (copy_sends key is.mid (aside_as a s is.mid (ap (λ (x : AreaValue). x.router) is.rest) (ap (λ (x : AreaValue). x.area) is.rest) (ap (λ (x : AreaValue). x.links) is.rest) as_was))

  age_out : (s : AreaValue) (o o' : OutputsValue) (s' : AreaValue) → TickAges s o o' s' → IsAs a s → AllOut a o.sent → AllOut a o'.sent
  age_out s o o' s' is as_was of =
      let mid = is.mid in
      let keys = reached_at max_age mid.database in
      more_out o o' (copies_out keys mid) (ap (λ (x : OutputsValue). x.sent) (copies_become keys mid s' o o' is.sends).outputs) of
      (copies_send keys mid (aside_as a s mid (ap (λ (x : AreaValue). x.router) is.rest) (ap (λ (x : AreaValue). x.area) is.rest) (ap (λ (x : AreaValue). x.links) is.rest) as_was))

  -- ---- own LSAs, and what leaves

  issues_if_out : (w : Option WantedValue) (number : ℤ) (s : AreaValue) (o o' : OutputsValue) (s' : AreaValue) → IssuesIf w number s o o' s' → IsAs a s → AllOut a o.sent → AllOut a o'.sent
  issues_if_out None number s o o' s' unchanged as_was of = same_out o o' (ap (λ (x : OutputsValue). x.sent) unchanged.outputs) of
  issues_if_out (Some w) number s o o' s' is as_was of =
      let lsa = is.issues.lsa in
      let links = released (key_of lsa) s.links in
      more_out is.mid_out o' (turn_out is.mid) (ap (λ (x : OutputsValue). x.sent) is.outputs)
      (more_out o is.mid_out (flooding_updates (context_of s) lsa None links) (ap (λ (x : OutputsValue). x.sent) is.issues.outputs) of
      (flood_out a (context_of s) as_was.own as_was.area links (mapped_fixed (released_link (key_of lsa)) (λ x. refl) s.links ∙ as_was.links) lsa None))
      (requests_out is.mid (issue_as a w number s o is.mid_out is.mid is.issues as_was))

  acts_out : (action : OwnAction) (ws : List WantedValue) (key : LsaKey) (s : AreaValue) (o o' : OutputsValue) (s' : AreaValue) → Acts action ws key s o o' s' → IsAs a s → AllOut a o.sent → AllOut a o'.sent
  acts_out Leave ws key s o o' s' unchanged as_was of = same_out o o' (ap (λ (x : OutputsValue). x.sent) unchanged.outputs) of
  acts_out Flush ws key s o o' s' is as_was of = flush_out key s o o' s' is as_was of
  acts_out (Issue number) ws key s o o' s' is as_was of = issues_if_out (wanted_of ws key) number s o o' s' is as_was of

  in_turn_out : (ws : List WantedValue) (due : List DueAction) (s : AreaValue) (o o' : OutputsValue) (s' : AreaValue) → ActsInTurn ws due s o o' s' → IsAs a s → AllOut a o.sent → AllOut a o'.sent
  in_turn_out ws [] s o o' s' unchanged as_was of = same_out o o' (ap (λ (x : OutputsValue). x.sent) unchanged.outputs) of
  in_turn_out ws (d ∷ ds) s o o' s' (mid, so_far, first, others) as_was of =
      in_turn_out ws ds mid so_far o' s' others (acts_as a d.action ws d.key s o so_far mid first as_was) (acts_out d.action ws d.key s o so_far mid first as_was of)

  own_out : (s : AreaValue) (o o' : OutputsValue) (s' : AreaValue) → OwnLsas s o o' s' → IsAs a s → AllOut a o.sent → AllOut a o'.sent
  own_out s o o' s' is as_was of = in_turn_out (wants s) is.due s o o' is.mid is.each as_was of

  removed_out : (key : LsaKey) (s : AreaValue) (o o' : OutputsValue) (s' : AreaValue) → RemovesOne key s o o' s' → AllOut a o.sent → AllOut a o'.sent
  removed_out key s o o' s' is of = same_out o o' (ap (λ (x : OutputsValue). x.sent) is.outputs ∙ by_test _) of
    where
      by_test : (b : Bool) → (if b then record o { ended = o.ended ++ key ∷ [] } else o).sent ≡ o.sent
      by_test true = refl
      by_test false = refl

  removes_all_out : (keys : List LsaKey) (s : AreaValue) (o o' : OutputsValue) (s' : AreaValue) → RemovesAll keys s o o' s' → AllOut a o.sent → AllOut a o'.sent
  removes_all_out [] s o o' s' unchanged of = same_out o o' (ap (λ (x : OutputsValue). x.sent) unchanged.outputs) of
  removes_all_out (key ∷ keys) s o o' s' (mid, so_far, first, others) of = removes_all_out keys mid so_far o' s' others (removed_out key s o so_far mid first of)

  -- ---- the parts of a step

  work_out : (part : LinkValue → Neighbourhood) (l : ℕ) (s : AreaValue) (o o' : OutputsValue) → o'.sent ≡ o.sent ++ work_sent_on (slice_get s.links l) part (context_of s) l → ((x : LinkValue) → AllOf x.iface.settings x.settings (part x).sent)
      → IsAs a s → AllOut a o.sent → AllOut a o'.sent
  work_out part l s o o' is each as_was of = more_out o o' (work_sent_on (slice_get s.links l) part (context_of s) l) is of (by_link (slice_get s.links l) refl)
    where
      by_link : (x : Option LinkValue) → slice_get s.links l ≡ x → AllOut a (work_sent_on x part (context_of s) l)
      by_link None at = none_out a
      by_link (Some x) at = posted_out a (context_of s) as_was.own as_was.area s.links as_was.links l x x.iface (part x).sent at refl (each x)

  body_out : (body : BodyMeaning) (f : PacketSource) (s : AreaValue) (o o' : OutputsValue) (s' : AreaValue) → TakesBody body f s o o' s' → IsAs a s → AllOut a o.sent → AllOut a o'.sent
  body_out (hello fields heard) f s o o' s' is as_was of =
      work_out (hello_part (context_of s) f fields (names heard s.router) s.next_dd) f.link s o o' (ap (λ (x : OutputsValue). x.sent) is.outputs)
      (λ x. hello_on_of x.iface x.settings (context_of s) f.router f.address fields (names heard s.router) (neighbourhood_of x s.next_dd) (none_of x.iface x.settings (context_of s))) as_was of
  body_out (description fields headers) f s o o' s' is as_was of =
      work_out (description_part (context_of s) f fields headers s.database s.next_dd) f.link s o o' (ap (λ (x : OutputsValue). x.sent) is.outputs)
      (λ x. description_on_of x.iface x.settings (context_of s) f.router fields headers s.database (neighbourhood_of x s.next_dd) (none_of x.iface x.settings (context_of s))) as_was of
  body_out (request entries) f s o o' s' is as_was of =
      work_out (request_part (context_of s) f s.database entries s.next_dd) f.link s o o' (ap (λ (x : OutputsValue). x.sent) is.outputs)
      (λ x. request_on_of x.iface x.settings (context_of s) f.router x.settings.transmit_delay s.database entries (neighbourhood_of x s.next_dd) (none_of x.iface x.settings (context_of s))) as_was of
  body_out (update lsas) f s o o' s' is as_was of = updates_out f lsas s o o' s' is as_was of
  body_out (acknowledgment headers) f s o o' s' is as_was of = more_out o o' [] (ap (λ (x : OutputsValue). x.sent) is.outputs) of (none_out a)

  tick_out : (s : AreaValue) (o o' : OutputsValue) (s' : AreaValue) → TakesTick s o o' s' → IsAs a s → AllOut a o.sent → AllOut a o'.sent
  tick_out s o o' s' is as_was of =
      let aged = age_as a s o is.aged_out is.aged is.ages as_was in
      let timed = joined a is.aged is.timed aged (timed_as s o o' s' is) in
      let helloed = joined a is.timed is.helloed timed (helloed_as s o o' s' is) in
      let acknowledged = joined a is.helloed is.acknowledged helloed (acknowledged_as s o o' s' is) in
      let of_ages = age_out s o is.aged_out is.aged is.ages as_was of in
      let of_hellos = more_out is.aged_out is.helloed_out _ (ap (λ (x : OutputsValue). x.sent) is.hellos.outputs) of_ages
      (links_out a (hello_out (context_of is.timed)) is.timed.links (λ l x at. hellos_out a (context_of is.timed) timed.own timed.area is.timed.links timed.links l x at)) in
      let of_acks = more_out is.helloed_out is.acknowledged_out _ (ap (λ (x : OutputsValue). x.sent) is.acknowledgements.outputs) of_hellos
      (links_out a (delayed_out_on (context_of is.helloed)) is.helloed.links (λ l x at. acknowledged_out a (context_of is.helloed) helloed.own helloed.area is.helloed.links helloed.links l x _ x.delayed at)) in
      more_out is.acknowledged_out o' _ (ap (λ (x : OutputsValue). x.sent) is.repeats.outputs) of_acks
      (links_out a (link_repeats_out (context_of is.acknowledged) is.acknowledged.database) is.acknowledged.links
      (λ l x at. repeated_out a (context_of is.acknowledged) acknowledged.own acknowledged.area is.acknowledged.links acknowledged.links is.acknowledged.database l x at))

  datagram_out : (link : ℕ) (source : Addr) (m : Option Meaning) (s : AreaValue) (o o' : OutputsValue) (s' : AreaValue) → TakesDatagram link source m s o o' s' → IsAs a s → AllOut a o.sent → AllOut a o'.sent
  datagram_out link source None s o o' s' is as_was of = absurd is
  datagram_out link source (Some m) s o o' s' is as_was of = body_out m.body (source_of link source m) s o o' s' is as_was of

  up_sends : (l : ℕ) (s : AreaValue) → IsAs a s → (x : Option LinkValue) → slice_get s.links l ≡ x → AllOut a (up_out_on x (context_of s) l)
  up_sends l s as_was None at = none_out a
  up_sends l s as_was (Some x) at =
      let up : (link_up x).iface.settings ≡ x.iface.settings = by_state (is_down x.iface.state) in
      posted_out a (context_of s) as_was.own as_was.area s.links as_was.links l x (link_up x).iface (packet_if (is_down x.iface.state) (hello_packet (link_up x).iface x.neighbours)) at up
      (subst (λ (i : IfaceSettings). AllOf i x.settings (packet_if (is_down x.iface.state) (hello_packet (link_up x).iface x.neighbours))) up
      (if_of (link_up x).iface x.settings (context_of s) (is_down x.iface.state) (hello_packet (link_up x).iface x.neighbours) (said_hello (link_up x).iface _ refl)))
    where
      by_state : (b : Bool) → (if b then started x.iface else x.iface).settings ≡ x.iface.settings
      by_state true = refl
      by_state false = refl

  event_out : (e : Event) (s : AreaValue) (o o' : OutputsValue) (s' : AreaValue) → TakesEvent e s o o' s' → IsAs a s → AllOut a o.sent → AllOut a o'.sent
  event_out (Datagram link source destination bytes) s o o' s' is as_was of = datagram_out link source (packet_of bytes) s o o' s' is as_was of
  event_out Tick s o o' s' is as_was of = tick_out s o o' s' is as_was of
  event_out (LinkUp link) s o o' s' is as_was of =
      more_out o o' (up_out_on (slice_get s.links link) (context_of s) link) (ap (λ (x : OutputsValue). x.sent) is.outputs) of (up_sends link s as_was (slice_get s.links link) refl)
  event_out (LinkDown link) s o o' s' is as_was of = more_out o o' [] (ap (λ (x : OutputsValue). x.sent) is.outputs) of (none_out a)

  -- the first Database Descriptions after an election are those of the link
  elected_of : (due : Bool) (own : RouterContext) (next : ℕ) (x y : LinkValue) (next' : ℕ) (sent : List PendingPacket) → ElectsIf due own next x y next' sent → AllOf x.iface.settings x.settings sent
  elected_of false own next x y next' sent is = subst (λ (ps : List PendingPacket). AllOf x.iface.settings x.settings ps) (sym is.2) (none_of x.iface x.settings own)
  elected_of true own next x y next' sent is =
      let set : y.iface.settings ≡ x.iface.settings = ap (λ (i : Iface). i.settings) is.0.interface in
      subst (λ (ps : List PendingPacket). AllOf x.iface.settings x.settings ps) (sym is.0.sends) (by_change set (is_changed x.iface is.0.result))
    where
      by_change : y.iface.settings ≡ x.iface.settings → (b : Bool) → AllOf x.iface.settings x.settings (if b then first_dds y.iface x.settings.mtu own.tick next x.neighbours else [])
      by_change set true = subst (λ (i : IfaceSettings). AllOf i x.settings (first_dds y.iface x.settings.mtu own.tick next x.neighbours)) set (first_of y.iface x.settings own own.tick next x.neighbours)
      by_change set false = none_of x.iface x.settings own

  elects_at_out : (l : ℕ) (s : AreaValue) (o : OutputsValue) (s' : AreaValue) (o' : OutputsValue) → ElectsAt l s o o' s' → IsAs a s → AllOut a o.sent → AllOut a o'.sent
  elects_at_out l s o s' o' is as_was of = by_link (slice_get s.links l) refl is
    where
      by_link : (x : Option LinkValue) → slice_get s.links l ≡ x → ElectsThere x l s o s' o' → AllOut a o'.sent
      by_link None at is = same_out o o' (ap (λ (x : OutputsValue). x.sent) is.1) of
      by_link (Some x) at (y, next, sent, elects, state, outputs) =
          more_out o o' (posted_all (context_of s) l x.iface sent) (ap (λ (z : OutputsValue). z.sent) outputs) of
          (posted_out a (context_of s) as_was.own as_was.area s.links as_was.links l x x.iface sent at refl (elected_of x.elects (context_of s) s.next_dd x y next sent elects))

  elects_out : (l : ℕ) (s : AreaValue) (o : OutputsValue) (s' : AreaValue) (o' : OutputsValue) → ElectsFrom l s o o' s' → IsAs a s → AllOut a o.sent → AllOut a o'.sent
  elects_out zero s o s' o' is as_was of = same_out o o' (ap (λ (x : OutputsValue). x.sent) is.1) of
  elects_out (suc l) s o s' o' (mid, so_far, first, last) as_was of =
      elects_at_out l mid so_far s' o' last (joined a s mid as_was (elects_all_as l s o mid so_far first)) (elects_out l s o mid so_far first as_was of)

  ends_out : (s : AreaValue) (o o' : OutputsValue) (s' : AreaValue) → EndsStep s o o' s' → IsAs a s → AllOut a o.sent → AllOut a o'.sent
  ends_out s o o' s' is as_was of =
      let elected = joined a s is.elected as_was (elects_all_as (length s.links) s o is.elected is.elected_out is.elects) in
      removes_all_out (leaving is.issued) is.issued is.issued_out o' s' is.removes
      (own_out is.elected is.elected_out is.issued_out is.issued is.own elected (elects_out (length s.links) s o is.elected is.elected_out is.elects as_was of))

-- what a step sends
takes_out : (e : Event) (s : AreaValue) (out : OutputsValue) (s' : AreaValue) → Takes e s out s' → AllOut s out.sent
takes_out e s out s' is =
    ends_out s is.mid is.mid_out out s' is.end (event_as e s no_outputs is.mid_out is.mid is.event) (event_out s e s no_outputs is.mid_out is.mid is.event (itself s) (none_out s))

pub step_out : (e : Event) (s : AreaValue) (d : Option Dropped) (out : OutputsValue) (s' : AreaValue) → StepsArea e s d out s' → AllOut s out.sent
step_out e s None out s' is = takes_out e s out s' (is.takes refl)
step_out e s (Some d) out s' is = subst (λ (o : OutputsValue). AllOut s o.sent) (sym (is.silent (λ none. none-some d (sym none)))) (none_out s)

-- its bytes are read as the packet that was meant
pub step_read : (e : Event) (s : AreaValue) (d : Option Dropped) (out : OutputsValue) (s' : AreaValue) → StepsArea e s d out s' → (x : SentValue) → Contains out.sent x → packet_of x.bytes ≡ Some x.packet
step_read e s None out s' is x at = All-contains (λ (y : SentValue). packet_of y.bytes ≡ Some y.packet) out.sent x (is.takes refl).end.read at
step_read e s (Some d) out s' is x at = absurd (Contains-nil x (subst (λ (o : OutputsValue). Contains o.sent x) (is.silent (λ none. none-some d (sym none))) at))
