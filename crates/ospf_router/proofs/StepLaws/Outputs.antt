-- What an event and the end of a step issue and take.
use Rattle.std.proofs.Common.{◌≡◌, ◌++◌, ◌∷◌, ℕ, zero, suc, Bool, true, false, List, [], Option, None, Some, slice_get, if◌then◌else◌, refl, ap, ◌∙◌}
use Rattle.ospf_adjacency.proofs.LinkSteps.Words.{ElectsThere}
use Rattle.ospf_adjacency.specs.LinkSteps.Elections.{ElectsAt, ElectsFrom}
use Rattle.ospf_area.proofs.Updates.Words.{TakesSlices}
use Rattle.ospf_area.specs.Acting.{InTurn}
use Rattle.ospf_area.specs.Outputs.{OutputsValue}
use Rattle.ospf_area.specs.State.{AreaValue, LinkValue}
use Rattle.ospf_area.specs.Updates.Aging.{SendsCopy}
use Rattle.ospf_area.specs.Updates.Meets.{MeetsRule, rule_met}
use Rattle.ospf_area.specs.Updates.Removal.{RemovesOne, ends_run}
use Rattle.ospf_area.specs.Updates.Updates.{TakesSlice}
use Rattle.ospf_area.specs.declared.flooding.PacketSource.{PacketSource}
use Rattle.ospf_base.specs.Constants.{max_age}
use Rattle.ospf_base.specs.declared.ids.Addr.{Addr}
use Rattle.ospf_base.specs.declared.ids.LsaKey.{LsaKey}
use Rattle.ospf_flood.specs.declared.rule.LsaRule.{LsaRule}
use Rattle.ospf_flood.specs.declared.rule.LsaRule.TheVariants as rule
use Rattle.ospf_lsdb.specs.Database.{reached_at}
use Rattle.ospf_originate.proofs.Words.{ActsInTurn, IssuesIf}
use Rattle.ospf_originate.specs.Steps.{Acts}
use Rattle.ospf_originate.specs.Wants.Wanted.{WantedValue, wanted_of}
use Rattle.ospf_originate.specs.declared.action.DueAction.{DueAction}
use Rattle.ospf_originate.specs.declared.action.OwnAction.{OwnAction}
use Rattle.ospf_originate.specs.declared.action.OwnAction.TheVariants.{Leave, Flush, Issue}
use Rattle.ospf_packet.specs.Meaning.{BodyMeaning, Meaning, hello, description, request, update, acknowledgment}
use Rattle.ospf_packet.specs.PacketOf.{packet_of}
use Rattle.ospf_router.specs.AreaStep.Step.{Event}
use Rattle.ospf_router.specs.AreaStep.Step.Event.{Datagram, Tick, LinkUp, LinkDown}
use Rattle.ospf_router.specs.AreaStep.Takes.{TakesBody, TakesDatagram, TakesEvent, source_of}
use Rattle.ospf_router.specs.AreaStep.Ticks.{TakesTick}

-- the two issue the same, or take the same
abbrev pub SameIssued : OutputsValue → OutputsValue → Type 0
SameIssued out out' = out'.issued ≡ out.issued

abbrev pub SameTaken : OutputsValue → OutputsValue → Type 0
SameTaken out out' = out'.taken ≡ out.taken

pub issued_by : (a b : OutputsValue) → a ≡ b → a.issued ≡ b.issued
issued_by a b is = ap (λ (o : OutputsValue). o.issued) is

pub taken_by : (a b : OutputsValue) → a ≡ b → a.taken ≡ b.taken
taken_by a b is = ap (λ (o : OutputsValue). o.taken) is

-- ---- Updates

rule_issues : (r : Option LsaRule) (f : PacketSource) (lsa : List ℕ) (s : AreaValue) (out out' : OutputsValue) (t : AreaValue) → MeetsRule r f lsa s out out' t → SameIssued out out'
rule_issues None f lsa s out out' t is = issued_by out' _ is.outputs
rule_issues (Some rule.AcknowledgesExpired) f lsa s out out' t is = issued_by out' _ is.outputs
rule_issues (Some rule.TooSoon) f lsa s out out' t is = issued_by out' _ is.outputs
rule_issues (Some rule.Installs) f lsa s out out' t is = issued_by out' _ is.outputs
rule_issues (Some rule.BadRequest) f lsa s out out' t is = issued_by out' _ is.outputs
rule_issues (Some rule.Duplicate) f lsa s out out' t is = issued_by out' _ is.outputs
rule_issues (Some rule.Stale) f lsa s out out' t is = issued_by out' _ is.outputs

slice_issues : (f : PacketSource) (lsa : List ℕ) (s : AreaValue) (out out' : OutputsValue) (t : AreaValue) → TakesSlice f lsa s out out' t → SameIssued out out'
slice_issues f lsa s out out' t (TakesSlice.Met is mid so_far meets state outputs) = issued_by out' _ outputs ∙ rule_issues (rule_met s f lsa) f lsa s out so_far mid meets
slice_issues f lsa s out out' t (TakesSlice.PassedOver other passes outputs) = issued_by out' out outputs

slices_issue : (f : PacketSource) (lsas : List (List ℕ)) (s : AreaValue) (out out' : OutputsValue) (t : AreaValue) → TakesSlices f lsas s out out' t → SameIssued out out'
slices_issue f [] s out out' t is = issued_by out' out is.outputs
slices_issue f (lsa ∷ lsas) s out out' t (mid, so_far, slice, rest) = slices_issue f lsas mid so_far out' t rest ∙ slice_issues f lsa s out so_far mid slice

-- ---- events

copies_issue : (keys : List LsaKey) (s : AreaValue) (out out' : OutputsValue) (t : AreaValue) → InTurn SendsCopy keys s out out' t → SameIssued out out'
copies_issue [] s out out' t is = issued_by out' out is.outputs
copies_issue (key ∷ keys) s out out' t (mid, so_far, copy, rest) = copies_issue keys mid so_far out' t rest ∙ issued_by so_far _ copy.outputs

copies_take : (keys : List LsaKey) (s : AreaValue) (out out' : OutputsValue) (t : AreaValue) → InTurn SendsCopy keys s out out' t → SameTaken out out'
copies_take [] s out out' t is = taken_by out' out is.outputs
copies_take (key ∷ keys) s out out' t (mid, so_far, copy, rest) = copies_take keys mid so_far out' t rest ∙ taken_by so_far _ copy.outputs

tick_issues : (s : AreaValue) (out out' : OutputsValue) (t : AreaValue) → TakesTick s out out' t → SameIssued out out'
tick_issues s out out' t is =
    issued_by out' _ is.repeats.outputs ∙ (issued_by is.acknowledged_out _ is.acknowledgements.outputs
    ∙ (issued_by is.helloed_out _ is.hellos.outputs ∙ copies_issue (reached_at max_age is.ages.mid.database) is.ages.mid out is.aged_out is.aged is.ages.sends))

pub tick_takes : (s : AreaValue) (out out' : OutputsValue) (t : AreaValue) → TakesTick s out out' t → SameTaken out out'
tick_takes s out out' t is =
    taken_by out' _ is.repeats.outputs ∙ (taken_by is.acknowledged_out _ is.acknowledgements.outputs
    ∙ (taken_by is.helloed_out _ is.hellos.outputs ∙ copies_take (reached_at max_age is.ages.mid.database) is.ages.mid out is.aged_out is.aged is.ages.sends))

body_issues : (body : BodyMeaning) (f : PacketSource) (s : AreaValue) (out out' : OutputsValue) (t : AreaValue) → TakesBody body f s out out' t → SameIssued out out'
body_issues (hello fields heard) f s out out' t is = issued_by out' _ is.outputs
body_issues (description fields headers) f s out out' t is = issued_by out' _ is.outputs
body_issues (request entries) f s out out' t is = issued_by out' _ is.outputs
body_issues (update lsas) f s out out' t is = issued_by out' _ is.outputs ∙ slices_issue f lsas s out is.so_far is.mid is.takes
body_issues (acknowledgment headers) f s out out' t is = issued_by out' _ is.outputs

datagram_issues : (link : ℕ) (source : Addr) (o : Option Meaning) (s : AreaValue) (out out' : OutputsValue) (t : AreaValue) → TakesDatagram link source o s out out' t → SameIssued out out'
datagram_issues link source None s out out' t is = absurd is
datagram_issues link source (Some m) s out out' t is = body_issues m.body (source_of link source m) s out out' t is

pub event_issues : (e : Event) (s : AreaValue) (out out' : OutputsValue) (t : AreaValue) → TakesEvent e s out out' t → SameIssued out out'
event_issues (Datagram link source destination bytes) s out out' t is = datagram_issues link source (packet_of bytes) s out out' t is
event_issues Tick s out out' t is = tick_issues s out out' t is
event_issues (LinkUp link) s out out' t is = issued_by out' _ is.outputs
event_issues (LinkDown link) s out out' t is = issued_by out' _ is.outputs

-- ---- own LSAs

own_takes : (a : OwnAction) (ws : List WantedValue) (key : LsaKey) (s : AreaValue) (out out' : OutputsValue) (t : AreaValue) → Acts a ws key s out out' t → SameTaken out out'
own_takes Leave ws key s out out' t is = taken_by out' out is.outputs
own_takes Flush ws key s out out' t is = taken_by out' _ is.sends.outputs
own_takes (Issue number) ws key s out out' t is = by (wanted_of ws key) is
  where
    by : (o : Option WantedValue) → IssuesIf o number s out out' t → SameTaken out out'
    by None is = taken_by out' out is.outputs
    by (Some w) is = taken_by out' _ is.outputs ∙ taken_by is.mid_out _ is.issues.outputs

pub all_take : (ws : List WantedValue) (ds : List DueAction) (s : AreaValue) (out out' : OutputsValue) (t : AreaValue) → ActsInTurn ws ds s out out' t → SameTaken out out'
all_take ws [] s out out' t is = taken_by out' out is.outputs
all_take ws (x ∷ ds) s out out' t (mid, so_far, acts, rest) = all_take ws ds mid so_far out' t rest ∙ own_takes x.action ws x.key s out so_far mid acts

-- ---- elections

elects_at : (l : ℕ) (s : AreaValue) (out : OutputsValue) (t : AreaValue) (out' : OutputsValue) → ElectsAt l s out out' t → SameIssued out out' × SameTaken out out'
elects_at l s out t out' is = by_link (slice_get s.links l) is
  where
    by_link : (o : Option LinkValue) → ElectsThere o l s out t out' → SameIssued out out' × SameTaken out out'
    by_link None is = (issued_by out' out is.1, taken_by out' out is.1)
    by_link (Some a) (b, next, sent, elects, state, outputs) = (issued_by out' _ outputs, taken_by out' _ outputs)

pub elects_from : (l : ℕ) (s : AreaValue) (out : OutputsValue) (t : AreaValue) (out' : OutputsValue) → ElectsFrom l s out out' t → SameIssued out out' × SameTaken out out'
elects_from zero s out t out' is = (issued_by out' out is.1, taken_by out' out is.1)
elects_from (suc l) s out t out' (mid, mid_out, first, last) =
    let before = elects_from l s out mid mid_out first in
    let here = elects_at l mid mid_out t out' last in
    (here.0 ∙ before.0, here.1 ∙ before.1)

-- ---- removals

removed_issued : (b : Bool) (out : OutputsValue) (key : LsaKey) → SameIssued out (if b then record out { ended = out.ended ++ key ∷ [] } else out)
removed_issued true out key = refl
removed_issued false out key = refl

removed_taken : (b : Bool) (out : OutputsValue) (key : LsaKey) → SameTaken out (if b then record out { ended = out.ended ++ key ∷ [] } else out)
removed_taken true out key = refl
removed_taken false out key = refl

pub removals : (keys : List LsaKey) (s : AreaValue) (out out' : OutputsValue) (t : AreaValue) → InTurn RemovesOne keys s out out' t → SameIssued out out' × SameTaken out out'
removals [] s out out' t is = (issued_by out' out is.outputs, taken_by out' out is.outputs)
removals (key ∷ keys) s out out' t (mid, so_far, one, rest) =
    let after = removals keys mid so_far out' t rest in (
      after.0 ∙ (issued_by so_far _ one.outputs ∙ removed_issued (ends_run s key) out key),
      after.1 ∙ (taken_by so_far _ one.outputs ∙ removed_taken (ends_run s key) out key),
    )
